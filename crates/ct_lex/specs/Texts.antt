-- The statement texts of a script.
use Rattle.std.specs.Prelude.{ℕ, Bool, true, false, not, ◌&&◌, ◌||◌, List, [], ◌∷◌, filter, nat_eq, if◌then◌else◌}
use Rattle.ct_lex.specs.declared.splitting.Place.{Place}
use Rattle.ct_lex.specs.declared.splitting.Place.TheVariants.{Plain, InText, InComment}
use Rattle.ct_lex.specs.Spelling.{is_blank, is_comment_byte, starts}

-- whether a comment begins at this byte before these
abbrev pub begins_comment : ℕ → List ℕ → Bool
begins_comment b r = nat_eq b 45 && starts (nat_eq 45) r

-- where the byte behind this one stands
abbrev pub place_after : Place → ℕ → List ℕ → Place
place_after Plain b r = if nat_eq b 39 then InText else (if begins_comment b r then InComment else Plain)
place_after InText b r = if nat_eq b 39 then Plain else InText
place_after InComment b r = if is_comment_byte b then InComment else Plain

-- whether a byte there ends a piece
abbrev pub ends_piece : Place → ℕ → Bool
ends_piece Plain b = nat_eq b 59
ends_piece _ b = false

-- the first piece with a byte before it
abbrev pub onto_first : ℕ → List (List ℕ) → List (List ℕ)
onto_first b [] = (b ∷ []) ∷ []
onto_first b (piece ∷ others) = (b ∷ piece) ∷ others

-- what stands between the semicolons outside text literals and comments
abbrev pub pieces_from : Place → List ℕ → List (List ℕ)
pieces_from place [] = [] ∷ []
pieces_from place (b ∷ r) = if ends_piece place b then [] ∷ pieces_from Plain r else onto_first b (pieces_from (place_after place b r) r)

-- whether bytes have more than blanks and comments; they begin in a comment or outside
abbrev pub has_token_from : Bool → List ℕ → Bool
has_token_from in_comment [] = false
has_token_from true (b ∷ r) = has_token_from (is_comment_byte b) r
has_token_from false (b ∷ r) = if begins_comment b r then has_token_from true r else not (is_blank b) || has_token_from false r

-- the pieces of a script
abbrev pub pieces : List ℕ → List (List ℕ)
pieces script = pieces_from Plain script

-- whether a piece has more than blanks and comments
abbrev pub has_token : List ℕ → Bool
has_token piece = has_token_from false piece

-- the statement texts of a script
abbrev pub texts : List ℕ → List (List ℕ)
texts script = filter has_token (pieces script)

-- the first piece with these bytes before it
abbrev pub onto : List ℕ → List (List ℕ) → List (List ℕ)
onto [] others = others
onto (b ∷ w) others = onto_first b (onto w others)

-- the pieces behind the first, where these bytes follow it
abbrev pub pieces_behind : List ℕ → List (List ℕ)
pieces_behind [] = []
pieces_behind (semicolon ∷ r) = pieces r
