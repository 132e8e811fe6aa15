-- The statement texts by the relation are those by the definition.
use Rattle.std.proofs.Common.{◌≡◌, ℕ, zero, suc, ◌<◌, Bool, true, false, ◌||◌, List, [], ◌∷◌, ◌++◌, length, refl, sym, subst, ◌∙◌, ap, arith, cond, append_assoc, length-append}
use Rattle.std.{specs.Prelude.{nat_eq, filter}, specs.List.list_all, proofs.lemmas.Bool.Decides.nat_tests, proofs.lemmas.List.append-nil}
use Rattle.ct_lex.{specs.Spelling.{starts, is_comment_byte}, specs.declared.splitting.Place.Place, specs.Tokens.Lexes, proofs.Pieces.{onto-append, onto_end}}
use Rattle.ct_lex.{specs.declared.splitting.Place.TheVariants.{Plain, InText, InComment}, proofs.Blanks.{no_tokens, none_read}}
use Rattle.ct_lex.specs.Texts.{pieces_from, pieces, onto_first, onto, begins_comment, has_token, texts}
use Rattle.ct_lex.specs.Splitting.{is_no_quote, IsPiece, ended, literal, open_literal, comment, other, Keeps, kept, skipped, Splits, last, cut}

in_text : (t r : List ℕ) → list_all (is_no_quote) t ≡ true → pieces_from InText (t ++ r) ≡ onto t (pieces_from InText r)
in_text [] r h = refl
in_text (b ∷ t) r h =
    let other : nat_eq b 39 ≡ false = grind (arith, nat_tests) in
    let rest : list_all (is_no_quote) t ≡ true = grind (arith, nat_tests) in
    rw other (ap (onto_first b) (in_text t r rest))

in_comment : (c r : List ℕ) → list_all is_comment_byte c ≡ true → pieces_from InComment (c ++ r) ≡ onto c (pieces_from InComment r)
in_comment [] r h = refl
in_comment (b ∷ c) r h =
    let first : nat_eq b 10 ≡ false = grind (arith, nat_tests) in
    let rest : list_all is_comment_byte c ≡ true = grind (arith, nat_tests) in
    rw first (ap (onto_first b) (in_comment c r rest))

comment_ends : (r : List ℕ) → starts is_comment_byte r ≡ false → pieces_from InComment r ≡ pieces r
comment_ends [] h = refl
comment_ends (b ∷ r) h = let is : b ≡ 10 = grind (arith, nat_tests) in rw is

literal_piece : (t z : List ℕ) → list_all is_no_quote t ≡ true → pieces ((39 ∷ t ++ 39 ∷ []) ++ z) ≡ onto (39 ∷ t ++ 39 ∷ []) (pieces z)
literal_piece t z h =
    ap (λ y. pieces (39 ∷ y)) (append_assoc t (39 ∷ []) z) ∙ ap (onto_first 39) (in_text t (39 ∷ z) h) ∙ ap (onto_first 39) (sym (onto-append t (39 ∷ []) (pieces z)))

open_piece : (t : List ℕ) → list_all is_no_quote t ≡ true → pieces (39 ∷ t) ≡ onto (39 ∷ t) (pieces [])
open_piece t h = ap (λ y. pieces (39 ∷ y)) (sym (append-nil t)) ∙ ap (onto_first 39) (in_text t [] h)

comment_piece : (c z : List ℕ) → list_all is_comment_byte c ≡ true → starts is_comment_byte z ≡ false → pieces ((45 ∷ 45 ∷ c) ++ z) ≡ onto (45 ∷ 45 ∷ c) (pieces z)
comment_piece c z h stops = ap (λ ps. onto_first 45 (onto_first 45 ps)) (in_comment c z h ∙ ap (onto c) (comment_ends z stops))

other_piece : (b : ℕ) (z : List ℕ) → (nat_eq b 59 || nat_eq b 39 || begins_comment b z) ≡ false → pieces (b ∷ z) ≡ onto_first b (pieces z)
other_piece b z h =
    let h1 : nat_eq b 59 ≡ false = grind arith in
    let h2 : nat_eq b 39 ≡ false = grind arith in
    let h3 : begins_comment b z ≡ false = grind arith in
    rw (h1, h2, h3)

-- a piece stands whole before what follows
piece_there : {x r : List ℕ} → IsPiece x r → pieces (x ++ r) ≡ onto x (pieces r)
piece_there ended = refl
piece_there (literal {x} {y} {r} t plain is more) =
    let w = 39 ∷ t ++ 39 ∷ [] in
    let whole : x ++ r ≡ w ++ (y ++ r) = ap (λ z. z ++ r) is ∙ append_assoc w y r in
    ap pieces whole ∙ literal_piece t (y ++ r) plain ∙ ap (onto w) (piece_there more) ∙ sym (onto-append w y (pieces r)) ∙ ap (λ z. onto z (pieces r)) (sym is)
piece_there (open_literal {x} t plain is) = ap pieces (append-nil x ∙ is) ∙ open_piece t plain ∙ ap (λ z. onto z (pieces [])) (sym is)
piece_there (comment {x} {y} {r} c inside ends is more) =
    let w = 45 ∷ 45 ∷ c in
    let whole : x ++ r ≡ w ++ (y ++ r) = ap (λ z. z ++ r) is ∙ append_assoc w y r in
    ap pieces whole ∙ comment_piece c (y ++ r) inside ends ∙ ap (onto w) (piece_there more) ∙ sym (onto-append w y (pieces r)) ∙ ap (λ z. onto z (pieces r)) (sym is)
piece_there (other {b} {y} {r} plain more) = other_piece b (y ++ r) plain ∙ ap (onto_first b) (piece_there more)

filtered : (x : List ℕ) (others : List (List ℕ)) (q : Bool) → has_token x ≡ q → filter has_token (x ∷ others) ≡ cond q (x ∷ filter has_token others) (filter has_token others)
filtered x others true e = rw e
filtered x others false e = rw e

kept_filtered : (x : List ℕ) (ts others : List (List ℕ)) (q : Bool) → has_token x ≡ q → (Lexes x [] → ⊥) → ts ≡ filter has_token others → x ∷ ts ≡ filter has_token (x ∷ others)
kept_filtered x ts others true e some is = ap (λ us. x ∷ us) is ∙ sym (filtered x others true e)
kept_filtered x ts others false e some is = absurd (some (no_tokens x e))

keeps_filtered : {x : List ℕ} {ts us : List (List ℕ)} (others : List (List ℕ)) → Keeps x ts us → ts ≡ filter has_token others → us ≡ filter has_token (x ∷ others)
keeps_filtered others (kept {x} {ts} some) is = kept_filtered x ts others (has_token x) refl some is
keeps_filtered others (skipped {x} none) is = is ∙ sym (filtered x others false (none_read none refl))

-- the relation gives the texts of the definition
pub splits_only : {script : List ℕ} {ts : List (List ℕ)} → Splits script ts → ts ≡ texts script
splits_only (last {x} piece keeps) =
    keeps_filtered [] keeps refl ∙ ap (filter has_token) (sym (ap pieces (sym (append-nil x)) ∙ piece_there piece ∙ onto_end x []))
splits_only (cut x r is piece more keeps) =
    keeps_filtered (pieces r) keeps (splits_only more) ∙ ap (filter has_token) (sym (ap pieces is ∙ piece_there piece ∙ onto_end x (pieces r)))

-- nothing, or a semicolon, follows a piece
data Stops : List ℕ → Type 0 where
  at_end : Stops []
  at_semicolon : (s : List ℕ) → Stops (59 ∷ s)

-- a piece is there, from a byte that stands at a place on
data Front : Place → List ℕ → Type 0 where
  plain_front : {s : List ℕ} (x r : List ℕ) → s ≡ x ++ r → Stops r → IsPiece x r → Front Plain s
  text_front : {s : List ℕ} (t x r : List ℕ) → list_all is_no_quote t ≡ true → s ≡ t ++ (39 ∷ (x ++ r)) → Stops r → IsPiece x r → Front InText s
  open_front : {s : List ℕ} → list_all is_no_quote s ≡ true → Front InText s
  comment_front : {s : List ℕ} (c x r : List ℕ) → list_all is_comment_byte c ≡ true → starts is_comment_byte (x ++ r) ≡ false → s ≡ c ++ (x ++ r) → Stops r → IsPiece x r
      → Front InComment s

in_text_step : (b : ℕ) (s : List ℕ) (q : Bool) → nat_eq b 39 ≡ q → Front Plain s → Front InText s → Front InText (b ∷ s)
in_text_step b s true e (plain_front x r is stops piece) next =
    let quote : b ≡ 39 = grind (arith, nat_tests) in text_front [] x r refl (ap (λ y. b ∷ y) is ∙ ap (λ c. c ∷ x ++ r) quote) stops piece
in_text_step b s false e plain (text_front t x r inside is stops piece) =
    text_front (b ∷ t) x r (rw e inside) (ap (λ y. b ∷ y) is) stops piece
in_text_step b s false e plain (open_front inside) = open_front (rw e inside)

in_comment_step : (b : ℕ) (s : List ℕ) (q : Bool) → is_comment_byte b ≡ q → Front Plain s → Front InComment s → Front InComment (b ∷ s)
in_comment_step b s true e plain (comment_front c x r inside ends is stops piece) =
    comment_front (b ∷ c) x r (let first = e in grind arith) ends (ap (λ y. b ∷ y) is) stops piece
in_comment_step b s false e (plain_front x r is stops piece) next =
    let line_end : b ≡ 10 = grind (arith, nat_tests) in
    comment_front [] (b ∷ x) r refl e (ap (λ y. b ∷ y) is) stops (other (rw line_end) piece)

-- how the piece goes on from a byte outside
comment_begins : (b : ℕ) (s : List ℕ) → begins_comment b s ≡ true → Front InComment s → Front Plain (b ∷ s)
comment_begins b [] e next = absurd (grind arith)
comment_begins b (d ∷ s) e (comment_front [] x r inside ends is stops piece) =
    absurd (let seen : starts is_comment_byte (d ∷ s) ≡ false = subst (λ y. starts is_comment_byte y ≡ false) (sym is) ends in grind (arith, nat_tests))
comment_begins b (d ∷ s) e (comment_front (f ∷ c) x r inside ends is stops piece) =
    let first : b ≡ 45 = grind (arith, nat_tests) in
    let second : d ≡ 45 = grind (arith, nat_tests) in
    let same : f ≡ d = cc in
    let inner : list_all is_comment_byte c ≡ true = grind arith in
    plain_front ((45 ∷ 45 ∷ c) ++ x) r
    (ap (λ y. b ∷ y) is ∙ ap (λ y. y ∷ f ∷ c ++ (x ++ r)) first ∙ ap (λ y. 45 ∷ y ∷ c ++ (x ++ r)) (same ∙ second) ∙ ap (λ y. 45 ∷ 45 ∷ y) (sym (append_assoc c x r))) stops
    (comment c inner ends refl piece)

text_begins : (b : ℕ) (s : List ℕ) → b ≡ 39 → Front InText s → Front Plain (b ∷ s)
text_begins b s quote (text_front t x r inside is stops piece) =
    plain_front ((39 ∷ t ++ 39 ∷ []) ++ x) r
    (ap (λ y. y ∷ s) quote ∙ ap (λ y. 39 ∷ y) (is ∙ sym (append_assoc (t ++ 39 ∷ []) x r ∙ append_assoc t (39 ∷ []) (x ++ r)))) stops
    (literal t inside refl piece)
text_begins b s quote (open_front inside) = plain_front (39 ∷ s) [] (ap (λ y. y ∷ s) quote ∙ sym (append-nil (39 ∷ s))) at_end (open_literal s inside refl)

plain_step : (b : ℕ) (s : List ℕ) (p q k : Bool) → nat_eq b 59 ≡ p → nat_eq b 39 ≡ q → begins_comment b s ≡ k
    → Front Plain s → Front InText s → Front InComment s → Front Plain (b ∷ s)
plain_step b s true q k h1 h2 h3 plain text comment_next =
    let semicolon : b ≡ 59 = grind (arith, nat_tests) in
    plain_front [] (59 ∷ s) (ap (λ y. y ∷ s) semicolon) (at_semicolon s) ended
plain_step b s false true k h1 h2 h3 plain text comment_next = text_begins b s (grind (arith, nat_tests)) text
plain_step b s false false true h1 h2 h3 plain text comment_next = comment_begins b s h3 comment_next
plain_step b s false false false h1 h2 h3 (plain_front x r is stops piece) text comment_next =
    let outside : begins_comment b (x ++ r) ≡ false = subst (λ y. begins_comment b y ≡ false) is h3 in
    plain_front (b ∷ x) r (ap (λ y. b ∷ y) is) stops (other (rw (h1, h2, outside)) piece)

front : (place : Place) (s : List ℕ) → Front place s
front Plain [] = plain_front [] [] refl at_end ended
front InText [] = open_front refl
front InComment [] = comment_front [] [] [] refl refl refl at_end ended
front Plain (b ∷ s) = plain_step b s (nat_eq b 59) (nat_eq b 39) (begins_comment b s) refl refl refl (front Plain s) (front InText s) (front InComment s)
front InText (b ∷ s) = in_text_step b s (nat_eq b 39) refl (front Plain s) (front InText s)
front InComment (b ∷ s) = in_comment_step b s (is_comment_byte b) refl (front Plain s) (front InComment s)

keeps_one : (x : List ℕ) (others : List (List ℕ)) (q : Bool) → has_token x ≡ q → Keeps x (filter has_token others) (filter has_token (x ∷ others))
keeps_one x others true e =
    subst (Keeps x (filter has_token others)) (sym (filtered x others true e)) (kept (λ none. let seen : has_token x ≡ false = none_read none refl in cc))
keeps_one x others false e = subst (Keeps x (filter has_token others)) (sym (filtered x others false e)) (skipped (no_tokens x e))

splits_from : {x r : List ℕ} (script : List ℕ) → script ≡ x ++ r → Stops r → IsPiece x r → ((s : List ℕ) → length s < length script → Splits s (texts s)) → Splits script (texts script)
splits_from {x} script is at_end piece rest =
    let whole : script ≡ x = is ∙ append-nil x in
    let found : pieces script ≡ x ∷ [] = ap pieces is ∙ piece_there piece ∙ onto_end x [] in
    subst (λ ps. Splits script (filter has_token ps)) (sym found) (subst (λ y. Splits y (filter has_token (x ∷ []))) (sym whole) (last piece (keeps_one x [] (has_token x) refl)))
splits_from {x} script is (at_semicolon s) piece rest =
    let found : pieces script ≡ x ∷ pieces s = ap pieces is ∙ piece_there piece ∙ onto_end x (pieces s) in
    subst (λ ps. Splits script (filter has_token ps)) (sym found)
    (cut x s is piece (rest s (omega (arith, ap length is, length-append x (59 ∷ s)))) (keeps_one x (pieces s) (has_token x) refl))

from_front : (script : List ℕ) → Front Plain script → ((s : List ℕ) → length s < length script → Splits s (texts s)) → Splits script (texts script)
from_front script (plain_front x r is stops piece) rest = splits_from script is stops piece rest

at_most : (k : ℕ) (script : List ℕ) → length script < k → Splits script (texts script)
at_most zero script less = absurd (omega arith)
at_most (suc k) script less = from_front script (front Plain script) (λ s shorter. at_most k s (omega arith))

-- the texts of the definition are those of the relation
pub splits_texts : (script : List ℕ) → Splits script (texts script)
splits_texts script = at_most (suc (length script)) script (omega arith)
