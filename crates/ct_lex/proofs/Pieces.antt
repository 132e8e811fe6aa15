-- How the pieces of a script go on, byte by byte.
use Rattle.std.proofs.Common.{◌≡◌, ℕ, ◌+◌, ◌<◌, false, true, List, [], ◌∷◌, ◌++◌, length, get_or, take, drop, refl, sym, ◌∙◌, ap, arith, add-zero, get_or-drop, length-drop}
use Rattle.std.{proofs.lemmas.List.{take_more, drop_more, drop_all, at_drop_more}, proofs.lemmas.Str.IsUtf8-drop, specs.Str.{IsUtf8, IsCharBoundary}}
use Rattle.ct_lex.{specs.declared.splitting.Place.Place, specs.declared.splitting.Place.TheVariants.{Plain, InText, InComment}, proofs.Fronts.first_byte}
use Rattle.ct_lex.specs.Texts.{place_after, ends_piece, begins_comment, pieces_from, pieces, pieces_behind, onto_first, onto}

pub onto-append : (v w : List ℕ) (others : List (List ℕ)) → onto (v ++ w) others ≡ onto v (onto w others)
onto-append [] w others = refl
onto-append (b ∷ v) w others = ap (onto_first b) (onto-append v w others)

-- what stands before a piece's end is the piece
pub onto_end : (w : List ℕ) (others : List (List ℕ)) → onto w ([] ∷ others) ≡ w ∷ others
onto_end [] others = refl
onto_end (b ∷ w) others = ap (onto_first b) (onto_end w others)

-- a comment is told by the byte behind
pub comment_told : (b : ℕ) (x : List ℕ) (k : ℕ) → begins_comment b (get_or x k 0 ∷ []) ≡ begins_comment b (drop k x)
comment_told b x k = ap (λ c. begins_comment b (c ∷ [])) (sym (get_or-drop k x 0 0 ∙ ap (λ j. get_or x j 0) (add-zero k))) ∙ told b (drop k x) where
  told : (b : ℕ) (y : List ℕ) → begins_comment b (get_or y 0 0 ∷ []) ≡ begins_comment b y
  told b [] = refl
  told b (c ∷ y) = refl

place_told : (place : Place) (b : ℕ) (r s : List ℕ) → begins_comment b r ≡ begins_comment b s → place_after place b r ≡ place_after place b s
place_told Plain b r s h = rw h
place_told InText b r s h = refl
place_told InComment b r s h = refl

-- a byte that ends no piece goes on in it
pub goes_on : (x : List ℕ) (at : ℕ) (place : Place) → at < length x → ends_piece place (get_or x at 0) ≡ false → pieces x ≡ onto (take at x) (pieces_from place (drop at x))
    → pieces x ≡ onto (take (at + 1) x) (pieces_from (place_after place (get_or x at 0) (get_or x (at + 1) 0 ∷ [])) (drop (at + 1) x))
goes_on x at place within inside before =
    let b = get_or x at 0 in
    let r = drop (at + 1) x in
    let next = pieces_from (place_after place b (get_or x (at + 1) 0 ∷ [])) r in
    before ∙ ap (onto (take at x)) (at_drop_more (pieces_from place) x at 0 within ∙ one place b r inside ∙ ap (λ q. onto_first b (pieces_from q r)) (sym (place_told place b _ r (comment_told b x (at + 1)))))
    ∙ sym (ap (λ w. onto w next) (take_more x at 0 within) ∙ onto-append (take at x) (b ∷ []) next)
  where
    one : (place : Place) (b : ℕ) (r : List ℕ) → ends_piece place b ≡ false → pieces_from place (b ∷ r) ≡ onto_first b (pieces_from (place_after place b r) r)
    one place b r h = rw h

-- a semicolon ends the piece, and so does the script's end
pub ends_at_semicolon : (x : List ℕ) (at : ℕ) (place : Place) → at < length x → ends_piece place (get_or x at 0) ≡ true → pieces x ≡ onto (take at x) (pieces_from place (drop at x))
    → pieces x ≡ take at x ∷ pieces_behind (drop at x)
ends_at_semicolon x at place within ends before =
    before ∙ ap (onto (take at x)) (at_drop_more (pieces_from place) x at 0 within ∙ one place (get_or x at 0) (drop (at + 1) x) ends) ∙ onto_end (take at x) (pieces (drop (at + 1) x))
    ∙ ap (λ y. take at x ∷ pieces_behind y) (sym (drop_more x at 0 within))
  where
    one : (place : Place) (b : ℕ) (r : List ℕ) → ends_piece place b ≡ true → pieces_from place (b ∷ r) ≡ [] ∷ pieces r
    one place b r h = rw h

pub ends_at_end : (x : List ℕ) (at : ℕ) (place : Place) → at ≡ length x → pieces x ≡ onto (take at x) (pieces_from place (drop at x))
    → pieces x ≡ take (length x) x ∷ pieces_behind (drop (length x) x)
ends_at_end x at place end before =
    let none : drop (length x) x ≡ [] = drop_all (length x) x (omega arith) in
    before ∙ ap (λ n. onto (take n x) (pieces_from place (drop n x))) end ∙ ap (λ y. onto (take (length x) x) (pieces_from place y)) none ∙ onto_end (take (length x) x) [] ∙ ap (λ y. take (length x) x ∷ pieces_behind y) (sym none)

-- a semicolon may be cut off
pub behind_cut : (x behind : List ℕ) (n : ℕ) → IsUtf8 x → IsCharBoundary x n → (n < length x → get_or x n 0 ≡ 59) → behind ≡ drop n x → 0 < length behind → IsCharBoundary behind 1
behind_cut x behind n utf8 cut ends is some =
    let within : n < length x = omega (arith, length-drop n x, ap length is) in
    let first : get_or (drop n x) 0 0 ≡ 59 = rw (get_or-drop n x 0 0, add-zero) (ends within) in
    rw is (first_byte (drop n x) 59 (IsUtf8-drop x n utf8 cut) first (omega arith) (omega arith)).1
