-- A token's slice begins and ends where characters do.
use Rattle.std.proofs.Common.{◌≡◌, ℕ, zero, suc, ◌+◌, ◌-◌, ◌<◌, ◌≤◌, Bool, true, false, List, [], ◌∷◌, ◌++◌, length, drop, get_or, refl, sym, ap, subst, ◌∙◌, arith, length-append, length-take, length-drop}
use Rattle.std.{specs.Prelude.{slice_range, Option, Some}, specs.List.list_all, specs.Str.{IsUtf8, IsCharBoundary}, proofs.lemmas.Bool.Decides.nat_tests}
use Rattle.std.{proofs.lemmas.List.{get_or-take, get_or-drop}, proofs.Math.Seq.get_or-append_seam, proofs.lemmas.Str.{IsCharBoundary-after_ascii, IsCharBoundary-before_ascii}}
use Rattle.ct_word.specs.Names.{is_digit}
use Rattle.ct_lex.{specs.declared.token.Lexeme.Lexeme, specs.declared.token.Token.Token, specs.Tokens.AreSlicesFrom}
use Rattle.ct_lex.specs.Spelling.{Spells, blank, comment, word, number, text, null, left_paren, right_paren, comma, dot, star, equal, unequal, not_equal, is_word_byte, is_spelling, are_digits, sign_text, doubled}

-- the first byte is of ASCII
data Begins : List ℕ → Type 0 where
  begins : (b : ℕ) (w : List ℕ) → b < 128 → Begins (b ∷ w)

-- the last byte is of ASCII
data Ends : List ℕ → Type 0 where
  ends : {x : List ℕ} (w : List ℕ) (b : ℕ) → x ≡ w ++ b ∷ [] → b < 128 → Ends x

word_byte : (b : ℕ) → is_word_byte b ≡ true → b < 128
word_byte b h = grind (arith, nat_tests)

digit : (b : ℕ) → is_digit b ≡ true → b < 128
digit b h = grind (arith, nat_tests)

module _ (p : ℕ → Bool) (ascii : (b : ℕ) → p b ≡ true → b < 128) where
  ends_after : (a : ℕ) (w : List ℕ) → list_all p (a ∷ w) ≡ true → Ends (a ∷ w)
  ends_after a [] h = let first : p a ≡ true = grind arith in ends [] a refl (ascii a first)
  ends_after a (b ∷ w) h =
      let rest : list_all p (b ∷ w) ≡ true = grind arith in
      more (ends_after b w rest)
    where
      more : Ends (b ∷ w) → Ends (a ∷ b ∷ w)
      more (ends v c is small) = ends (a ∷ v) c (ap (λ x. a ∷ x) is) small

  ends_in : (a : ℕ) {w : List ℕ} → Ends w → Ends (a ∷ w)
  ends_in a (ends v c is small) = ends (a ∷ v) c (ap (λ x. a ∷ x) is) small

spelling_begins : (w : List ℕ) → is_spelling w ≡ true → Begins w
spelling_begins [] h = absurd (grind arith)
spelling_begins (b ∷ w) h = begins b w (grind (arith, nat_tests))

spelling_ends : (w : List ℕ) → is_spelling w ≡ true → Ends w
spelling_ends [] h = absurd (grind arith)
spelling_ends (b ∷ w) h = let all : list_all is_word_byte (b ∷ w) ≡ true = grind arith in ends_after is_word_byte word_byte b w all

digits_begin : (minus : Bool) (ds : List ℕ) → are_digits ds ≡ true → Begins (sign_text minus ++ ds)
digits_begin true ds h = begins 45 ds (omega arith)
digits_begin false [] h = absurd (grind arith)
digits_begin false (d ∷ ds) h = begins d ds (grind (arith, nat_tests))

digits_end : (minus : Bool) (ds : List ℕ) → are_digits ds ≡ true → Ends (sign_text minus ++ ds)
digits_end minus [] h = absurd (grind arith)
digits_end true (d ∷ ds) h = let all : list_all is_digit (d ∷ ds) ≡ true = grind arith in ends_in is_digit digit 45 (ends_after is_digit digit d ds all)
digits_end false (d ∷ ds) h = let all : list_all is_digit (d ∷ ds) ≡ true = grind arith in ends_after is_digit digit d ds all

spelled_begins : {w r : List ℕ} {o : Option Lexeme} {t : Lexeme} → Spells w o r → o ≡ Some t → Begins w
spelled_begins (blank h) is = cc is
spelled_begins (comment h k) is = cc is
spelled_begins (word {w} h stops) is = spelling_begins w h
spelled_begins (number minus ds whole h stops within) is = subst Begins (sym whole) (digits_begin minus ds h)
spelled_begins (text t whole stops) is = subst Begins (sym whole) (begins 39 _ (omega arith))
spelled_begins (null {w} h stops) is = begins 63 w (omega arith)
spelled_begins left_paren is = begins 40 [] (omega arith)
spelled_begins right_paren is = begins 41 [] (omega arith)
spelled_begins comma is = begins 44 [] (omega arith)
spelled_begins dot is = begins 46 [] (omega arith)
spelled_begins star is = begins 42 [] (omega arith)
spelled_begins equal is = begins 61 [] (omega arith)
spelled_begins unequal is = begins 60 _ (omega arith)
spelled_begins not_equal is = begins 33 _ (omega arith)

spelled_ends : {w r : List ℕ} {o : Option Lexeme} {t : Lexeme} → Spells w o r → o ≡ Some t → Ends w
spelled_ends (blank h) is = cc is
spelled_ends (comment h k) is = cc is
spelled_ends (word {w} h stops) is = spelling_ends w h
spelled_ends (number minus ds whole h stops within) is = subst Ends (sym whole) (digits_end minus ds h)
spelled_ends (text t whole stops) is = ends (39 ∷ doubled t) 39 whole (omega arith)
spelled_ends (null {w} h stops) is = ends_in is_word_byte word_byte 63 (spelling_ends w h)
spelled_ends left_paren is = ends [] 40 refl (omega arith)
spelled_ends right_paren is = ends [] 41 refl (omega arith)
spelled_ends comma is = ends [] 44 refl (omega arith)
spelled_ends dot is = ends [] 46 refl (omega arith)
spelled_ends star is = ends [] 42 refl (omega arith)
spelled_ends equal is = ends [] 61 refl (omega arith)
spelled_ends unequal is = ends (60 ∷ []) 62 refl (omega arith)
spelled_ends not_equal is = ends (33 ∷ []) 61 refl (omega arith)

first_small : (w : List ℕ) → Begins w → get_or w 0 0 < 128
first_small w (begins b v h) = h

last_small : (w : List ℕ) → Ends w → get_or w (length w - 1) 0 < 128
last_small w (ends v b is h) =
    let at : get_or w (length w - 1) 0 ≡ b =
    ap (λ x. get_or x (length x - 1) 0) is ∙ ap (λ n. get_or (v ++ b ∷ []) n 0) (omega (arith, length-append v (b ∷ []))) ∙ get_or-append_seam v b [] 0 in
    omega (arith, at)

-- a byte of a slice, in the text
slice_byte : (x : List ℕ) (s e i : ℕ) → s + i < e → get_or (slice_range x s e) i 0 ≡ get_or x (s + i) 0
slice_byte x s e i h = get_or-take (e - s) (drop s x) i 0 (omega arith) ∙ get_or-drop s x i 0

slice_length : (x : List ℕ) (s e : ℕ) → s ≤ e → e ≤ length x → length (slice_range x s e) ≡ e - s
slice_length x s e h k = omega (arith, length-take (e - s) (drop s x), length-drop s x)

starts_small : (x : List ℕ) (s e : ℕ) → s < e → e ≤ length x → Begins (slice_range x s e) → IsCharBoundary x s
starts_small x s e h k first =
    let small = first_small (slice_range x s e) first in
    let at = slice_byte x s e 0 (omega arith) in
    let here : get_or x (s + 0) 0 ≡ get_or x s 0 = ap (λ n. get_or x n 0) (omega arith) in
    IsCharBoundary-before_ascii x s (omega arith) (omega (arith, small, at, here))

ends_small : (x : List ℕ) (s e : ℕ) → IsUtf8 x → s < e → e ≤ length x → Ends (slice_range x s e) → IsCharBoundary x e
ends_small x s e utf8 h k last =
    let small = last_small (slice_range x s e) last in
    let size = slice_length x s e (omega arith) k in
    let at = slice_byte x s e (e - s - 1) (omega arith) in
    let same : get_or (slice_range x s e) (length (slice_range x s e) - 1) 0 ≡ get_or (slice_range x s e) (e - s - 1) 0 = ap (λ n. get_or (slice_range x s e) (n - 1) 0) size in
    let here : get_or x (s + (e - s - 1)) 0 ≡ get_or x (e - 1) 0 = ap (λ n. get_or x n 0) (omega arith) in
    subst (IsCharBoundary x) {x = (e - 1) + 1} {y = e} (omega arith) (IsCharBoundary-after_ascii x (e - 1) utf8 (omega arith) (omega (arith, small, same, at, here)))

-- a token of a text may be cut out
pub record IsCut (x : List ℕ) (t : Token) : Type 0 where
  pub before : t.start < t.end
  pub within : t.end ≤ length x
  pub from : IsCharBoundary x t.start
  pub upto : IsCharBoundary x t.end
  pub spells : Spells (slice_range x t.start t.end) (Some t.word) (drop t.end x)

pub cut : (n : ℕ) (x : List ℕ) (ts : List Token) (i : ℕ) (d : Token) → IsUtf8 x → AreSlicesFrom n x ts → i < length ts → IsCut x (get_or ts i d)
cut n x [] i d utf8 h k = absurd (omega arith)
cut n x (t ∷ ts) zero d utf8 h k = record {
  before = h.1;
  within = h.2;
  from = starts_small x t.start t.end h.1 h.2 (spelled_begins h.3 refl);
  upto = ends_small x t.start t.end utf8 h.1 h.2 (spelled_ends h.3 refl);
  spells = h.3;
}
cut n x (t ∷ ts) (suc i) d utf8 h k = cut t.end x ts i d utf8 h.4 (omega arith)
