-- How many characters a text has.
use Rattle.std.proofs.Common.{◌≡◌, ℕ, ◌+◌, ◌≤◌, ◌<◌, ◌/◌, ◌%◌, Bool, true, false, not, ◌&&◌, List, [], ◌∷◌, ◌++◌, cond, length, refl, ap, sym, ◌∙◌, arith, nat_lt, append_assoc, length-append}
use Rattle.std.{specs.Prelude.nat_le, proofs.lemmas.Bool.{cond_both, le-leb, lt-ltb, le-ltb, leb-true, ltb-true}, proofs.lemmas.Str.encodes-append}
use Rattle.std.proofs.lemmas.List.Sums.{sum_by-cons, sum_by-append}
use Rattle.ct_query.specs.Bounds.{characters}
use lib.Utf8.{encode, encodes}

abbrev one_if : Bool → ℕ
one_if b = cond b 1 0

-- one for a byte that begins a character
abbrev counted : ℕ → ℕ
counted b = one_if (not (nat_le 128 b && nat_lt b 192))

by_tests : (x y : Bool) → (x ≡ true → y ≡ false) → one_if (not (x && y)) ≡ 1
by_tests true y h = ap (λ z. one_if (not z)) (h refl)
by_tests false y h = refl

first_byte : (b : ℕ) → (128 ≤ b → 192 ≤ b) → counted b ≡ 1
first_byte b h = by_tests (nat_le 128 b) (nat_lt b 192) (λ e. le-ltb b 192 (h (leb-true 128 b e)))

later_byte : (b : ℕ) → counted (128 + b % 64) ≡ 0
later_byte b =
    λ i. one_if (not (le-leb 128 (128 + b % 64) (let h : 128 ≤ 128 + b % 64 = omega arith in h) i && lt-ltb (128 + b % 64) 192 (let h : 128 + b % 64 < 192 = omega arith in h) i))

later : (b : ℕ) (bs : List ℕ) → characters ((128 + b % 64) ∷ bs) ≡ characters bs
later b bs = sum_by-cons counted (128 + b % 64) bs ∙ ap (λ n. n + characters bs) (later_byte b) ∙ omega arith

first : (b : ℕ) (bs : List ℕ) → (128 ≤ b → 192 ≤ b) → characters bs ≡ 0 → characters (b ∷ bs) ≡ 1
first b bs h e = sum_by-cons counted b bs ∙ (λ i. first_byte b h i + e i)

of_one : (c : ℕ) → characters (encode c) ≡ 1
unfolding encode
of_one c =
    cond_both (nat_lt c 128) (c ∷ []) _ (λ l. characters l ≡ 1) (λ e. first c [] (let lt = ltb-true c 128 e in omega arith) refl)
    (λ _. cond_both (nat_lt c 2048) ((192 + c / 64) ∷ (128 + c % 64) ∷ []) _ (λ l. characters l ≡ 1) (λ _. first (192 + c / 64) ((128 + c % 64) ∷ []) (omega arith) (later c []))
    (λ _. cond_both (nat_lt c 65536) ((224 + c / 4096) ∷ (128 + c / 64 % 64) ∷ (128 + c % 64) ∷ []) _ (λ l. characters l ≡ 1)
    (λ _. first (224 + c / 4096) ((128 + c / 64 % 64) ∷ (128 + c % 64) ∷ []) (omega arith) (later (c / 64) ((128 + c % 64) ∷ []) ∙ later c []))
    (λ _. first (240 + c / 262144) ((128 + c / 4096 % 64) ∷ (128 + c / 64 % 64) ∷ (128 + c % 64) ∷ []) (omega arith)
    (later (c / 4096) ((128 + c / 64 % 64) ∷ (128 + c % 64) ∷ []) ∙ later (c / 64) ((128 + c % 64) ∷ []) ∙ later c []))))

-- a text has as many as were encoded
pub characters_of : (cs : List ℕ) → characters (encodes cs) ≡ length cs
characters_of [] = refl
characters_of (c ∷ cs) = sum_by-append counted (encode c) (encodes cs) ∙ (λ i. of_one c i + characters_of cs i) ∙ omega arith

-- the characters before a rest, and one more of them
pub spelled_more : (cs rest more text : List ℕ) (c : ℕ) → encodes cs ++ rest ≡ text → rest ≡ encode c ++ more → encodes (cs ++ c ∷ []) ++ more ≡ text
spelled_more cs rest more text c whole e =
    ap (λ l. l ++ more) (encodes-append cs (c ∷ [])) ∙ append_assoc (encodes cs) (encode c ++ []) more
    ∙ ap (λ l. encodes cs ++ l) (append_assoc (encode c) [] more ∙ sym e) ∙ whole

pub spelled_so_far : (cs rest text : List ℕ) → encodes cs ++ rest ≡ text → length cs ≤ characters text
spelled_so_far cs rest text whole =
    let e : characters text ≡ characters (encodes cs) + characters rest = sym (ap characters whole) ∙ sum_by-append counted (encodes cs) rest in
    let l = characters_of cs in
    omega arith

pub spelled_before : (cs rest more text : List ℕ) (c : ℕ) → encodes cs ++ rest ≡ text → rest ≡ encode c ++ more → length cs + 1 ≤ characters text
spelled_before cs rest more text c whole e = let l = spelled_so_far (cs ++ c ∷ []) more text (spelled_more cs rest more text c whole e) in omega (arith, length-append cs (c ∷ []))
