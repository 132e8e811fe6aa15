-- A text shown character by character.
use Rattle.std.proofs.Common.{◌≡◌, ℕ, suc, ◌<◌, Bool, true, false, List, [], ◌∷◌, ◌++◌, length, get_or, refl, sym, ap₂, ◌∙◌, arith, append_assoc, append-nil}
use Rattle.std.{specs.Prelude.{◌||◌}, specs.List.list_any, proofs.lemmas.Bool.Decides.nat_tests, proofs.lemmas.List.map-append, proofs.lemmas.Str.{encode_ascii, inside_one}}
use Rattle.ct_remarks.specs.Remarks.{shown, is_control}
use lib.Utf8.{encode}

none_shown : (xs : List ℕ) → ((k : ℕ) → k < length xs → is_control (get_or xs k 0) ≡ false) → shown xs ≡ xs
none_shown [] h = refl
none_shown (x ∷ xs) h =
    let first : is_control x ≡ false = h 0 (omega arith) in
    rw first (ap₂ (λ (a : ℕ) (b : List ℕ). a ∷ b) refl (none_shown xs (λ k below. h (suc k) (omega arith))))

ascii_control : (b : ℕ) → is_control b ≡ true → b < 128
ascii_control b e = grind (arith, nat_tests)

inside : (c : ℕ) (k : ℕ) (q : Bool) → is_control (get_or (encode c) k 0) ≡ q → k < length (encode c) → is_control c ≡ false → q ≡ false
inside c k false e below h = refl
inside c k true e below h =
    let same : c ≡ get_or (encode c) k 0 = inside_one c [] (encode c) k (sym (append-nil _)) below (ascii_control _ e) in
    sym e ∙ cc

pub other_char : (c : ℕ) → is_control c ≡ false → encode c ≡ shown (encode c)
other_char c h = sym (none_shown (encode c) (λ k below. let q = inside c k _ refl below h in q))

pub control_char : (c : ℕ) → is_control c ≡ true → encode 63 ≡ shown (encode c)
control_char c h = rw (encode_ascii c (ascii_control c h), encode_ascii 63 (omega arith), h) refl

pub char_shown : (c : ℕ) (out old new : List ℕ) → old ≡ encode c ++ new → (out ++ shown (encode c)) ++ shown new ≡ out ++ shown old
char_shown c out old new h = rw (h, map-append _ (encode c) new) (simp append_assoc)

or_right : (a b : Bool) → (a || b) ≡ false → b ≡ false
or_right true b h = absurd (grind (arith, h))
or_right false b h = h

plain_next : (x : ℕ) (xs : List ℕ) (q : Bool) → is_control x ≡ q → list_any is_control (x ∷ xs) ≡ false → (list_any is_control xs ≡ false → shown xs ≡ xs) → shown (x ∷ xs) ≡ x ∷ xs
plain_next x xs true e h rest = absurd (grind (arith, e, h))
plain_next x xs false e h rest = rw e (ap₂ (λ (a : ℕ) (b : List ℕ). a ∷ b) refl (rest (or_right (is_control x) _ h)))

-- a text without control characters is shown as it is
pub plain_shown : (xs : List ℕ) → list_any is_control xs ≡ false → shown xs ≡ xs
plain_shown [] h = refl
plain_shown (x ∷ xs) h = plain_next x xs _ refl h (λ k. plain_shown xs k)
