-- Runs of bytes of a class.
use Rattle.std.proofs.Common.{◌≡◌, ℕ, zero, suc, ◌+◌, ◌<◌, Bool, true, false, not, List, [], ◌∷◌, length, take, drop, refl, subst, arith, inl, inr, add-one}
use Rattle.std.{specs.Prelude.nat_eq, specs.List.{list_all, prefix_len}, specs.Str.{IsUtf8, IsCharBoundary}, proofs.lemmas.Bool.cases_lt}
use Rattle.std.{proofs.lemmas.Bool.Decides.nat_tests, proofs.lemmas.List.Sums.{prefix_len-le-length, prefix_len_passes, prefix_len_stops}}
use Rattle.std.proofs.lemmas.Str.{IsCharBoundary-start, IsCharBoundary-after_ascii, IsCharBoundary-before_ascii, IsCharBoundary-end}
use Rattle.ct_lex.{specs.declared.scan.Class.Class, specs.declared.scan.Class.TheVariants.{Word, Digit, NotQuote, Comment}, specs.Scan.class_test}
use Rattle.ct_lex.specs.Spelling.{starts, is_word_byte, is_comment_byte}
use Rattle.ct_word.specs.Writable.{is_digit}

run_passes_at : (p : ℕ → Bool) (x : ℕ) (xs : List ℕ) (b : Bool) → p x ≡ b → list_all p (take (prefix_len p xs) xs) ≡ true
    → list_all p (take (prefix_len p (x ∷ xs)) (x ∷ xs)) ≡ true
run_passes_at p x xs true h rest = let more : 1 + prefix_len p xs ≡ suc (prefix_len p xs) = omega arith in rw (h, more, h) rest
run_passes_at p x xs false h rest = rw h

-- the bytes of a run pass
pub run_passes : (p : ℕ → Bool) (xs : List ℕ) → list_all p (take (prefix_len p xs) xs) ≡ true
run_passes p [] = refl
run_passes p (x ∷ xs) = run_passes_at p x xs (p x) refl (run_passes p xs)

run_stops_at : (p : ℕ → Bool) (x : ℕ) (xs : List ℕ) (b : Bool) → p x ≡ b → starts p (drop (prefix_len p xs) xs) ≡ false
    → starts p (drop (prefix_len p (x ∷ xs)) (x ∷ xs)) ≡ false
run_stops_at p x xs true h rest = let more : 1 + prefix_len p xs ≡ suc (prefix_len p xs) = omega arith in rw (h, more) rest
run_stops_at p x xs false h rest = rw h h

-- what follows a run begins with no byte that passes
pub run_stops : (p : ℕ → Bool) (xs : List ℕ) → starts p (drop (prefix_len p xs) xs) ≡ false
run_stops p [] = refl
run_stops p (x ∷ xs) = run_stops_at p x xs (p x) refl (run_stops p xs)

after_ascii_run : (p : ℕ → Bool) (bs : List ℕ) (n : ℕ) → prefix_len p bs ≡ n → IsUtf8 bs → ((c : ℕ) → p c ≡ true → c < 128) → IsCharBoundary bs n
after_ascii_run p bs zero e utf8 ascii = IsCharBoundary-start bs utf8
after_ascii_run p bs (suc k) e utf8 ascii =
    rw (← add-one) (IsCharBoundary-after_ascii bs k utf8 (omega (arith, prefix_len-le-length p bs)) (ascii _ (prefix_len_passes p bs k 0 (omega arith))))

-- a run that only an ASCII byte stops ends where a character does
wide_run : (p : ℕ → Bool) (bs : List ℕ) → ((c : ℕ) → p c ≡ false → c < 128) → IsCharBoundary bs (prefix_len p bs)
wide_run p bs ascii =
    elim (cases_lt (prefix_len p bs) (length bs)) [
      | inl within ↦ IsCharBoundary-before_ascii bs _ within (ascii _ (prefix_len_stops p bs 0 within))
      | inr past ↦ subst (IsCharBoundary bs) (omega (arith, prefix_len-le-length p bs)) (IsCharBoundary-end bs)
    ]

-- a run of any class ends where a character does
pub run_ends_character : (class : Class) (bs : List ℕ) → IsUtf8 bs → IsCharBoundary bs (prefix_len (class_test class) bs)
run_ends_character Word bs utf8 = after_ascii_run is_word_byte bs _ refl utf8 (λ c e. grind (arith, nat_tests))
run_ends_character Digit bs utf8 = after_ascii_run is_digit bs _ refl utf8 (λ c e. grind (arith, nat_tests))
run_ends_character NotQuote bs utf8 = wide_run (λ b. not (nat_eq b 39)) bs (λ c e. grind (arith, nat_tests))
run_ends_character Comment bs utf8 = wide_run is_comment_byte bs (λ c e. grind (arith, nat_tests))
