-- A text written character by character, its quotes twice.
use Rattle.std.proofs.Common.{◌≡◌, ◌≢◌, ℕ, suc, ◌<◌, List, [], ◌∷◌, ◌++◌, length, get_or, refl, sym, ap₂, ◌∙◌, arith, append_assoc, append-nil}
use Rattle.std.{specs.Prelude.flat_map, proofs.lemmas.Bool.Decides.nat_tests, proofs.lemmas.Grind.flat_map-append, proofs.lemmas.Str.{encode_ascii, inside_one}}
use Rattle.ct_print.specs.TermText.{quoted_byte}
use lib.Utf8.{encode}

other_byte : (b : ℕ) → b ≢ 39 → quoted_byte b ≡ b ∷ []
other_byte b h = grind (arith, nat_tests)

no_quotes : (xs : List ℕ) → ((k : ℕ) → k < length xs → get_or xs k 0 ≢ 39) → flat_map quoted_byte xs ≡ xs
no_quotes [] h = refl
no_quotes (x ∷ xs) h =
    ap₂ (λ (a b : List ℕ). a ++ b) (other_byte x (h 0 (omega arith))) (no_quotes xs (λ k below. h (suc k) (omega arith)))

pub other_char : (c : ℕ) → c ≢ 39 → encode c ≡ flat_map quoted_byte (encode c)
other_char c h = sym (no_quotes (encode c) (λ k below e. h (inside_one c [] (encode c) k (sym (append-nil _)) below (omega (arith, e)) ∙ e)))

pub quote_char : (c : ℕ) (out : List ℕ) → c ≡ 39 → (out ++ encode c) ++ encode c ≡ out ++ flat_map quoted_byte (encode c)
quote_char c out e = rw (e, encode_ascii 39 (omega arith)) (append_assoc out _ _)

pub char_written : (c : ℕ) (out old new : List ℕ) → old ≡ encode c ++ new → (out ++ flat_map quoted_byte (encode c)) ++ flat_map quoted_byte new ≡ out ++ flat_map quoted_byte old
char_written c out old new h = rw (h, flat_map-append quoted_byte (encode c) new) (simp append_assoc)
