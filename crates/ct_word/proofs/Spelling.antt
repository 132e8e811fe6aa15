-- What the words of texts and numbers stand for.
use Rattle.std.proofs.Common.{◌≡◌, ℕ, ℤ, pos, suc, ◌+◌, ◌-◌, ◌*◌, ◌<◌, ◌^◌, cond, nat_lt, arith, w64, to_z, of_z, Bool, true, false, List, [], ◌∷◌, ◌++◌, refl, ap, sym, ◌∙◌, subst, append_assoc, append-nil}
use Rattle.std.{specs.Prelude.{slice_get, IsTrue, encode_utf8, negsuc}, proofs.lemmas.Int.of_z-to_z, proofs.lemmas.Bool.false≢true}
use Rattle.ct_word.{specs.declared.kinds.Kind.Kind, specs.WellFormed.{Scalar, fits, is_place_of, same_class, class_of}, specs.declared.reading.Word.Word}
use Rattle.ct_word.{specs.Reading.{meanings, as_text, as_high, int_of_bits}, specs.WordAt.{IsWordAt, text_at, backwards}}
use mir.Val.{sel}
use Rattle.ct_word.specs.declared.kinds.Kind.TheVariants as kind
use Rattle.ct_word.specs.declared.kinds.Class.TheVariants as class

-- the only kind of its class
high_kind : (k : Kind) → IsTrue (same_class (class_of k) class.High) → k ≡ kind.NumberHigh
high_kind kind.NumberHigh e = refl
high_kind _ e = absurd (false≢true e)

pub of_kind : (ws : List ℕ) (p : ℕ) (w : Word) (k : Kind) → w.kind ≡ k → IsWordAt ws p w → IsWordAt ws p (record { kind = k; left = w.left; right = w.right })
of_kind ws p w k e h = subst (λ x. IsWordAt ws p (record { kind = x; left = w.left; right = w.right })) e h

module _ (ws : List ℕ) (p : ℕ) (w : Word) (is : IsWordAt ws p w) where
  pub high_bits : IsTrue (is_place_of ws class.High p) → as_high (slice_get (meanings ws) p) ≡ w.left * 268435456 + w.right
  high_bits e = ap as_high (of_kind ws p w kind.NumberHigh (high_kind w.kind (sym (is.class class.High) ∙ e)) is).meaning

  -- what a word of a character says of its text
  pub record Longer : Type 0 where
    pub below : w.left < p
    pub placed : IsTrue (is_place_of ws class.Text w.left)
    pub scalar : IsTrue (fits [] Scalar w.right)
    pub text : text_at ws p ≡ text_at ws w.left ++ encode_utf8 w.right

  pub longer : w.kind ≡ kind.TextCharacter → Longer
  longer e =
      let h = of_kind ws p w kind.TextCharacter e is in
      record { below = h.left.0; placed = h.left.1; scalar = h.right; text = ap as_text h.meaning }

-- one more character
pub backwards-push : (cs : List ℕ) (c : ℕ) → backwards (cs ++ c ∷ []) ≡ encode_utf8 c ++ backwards cs
backwards-push [] c = sym (append-nil (encode_utf8 c))
backwards-push (x ∷ cs) c = ap (λ t. t ++ encode_utf8 x) (backwards-push cs c) ∙ append_assoc (encode_utf8 c) (backwards cs) (encode_utf8 x)

pub taken_off : (whole rest : List ℕ) (c : ℕ) (cs : List ℕ) → whole ≡ (rest ++ encode_utf8 c) ++ backwards cs → whole ≡ rest ++ backwards (cs ++ c ∷ [])
taken_off whole rest c cs e = e ∙ append_assoc rest (encode_utf8 c) (backwards cs) ∙ ap (λ t. rest ++ t) (sym (backwards-push cs c))

pub popped : (whole text cs rest : List ℕ) (c : ℕ) → whole ≡ text ++ backwards cs → cs ≡ rest ++ c ∷ [] → whole ≡ (text ++ encode_utf8 c) ++ backwards rest
popped whole text cs rest c e f = e ∙ ap (λ xs. text ++ backwards xs) f ∙ ap (λ t. text ++ t) (backwards-push rest c) ∙ sym (append_assoc text (encode_utf8 c) (backwards rest))

-- 64 bits in two's complement
signed_bits : (n : ℕ) → to_z w64 n ≡ int_of_bits n
signed_bits n = by (nat_lt n 9223372036854775808) where
  last : 18446744073709551616 - suc n ≡ 18446744073709551615 - n
  last = omega arith

  by : (b : Bool) → sel b (pos n) (negsuc (18446744073709551616 - suc n)) ≡ cond b (pos n) (negsuc (18446744073709551615 - n))
  by true = refl
  by false = ap negsuc last

pub number_of_bits : (z : ℤ) (n l r low high : ℕ) → z ≡ to_z w64 n → n ≡ l * 68719476736 + r * 256 + low → n < 2 ^ 64 → high ≡ l * 268435456 + r
    → to_z w64 (of_z w64 z) ≡ int_of_bits (high * 256 + low)
number_of_bits z n l r low high e f fits h =
    let same : n ≡ high * 256 + low = omega arith in
    ap (to_z w64) (ap (of_z w64) e ∙ of_z-to_z w64 n fits) ∙ signed_bits n ∙ ap int_of_bits same
