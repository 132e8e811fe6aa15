-- The terms of a form are those of the condition whose bounds it keeps to, whatever texts the terms have.
use Rattle.std.proofs.Common.{◌≡◌, ◌⊎◌, ℕ, ◌+◌, ◌≤◌, Bool, true, false, ◌||◌, List, ◌++◌, length, replicate, refl, ap, ◌∙◌, inl, inr, arith, codes, length-append}
use Rattle.std.proofs.lemmas.{Bool.or_parts, List.length-replicate}
use Rattle.ct_word.{specs.declared.values.Term.Term, specs.Value.same_term, proofs.Alike.term_decides}
use Rattle.ct_word.{specs.Condition.{Condition, Conditions, True, False, Same, Not, And, Or, none, also}, specs.Named.{IsNamed, IsNamedInSome}}
use Rattle.ct_rewrite.{specs.Sizes.{as_part, text_of, text_of_parts, text_of_others, wide, wide_of_fields, NoneIsEmpty}, proofs.Sizes.text_shorter}
use Rattle.ct_reread.{specs.Printed.{IsPrinted, ArePrinted}, proofs.Nodes.Any}

three_long : (a b c : List ℕ) → length (a ++ b ++ c) ≡ length a + length b + length c
three_long a b c = omega (arith, length-append (a ++ b) c, length-append a b)

-- a condition's text is no shorter than that of one of its terms
module _ (texts : Term → List ℕ) (t : Term) where
  side_long : (s u : Term) (b : List ℕ) → (t ≡ s) ⊎ (t ≡ u) → length (texts t) ≤ length (texts s ++ b ++ texts u)
  side_long s u b (inl e) = omega (arith, three_long (texts s) b (texts u), ap (λ x. length (texts x)) e)
  side_long s u b (inr e) = omega (arith, three_long (texts s) b (texts u), ap (λ x. length (texts x)) e)

  mutual
    named_long : (d : Condition) → IsPrinted Any d → IsNamed d t → length (texts t) ≤ length (text_of texts d)
    named_long True p h = absurd h
    named_long False p h = absurd h
    named_long (Same s u) p h = side_long s u (codes " = ") h
    named_long (Not (Same s u)) p h = side_long s u (codes " <> ") h
    named_long (Not True) p h = absurd p
    named_long (Not False) p h = absurd p
    named_long (Not (Not c)) p h = absurd p
    named_long (Not (And cs)) p h = absurd p
    named_long (Not (Or cs)) p h = absurd p
    named_long (And cs) p h = parts_long (codes " and ") cs p.1 h
    named_long (Or cs) p h = parts_long (codes " or ") cs p.1 h

    parts_long : (b : List ℕ) (cs : Conditions) → ArePrinted Any cs → IsNamedInSome cs t → length (texts t) ≤ length (text_of_parts texts b cs)
    parts_long b none p h = absurd h
    parts_long b (also c cs) p (inl h) =
        omega (arith, named_long c p.0 h, text_shorter texts c, length-append (as_part c (text_of texts c)) (text_of_others texts b cs))
    parts_long b (also c cs) p (inr h) =
        omega (arith, others_long b cs p.1 h, length-append (as_part c (text_of texts c)) (text_of_others texts b cs))

    others_long : (b : List ℕ) (cs : Conditions) → ArePrinted Any cs → IsNamedInSome cs t → length (texts t) ≤ length (text_of_others texts b cs)
    others_long b none p h = absurd h
    others_long b (also c cs) p (inl h) =
        omega (arith, named_long c p.0 h, text_shorter texts c, three_long b (as_part c (text_of texts c)) (text_of_others texts b cs))
    others_long b (also c cs) p (inr h) =
        omega (arith, others_long b cs p.1 h, three_long b (as_part c (text_of texts c)) (text_of_others texts b cs))

-- whether a condition has a term as a side
module _ (t : Term) where
  abbrev mutual
    has_side : Condition → Bool
    has_side True = false
    has_side False = false
    has_side (Same s u) = same_term t s || same_term t u
    has_side (Not c) = has_side c
    has_side (And cs) = has_side_in cs
    has_side (Or cs) = has_side_in cs

    has_side_in : Conditions → Bool
    has_side_in none = false
    has_side_in (also c cs) = has_side c || has_side_in cs

or_true : {P Q : Type 0} (a b : Bool) → (a ≡ true → P) → (b ≡ true → Q) → (a || b) ≡ true → P ⊎ Q
or_true true b p q e = inl (p refl)
or_true false b p q e = inr (q e)

module _ (t : Term) where
  mutual
    side_named : (c : Condition) → has_side t c ≡ true → IsNamed c t
    side_named True e = absurd (let f = e in cc)
    side_named False e = absurd (let f = e in cc)
    side_named (Same s u) e = or_true (same_term t s) (same_term t u) (term_decides t s).0 (term_decides t u).0 e
    side_named (Not c) e = side_named c e
    side_named (And cs) e = side_named_in cs e
    side_named (Or cs) e = side_named_in cs e

    side_named_in : (cs : Conditions) → has_side_in t cs ≡ true → IsNamedInSome cs t
    side_named_in none e = absurd (let f = e in cc)
    side_named_in (also c cs) e = or_true (has_side t c) (has_side_in t cs) (side_named c) (side_named_in cs) e

  -- the bounds do not see a term that a condition does not have
  module _ (bytes : Term → ℕ) (same : (s : Term) → same_term t s ≡ false → bytes s ≡ 1) where
    mutual
      wide_without : (c : Condition) → has_side t c ≡ false → wide bytes c ≡ wide (λ s. 1) c
      wide_without True e = refl
      wide_without False e = refl
      wide_without (Same s u) e = let parts = or_parts (same_term t s) (same_term t u) e in omega (arith, same s parts.0, same u parts.1)
      wide_without (Not c) e = wide_without c e
      wide_without (And cs) e = fields_without cs e
      wide_without (Or cs) e = fields_without cs e

      fields_without : (cs : Conditions) → has_side_in t cs ≡ false → wide_of_fields bytes cs ≡ wide_of_fields (λ s. 1) cs
      fields_without none e = refl
      fields_without (also c none) e = wide_without c (or_parts (has_side t c) false e).0
      fields_without (also c (also d cs)) e =
          let parts = or_parts (has_side t c) (has_side_in t (also d cs)) e in
          omega (arith, wide_without c parts.0, fields_without (also d cs) parts.1)

-- a term has so many bytes and one, each other one has one byte
abbrev count : ℕ → Bool → ℕ
count n true = n + 1
count n false = 1

abbrev long_text : Term → ℕ → Term → List ℕ
long_text t n s = replicate (count n (same_term t s)) 0

module _ (t : Term) (n : ℕ) where
  long_bytes : (s : Term) → length (long_text t n s) ≡ count n (same_term t s)
  long_bytes s = length-replicate (count n (same_term t s)) 0

  some_bytes : (b : Bool) → 1 ≤ count n b
  some_bytes true = omega arith
  some_bytes false = omega arith

  none_empty : NoneIsEmpty (long_text t n)
  none_empty s = omega (arith, long_bytes s, some_bytes (same_term t s))

  own_bytes : length (long_text t n t) ≡ n + 1
  own_bytes = long_bytes t ∙ ap (count n) ((term_decides t t).1 refl)

  other_bytes : (s : Term) → same_term t s ≡ false → length (long_text t n s) ≡ 1
  other_bytes s e = long_bytes s ∙ ap (count n) e

-- a term of the form is one of the condition
pub named_before : (c d : Condition) → IsPrinted Any d → ((texts : Term → List ℕ) → NoneIsEmpty texts → length (text_of texts d) ≤ wide (λ s. length (texts s)) c)
    → (t : Term) → IsNamed d t → IsNamed c t
named_before c d shaped short t named = by (has_side t c) refl where
  most : ℕ
  most = wide (λ s. 1) c

  by : (b : Bool) → has_side t c ≡ b → IsNamed c t
  by true e = side_named t c e
  by false e =
      absurd (omega (
        arith,
        own_bytes t most,
        named_long (long_text t most) t d shaped named,
        short (long_text t most) (none_empty t most),
        wide_without t (λ s. length (long_text t most s)) (other_bytes t most) c e,
      ))
