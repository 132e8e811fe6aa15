-- A condition with other terms: its truth, its text and what is printed.
use Rattle.std.proofs.Common.{◌≡◌, ℕ, max, not, ◌&&◌, ◌||◌, List, ◌++◌, refl, ap, ◌∙◌, inl, inr, codes}
use Rattle.ct_word.{specs.declared.values.Value.Value, specs.declared.values.Term.Term, specs.Value.{World, at, same_value}}
use Rattle.ct_word.{specs.Condition.{Condition, Conditions, True, False, Same, Not, And, Or, none, also, holds, all_hold, any_holds}, specs.Named.{IsNamed, IsNamedInSome}}
use Rattle.ct_rewrite.specs.Sizes.{as_part, text_of, text_of_parts, text_of_others, nest_as_part, nest_of, nest_of_parts}
use Rattle.ct_reread.specs.{Mapped.{mapped, all_mapped}, Printed.{HasPart, IsPrinted, ArePrinted}}

module _ (f : Term → Term) where
  -- its truth is the old one where its terms stand for what the old ones do
  module _ (v u : World) (row : List Value) where
    abbrev Agrees : Term → Type 0
    Agrees t = at u row (f t) ≡ at v row t

    mutual
      pub mapped_holds : (c : Condition) → ((t : Term) → IsNamed c t → Agrees t) → holds u row (mapped f c) ≡ holds v row c
      mapped_holds True h = refl
      mapped_holds False h = refl
      mapped_holds (Same s t) h = λ i. same_value (h s (inl refl) i) (h t (inr refl) i)
      mapped_holds (Not c) h = ap not (mapped_holds c h)
      mapped_holds (And cs) h = mapped_all_hold cs h
      mapped_holds (Or cs) h = mapped_any_holds cs h

      mapped_all_hold : (cs : Conditions) → ((t : Term) → IsNamedInSome cs t → Agrees t) → all_hold u row (all_mapped f cs) ≡ all_hold v row cs
      mapped_all_hold none h = refl
      mapped_all_hold (also c cs) h = λ i. mapped_holds c (λ t n. h t (inl n)) i && mapped_all_hold cs (λ t n. h t (inr n)) i

      mapped_any_holds : (cs : Conditions) → ((t : Term) → IsNamedInSome cs t → Agrees t) → any_holds u row (all_mapped f cs) ≡ any_holds v row cs
      mapped_any_holds none h = refl
      mapped_any_holds (also c cs) h = λ i. mapped_holds c (λ t n. h t (inl n)) i || mapped_any_holds cs (λ t n. h t (inr n)) i

  -- its text is the old one with the texts of the new terms
  module _ (texts : Term → List ℕ) where
    part_mapped : (c : Condition) (w : List ℕ) → as_part (mapped f c) w ≡ as_part c w
    part_mapped True w = refl
    part_mapped False w = refl
    part_mapped (Same s t) w = refl
    part_mapped (Not c) w = refl
    part_mapped (And cs) w = refl
    part_mapped (Or cs) w = refl

    mutual
      pub text_mapped : (c : Condition) → text_of texts (mapped f c) ≡ text_of (λ t. texts (f t)) c
      text_mapped True = refl
      text_mapped False = refl
      text_mapped (Same s t) = refl
      text_mapped (Not (Same s t)) = refl
      text_mapped (Not True) = refl
      text_mapped (Not False) = refl
      text_mapped (Not (Not c)) = ap (λ w. codes "not " ++ w) (text_mapped (Not c))
      text_mapped (Not (And cs)) = ap (λ w. codes "not " ++ (codes "(" ++ w ++ codes ")")) (text_mapped (And cs))
      text_mapped (Not (Or cs)) = ap (λ w. codes "not " ++ (codes "(" ++ w ++ codes ")")) (text_mapped (Or cs))
      text_mapped (And cs) = parts_mapped (codes " and ") cs
      text_mapped (Or cs) = parts_mapped (codes " or ") cs

      parts_mapped : (b : List ℕ) (cs : Conditions) → text_of_parts texts b (all_mapped f cs) ≡ text_of_parts (λ t. texts (f t)) b cs
      parts_mapped b none = refl
      parts_mapped b (also c cs) = λ i. (part_mapped c (text_of texts (mapped f c)) ∙ ap (as_part c) (text_mapped c)) i ++ others_mapped b cs i

      others_mapped : (b : List ℕ) (cs : Conditions) → text_of_others texts b (all_mapped f cs) ≡ text_of_others (λ t. texts (f t)) b cs
      others_mapped b none = refl
      others_mapped b (also c cs) = λ i. b ++ (part_mapped c (text_of texts (mapped f c)) ∙ ap (as_part c) (text_mapped c)) i ++ others_mapped b cs i

  -- it nests as the old one
  nest_as_mapped : (c : Condition) (n : ℕ) → nest_as_part (mapped f c) n ≡ nest_as_part c n
  nest_as_mapped True n = refl
  nest_as_mapped False n = refl
  nest_as_mapped (Same s t) n = refl
  nest_as_mapped (Not c) n = refl
  nest_as_mapped (And cs) n = refl
  nest_as_mapped (Or cs) n = refl

  mutual
    pub nest_mapped : (c : Condition) → nest_of (mapped f c) ≡ nest_of c
    nest_mapped True = refl
    nest_mapped False = refl
    nest_mapped (Same s t) = refl
    nest_mapped (Not c) = nest_as_mapped c (nest_of (mapped f c)) ∙ ap (nest_as_part c) (nest_mapped c)
    nest_mapped (And cs) = nests_mapped cs
    nest_mapped (Or cs) = nests_mapped cs

    nests_mapped : (cs : Conditions) → nest_of_parts (all_mapped f cs) ≡ nest_of_parts cs
    nests_mapped none = refl
    nests_mapped (also c cs) = λ i. max ((nest_as_mapped c (nest_of (mapped f c)) ∙ ap (nest_as_part c) (nest_mapped c)) i) (nests_mapped cs i)

  -- it is printed where the old one is
  module _ (P Q : Term → Type 0) where
    part_there : (cs : Conditions) → HasPart cs → HasPart (all_mapped f cs)
    part_there none h = h
    part_there (also c cs) h = tt

    mutual
      pub printed_mapped : (c : Condition) → IsPrinted P c → ((t : Term) → IsNamed c t → P t → Q (f t)) → IsPrinted Q (mapped f c)
      printed_mapped True p h = tt
      printed_mapped False p h = tt
      printed_mapped (Same s t) p h = (h s (inl refl) p.0, h t (inr refl) p.1)
      printed_mapped (Not (Same s t)) p h = (h s (inl refl) p.0, h t (inr refl) p.1)
      printed_mapped (Not True) p h = absurd p
      printed_mapped (Not False) p h = absurd p
      printed_mapped (Not (Not c)) p h = absurd p
      printed_mapped (Not (And cs)) p h = absurd p
      printed_mapped (Not (Or cs)) p h = absurd p
      printed_mapped (And cs) p h = (part_there cs p.0, all_printed_mapped cs p.1 h)
      printed_mapped (Or cs) p h = (part_there cs p.0, all_printed_mapped cs p.1 h)

      all_printed_mapped : (cs : Conditions) → ArePrinted P cs → ((t : Term) → IsNamedInSome cs t → P t → Q (f t)) → ArePrinted Q (all_mapped f cs)
      all_printed_mapped none p h = tt
      all_printed_mapped (also c cs) p h = (printed_mapped c p.0 (λ t n. h t (inl n)), all_printed_mapped cs p.1 (λ t n. h t (inr n)))
