-- What the conditions below places, in their order, say of one another.
use Rattle.std.proofs.Common.{◌≡◌, ℕ, ◌<◌, List, length, take, get_or, sym, subst, ◌∙◌, arith, inl, inr}
use Rattle.std.{specs.Prelude.{IsTrue, Contains}, proofs.lemmas.Bool.cases_lt, proofs.lemmas.List.Elements.Contains-get_or, proofs.lemmas.List.{get_or_default, get_or-take, length-take}}
use Rattle.ct_word.{specs.WellFormed.{IsWellFormed, is_place_of}, specs.Stands.{itself}}
use Rattle.ct_worlds.{specs.Shape.parts_at, specs.Below.{AreBelow}, specs.Truths.{ArePartsFirst}, proofs.Shaped.{below_more, part_earlier, part_named}}
use Rattle.ct_word.specs.declared.kinds.Class.TheVariants as class

module _ (words roots places : List ℕ) (are : AreBelow words roots places) where
  -- each root is among them
  pub root_listed : (p : ℕ) → Contains roots p → IsTrue (is_place_of words class.Cond p) → Contains places p
  root_listed p h placed = are.all p (record { root = p; among = h; below = itself; condition = placed })

  -- and so are the parts of each
  pub part_listed : IsWellFormed words → (p q : ℕ) → Contains places p → Contains (parts_at words p) q → Contains places q
  part_listed formed p q h part =
      let r = are.each p h in
      let named = part_named words p q part in
      are.all q (record {
        root = r.root;
        among = r.among;
        below = below_more words r.root p q named.word r.below named.there named.among;
        condition = (part_earlier words p q formed r.condition part).placed;
      })

  -- a lower place stands before a greater one
  pub listed_before : (i j d : ℕ) → i < length places → j < length places → get_or places i d < get_or places j d → i < j
  listed_before i j d li lj lt = elim (cases_lt i j) [
    | inl under ↦ under
    | inr not_less ↦ elim (cases_lt j i) [
      | inl over ↦ let less = are.rising j i d over li in absurd (omega (arith, less, lt))
      | inr same ↦ let e : i ≡ j = omega (arith, not_less, same) in absurd (omega (arith, subst (λ k. get_or places i d < get_or places k d) (sym e) lt))
    ]
  ]

-- an item before a place is among the first ones
in_front : (xs : List ℕ) (i j q : ℕ) → j < i → j < length xs → get_or xs j q ≡ q → Contains (take i xs) q
in_front xs i j q lt within e = (j, omega (arith, length-take i xs, lt, within), get_or-take i xs j q lt ∙ e)

-- the places below roots come after their parts
pub parts_first : (words roots places : List ℕ) → IsWellFormed words → AreBelow words roots places → ArePartsFirst words places
parts_first words roots places formed are = record {
  rising = are.rising;
  each = λ p h. (are.each p h).condition;
  parts = λ i d q lt h.
      let place = get_or places i d in
      let listed = Contains-get_or places i d lt in
      let there = part_listed words roots places are formed place q listed h in
      let e : get_or places there.0 d ≡ q = get_or_default places there.0 d q there.1 ∙ there.2 in
      let under = (part_earlier words place q formed (are.each place listed).condition h).below in
      let earlier = listed_before words roots places are there.0 i d there.1 lt (omega (arith, under, e)) in
      in_front places i there.0 q earlier there.1 there.2;
}
