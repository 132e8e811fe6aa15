-- There is room for all terms that a tree can have.
use Rattle.std.proofs.Common.{◌≡◌, ◌<◌, ◌≤◌, ◌+◌, ℕ, Bool, true, false, List, [], ◌∷◌, ◌++◌, length, get_or, ap, sym, subst, ◌∙◌, arith, length-append}
use Rattle.std.specs.List.{Contains}
use Rattle.ct_derivation.specs.declared.literals.Atom.{Atom}
use Rattle.ct_equality.{specs.Terms.{is_among, is_end_of, terms_of}, specs.Assigned.{IsLink, are_plain}, specs.Trees.IsTree, specs.Indexed.AreMet}
use Rattle.ct_chain.specs.Seen.{AreDistinct}
use Rattle.ct_equality.{proofs.Trees.tree_more, proofs.Listed.no_more_places, proofs.Indexed.{not_among, distinct_places}, proofs.FalsePaths.few_terms}

module _ (atoms : List Atom) (truth : List Bool) where
  pub few : (places origins : List ℕ) → IsTree atoms truth places origins → length places ≤ length (terms_of atoms)
  few places origins t = no_more_places atoms places t.once t.ends

  module _ (places words origins : List ℕ) (p o : ℕ) (t : IsTree atoms truth places origins) (same : words ≡ places) (new : Contains words p → ⊥) (within : o < length places) (link : IsLink atoms truth p (get_or places o 0)) where
    none_there : is_among places p ≡ false
    none_there = ap (λ l. is_among l p) (sym same) ∙ not_among words p new

    pub tree_there : IsTree atoms truth (places ++ p ∷ []) (origins ++ o ∷ [])
    tree_there = tree_more atoms truth places origins p o t none_there within link

    pub room_more : length places + 1 ≤ length (terms_of atoms)
    room_more = let f = few (places ++ p ∷ []) (origins ++ o ∷ []) tree_there in let l = length-append places (p ∷ []) in omega (arith, f, l)

pub few_places : (words : List ℕ) (atoms : List Atom) (truth : List Bool) → are_plain words atoms ≡ true → (places found : List ℕ) → AreMet places found → ((p : ℕ) → is_among places p ≡ is_end_of atoms p) → length places ≤ length words
few_places words atoms truth plain places found met all =
    let a = no_more_places atoms places (distinct_places places (subst AreDistinct (sym met.same) met.distinct)) (λ p e. sym (all p) ∙ e) in
    let b = few_terms words atoms truth plain in
    omega (arith, a, b)
