-- The equality of two terms as one more atom.
use Rattle.std.proofs.Common.{◌≡◌, ◌≢◌, ℕ, ◌<◌, true, false, List, [], ◌∷◌, ◌++◌, length, ap, ◌∙◌, sym, subst, arith, inl, inr, nat_lt, if◌then◌else◌}
use Rattle.std.{specs.Prelude.Contains, proofs.lemmas.Bool.{cases_Bool, ltb-true, ltb-false}, proofs.lemmas.List.length_push}
use Rattle.std.proofs.lemmas.List.Elements.{Contains-append_cases}
use Rattle.ct_word.proofs.Items.{item_cases, no_item}
use Rattle.ct_derivation.{specs.declared.literals.Atom.Atom, specs.Path.pair_of}
use Rattle.ct_trail.specs.Log.{added_in}
use Rattle.ct_sat.specs.Log.{State}
use Rattle.ct_cnf.specs.Encoding.{IsTermBelow, IsPairBelow}
use Rattle.ct_decide.{specs.declared.asking.Aim.Aim, specs.declared.asking.Asking.Asking, specs.Asking.{IsAsking, is_atom}, proofs.Wider.{wider_clauses, all_wider, distinct_more}, proofs.Worlds.atom_from}
use Rattle.ct_derivation.specs.declared.literals.Atom.TheVariants as atom

module _ (words : List ℕ) (aim : Aim) where
  abbrev root : ℕ
  root = aim.root

  pub pair_below : (s t x y : ℕ) → IsTermBelow words root s → IsTermBelow words root t → s ≢ t → pair_of s t ≡ atom.Same x y → IsPairBelow words root x y
  pair_below s t x y first second differ e = elim (cases_Bool (nat_lt s t)) [
    | inl lt ↦
        let g : atom.Same s t ≡ atom.Same x y = sym (ap (λ b. if b then atom.Same s t else atom.Same t s) lt) ∙ e in
        let left : s ≡ x = cc in
        let right : t ≡ y = cc in
        record { first = subst (IsTermBelow words root) left first; second = subst (IsTermBelow words root) right second; ordered = omega (arith, ltb-true s t lt, left, right) }
    | inr ge ↦
        let g : atom.Same t s ≡ atom.Same x y = sym (ap (λ b. if b then atom.Same s t else atom.Same t s) ge) ∙ e in
        let left : t ≡ x = cc in
        let right : s ≡ y = cc in
        record { first = subst (IsTermBelow words root) left second; second = subst (IsTermBelow words root) right first; ordered = omega (arith, ltb-false s t ge, left, right, differ) }
  ]

  no_node : (s t p : ℕ) → pair_of s t ≡ atom.Node p → ⊥
  no_node s t p e = elim (cases_Bool (nat_lt s t)) [
    | inl lt ↦ let g : atom.Same s t ≡ atom.Node p = sym (ap (λ b. if b then atom.Same s t else atom.Same t s) lt) ∙ e in cc
    | inr ge ↦ let g : atom.Same t s ≡ atom.Node p = sym (ap (λ b. if b then atom.Same s t else atom.Same t s) ge) ∙ e in cc
  ]

  only : (a x : Atom) → Contains (a ∷ []) x → a ≡ x
  only a x h = elim (item_cases [] a x h) [ inl same ↦ same | inr none ↦ absurd (no_item x none) ]

  pub atom_added : (old new : Asking) (s t : ℕ) → IsAsking words aim old → length old.atoms.items < old.solver.vars → IsTermBelow words root s → IsTermBelow words root t → s ≢ t
      → is_atom old.atoms.items (pair_of s t) ≡ false → new.solver ≡ old.solver → new.vars ≡ old.vars → new.origins.items ≡ old.origins.items
      → new.atoms.items ≡ old.atoms.items ++ pair_of s t ∷ [] → IsAsking words aim new
  atom_added old new s t ask room first second differ none solver count origins is =
      let atoms = old.atoms.items in
      let cs = added_in old.solver.entries in
      let one = length_push atoms (pair_of s t) in record {
        clauses = rw (is, solver, origins) (ask.clauses ∙ all_wider atoms (pair_of s t ∷ []) cs ask.within);
        within = rw (is, solver) (wider_clauses (length atoms) (length (atoms ++ pair_of s t ∷ [])) (omega (arith, one)) cs ask.within);
        room = rw (is, solver) (omega (arith, one, room));
        count = count ∙ ask.count ∙ sym (ap (λ (x : State). x.vars) solver);
        vars = rw solver ask.vars;
        whole = rw origins ask.whole;
        distinct = rw is (distinct_more atoms (pair_of s t) ask.distinct none);
        nodes = rw is (λ p h. elim (Contains-append_cases atoms (pair_of s t ∷ []) (atom.Node p) h) [
          | inl old_one ↦ ask.nodes p old_one
          | inr new_one ↦ absurd (no_node s t p (only (pair_of s t) (atom.Node p) new_one))
        ]);
        terms = rw is (λ x y h. elim (Contains-append_cases atoms (pair_of s t ∷ []) (atom.Same x y) h) [
          | inl old_one ↦ ask.terms x y old_one
          | inr new_one ↦ pair_below s t x y first second differ (only (pair_of s t) (atom.Same x y) new_one)
        ]);
      }

-- the terms of an atom
pub record AreTerms (words : List ℕ) (root x y : ℕ) : Type 0 where
  pub first : IsTermBelow words root x
  pub second : IsTermBelow words root y
  pub differ : x ≢ y

pub terms_of : (words : List ℕ) (aim : Aim) (a : Asking) → IsAsking words aim a → (x y : ℕ) → is_atom a.atoms.items (pair_of x y) ≡ true → AreTerms words aim.root x y
terms_of words aim a ask x y h =
    let there = atom_from a.atoms.items (pair_of x y) h in
    elim (cases_Bool (nat_lt x y)) [
      | inl lt ↦
          let pair = ask.terms x y (subst (Contains a.atoms.items) (ap (λ b. if b then atom.Same x y else atom.Same y x) lt) there) in
          record { first = pair.first; second = pair.second; differ = λ e. let o = pair.ordered in absurd (omega (arith, e, o)) }
      | inr ge ↦
          let pair = ask.terms y x (subst (Contains a.atoms.items) (ap (λ b. if b then atom.Same x y else atom.Same y x) ge) there) in
          record { first = pair.second; second = pair.first; differ = λ e. let o = pair.ordered in absurd (omega (arith, e, o)) }
    ]
