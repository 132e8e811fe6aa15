-- The atom of each variable, and the variable of each atom.
use Rattle.std.proofs.Common.{◌≡◌, ℕ, zero, suc, ◌+◌, ◌-◌, ◌*◌, ◌/◌, ◌<◌, ◌≤◌, List, [], ◌∷◌, length, get_or, take, Option, Some, refl, ap, ◌∙◌, sym, subst, arith, inl, inr, if◌then◌else◌, length-append}
use Rattle.std.{specs.Prelude.{slice_get, Contains}, proofs.lemmas.Bool.{eq-eqb, ne_eqb}}
use Rattle.std.{proofs.lemmas.Option.slice_get-get_or, proofs.lemmas.List.{get_or_default, take_all}}
use Rattle.ct_word.{specs.declared.kinds.Kind.Kind, specs.Word.{code_of, kind_of, left_of, right_of}, specs.WellFormed.IsWellFormed, proofs.Codes.code_by, proofs.Splits.one_place}
use Rattle.ct_word.proofs.Items.{no_item, first_item, item_cases, flat_item}
use Rattle.ct_derivation.specs.declared.literals.Atom.{Atom}
use Rattle.ct_cnf.{specs.declared.numbers.Numbers.Numbers, specs.Encoding.{atom_of, AreDistinct}, specs.Making.IsNumbering}
use Rattle.ct_cnf.specs.Lists.{equality_of, atoms_at, atoms_of, rank_of, node_of, AreRising}
use Rattle.ct_cnf.proofs.Flat.{unflat_item, before, flat_at, distinct_flat, first_smaller}
use Rattle.ct_word.specs.declared.kinds.Kind.TheVariants as kind
use Rattle.ct_derivation.specs.declared.literals.Atom.TheVariants as atom

-- where places go up, each is first found where it stands
pub rank_is : (cs : List ℕ) (k p : ℕ) → AreRising cs → k < length cs → get_or cs k p ≡ p → rank_of cs p ≡ k
rank_is [] k p up lt e = absurd (omega (arith, lt))
rank_is (c ∷ cs) zero p up lt e = ap (λ b. if b then 0 else suc (rank_of cs p)) (eq-eqb c p e)
rank_is (c ∷ cs) (suc k) p up lt e =
    let there : Contains cs p = (k, omega (arith, lt), e) in
    ap (λ b. if b then 0 else suc (rank_of cs p)) (ne_eqb c p (omega (arith, first_smaller c cs up p there)))
    ∙ ap suc (rank_is cs k p (λ i j d l m. up (suc i) (suc j) d (omega (arith, l)) (omega (arith, m))) (omega (arith, lt)) e)

-- the atoms of one condition
few_equalities : (o : Option Kind) (a b : ℕ) → length (equality_of o a b) ≤ 1
few_equalities (Some kind.Equal) a b = omega arith
few_equalities _ a b = omega arith

few_at : (ws : List ℕ) (p : ℕ) → length (atoms_at ws p) ≤ 2
unfolding atoms_at
few_at ws p = let w = get_or ws p 0 in omega (arith, few_equalities (kind_of w) (left_of w) (right_of w))

pub few_atoms : (ws cs : List ℕ) → length (atoms_of ws cs) ≤ 2 * length cs
few_atoms ws [] = omega arith
few_atoms ws (c ∷ cs) = omega (arith, length-append (atoms_at ws c) (atoms_of ws cs), few_at ws c, few_atoms ws cs)

pub length-take_le : (xs : List ℕ) (k : ℕ) → k ≤ length xs → length (take k xs) ≡ k
length-take_le [] zero le = refl
length-take_le [] (suc k) le = absurd (omega (arith, le))
length-take_le (x ∷ xs) zero le = refl
length-take_le (x ∷ xs) (suc k) le = ap suc (length-take_le xs k (omega (arith, le)))

-- an equal word at a place, with these fields
pub record IsEqualAt (ws : List ℕ) (p s t : ℕ) : Type 0 where
  pub word : ℕ
  pub there : slice_get ws p ≡ Some word
  pub kind : kind_of word ≡ Some kind.Equal
  pub first : left_of word ≡ s
  pub second : right_of word ≡ t

equality_cases : (o : Option Kind) (a b : ℕ) (x : Atom) → Contains (equality_of o a b) x → (o ≡ Some kind.Equal) × (x ≡ atom.Same a b)
equality_cases (Some kind.Equal) a b x h = elim (item_cases [] (atom.Same a b) x h) [ inl e ↦ (refl, sym e) | inr n ↦ absurd (no_item x n) ]
equality_cases _ a b x h = absurd (no_item x h)

module _ (ws : List ℕ) where
  pub node_in : (p : ℕ) → Contains (atoms_at ws p) (atom.Node p)
  unfolding atoms_at
  node_in p = first_item _ (atom.Node p)

  pub node_is : (p q : ℕ) → Contains (atoms_at ws p) (atom.Node q) → p ≡ q
  unfolding atoms_at
  node_is p q h =
      let w = get_or ws p 0 in
      elim (item_cases (equality_of (kind_of w) (left_of w) (right_of w)) (atom.Node p) (atom.Node q) h) [
        | inl e ↦ cc
        | inr there ↦ let e = (equality_cases (kind_of w) (left_of w) (right_of w) (atom.Node q) there).1 in cc
      ]

  pub same_is : (p s t : ℕ) → p < length ws → Contains (atoms_at ws p) (atom.Same s t) → IsEqualAt ws p s t
  unfolding atoms_at
  same_is p s t lt h =
      let w = get_or ws p 0 in
      elim (item_cases (equality_of (kind_of w) (left_of w) (right_of w)) (atom.Node p) (atom.Same s t) h) [
        | inl e ↦ cc
        | inr there ↦
            let c = equality_cases (kind_of w) (left_of w) (right_of w) (atom.Same s t) there in
            let e : atom.Same s t ≡ atom.Same (left_of w) (right_of w) = c.1 in
            record { word = w; there = slice_get-get_or ws p 0 lt; kind = c.0; first = cc; second = cc }
      ]

  -- the equality of an equal word is its second atom
  pub same_at : (p w : ℕ) → get_or ws p 0 ≡ w → kind_of w ≡ Some kind.Equal → atoms_at ws p ≡ atom.Node p ∷ atom.Same (left_of w) (right_of w) ∷ []
  unfolding atoms_at
  same_at p w at e =
      ap (λ x. atom.Node p ∷ equality_of (kind_of x) (left_of x) (right_of x)) at
      ∙ ap (λ o. atom.Node p ∷ equality_of o (left_of w) (right_of w)) e

  distinct_at : (p : ℕ) → AreDistinct (atoms_at ws p)
  unfolding atoms_at
  distinct_at p = two (kind_of (get_or ws p 0)) (left_of (get_or ws p 0)) (right_of (get_or ws p 0)) where
    two : (o : Option Kind) (a b : ℕ) → AreDistinct (atom.Node p ∷ equality_of o a b)
    two (Some kind.Equal) a b zero zero d li lj e = refl
    two (Some kind.Equal) a b zero (suc zero) d li lj e = cc
    two (Some kind.Equal) a b (suc zero) zero d li lj e = cc
    two (Some kind.Equal) a b (suc zero) (suc zero) d li lj e = refl
    two (Some kind.Equal) a b i j d li lj e = omega (arith, li, lj)
    two _ a b i j d li lj e = omega (arith, li, lj)

  words_by : (w x c : ℕ) → c ≡ w / 72057594037927936 → c ≡ x / 72057594037927936 → left_of w ≡ left_of x → right_of w ≡ right_of x → w ≡ x
  words_by w x c d e l r = omega arith

  module _ (wf : IsWellFormed ws) where
    -- two equal words with the same fields are one
    pub one_equality : (p q s t : ℕ) → IsEqualAt ws p s t → IsEqualAt ws q s t → p ≡ q
    one_equality p q s t a b =
        let same : a.word ≡ b.word =
        words_by a.word b.word (code_of kind.Equal) (code_by _ kind.Equal a.kind) (code_by _ kind.Equal b.kind) (a.first ∙ sym b.first) (a.second ∙ sym b.second) in
        one_place ws wf p q b.word (a.there ∙ ap Some same) b.there

    one_owner : (p q : ℕ) (x : Atom) → p < length ws → q < length ws → Contains (atoms_at ws p) x → Contains (atoms_at ws q) x → p ≡ q
    one_owner p q (atom.Node r) lp lq hp hq = node_is p r hp ∙ sym (node_is q r hq)
    one_owner p q (atom.Same s t) lp lq hp hq = one_equality p q s t (same_is p s t lp hp) (same_is q s t lq hq)

    pub distinct_atoms : (cs : List ℕ) → AreRising cs → ((p : ℕ) → Contains cs p → p < length ws) → AreDistinct (atoms_of ws cs)
    distinct_atoms cs up within = distinct_flat (atoms_at ws) cs up (λ p h. distinct_at p) (λ p q x hp hq. one_owner p q x (within p hp) (within q hq))

-- an atom is that of the variable after its place
pub record IsAtomOf (atoms : List Atom) (v : ℕ) (a : Atom) : Type 0 where
  pub low : 1 ≤ v
  pub high : v ≤ length atoms
  pub is : atom_of atoms v ≡ a

module _ (ws : List ℕ) (root : ℕ) (n : Numbers) (num : IsNumbering ws root n) where
  -- the atoms are those of all conditions
  pub atoms_are : n.atoms ≡ atoms_of ws n.conditions
  atoms_are = num.numbered.are_atoms ∙ ap (atoms_of ws) (take_all (length n.conditions) n.conditions (omega arith))

  -- the atoms of a condition have its variable and the next
  atom_found : (p j : ℕ) (a : Atom) → Contains n.conditions p → j < length (atoms_at ws p) → get_or (atoms_at ws p) j (atom.Node 0) ≡ a → IsAtomOf n.atoms (node_of n p + j) a
  unfolding node_of
  atom_found p j a h lt e =
      let k = h.0 in
      let place : get_or n.conditions k 0 ≡ p = get_or_default n.conditions k 0 p h.1 ∙ h.2 in
      let start : node_of n p ≡ before (atoms_at ws) n.conditions k + 1 = ap (λ r. get_or n.nodes r 0) (rank_is n.conditions k p num.numbers.rising h.1 h.2) ∙ num.numbered.starts k h.1 in
      let at = flat_at (atoms_at ws) n.conditions k j (atom.Node 0) h.1 (subst (λ q. j < length (atoms_at ws q)) (sym place) lt) in
      let spot : node_of n p + j - 1 ≡ before (atoms_at ws) n.conditions k + j = omega (arith, start) in
      record {
        low = omega (arith, start);
        high = omega (arith, start, at.0, ap length atoms_are);
        is =
            ap (λ i. get_or n.atoms i (atom.Node 0)) spot ∙ ap (λ xs. get_or xs (before (atoms_at ws) n.conditions k + j) (atom.Node 0)) atoms_are ∙ at.1
            ∙ ap (λ q. get_or (atoms_at ws q) j (atom.Node 0)) place ∙ e;
      }

  pub node_found : (p : ℕ) → Contains n.conditions p → IsAtomOf n.atoms (node_of n p) (atom.Node p)
  unfolding atoms_at
  node_found p h =
      let none : node_of n p + 0 ≡ node_of n p = omega arith in
      subst (λ v. IsAtomOf n.atoms v (atom.Node p)) none (atom_found p 0 (atom.Node p) h (omega arith) refl)

  pub same_found : (p w : ℕ) → Contains n.conditions p → get_or ws p 0 ≡ w → kind_of w ≡ Some kind.Equal → IsAtomOf n.atoms (node_of n p + 1) (atom.Same (left_of w) (right_of w))
  same_found p w h at e =
      let two = same_at ws p w at e in
      atom_found p 1 (atom.Same (left_of w) (right_of w)) h (omega (arith, ap length two)) (ap (λ xs. get_or xs 1 (atom.Node 0)) two)

  pub atom_in : (p : ℕ) (a : Atom) → Contains n.conditions p → Contains (atoms_at ws p) a → Contains n.atoms a
  atom_in p a h i = subst (λ xs. Contains xs a) (sym atoms_are) (flat_item (atoms_at ws) n.conditions p a h i)

  pub atom_from : (a : Atom) → Contains n.atoms a → (p : ℕ) × Contains n.conditions p × Contains (atoms_at ws p) a
  atom_from a h = unflat_item (atoms_at ws) n.conditions a (subst (λ xs. Contains xs a) atoms_are h)

  pub atoms_distinct : IsWellFormed ws → AreDistinct n.atoms
  atoms_distinct wf = subst AreDistinct (sym atoms_are) (distinct_atoms ws wf n.conditions num.numbers.rising num.within)
