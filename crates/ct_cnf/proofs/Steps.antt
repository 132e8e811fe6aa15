-- The steps of the code that numbers conditions.
use Rattle.std.proofs.Common.{◌≡◌, ℕ, ◌+◌, ◌*◌, ◌<◌, ◌≤◌, List, [], ◌∷◌, ◌++◌, length, get_or, take, nat_cmp, refl, ap, ◌∙◌, sym, arith, inl, inr}
use Rattle.std.{specs.Prelude.{Contains, Result, Ok, Err}, specs.List.Sorted.IsBinarySearchResult, proofs.lemmas.Bool.cases_lt}
use Rattle.std.{proofs.lemmas.List.{length_push, get_or_push, get_or_append_left, get_or_default}, proofs.lemmas.List.Sorted.searched}
use Rattle.ct_derivation.specs.declared.literals.Atom.{Atom}
use Rattle.ct_cnf.{specs.Lists.{atoms_at, atoms_of, rank_of, AreNumbered, AreRising}, proofs.Added.flat_more, proofs.Atoms.{rank_is, few_atoms, length-take_le}}

-- a binary search finds the rank
rises : (cs : List ℕ) → AreRising cs → (i j : ℕ) → i ≤ j → j < length cs → get_or cs i 0 ≤ get_or cs j 0
rises cs up i j le lt = elim (cases_lt i j) [ inl less ↦ omega (arith, up i j 0 less lt) | inr not_less ↦ let same : i ≡ j = omega (arith, le, not_less) in omega (arith, ap (λ k. get_or cs k 0) same) ]

pub rank_found : (cs : List ℕ) (p : ℕ) (r : Result ℕ ℕ) → AreRising cs → Contains cs p → IsBinarySearchResult (λ y. nat_cmp y p) cs r → r ≡ Ok (rank_of cs p)
rank_found cs p (Ok i) up h b = let s = searched cs p (Ok i) b (rises cs up) in ap Ok (sym (rank_is cs i p up s.0 (get_or_default cs i p 0 s.0 ∙ s.1)))
rank_found cs p (Err i) up h b =
    let s = searched cs p (Err i) b (rises cs up) in
    let there : get_or cs h.0 0 ≡ p = get_or_default cs h.0 0 p h.1 ∙ h.2 in
    elim (cases_lt h.0 i) [ inl left ↦ absurd (omega (arith, s.1 h.0 left, there)) | inr right ↦ absurd (omega (arith, s.2 h.0 right h.1, there)) ]

pub numbered_none : (ws cs : List ℕ) → AreNumbered ws cs 0 [] []
numbered_none ws cs = record { are_atoms = refl; long = refl; starts = λ k lt. absurd (omega (arith, lt)) }

-- one more condition
pub numbered_more : (ws cs : List ℕ) (i v : ℕ) (nodes more : List ℕ) (atoms longer : List Atom) → i < length cs → AreNumbered ws cs i nodes atoms
    → v ≡ length atoms + 1 → more ≡ nodes ++ v ∷ [] → longer ≡ atoms ++ atoms_at ws (get_or cs i 0) → AreNumbered ws cs (i + 1) more longer
numbered_more ws cs i v nodes more atoms longer lt old start e f = record {
  are_atoms = flat_more (atoms_at ws) [] atoms longer cs i lt old.are_atoms f;
  long = omega (arith, ap length e, length_push nodes v, old.long);
  starts = λ k within. elim (cases_lt k i) [
    | inl before ↦ ap (λ xs. get_or xs k 0) e ∙ get_or_append_left nodes (v ∷ []) 0 k (omega (arith, before, old.long)) ∙ old.starts k before
    | inr last ↦
        let same : k ≡ i = omega (arith, within, last) in
        ap (λ xs. get_or xs k 0) e ∙ get_or_push nodes v 0 k (omega (arith, same, old.long)) ∙ start
        ∙ ap (λ xs. length xs + 1) (old.are_atoms ∙ ap (λ j. atoms_of ws (take j cs)) (sym same))
  ];
}

pub numbered_few : (ws cs : List ℕ) (i : ℕ) (nodes : List ℕ) (atoms : List Atom) → AreNumbered ws cs i nodes atoms → i ≤ length cs → length atoms ≤ 2 * i
numbered_few ws cs i nodes atoms are le = omega (arith, ap length are.are_atoms, few_atoms ws (take i cs), length-take_le cs i le)
