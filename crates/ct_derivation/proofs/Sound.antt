-- Each step of an accepted derivation holds wherever its root does.
use Rattle.std.{proofs.Common.{◌≡◌, ℕ, zero, suc, true, ◌&&◌, List, [], ◌∷◌, ◌++◌, refl, ap, inl, inr}, specs.Prelude.slice_get, specs.List.list_all}
use Rattle.std.proofs.lemmas.Bool.{and_parts, false≢true, cases_Bool}
use Rattle.ct_word.{specs.Value.World, specs.Condition.holds_at, specs.Reading.condition_at, specs.WellFormed.{is_place_of, IsWellFormed}}
use Rattle.ct_derivation.{specs.declared.steps.Why.Why, specs.declared.steps.Step.Step, specs.declared.steps.Derivation.Derivation, specs.Definition.definition}
use Rattle.ct_derivation.{specs.Literal.{Clause, yes_of}, specs.Path.path_clause, specs.Truth.{lit_holds, clause_holds, IsRefuted}}
use Rattle.ct_derivation.specs.Accepts.{over_atoms, clauses_of, fits_lit, gives, is_right, all_right, is_empty, ends_empty, accepts, Accepts}
use Rattle.ct_derivation.{proofs.Members.{same_lit_is, negated_holds, same_members_hold}, proofs.Units.{IsAssignment, AllHold, follows_holds}}
use Rattle.ct_derivation.proofs.Clauses.{single, told_clause, definition_told, path_told}
use Rattle.ct_word.specs.declared.kinds.Class.TheVariants as class
use Rattle.ct_derivation.specs.declared.literals.Atom.TheVariants as atom
use Rattle.ct_derivation.specs.declared.steps.Why.TheVariants as why

module _ (ws : List ℕ) (v : World) where
  truths : IsAssignment over_atoms (lit_holds ws v)
  truths = record { same = λ l m e. ap (lit_holds ws v) (same_lit_is l m e); opposite = λ l. negated_holds ws v l }

  -- the clause of each of these steps holds
  abbrev Hold : List Step → Type 0
  Hold steps = AllHold over_atoms (lit_holds ws v) truths (clauses_of steps)

  end_false : (ls : Clause) → is_empty ls ≡ true → clause_holds ws v ls ≡ true → ⊥
  unfolding clause_holds
  end_false [] e t = false≢true t
  end_false (l ∷ ls) e t = false≢true e

  one_more : (steps : List Step) (s : Step) → Hold steps → clause_holds ws v s.clause ≡ true → Hold (steps ++ s ∷ [])
  unfolding clause_holds
  one_more [] s all t zero = t
  one_more [] s all t (suc k) = tt
  one_more (x ∷ steps) s all t zero = all zero
  one_more (x ∷ steps) s all t (suc k) = one_more steps s (λ j. all (suc j)) t k

  module _ (wf : IsWellFormed ws) (root : ℕ) (held : holds_at v (condition_at ws root) ≡ true) where
    root_holds : clause_holds ws v (yes_of (atom.Node root) ∷ []) ≡ true
    unfolding lit_holds
    root_holds = single ws v (yes_of (atom.Node root)) held

    by_reason : (earlier : List Step) → Hold earlier → (w : Why) (ls : Clause) → gives ws root earlier w ls ≡ true → clause_holds ws v ls ≡ true
    unfolding gives clause_holds
    by_reason earlier all why.Root ls e = same_members_hold ws v ls (yes_of (atom.Node root) ∷ []) e root_holds
    by_reason earlier all (why.Def p k) ls e = told_clause ws v (definition (slice_get ws p) p k) ls (definition_told ws v wf p k (slice_get ws p) refl) e
    by_reason earlier all (why.Path ts) ls e = told_clause ws v (path_clause ws ts) ls (path_told ws v wf ts) e
    by_reason earlier all (why.Rup hs) ls e = follows_holds over_atoms (lit_holds ws v) truths (clauses_of earlier) all ls hs e

    step_holds : (earlier : List Step) (s : Step) → Hold earlier → is_right ws root earlier s ≡ true → clause_holds ws v s.clause ≡ true
    unfolding is_right
    step_holds earlier s all e = by_reason earlier all s.why s.clause (and_parts (list_all (fits_lit ws) s.clause) _ e).1

    no_end : (steps earlier : List Step) → Hold earlier → all_right ws root earlier steps ≡ true → ends_empty steps ≡ true → ⊥
    no_end [] earlier all r e = false≢true e
    no_end (s ∷ []) earlier all r e = end_false s.clause e (step_holds earlier s all (and_parts _ _ r).0)
    no_end (s ∷ t ∷ steps) earlier all r e =
        let parts = and_parts (is_right ws root earlier s) (all_right ws root (earlier ++ s ∷ []) (t ∷ steps)) r in
        no_end (t ∷ steps) (earlier ++ s ∷ []) (one_more earlier s all (step_holds earlier s all parts.0)) parts.1 e

-- the root of an accepted derivation is false at every valuation
pub root_refuted : (ws : List ℕ) (root : ℕ) (d : Derivation) → IsWellFormed ws → Accepts ws root d → IsRefuted ws root
unfolding accepts
root_refuted ws root d wf acc v =
    let parts = and_parts (is_place_of ws class.Cond root && all_right ws root [] d.steps) (ends_empty d.steps) acc in
    elim (cases_Bool (holds_at v (condition_at ws root))) [
      | inl held ↦ absurd (no_end ws v wf root held d.steps [] (λ k. tt) (and_parts (is_place_of ws class.Cond root) _ parts.0).1 parts.1)
      | inr e ↦ e
    ]
