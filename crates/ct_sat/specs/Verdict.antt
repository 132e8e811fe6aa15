-- Models and refutations of clauses over numbered variables.
use Rattle.std.specs.Prelude.{◌≡◌, zero, suc, Bool, true, false, not, ◌&&◌, List, [], ◌∷◌, ◌++◌, length, map, slice_index_or}
use Rattle.std.specs.List.{list_any, list_all}
use Rattle.std.proofs.Math.IntN.{ℤ, pos, negsuc}
use Rattle.ct_derivation.specs.declared.steps.Cnf.{Cnf}
use Rattle.ct_derivation.specs.Propagation.{follows}
pub use Rattle.ct_derivation.specs.Variables.{IsCnf}
use Rattle.ct_trail.specs.declared.log.Rup.{Rup}
use Rattle.ct_sat.specs.declared.verdict.Verdict.{Verdict}
use Rattle.ct_sat.specs.declared.verdict.Verdict.TheVariants as verdict
use Rattle.ct_trail.specs.Literal.{Clause, is_clause, numbered}

-- whether a literal is true, where the truth of variable n + 1 is at place n
abbrev pub holds : List Bool → ℤ → Bool
holds model (pos zero) = false
holds model (pos (suc n)) = slice_index_or model n false
holds model (negsuc n) = not (slice_index_or model n false)

-- whether a literal of the clause is true
unfoldable pub satisfies : List Bool → Clause → Bool
satisfies model c = list_any (holds model) c

-- a truth for each variable, by which each clause is true
pub record IsModel (cnf : Cnf) (model : List Bool) : Type 0 where
  pub truths : length model ≡ cnf.vars
  pub satisfied : list_all (satisfies model) cnf.clauses ≡ true

abbrev pub is_empty : Clause → Bool
is_empty [] = true
is_empty (l ∷ c) = false

abbrev pub clause_of : Rup → Clause
clause_of r = r.clause

-- whether each step follows by its hints from the log and the steps before it
abbrev pub each_follows : List Clause → List Rup → Bool
each_follows log [] = true
each_follows log (r ∷ steps) = follows numbered log r.clause r.hints && each_follows (log ++ r.clause ∷ []) steps

-- whether there is a last step, and its clause is empty
abbrev pub ends_empty : List Rup → Bool
ends_empty [] = false
ends_empty (r ∷ []) = is_empty r.clause
ends_empty (r ∷ s ∷ steps) = ends_empty (s ∷ steps)

-- steps over the variables that follow one after the other, to the empty clause
pub record IsRefutation (cnf : Cnf) (steps : List Rup) : Type 0 where
  pub within : list_all (is_clause cnf.vars) (map clause_of steps) ≡ true
  pub follow : each_follows cnf.clauses steps ≡ true
  pub empty : ends_empty steps ≡ true

-- a verdict is right
abbrev pub VerdictOf : Cnf → Verdict → Type 0
VerdictOf cnf (verdict.Model model) = IsModel cnf model
VerdictOf cnf (verdict.Refuted steps) = IsRefutation cnf steps
