-- What the calls of a solver do to its log.
use Rattle.std.specs.Prelude.{◌≡◌, ℕ, Bool, true, false, List, [], ◌∷◌, ◌++◌, length}
use Rattle.std.specs.List.{list_all}
use Rattle.ct_trail.specs.declared.log.Entry.{Entry}
use Rattle.ct_trail.specs.declared.log.Entry.TheVariants as entry
use Rattle.ct_trail.specs.{Literal.Clause, Log.added_in}
use Rattle.ct_sat.specs.declared.verdict.Found.{Found}
use Rattle.ct_sat.specs.declared.verdict.Found.TheVariants as found
use Rattle.ct_sat.specs.Verdict.{satisfies, is_empty}

-- what contracts see of a solver: its variables, its log, and whether memory was wanting
pub record State : Type 0 where
  pub vars : ℕ
  pub entries : List Entry
  pub failed : Bool

-- the log gets longer, by learned clauses only
pub record Learns (old new : State) : Type 0 where
  pub vars : new.vars ≡ old.vars
  pub more : List Entry
  pub is : new.entries ≡ old.entries ++ more
  pub none : added_in more ≡ []

-- whether the last entry is learned and empty
abbrev pub ends_refuted : List Entry → Bool
ends_refuted [] = false
ends_refuted (entry.Added c ∷ []) = false
ends_refuted (entry.Learned r ∷ []) = is_empty r.clause
ends_refuted (e ∷ f ∷ es) = ends_refuted (f ∷ es)

-- a truth for each variable, by which each of these clauses is true
pub record IsModelOf (vars : ℕ) (clauses : List Clause) (model : List Bool) : Type 0 where
  pub truths : length model ≡ vars
  pub satisfied : list_all (satisfies model) clauses ≡ true

-- what a step found is so
abbrev pub AnswersFound : State → Found → Type 0
AnswersFound s (found.Model m) = IsModelOf s.vars (added_in s.entries) m
AnswersFound s found.Refuted = ends_refuted s.entries ≡ true
