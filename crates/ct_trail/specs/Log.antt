-- The log of a search: the clauses that were added to it, and those that it learned.
use Rattle.std.specs.Prelude.{◌≡◌, ℕ, Bool, true, ◌&&◌, List, [], ◌∷◌, ◌++◌, map, slice_index_or}
use Rattle.std.specs.List.{list_all}
use Rattle.ct_trail.specs.declared.log.Rup.{Rup}
use Rattle.ct_trail.specs.declared.log.Entry.{Entry}
use Rattle.ct_trail.specs.declared.log.Entry.TheVariants as entry
use Rattle.ct_trail.specs.Literal.{Clause, is_clause, numbered}
use Rattle.ct_derivation.specs.Propagation.{follows}

abbrev pub entry_clause : Entry → Clause
entry_clause (entry.Added c) = c
entry_clause (entry.Learned r) = r.clause

-- the clauses of a log
abbrev pub clauses_in : List Entry → List Clause
clauses_in es = map entry_clause es

-- the clause at a place of a log
abbrev pub clause_at : List Clause → ℕ → Clause
clause_at log k = slice_index_or log k []

-- the clauses that were added
abbrev pub added_in : List Entry → List Clause
added_in [] = []
added_in (entry.Added c ∷ es) = c ∷ added_in es
added_in (entry.Learned r ∷ es) = added_in es

-- what was learned
abbrev pub learned_in : List Entry → List Rup
learned_in [] = []
learned_in (entry.Added c ∷ es) = learned_in es
learned_in (entry.Learned r ∷ es) = r ∷ learned_in es

-- whether each learned clause follows by its hints from these clauses and the entries before it
abbrev pub each_learned_follows : List Clause → List Entry → Bool
each_learned_follows log [] = true
each_learned_follows log (entry.Added c ∷ es) = each_learned_follows (log ++ c ∷ []) es
each_learned_follows log (entry.Learned r ∷ es) = follows numbered log r.clause r.hints && each_learned_follows (log ++ r.clause ∷ []) es

-- a log over the variables to `vars`: what is learned follows, and has no variable past those of the added clauses
pub record IsLog (vars : ℕ) (es : List Entry) : Type 0 where
  pub within : list_all (is_clause vars) (clauses_in es) ≡ true
  pub follow : each_learned_follows [] es ≡ true
  pub narrow : (k : ℕ) → list_all (is_clause k) (added_in es) ≡ true → list_all (is_clause k) (clauses_in es) ≡ true
