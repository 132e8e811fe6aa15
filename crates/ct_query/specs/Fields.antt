-- Which terms and conditions have numbers that a word has room for.
use Rattle.std.specs.Prelude.{ℕ, ◌<◌, ◌≤◌, ◌^◌}
use Rattle.ct_word.specs.declared.values.Value.TheVariants as val
use Rattle.ct_word.specs.declared.values.Null.TheVariants as null
use Rattle.ct_word.specs.declared.values.Term.{Term}
use Rattle.ct_word.specs.declared.values.Term.TheVariants as term
use Rattle.ct_word.specs.Condition.{Condition, Conditions, True, False, Same, Not, And, Or, none, also}

-- the numbers of a term are as the fields of its word ask
abbrev pub FitsFields : Term → Type 0
FitsFields (term.Column k) = k < 2 ^ 28
FitsFields (term.Null (null.Named t)) = Unit {0}
FitsFields (term.Null (null.Fresh s n)) = (1 ≤ s) × (s ≤ 1023) × (1 ≤ n) × (n < 2 ^ 28)
FitsFields (term.Value (val.Int i)) = Unit {0}
FitsFields (term.Value (val.Text t)) = Unit {0}
FitsFields (term.Value (val.Other k)) = k < 2 ^ 28

-- so are those of each term of a condition
abbrev mutual
  pub AreFitting : Condition → Type 0
  AreFitting True = Unit {0}
  AreFitting False = Unit {0}
  AreFitting (Same s t) = FitsFields s × FitsFields t
  AreFitting (Not c) = AreFitting c
  AreFitting (And cs) = AreAllFitting cs
  AreFitting (Or cs) = AreAllFitting cs

  pub AreAllFitting : Conditions → Type 0
  AreAllFitting none = Unit {0}
  AreAllFitting (also c cs) = AreFitting c × AreAllFitting cs

-- the numbers of a term are so where its own word is put; on a row of so many cells, a cell stands for a column of the row
abbrev pub FitsFieldsOn : ℕ → Term → Type 0
FitsFieldsOn n (term.Column k) = n ≤ k → FitsFields (term.Column k)
FitsFieldsOn n (term.Null u) = FitsFields (term.Null u)
FitsFieldsOn n (term.Value x) = FitsFields (term.Value x)

-- so are those of each term of a condition
abbrev mutual
  pub AreFittingOn : ℕ → Condition → Type 0
  AreFittingOn n True = Unit {0}
  AreFittingOn n False = Unit {0}
  AreFittingOn n (Same s t) = FitsFieldsOn n s × FitsFieldsOn n t
  AreFittingOn n (Not c) = AreFittingOn n c
  AreFittingOn n (And cs) = AreAllFittingOn n cs
  AreFittingOn n (Or cs) = AreAllFittingOn n cs

  pub AreAllFittingOn : ℕ → Conditions → Type 0
  AreAllFittingOn n none = Unit {0}
  AreAllFittingOn n (also c cs) = AreFittingOn n c × AreAllFittingOn n cs
