-- The terms that a condition names.
use Rattle.std.specs.Prelude.{◌≡◌, ◌⊎◌}
use Rattle.ct_word.specs.declared.values.Term.{Term}
use Rattle.ct_word.specs.Condition.{Condition, Conditions, True, False, Same, Not, And, Or, none, also}

-- a term is a side of an equality of a condition
abbrev mutual
  pub IsNamed : Condition → Term → Type 0
  IsNamed True t = ⊥
  IsNamed False t = ⊥
  IsNamed (Same s u) t = (t ≡ s) ⊎ (t ≡ u)
  IsNamed (Not c) t = IsNamed c t
  IsNamed (And cs) t = IsNamedInSome cs t
  IsNamed (Or cs) t = IsNamedInSome cs t

  -- of one of these conditions
  pub IsNamedInSome : Conditions → Term → Type 0
  IsNamedInSome none t = ⊥
  IsNamedInSome (also c cs) t = IsNamed c t ⊎ IsNamedInSome cs t
