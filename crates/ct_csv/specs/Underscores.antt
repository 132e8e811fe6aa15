-- How many underscores the mark of a new name needs.
use Rattle.std.specs.Prelude.{◌≡◌, ℕ, ◌+◌, max, List, [], ◌∷◌, nat_eq, if◌then◌else◌}
use Rattle.ct_word.specs.declared.values.Null.{Null}
use Rattle.ct_word.specs.declared.values.Null.TheVariants as null
use Rattle.ct_word.specs.declared.values.Term.{Term}
use Rattle.ct_word.specs.declared.values.Term.TheVariants as term
use Rattle.ct_word.specs.Reading.{term_at}
use Rattle.ct_condition.specs.Terms.{BelowSome}
use Rattle.ct_tidy.specs.Nulls.{AreNullsOf}

-- how many underscores stand at the front
abbrev pub run_of : List ℕ → ℕ
run_of [] = 0
run_of (b ∷ w) = if nat_eq b 95 then run_of w + 1 else 0

-- the least number from 1 on such that the name does not begin with `n` and so many underscores
abbrev pub free_of_name : List ℕ → ℕ
free_of_name [] = 1
free_of_name (b ∷ w) = if nat_eq b 110 then run_of w + 1 else 1

-- the same of a null, whatever name a fresh one gets
abbrev pub free_of : Null → ℕ
free_of (null.Named t) = free_of_name t
free_of (null.Fresh s k) = 1

-- the greatest of a number and those of nulls
abbrev pub free_of_all : ℕ → List Null → ℕ
free_of_all from [] = from
free_of_all from (n ∷ ns) = free_of_all (max from (free_of n)) ns

-- the null that a term is, if it is one
abbrev pub null_in : Term → List Null
null_in (term.Null n) = n ∷ []
null_in _ = []

-- the greatest of a number and those of the terms at these places
abbrev pub free_of_terms : List ℕ → ℕ → List ℕ → ℕ
free_of_terms words from [] = from
free_of_terms words from (p ∷ ps) = free_of_terms words (free_of_all from (null_in (term_at words p))) ps

-- the greatest of a number and those of the nulls below a condition
pub record IsFreeWith (words : List ℕ) (cond from free : ℕ) : Type 0 where
  pub nulls : List Null
  pub are : AreNullsOf (BelowSome words (cond ∷ [])) nulls
  pub is : free ≡ free_of_all from nulls
