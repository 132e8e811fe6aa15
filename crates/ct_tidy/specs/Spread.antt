-- A world in which the nulls of a table have values of their own.
use Rattle.std.specs.Prelude.{◌≡◌, ℕ, ◌+◌, ◌<◌, List, [], ◌∷◌, ◌++◌, length, map}
use Rattle.std.specs.List.{flat_map}
use Rattle.ct_word.specs.declared.values.CRow.{CRow}
use Rattle.ct_word.specs.declared.values.Null.{Null}
use Rattle.ct_word.specs.declared.values.Term.{Term}
use Rattle.ct_word.specs.declared.values.Term.TheVariants as term
use Rattle.ct_word.specs.declared.values.Value.TheVariants as val
use Rattle.ct_word.specs.Value.{World, value_of_null}

-- the condition and the cells of a row
abbrev pub places_in_row : CRow → List ℕ
places_in_row r = r.cond ∷ r.cells

-- a global condition, and those of rows with their cells
abbrev pub places_in_table : ℕ → List CRow → List ℕ
places_in_table global rs = global ∷ flat_map places_in_row rs

-- the nulls that a world lists
abbrev pub nulls_in : World → List Null
nulls_in v = map (λ p. p.0) v

-- nulls with the values `@k` that come after one, in their order
abbrev pub numbered : ℕ → List Null → World
numbered k [] = []
numbered k (n ∷ ns) = (n, val.Other (k + 1)) ∷ numbered (k + 1) ns

-- the null has a value `@k` with k from 1 on, and no other null has it
pub record HasOwnValue (v : World) (n : Null) : Type 0 where
  pub number : ℕ
  pub positive : 0 < number
  pub value : value_of_null v n ≡ val.Other number
  pub own : (m : Null) → value_of_null v m ≡ value_of_null v n → m ≡ n

-- a world with the null that a term is, if it is one, and the next value
abbrev pub with_own : Term → World → World
with_own (term.Null n) v = v ++ (n, val.Other (length v + 1)) ∷ []
with_own _ v = v
