-- The keys of rows by the columns that are to be equal.
use Rattle.std.specs.Prelude.{ℕ, List, [], ◌∷◌, slice_get, slice_index_or, if◌then◌else◌}
use Rattle.ct_word.specs.Constant.{is_constant_word}
use Rattle.ct_join.specs.declared.keys.Key.{Key}
use Rattle.ct_join.specs.declared.keys.Key.TheVariants as key
use Rattle.ct_join.specs.Mixing.{mixed}
use Rattle.ct_algebra.specs.declared.equals.Equal.{Equal}
use Rattle.ct_plan.specs.declared.sides.Side.{Side}
use Rattle.ct_plan.specs.declared.sides.Side.TheVariants as side

-- the column of one side
abbrev pub column_on : Side → Equal → ℕ
column_on side.Left e = e.left
column_on side.Right e = e.right

-- the key of a row of these cells, a number being mixed from the columns before: none of its cells is a null
abbrev pub key_from : List ℕ → Side → List Equal → List ℕ → ℕ → Key
key_from words side [] cells number = key.Constant number
key_from words side (e ∷ es) cells number =
    if is_constant_word (slice_get words (slice_index_or cells (column_on side e) 0)) then key_from words side es cells (mixed number (slice_index_or cells (column_on side e) 0)) else key.Null

-- the key of a row of these cells
abbrev pub key_of : List ℕ → Side → List Equal → List ℕ → Key
key_of words side es cells = key_from words side es cells 0
