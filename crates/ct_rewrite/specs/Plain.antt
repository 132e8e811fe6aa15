-- Places of the word true.
use Rattle.std.specs.Prelude.{ℕ, Bool, false, List}
use Rattle.ct_worlds.specs.declared.shape.Shape.{Shape}
use Rattle.ct_worlds.specs.declared.shape.Shape.TheVariants as shape
use Rattle.ct_worlds.specs.Shape.{shape_at}

-- whether a shape is that of the word true
abbrev pub is_true_shape : Shape → Bool
is_true_shape (shape.Literal b) = b
is_true_shape _ = false

-- whether the word at a place is the word true
abbrev pub is_true_at : List ℕ → ℕ → Bool
is_true_at words place = is_true_shape (shape_at words place)
