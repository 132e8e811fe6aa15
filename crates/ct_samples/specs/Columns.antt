-- The word of a column.
use Rattle.std.specs.Prelude.{Bool, true, false, Option, Some}
use Rattle.ct_word.specs.declared.kinds.Kind.{Kind}
use Rattle.ct_word.specs.declared.kinds.Kind.TheVariants as kind

-- whether this is the kind of a column
abbrev pub is_column_kind : Option Kind → Bool
is_column_kind (Some kind.Column) = true
is_column_kind _ = false
