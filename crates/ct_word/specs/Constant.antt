-- Places of constants.
use Rattle.std.specs.Prelude.{ℕ, Bool, true, false, List, Option, Some, None, slice_get}
use Rattle.ct_word.specs.declared.kinds.Kind.{Kind}
use Rattle.ct_word.specs.declared.kinds.Kind.TheVariants as kind
use Rattle.ct_word.specs.Word.{kind_of}

-- whether a kind is one of constants
abbrev pub is_constant_kind : Option Kind → Bool
is_constant_kind (Some kind.Number) = true
is_constant_kind (Some kind.TextConstant) = true
is_constant_kind (Some kind.OtherValue) = true
is_constant_kind _ = false

-- whether this is a word of a constant
abbrev pub is_constant_word : Option ℕ → Bool
is_constant_word None = false
is_constant_word (Some w) = is_constant_kind (kind_of w)

-- whether a place holds a constant
unfoldable pub is_constant : List ℕ → ℕ → Bool
is_constant words p = is_constant_word (slice_get words p)
