-- The bytes of a text, whoever holds them.
use Rattle.std.specs.Prelude.{ℕ, List, string_bytes}
use Rattle.std.specs.Arc.{arc_value}
use Rattle.ct_word.specs.declared.texts.Held.{Held}
use Rattle.ct_word.specs.declared.texts.Held.TheVariants as held

-- the bytes that are held
abbrev pub bytes_in : Held → List ℕ
bytes_in (held.Own text) = string_bytes text
bytes_in (held.Shared text) = string_bytes (arc_value text)
