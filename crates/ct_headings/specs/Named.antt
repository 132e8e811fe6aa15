-- Tables by their names.
use Rattle.std.specs.Prelude.{ℕ, List, [], ◌∷◌, Option, Some, None, if◌then◌else◌}
use Rattle.ct_word.specs.Value.{same_text}
use Rattle.ct_query.specs.declared.schema.Heading.{Heading}

-- the name and the columns of the first table with a name, if there is one
abbrev pub heading_in : List Heading → List ℕ → Option Heading
heading_in [] name = None
heading_in (h ∷ hs) name = if same_text h.name name then Some h else heading_in hs name
