-- Rows as pairs of their cells and conditions, in the order in which the cells came.
use Rattle.std.specs.Prelude.{ℕ, nat_eq, List, Option}
use Rattle.std.specs.Cmp.Lexicographic.{pointwise}
use Rattle.std.specs.Map.{lookup}
use Rattle.indexmap.specs.IndexMap.{insert_entry}
use Rattle.ct_word.specs.Value.{same_text}

-- the condition of the row with these cells, if there is one
abbrev pub find : List ℕ → List (List ℕ × ℕ) → Option ℕ
find cells es = lookup (same_text cells) es

-- rows with this condition at these cells: in the row that has them, or in a new one, which stands last
abbrev pub put : List (List ℕ × ℕ) → List ℕ → ℕ → List (List ℕ × ℕ)
put es cells cond = insert_entry (pointwise nat_eq) es cells cond
