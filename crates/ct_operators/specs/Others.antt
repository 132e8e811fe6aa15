-- Rows of another table: all, or those at some places among them.
use Rattle.std.specs.Prelude.{ℕ, ⊤, ◌<◌, List, [], length, map, get_or, All}
use Rattle.std.specs.Borrow.{Bor}
use Rattle.ct_word.specs.declared.values.CRow.{CRow}
use Rattle.ct_operators.specs.declared.others.Others.{Others}
use Rattle.ct_operators.specs.declared.others.Others.TheVariants as others

-- the rows at these places
abbrev pub rows_at : List CRow → List ℕ → List CRow
rows_at rs ps = map (λ p. get_or rs p (record { cells = []; cond = 1 })) ps

abbrev pub others_of : Others → List CRow
others_of (others.All rs) = rs.now
others_of (others.At rs ps) = rows_at rs.now ps.now

-- each place is one of the rows
abbrev pub AreAmong : Others → Type 0
AreAmong (others.All rs) = ⊤
AreAmong (others.At rs ps) = All (λ p. p < length rs.now) ps.now

-- those at these places among all
abbrev pub at_places : Bor (List ℕ) → Others → Others
at_places ps (others.All rs) = others.At rs ps
at_places ps (others.At rs qs) = others.At rs ps
