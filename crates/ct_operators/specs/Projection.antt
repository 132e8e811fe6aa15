-- Projection to columns by their positions.
use Rattle.std.specs.Prelude.{ℕ, List, map, slice_index_or}
use Rattle.ct_word.specs.declared.values.CRow.{CRow}

-- the cells of a row at these positions, under the row's condition
abbrev pub picked_row : List ℕ → CRow → CRow
picked_row ks r = record { cells = map (λ k. slice_index_or r.cells k 0) ks; cond = r.cond }
