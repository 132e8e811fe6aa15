-- Whether a row is worth the tuple of another.
use Rattle.std.specs.Prelude.{ℕ, Bool, List, map}
use Rattle.ct_word.specs.declared.values.CRow.{CRow}
use Rattle.ct_word.specs.Value.{World, same_tuple, tuple_at}
use Rattle.ct_word.specs.Reading.{term_at}
use Rattle.ct_query.specs.Database.{has_tuple}
use Rattle.ct_operators.specs.Tables.{value_of_rows}

-- whether two lists of cells are worth the same
abbrev pub same_worth : List ℕ → List ℕ → List ℕ → World → Bool
same_worth words ps qs v = same_tuple (tuple_at v (map (term_at words) ps)) (tuple_at v (map (term_at words) qs))

-- whether what these cells are worth is a tuple of these rows
abbrev pub is_among : List ℕ → List CRow → List ℕ → World → Bool
is_among words rs cells v = has_tuple (value_of_rows words v rs) (tuple_at v (map (term_at words) cells))
