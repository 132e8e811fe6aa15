-- The tuples that rows are worth at every valuation, as their words tell.
use Rattle.std.specs.Prelude.{ℕ, Bool, true, false, ◌&&◌, nat_eq, List, [], map, filter}
use Rattle.std.specs.List.{list_all}
use Rattle.ct_word.specs.declared.values.Value.{Value}
use Rattle.ct_word.specs.declared.values.Term.{Term}
use Rattle.ct_word.specs.declared.values.Term.TheVariants as term
use Rattle.ct_word.specs.declared.values.CRow.{CRow}
use Rattle.ct_word.specs.Value.{tuple_at}
use Rattle.ct_word.specs.Reading.{term_at}

-- whether a term is a constant
abbrev pub is_constant : Term → Bool
is_constant (term.Value _) = true
is_constant _ = false

-- whether the term at each place is
abbrev pub are_constants : List ℕ → List ℕ → Bool
are_constants words cells = list_all (λ p. is_constant (term_at words p)) cells

-- whether the condition of a row is the word true, and its cells are constants
abbrev pub is_sure : List ℕ → CRow → Bool
is_sure words r = nat_eq r.cond 0 && are_constants words r.cells

-- the constants of such rows
abbrev pub sure_of : List ℕ → List CRow → List (List Value)
sure_of words rs = map (λ r. tuple_at [] (map (term_at words) r.cells)) (filter (is_sure words) rs)
