-- Updates: tuples and cells with sets made on them, all from the old ones.
use Rattle.std.specs.Prelude.{ℕ, List, [], ◌∷◌, map, flat_map, set, slice_index_or, if◌then◌else◌}
use Rattle.ct_word.specs.declared.values.Value.{Value}
use Rattle.ct_word.specs.declared.values.Term.{Term}
use Rattle.ct_word.specs.declared.values.Term.TheVariants as term
use Rattle.ct_word.specs.Value.{World, at}
use Rattle.ct_word.specs.Condition.{Condition, holds}

-- a list with items put at positions, one after another; a position past its end is left out
abbrev pub with_items : {A : Type 0} → List (ℕ × A) → List A → List A
with_items [] xs = xs
with_items (s ∷ ss) xs = with_items ss (set xs s.0 s.1)

-- the sets of an update: positions, each with the term that it gets
abbrev pub Sets : Type 0
Sets = List (ℕ × Term)

-- the tuple in which each set position has the value of its term on the old one
abbrev pub updated_tuple : World → Sets → List Value → List Value
updated_tuple v sets t = with_items (map (λ s. (s.0, at v t s.1)) sets) t

-- the tuples, each for which a condition holds with the sets made on it
abbrev pub updated : World → Condition → Sets → List (List Value) → List (List Value)
updated v c sets tuples = map (λ t. if holds v t c then updated_tuple v sets t else t) tuples

-- the cell that stands for a term: that of its column, or the term itself where it is none of these columns
abbrev pub cell_on : List Term → Term → Term
cell_on cells (term.Column k) = slice_index_or cells k (term.Column k)
cell_on cells t = t

-- the cells with the sets made on them
abbrev pub updated_cells : Sets → List Term → List Term
updated_cells sets cells = with_items (map (λ s. (s.0, cell_on cells s.1)) sets) cells

-- after each cell list the one with the sets
abbrev pub with_updated : Sets → List (List Term) → List (List Term)
with_updated sets lists = flat_map (λ cells. cells ∷ updated_cells sets cells ∷ []) lists
