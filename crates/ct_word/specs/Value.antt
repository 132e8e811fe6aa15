-- Values, nulls and terms, and what stands for a term under a valuation.
use Rattle.std.specs.Prelude.{ℕ, slice_index_or, Bool, false, ◌&&◌, List, [], ◌∷◌, map, nat_eq, if◌then◌else◌}
use Rattle.std.specs.Ordering.{int_eq}
use Rattle.std.specs.Cmp.Lexicographic.{pointwise}
use Rattle.ct_word.specs.declared.values.Value.{Value}
use Rattle.ct_word.specs.declared.values.Value.TheVariants as val
use Rattle.ct_word.specs.declared.values.Null.{Null}
use Rattle.ct_word.specs.declared.values.Null.TheVariants as null
use Rattle.ct_word.specs.declared.values.Term.{Term}
use Rattle.ct_word.specs.declared.values.Term.TheVariants as term

-- a valuation: the value of each listed null
abbrev pub World : Type 0
World = List (Null × Value)

-- whether two texts are written alike
abbrev pub same_text : List ℕ → List ℕ → Bool
same_text a b = pointwise nat_eq a b

-- whether two values are written alike
abbrev pub same_value : Value → Value → Bool
same_value (val.Int a) (val.Int b) = int_eq a b
same_value (val.Text a) (val.Text b) = same_text a b
same_value (val.Other a) (val.Other b) = nat_eq a b
same_value _ _ = false

-- whether two nulls are written alike
abbrev pub same_null : Null → Null → Bool
same_null (null.Named a) (null.Named b) = same_text a b
same_null (null.Fresh s m) (null.Fresh t n) = nat_eq s t && nat_eq m n
same_null _ _ = false

-- whether two terms are written alike
abbrev pub same_term : Term → Term → Bool
same_term (term.Column j) (term.Column k) = nat_eq j k
same_term (term.Null m) (term.Null n) = same_null m n
same_term (term.Value x) (term.Value y) = same_value x y
same_term _ _ = false

-- whether two lists of cells are written alike
abbrev pub same_cells : List Term → List Term → Bool
same_cells a b = pointwise same_term a b

-- whether two tuples are the same
abbrev pub same_tuple : List Value → List Value → Bool
same_tuple a b = pointwise same_value a b

-- the value @0, which stands for what is not listed
abbrev pub other_zero : Value
other_zero = val.Other 0

-- the value of the first pair with the null, or @0
abbrev pub value_of_null : World → Null → Value
value_of_null [] n = other_zero
value_of_null (p ∷ v) n = if same_null p.0 n then p.1 else value_of_null v n

-- the row's value at a position, or @0 past its end
abbrev pub cell_at : List Value → ℕ → Value
cell_at row k = slice_index_or row k other_zero

-- what stands for a term under a valuation and a row
abbrev pub at : World → List Value → Term → Value
at v row (term.Column k) = cell_at row k
at v row (term.Null n) = value_of_null v n
at v row (term.Value x) = x

-- the tuple that cells without columns stand for
abbrev pub tuple_at : World → List Term → List Value
tuple_at v cells = map (at v []) cells
