-- The order of terms in the printed form.
use Rattle.std.specs.Prelude.{ℕ, ◌&&◌, ◌||◌, Bool, false, nat_eq, nat_lt, int_lt}
use Rattle.std.specs.declared.cmp.Ordering.{Ordering}
use Rattle.std.specs.Ordering.{nat_cmp, int_cmp, is_lt, on, ordering_then}
use Rattle.std.specs.Cmp.Lexicographic.{slice_cmp}
use Rattle.ct_word.specs.declared.values.Value.{Value}
use Rattle.ct_word.specs.declared.values.Value.TheVariants as val
use Rattle.ct_word.specs.declared.values.Null.{Null}
use Rattle.ct_word.specs.declared.values.Null.TheVariants as null
use Rattle.ct_word.specs.declared.values.Term.{Term}
use Rattle.ct_word.specs.declared.values.Term.TheVariants as term

-- numbers, then texts, then other values
abbrev pub value_class : Value → ℕ
value_class (val.Int i) = 0
value_class (val.Text t) = 1
value_class (val.Other k) = 2

-- numbers and other values by number, texts by their bytes
abbrev pub value_order : Value → Value → Ordering
value_order (val.Int i) (val.Int j) = int_cmp i j
value_order (val.Text t) (val.Text u) = slice_cmp nat_cmp t u
value_order (val.Other j) (val.Other k) = nat_cmp j k
value_order x y = on value_class nat_cmp x y

-- named nulls, then fresh ones
abbrev pub null_class : Null → ℕ
null_class (null.Named t) = 0
null_class (null.Fresh s n) = 1

-- named nulls by the bytes of their names, fresh ones by session and then number
abbrev pub null_order : Null → Null → Ordering
null_order (null.Named t) (null.Named u) = slice_cmp nat_cmp t u
null_order (null.Fresh s m) (null.Fresh t n) = ordering_then (nat_cmp s t) (nat_cmp m n)
null_order m n = on null_class nat_cmp m n

-- columns, then nulls, then values
abbrev pub term_class : Term → ℕ
term_class (term.Column k) = 0
term_class (term.Null n) = 1
term_class (term.Value x) = 2

-- columns by position, nulls and values by their own orders
abbrev pub term_order : Term → Term → Ordering
term_order (term.Column j) (term.Column k) = nat_cmp j k
term_order (term.Null m) (term.Null n) = null_order m n
term_order (term.Value x) (term.Value y) = value_order x y
term_order s t = on term_class nat_cmp s t

-- the kinds: columns, named nulls, fresh nulls, numbers, texts, other values
abbrev pub kind_of : Term → ℕ
kind_of (term.Column k) = 0
kind_of (term.Null (null.Named t)) = 1
kind_of (term.Null (null.Fresh s n)) = 2
kind_of (term.Value (val.Int i)) = 3
kind_of (term.Value (val.Text t)) = 4
kind_of (term.Value (val.Other k)) = 5

-- in one kind: columns by position, named nulls and texts by their bytes, fresh nulls by session and then number, the others by number
abbrev pub is_before_in_kind : Term → Term → Bool
is_before_in_kind (term.Column j) (term.Column k) = nat_lt j k
is_before_in_kind (term.Null (null.Named t)) (term.Null (null.Named u)) = is_lt (slice_cmp nat_cmp t u)
is_before_in_kind (term.Null (null.Fresh s m)) (term.Null (null.Fresh t n)) = nat_lt s t || (nat_eq s t && nat_lt m n)
is_before_in_kind (term.Value (val.Int i)) (term.Value (val.Int j)) = int_lt i j
is_before_in_kind (term.Value (val.Text t)) (term.Value (val.Text u)) = is_lt (slice_cmp nat_cmp t u)
is_before_in_kind (term.Value (val.Other j)) (term.Value (val.Other k)) = nat_lt j k
is_before_in_kind _ _ = false

-- whether a term is smaller than another: of an earlier kind, or before it in their kind
abbrev pub is_before : Term → Term → Bool
is_before s t = nat_lt (kind_of s) (kind_of t) || (nat_eq (kind_of s) (kind_of t) && is_before_in_kind s t)
