-- A world put into order.
use Rattle.std.specs.Prelude.{◌≡◌, Bool, false, not, List, [], ◌∷◌, Option, Some, None, if◌then◌else◌}
use Rattle.std.specs.declared.cmp.Ordering.{Ordering}
use Rattle.std.specs.declared.cmp.Ordering.TheVariants.{Less, Equal, Greater}
use Rattle.std.specs.List.{list_all}
use Rattle.std.specs.Map.{lookup}
use Rattle.std.specs.Ordering.{is_eq}
use Rattle.ct_word.specs.declared.values.Value.{Value}
use Rattle.ct_word.specs.declared.values.Null.{Null}
use Rattle.ct_word.specs.Value.{World, same_null, same_value, other_zero, value_of_null}
use Rattle.ct_rewrite.specs.Order.{null_order}
use Rattle.ct_rewrite.specs.Tidy.{null_before}

-- the value of the first pair with a null, none where there is none
abbrev pub listed : World → Null → Option Value
listed [] n = None
listed (p ∷ v) n = if same_null p.0 n then Some p.1 else listed v n

-- the entries of a map have the values that a world lists
abbrev pub IsMapOf : World → World → Type 0
IsMapOf entries v = (n : Null) → lookup (same_null n) entries ≡ listed v n

-- one of three, by an order
abbrev pub by_order : {X : Type 0} → Ordering → X → X → X → X
by_order Less a b c = a
by_order Equal a b c = b
by_order Greater a b c = c

-- whether no null of these pairs comes after another
abbrev pub are_up_to : World → Null → Bool
are_up_to v n = list_all (λ p. not (null_before n p.0)) v

-- whether the last pair has a null
abbrev pub ends_with : World → Null → Bool
ends_with [] n = false
ends_with (p ∷ []) n = is_eq (null_order p.0 n)
ends_with (p ∷ q ∷ v) n = ends_with (q ∷ v) n

-- the pairs with one more, where its null belongs; a null that is there already keeps its value
abbrev pub put : World → Null → Value → World
put [] n x = (n, x) ∷ []
put (p ∷ v) n x = by_order (null_order n p.0) ((n, x) ∷ p ∷ v) (p ∷ v) (p ∷ put v n x)

-- the pairs with a null as another world has it, which is left out where its value is @0
abbrev pub with_null : World → World → Null → World
with_null world out n = if same_value (value_of_null world n) other_zero then out else put out n (value_of_null world n)

-- the pairs with these nulls as another world has them
abbrev pub with_nulls : World → World → List Null → World
with_nulls world out [] = out
with_nulls world out (n ∷ ns) = with_nulls world (with_null world out n) ns
