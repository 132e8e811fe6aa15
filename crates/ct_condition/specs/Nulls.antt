-- The nulls of a world by what the words of a log say of them, and the numbers of their pairs.
use Rattle.std.specs.Prelude.{◌≡◌, ℕ, suc, ◌+◌, Bool, ◌&&◌, List, [], ◌∷◌, length, Option, Some, None, nat_eq, option_map, position, slice_get, if◌then◌else◌}
use Rattle.std.specs.Map.{lookup}
use Rattle.ct_word.specs.declared.values.Value.{Value}
use Rattle.ct_word.specs.declared.values.Null.{Null}
use Rattle.ct_word.specs.declared.values.Null.TheVariants as null
use Rattle.ct_word.specs.Value.{World, same_null, other_zero}
use Rattle.ct_word.specs.WordAt.{backwards}

-- whether two pairs of numbers are the same
abbrev pub same_pair : ℕ × ℕ → ℕ × ℕ → Bool
same_pair a b = nat_eq a.0 b.0 && nat_eq a.1 b.1

-- the number of a beginning with one more character: one more than the place of this step
abbrev pub longer : List (ℕ × ℕ) → Option ℕ → ℕ → Option ℕ
longer steps None c = None
longer steps (Some k) c = option_map suc (position (same_pair (k, c)) steps)

-- the number of a beginning, given its characters from the last one on; that of the empty one is 0
abbrev pub beginning : List (ℕ × ℕ) → List ℕ → Option ℕ
beginning steps [] = Some 0
beginning steps (c ∷ cs) = longer steps (beginning steps cs) c

-- each beginning keeps its number
abbrev pub Grows : List (ℕ × ℕ) → List (ℕ × ℕ) → Type 0
Grows old new = (cs : List ℕ) (k : ℕ) → beginning old cs ≡ Some k → beginning new cs ≡ Some k

-- the mark of a null: 0 and the number of its name, or its session, one more, and its number there
abbrev pub HasMark : List (ℕ × ℕ) → Null → ℕ × ℕ → Type 0
HasMark steps (null.Named t) m = (m.0 ≡ 0) × (cs : List ℕ) × (t ≡ backwards cs) × (beginning steps cs ≡ Some m.1)
HasMark steps (null.Fresh s n) m = (m.0 ≡ s + 1) × (m.1 ≡ n)

-- what is kept for a mark
abbrev pub pair_with : List ((ℕ × ℕ) × ℕ) → ℕ → ℕ → Option ℕ
pair_with pairs a b = lookup (same_pair (a, b)) pairs

-- the number of the first pair with a null, where the first one of all has the number k
abbrev pub pair_from : ℕ → World → Null → Option ℕ
pair_from k [] n = None
pair_from k (p ∷ v) n = if same_null p.0 n then Some k else pair_from (suc k) v n

-- these are the marks of the nulls of a world, each with the number of the first pair with its null
pub record AreNulls (steps : List (ℕ × ℕ)) (pairs : List ((ℕ × ℕ) × ℕ)) (k : ℕ) (v : World) : Type 0 where
  pub sound : (m : ℕ × ℕ) (i : ℕ) → lookup (same_pair m) pairs ≡ Some i → (n : Null) × HasMark steps n m × (pair_from k v n ≡ Some i)
  pub complete : (n : Null) (i : ℕ) → pair_from k v n ≡ Some i → (m : ℕ × ℕ) × HasMark steps n m × (lookup (same_pair m) pairs ≡ Some i)

-- a number, or the one past the last pair
abbrev pub or_past : World → Option ℕ → ℕ
or_past v None = length v
or_past v (Some k) = k

-- the value of a pair that may be there, or @0
abbrev pub value_in : Option (Null × Value) → Value
value_in None = other_zero
value_in (Some p) = p.1

-- the value of the pair with a number, or @0 past the last one
abbrev pub value_with : World → ℕ → Value
value_with v k = value_in (slice_get v k)
