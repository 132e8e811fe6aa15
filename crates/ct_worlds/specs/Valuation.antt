-- The values of a world, found by nulls.
use Rattle.std.specs.Prelude.{◌≡◌, ℕ, List, [], Option, Some, None, All, IfSome, slice_get}
use Rattle.std.specs.Map.{lookup}
use Rattle.ct_word.specs.declared.values.Value.{Value}
use Rattle.ct_word.specs.declared.values.Null.{Null}
use Rattle.ct_word.specs.declared.values.Term.{Term}
use Rattle.ct_word.specs.declared.values.Term.TheVariants as term
use Rattle.ct_word.specs.Reading.{term_at}
use Rattle.ct_word.specs.Value.{World, at, other_zero, same_null, value_of_null}
use Rattle.ct_worlds.specs.declared.valuation.Valuation.{Valuation}

-- a term is a value
abbrev pub IsConstant : Term → Type 0
IsConstant t = (x : Value) × (t ≡ term.Value x)

-- the value of a pair that may be there, or @0
abbrev pub value_in : Option (Null × Value) → Value
value_in None = other_zero
value_in (Some p) = p.1

-- the value of the pair with a number that may be there, or @0
abbrev pub value_with : World → Option ℕ → Value
value_with v None = other_zero
value_with v (Some k) = value_in (slice_get v k)

-- the term at a place has the value of the pair with a number, or @0 past the last one
abbrev pub IsRead : List ℕ → World → ℕ × ℕ → Type 0
IsRead words v r = value_in (slice_get v r.1) ≡ at v [] (term_at words r.0)

-- each that was noted is so
abbrev pub AreRead : List ℕ → World → List (Option (ℕ × ℕ)) → Type 0
AreRead words v reads = All (λ o. IfSome o (IsRead words v)) reads

-- what is kept for each null is the number of the pair with its value, or none, and then it is worth @0
abbrev pub AreNumbers : World → World → List (Null × ℕ) → Type 0
AreNumbers listed v numbers = (n : Null) → value_with listed (lookup (same_null n) numbers) ≡ value_of_null v n

-- each null has its value
pub record IsValuation (v : Valuation) : Type 0 where
  pub numbers : AreNumbers v.listed.now v.listed.now v.numbers.entries
  pub zero : v.zero ≡ other_zero
