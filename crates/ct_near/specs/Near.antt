-- Worlds that are made near a known one.
pub use Rattle.ct_worlds.specs.Repaired.{IsNullNear}
use Rattle.std.specs.Prelude.{◌≡◌, ◌⊎◌, ◌<◌, ◌^◌, ℕ, true, false, not, List, ◌++◌, filter, map, Contains, IsTrue}
use Rattle.std.specs.List.{AllByRecursion, IsDistinct}
use Rattle.ct_word.specs.declared.kinds.Class.TheVariants as class
use Rattle.ct_word.specs.declared.values.Null.{Null}
use Rattle.ct_word.specs.declared.values.Term.TheVariants as term
use Rattle.ct_word.specs.declared.values.Value.TheVariants as val
use Rattle.ct_word.specs.Condition.{holds_at}
use Rattle.ct_word.specs.Reading.{condition_at}
use Rattle.ct_word.specs.Stands.{TermBelow}
use Rattle.ct_word.specs.Value.{World, same_null}
use Rattle.ct_word.specs.WellFormed.{is_place_of}
use Rattle.ct_worlds.specs.Below.{AreBelow}
use Rattle.ct_worlds.specs.Nulls.{AreNullsBelow, IsNullBelow, has_null, part_of}
use Rattle.ct_worlds.specs.Repaired.{Each, IsMade, IsValueOf}
use Rattle.ct_near.specs.declared.index.Conjuncts.{Conjuncts}
use Rattle.ct_near.specs.declared.scope.Scope.{Scope}
use Rattle.ct_near.specs.Related.{IsReachedNull, IsRelated}

-- the pairs of a world with other nulls than these
abbrev pub rest_of : List Null → World → World
rest_of ns v = filter (λ p. not (has_null ns p.0)) v

-- a world in which these nulls have the values of another one
abbrev pub laid_over : List Null → World → World → World
laid_over ns v w = rest_of ns v ++ part_of ns w

-- a world at which the conditions hold, with values of the old one, constants below the conditions and values `@k`, and nulls of the old one or below the conditions, of which none stands twice if none does in the old one
pub record IsRepairedNear (words places : List ℕ) (old new : World) : Type 0 where
  pub holds : (c : ℕ) → Contains places c → holds_at new (condition_at words c) ≡ true
  pub values : AllByRecursion (λ p. IsMade words places old p.1) new
  pub nulls : AllByRecursion (λ p. IsNullNear words places old p.0) new
  pub once : IsDistinct same_null (map (λ p. p.0) old) → IsDistinct same_null (map (λ p. p.0) new)

-- a world at which the conditions hold, with values of a found world and of the old one, and such nulls, of which none stands twice if none does in these two
pub record IsJoinedNear (words places : List ℕ) (found old new : World) : Type 0 where
  pub holds : (c : ℕ) → Contains places c → holds_at new (condition_at words c) ≡ true
  pub values : AllByRecursion (λ p. IsValueOf found p.1 ⊎ IsValueOf old p.1) new
  pub nulls : AllByRecursion (λ p. IsNullNear words places old p.0) new
  pub once : IsDistinct same_null (map (λ p. p.0) found) → IsDistinct same_null (map (λ p. p.0) old) → IsDistinct same_null (map (λ p. p.0) new)

-- the nulls that are reached from further conditions, and no others, have the values of another world in the place of those of the old one
pub record IsLaidOver (words : List ℕ) (root : ℕ) (own : List ℕ) (made old new : World) : Type 0 where
  pub nulls : List Null
  pub reached : (n : Null) → IsTrue (has_null nulls n) → IsReachedNull words root own n
  pub all : (n : Null) → IsReachedNull words root own n → IsTrue (has_null nulls n)
  pub pairs : new ≡ laid_over nulls old made

-- a world that differs from the old one at the nulls that are reached from further conditions alone
pub record IsOldElsewhere (words : List ℕ) (root : ℕ) (own : List ℕ) (old new : World) : Type 0 where
  pub made : World
  pub laid : IsLaidOver words root own made old new

-- a number is greater than k for each value `@k` of the world with k below 2^28
abbrev pub IsPastOthers : World → ℕ → Type 0
IsPastOthers v next = (k : ℕ) → k < 2 ^ 28 → IsValueOf v (val.Other k) → k < next

-- conditions with what stands below them
pub record IsScope (words : List ℕ) (s : Scope) : Type 0 where
  pub conditions : (p : ℕ) → Contains s.conditions.items p → is_place_of words class.Cond p ≡ true
  pub places : AreBelow words s.conditions.items s.places.items
  pub nulls : AreNullsBelow words s.places.items s.nulls
  pub each : (n : Null) → IsTrue (has_null s.nulls.listed.keys n) → IsNullBelow words s.places.items n

-- none of these nulls stands below a condition
abbrev pub HasNone : List ℕ → List Null → ℕ → Type 0
HasNone words ns p = (n : Null) → TermBelow words p (term.Null n) → has_null ns n ≡ false

-- further conditions and the conjuncts that share nulls with them, where the others have none of their nulls
pub record IsScopeOf (words : List ℕ) (root : ℕ) (c : Conjuncts) (own : List ℕ) (s : Scope) : Type 0 where
  pub is : IsScope words s
  pub ours : (p : ℕ) → Contains own p → Contains s.conditions.items p
  pub only : (p : ℕ) → Contains s.conditions.items p → IsRelated words root own p ⊎ Contains own p
  pub others : (p : ℕ) → Contains c.places.items p → Contains s.conditions.items p ⊎ HasNone words s.nulls.listed.keys p

-- the conditions of a scope hold in a world
abbrev pub HoldAll : List ℕ → Scope → World → Type 0
HoldAll words s v = Each (λ p. holds_at v (condition_at words p) ≡ true) s.conditions.items

-- further conditions hold in a world, and so do the conjuncts that share nulls with them, or with another such conjunct
abbrev pub FitsIn : List ℕ → ℕ → List ℕ → World → Type 0
FitsIn words root own v = (p : ℕ) → IsRelated words root own p ⊎ Contains own p → holds_at v (condition_at words p) ≡ true

-- conditions hold in a world, and its pairs with the nulls below them stand behind others
pub record IsLaid (words : List ℕ) (s : Scope) (rest made new : World) : Type 0 where
  pub holds : HoldAll words s made
  pub pairs : new ≡ rest ++ part_of s.nulls.listed.keys made
