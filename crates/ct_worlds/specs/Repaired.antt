-- Worlds that are made from another so that conditions hold.
use Rattle.std.specs.Prelude.{◌≡◌, ◌⊎◌, ◌<◌, ◌≤◌, ◌^◌, ℕ, true, List, map, Contains, IsTrue}
use Rattle.std.specs.List.{AllByRecursion, IsDistinct}
use Rattle.ct_word.specs.declared.kinds.Class.TheVariants as class
use Rattle.ct_word.specs.declared.values.Null.{Null}
use Rattle.ct_word.specs.declared.values.Value.{Value}
use Rattle.ct_word.specs.declared.values.Value.TheVariants as val
use Rattle.ct_word.specs.declared.values.Term.{Term}
use Rattle.ct_word.specs.declared.values.Term.TheVariants as term
use Rattle.ct_word.specs.Condition.{holds_at}
use Rattle.ct_word.specs.Reading.{condition_at, term_at}
use Rattle.ct_word.specs.Stands.{Below, TermBelow}
use Rattle.ct_word.specs.Value.{World, other_zero, same_null}
use Rattle.ct_word.specs.WellFormed.{is_place_of}
use Rattle.ct_worlds.specs.declared.shape.Shape.TheVariants as shape
use Rattle.ct_worlds.specs.declared.wishing.Wish.{Wish}
use Rattle.ct_worlds.specs.Nulls.{IsNullBelow}
use Rattle.ct_worlds.specs.Shape.{shape_at}

-- a constant that stands below one of these places
pub record IsConstantBelow (words places : List ℕ) (x : Value) : Type 0 where
  pub root : ℕ
  pub among : Contains places root
  pub below : TermBelow words root (term.Value x)

-- one of the values `@k` with k below 2^28
pub record IsNumbered (x : Value) : Type 0 where
  pub number : ℕ
  pub short : number < 2 ^ 28
  pub value : x ≡ val.Other number

-- one of the values `@k` with k below 2^28, and not below next unless it is `@0`
pub record IsFrom (next : ℕ) (x : Value) : Type 0 where
  pub number : ℕ
  pub short : number < 2 ^ 28
  pub from : (number ≡ 0) ⊎ (next ≤ number)
  pub value : x ≡ val.Other number

-- a value of a world
abbrev pub IsValueOf : World → Value → Type 0
IsValueOf v x = Contains (map (λ p. p.1) v) x

-- a null of a world
abbrev pub IsNullOf : World → Null → Type 0
IsNullOf v n = Contains (map (λ p. p.0) v) n

-- a null of the world, or one that stands below one of the places
abbrev pub IsNullNear : List ℕ → List ℕ → World → Null → Type 0
IsNullNear words places v n = IsNullOf v n ⊎ IsNullBelow words places n

-- a value of the world, a constant that stands below one of the places, or `@k`
abbrev pub IsMade : List ℕ → List ℕ → World → Value → Type 0
IsMade words places v x = IsValueOf v x ⊎ (IsConstantBelow words places x ⊎ IsNumbered x)

-- a value of the world, a constant that stands below one of the places, `@0`, or `@k` from a number on
abbrev pub IsMadeFrom : List ℕ → List ℕ → ℕ → World → Value → Type 0
IsMadeFrom words places next v x = IsValueOf v x ⊎ (IsConstantBelow words places x ⊎ IsFrom next x)

-- a world at which the conditions hold, with values of the old one, constants below the conditions and values `@k`, nulls of the old one or below the conditions, and no null twice
pub record IsRepaired (words places : List ℕ) (old new : World) : Type 0 where
  pub holds : (c : ℕ) → Contains places c → holds_at new (condition_at words c) ≡ true
  pub values : AllByRecursion (λ p. IsMade words places old p.1) new
  pub nulls : AllByRecursion (λ p. IsNullNear words places old p.0) new
  pub once : IsDistinct same_null (map (λ p. p.0) new)

-- the equality at a place
abbrev pub IsWishAt : List ℕ → ℕ → Wish → Type 0
IsWishAt words place w = shape_at words place ≡ shape.Equal w.left w.right

-- the place of a term that stands below one of the places
pub record IsTermBelow (words places : List ℕ) (s : ℕ) : Type 0 where
  pub root : ℕ
  pub among : Contains places root
  pub below : Below words root s
  pub placed : IsTrue (is_place_of words class.Term s)

-- an equality between terms that stand below one of the places
abbrev pub IsWishBelow : List ℕ → List ℕ → Wish → Type 0
IsWishBelow words places w = IsTermBelow words places w.left × IsTermBelow words places w.right

-- an equality between terms
abbrev pub IsOverTerms : List ℕ → Wish → Type 0
IsOverTerms words w = IsTrue (is_place_of words class.Term w.left) × IsTrue (is_place_of words class.Term w.right)

-- a side of one of these equalities is this term
pub record IsSideOf (words : List ℕ) (wishes : List Wish) (t : Term) : Type 0 where
  pub wish : Wish
  pub among : Contains wishes wish
  pub is : (term_at words wish.left ≡ t) ⊎ (term_at words wish.right ≡ t)

-- such a null
abbrev pub IsNullSide : List ℕ → List Wish → Null → Type 0
IsNullSide words wishes n = IsSideOf words wishes (term.Null n)

-- such a constant, or `@0`
abbrev pub IsSide : List ℕ → List Wish → Value → Type 0
IsSide words wishes x = IsSideOf words wishes (term.Value x) ⊎ (x ≡ other_zero)

-- such a constant, or `@k` from a number on
abbrev pub IsOf : List ℕ → List Wish → ℕ → Value → Type 0
IsOf words wishes next x = IsSideOf words wishes (term.Value x) ⊎ IsFrom next x

-- the term at a place is this constant, or it is `@0`
abbrev pub IsAt : List ℕ → ℕ → Value → Type 0
IsAt words place x = (term_at words place ≡ term.Value x) ⊎ (x ≡ other_zero)

-- the term at a place is this null
abbrev pub IsNullTerm : List ℕ → ℕ → Null → Type 0
IsNullTerm words place n = term_at words place ≡ term.Null n

-- each of these
abbrev pub Each : {X : Type 0} → (X → Type 0) → List X → Type 0
Each {X} P xs = (x : X) → Contains xs x → P x

-- items were put to the old ones, of each of which this holds
abbrev pub Adds : {X : Type 0} → (X → Type 0) → List X → List X → Type 0
Adds {X} P old new = (x : X) → Contains new x → Contains old x ⊎ P x

-- a world with values of another one, constants of the equalities, `@0` and values `@k` from a number on, nulls of the other one or of the equalities, and no null twice
pub record IsDrawn (words : List ℕ) (wishes : List Wish) (next : ℕ) (old new : World) : Type 0 where
  pub values : Each (λ p. IsValueOf old p.1 ⊎ IsOf words wishes next p.1) new
  pub nulls : Each (λ p. IsNullOf old p.0 ⊎ IsNullSide words wishes p.0) new
  pub once : IsDistinct same_null (map (λ p. p.0) new)

-- a repaired world, whether or not the conditions hold in it: its values are old ones, constants below the places, `@0` and `@k` from a number on
pub record IsChanged (words places : List ℕ) (next : ℕ) (old new : World) : Type 0 where
  pub values : AllByRecursion (λ p. IsMadeFrom words places next old p.1) new
  pub nulls : AllByRecursion (λ p. IsNullNear words places old p.0) new
  pub once : IsDistinct same_null (map (λ p. p.0) new)
