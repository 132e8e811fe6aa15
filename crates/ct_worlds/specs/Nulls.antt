-- The nulls below conditions, and the parts of a world by them.
use Rattle.std.specs.Prelude.{◌≡◌, ◌⊎◌, ℕ, Bool, List, filter, IsTrue, Contains}
use Rattle.std.specs.List.{list_any}
use Rattle.ct_word.specs.declared.kinds.Class.TheVariants as class
use Rattle.ct_word.specs.declared.values.Null.{Null}
use Rattle.ct_word.specs.declared.values.Term.TheVariants as term
use Rattle.ct_word.specs.Reading.{term_at}
use Rattle.ct_word.specs.Stands.{TermBelow}
use Rattle.ct_word.specs.Value.{World, same_null}
use Rattle.ct_word.specs.WellFormed.{is_place_of}
use Rattle.ct_worlds.specs.declared.nulls.Nulls.{Nulls}
use Rattle.ct_worlds.specs.Gathering.{has}
use Rattle.ct_worlds.specs.Shape.{shape_at, terms_of}

-- whether a null is one of these
abbrev pub has_null : List Null → Null → Bool
has_null ns n = list_any (same_null n) ns

-- a place of a term that is a null
pub record IsNullAt (words : List ℕ) (n : Null) (q : ℕ) : Type 0 where
  pub placed : IsTrue (is_place_of words class.Term q)
  pub null : term_at words q ≡ term.Null n

-- each null has a place, and each place of one has it
pub record AreNulls (words : List ℕ) (nulls : Nulls) : Type 0 where
  pub each : (n : Null) → IsTrue (has_null nulls.listed.keys n) → (q : ℕ) × IsTrue (has nulls.places q) × IsNullAt words n q
  pub all : (q : ℕ) (n : Null) → IsTrue (has nulls.places q) → IsNullAt words n q → IsTrue (has_null nulls.listed.keys n)

-- no null was lost
abbrev pub KeepsNulls : Nulls → Nulls → Type 0
KeepsNulls old new = (n : Null) → IsTrue (has_null old.listed.keys n) → IsTrue (has_null new.listed.keys n)

-- each null was there, or is such a one
abbrev pub AddsNulls : (Null → Type 0) → Nulls → Nulls → Type 0
AddsNulls P old new = (n : Null) → IsTrue (has_null new.listed.keys n) → IsTrue (has_null old.listed.keys n) ⊎ P n

-- the null at a place is among them, if there is one
abbrev pub HasNulls : List ℕ → ℕ → Nulls → Type 0
HasNulls words place nulls = (n : Null) → term_at words place ≡ term.Null n → IsTrue (has_null nulls.listed.keys n)

-- so are those of the equality at a place
abbrev pub HasTerms : List ℕ → ℕ → Nulls → Type 0
HasTerms words place nulls = (q : ℕ) → Contains (terms_of (shape_at words place)) q → HasNulls words q nulls

-- and those below places
abbrev pub AreNullsBelow : List ℕ → List ℕ → Nulls → Type 0
AreNullsBelow words places nulls = (p : ℕ) (n : Null) → Contains places p → TermBelow words p (term.Null n) → IsTrue (has_null nulls.listed.keys n)

-- a null that stands below one of these places
pub record IsNullBelow (words places : List ℕ) (n : Null) : Type 0 where
  pub root : ℕ
  pub among : Contains places root
  pub below : TermBelow words root (term.Null n)

-- the pairs of a world with these nulls
abbrev pub part_of : List Null → World → World
part_of ns v = filter (λ p. has_null ns p.0) v
