-- The nulls that are listed with conjuncts.
use Rattle.std.specs.Prelude.{◌≡◌, ◌<◌, ℕ, Bool, true, false, List, ◌++◌, Option, Some, None, length, slice_index_or, Contains, IsTrue}
use Rattle.ct_word.specs.declared.kinds.Class.TheVariants as class
use Rattle.ct_word.specs.declared.kinds.Kind.{Kind}
use Rattle.ct_word.specs.declared.kinds.Kind.TheVariants as kind
use Rattle.ct_word.specs.declared.values.Null.{Null}
use Rattle.ct_word.specs.declared.values.Term.TheVariants as term
use Rattle.ct_word.specs.Reading.{term_at}
use Rattle.ct_word.specs.Stands.{TermBelow}
use Rattle.ct_word.specs.WellFormed.{is_place_of}
use Rattle.ct_word.specs.Word.{kind_of}
use Rattle.ct_near.specs.declared.index.Entry.{Entry}
use Rattle.ct_worlds.specs.Nulls.{IsNullAt}
use Rattle.ct_worlds.specs.Shape.{shape_at, terms_of}

-- whether a kind is one of nulls
abbrev pub is_null_kind : Option Kind → Bool
is_null_kind (Some kind.NamedNull) = true
is_null_kind (Some kind.FreshNull) = true
is_null_kind _ = false

-- whether this is a word of a null
abbrev pub is_null_word : Option ℕ → Bool
is_null_word None = false
is_null_word (Some w) = is_null_kind (kind_of w)

-- a null is listed with the conjunct of a number, by its place
pub record IsListed (words : List ℕ) (entries : List Entry) (number : ℕ) (n : Null) : Type 0 where
  pub entry : Entry
  pub among : Contains entries entry
  pub conjunct : entry.conjunct ≡ number
  pub placed : IsTrue (is_place_of words class.Term entry.null)
  pub null : term_at words entry.null ≡ term.Null n

-- the null at a place is listed with a conjunct, if there is one
abbrev pub ListsNull : List ℕ → List Entry → ℕ → ℕ → Type 0
ListsNull words entries number place = (n : Null) → term_at words place ≡ term.Null n → IsListed words entries number n

-- so are those of the equality at a place
abbrev pub Lists : List ℕ → List Entry → ℕ → ℕ → Type 0
Lists words entries number place = (q : ℕ) → Contains (terms_of (shape_at words place)) q → ListsNull words entries number q

-- an entry of a conjunct, for the null at one of these places
pub record IsEntryAmong (words : List ℕ) (number : ℕ) (among : ℕ → Type 0) (e : Entry) : Type 0 where
  pub conjunct : e.conjunct ≡ number
  pub of : among e.null
  pub null : Null
  pub there : IsNullAt words null e.null

-- entries were put behind others, and this holds of each new one
pub record Extends (P : Entry → Type 0) (old new : List Entry) : Type 0 where
  pub more : List Entry
  pub is : new ≡ old ++ more
  pub each : (e : Entry) → Contains more e → P e

-- an entry is of a null below its conjunct
pub record IsEntryOf (words places : List ℕ) (e : Entry) : Type 0 where
  pub conjunct : e.conjunct < length places
  pub null : Null
  pub there : IsNullAt words null e.null
  pub below : TermBelow words (slice_index_or places e.conjunct 0) (term.Null null)
