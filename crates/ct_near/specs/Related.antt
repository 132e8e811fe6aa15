-- Which conjuncts share nulls with conditions, and how far the search for them has come.
use Rattle.std.specs.Prelude.{◌≡◌, ◌⊎◌, ◌<◌, ℕ, Bool, true, false, List, length, slice_index_or, Contains}
use Rattle.ct_word.specs.declared.values.Null.{Null}
use Rattle.ct_word.specs.declared.values.Term.TheVariants as term
use Rattle.ct_word.specs.Stands.{TermBelow}
use Rattle.ct_near.specs.declared.index.Entry.{Entry}
use Rattle.ct_near.specs.declared.relating.Reached.{Reached}
use Rattle.ct_near.specs.Conjuncts.{IsConjunct}
use Rattle.ct_worlds.specs.Below.{IsReached}
use Rattle.ct_worlds.specs.Shape.{shape_at, terms_of}

-- a null is reached from conditions: it stands below one of them, or below a conjunct with a null that is reached
pub data IsReachedNull (words : List ℕ) (root : ℕ) (own : List ℕ) : Null → Type 0 where
  ours : {n : Null} (p : ℕ) → Contains own p → TermBelow words p (term.Null n) → IsReachedNull words root own n
  theirs : {n : Null} (p : ℕ) (m : Null) → IsConjunct words root p → IsReachedNull words root own m → TermBelow words p (term.Null m) → TermBelow words p (term.Null n) → IsReachedNull words root own n

-- a conjunct shares a null with one of the conditions, or with another such conjunct
pub record IsRelated (words : List ℕ) (root : ℕ) (own : List ℕ) (p : ℕ) : Type 0 where
  pub conjunct : IsConjunct words root p
  pub null : Null
  pub reached : IsReachedNull words root own null
  pub below : TermBelow words p (term.Null null)

-- a conjunct is asked, by its number
abbrev pub IsAsked : Reached → ℕ → Type 0
IsAsked r k = slice_index_or r.is_asked.items k false ≡ true

-- conjuncts were reached of which this holds
pub record Reaches (P : ℕ → Type 0) (old new : Reached) : Type 0 where
  pub asked : (k : ℕ) → IsAsked new k → IsAsked old k ⊎ P k
  pub waiting : (k : ℕ) → Contains new.waiting.items k → Contains old.waiting.items k ⊎ P k
  pub room : length new.is_asked.items ≡ length old.is_asked.items

-- a conjunct has the null at a place
pub record HasEntry (entries : List Entry) (place k : ℕ) : Type 0 where
  pub entry : Entry
  pub among : Contains entries entry
  pub null : entry.null ≡ place
  pub conjunct : entry.conjunct ≡ k

-- a conjunct has a null of one of the conditions
pub record SharesOwn (words own : List ℕ) (entries : List Entry) (k : ℕ) : Type 0 where
  pub place : ℕ
  pub reached : IsReached words own place
  pub spot : ℕ
  pub named : Contains (terms_of (shape_at words place)) spot
  pub has : HasEntry entries spot k

-- a conjunct shares a null with another one
pub record SharesWith (entries : List Entry) (conjunct k : ℕ) : Type 0 where
  pub place : ℕ
  pub one : HasEntry entries place conjunct
  pub other : HasEntry entries place k

-- the conjunct of a number is one that shares nulls
pub record IsRelatedAt (words : List ℕ) (root : ℕ) (own places : List ℕ) (k : ℕ) : Type 0 where
  pub within : k < length places
  pub is : IsRelated words root own (slice_index_or places k 0)

-- so are those that were reached
pub record AreRelated (words : List ℕ) (root : ℕ) (own places : List ℕ) (r : Reached) : Type 0 where
  pub asked : (k : ℕ) → IsAsked r k → IsRelatedAt words root own places k
  pub waiting : (k : ℕ) → Contains r.waiting.items k → IsRelatedAt words root own places k

-- each conjunct with a flag is one
abbrev pub AreFlagged : List ℕ → ℕ → List ℕ → List ℕ → List Bool → Type 0
AreFlagged words root own places flags = (k : ℕ) → slice_index_or flags k false ≡ true → IsRelatedAt words root own places k
