-- The conjuncts of a condition, and which nulls stand below each.
use Rattle.std.specs.Prelude.{◌≡◌, ◌≢◌, ◌⊎◌, ◌<◌, ℕ, Bool, true, false, not, ◌||◌, List, [], ◌∷◌, ◌++◌, length, nat_eq, slice_index_or, Contains}
use Rattle.std.specs.List.{IsDistinct}
use Rattle.ct_word.specs.declared.connectives.Connective.TheVariants as connective
use Rattle.ct_word.specs.declared.kinds.Class.TheVariants as class
use Rattle.ct_word.specs.declared.values.Null.{Null}
use Rattle.ct_word.specs.declared.values.Term.TheVariants as term
use Rattle.ct_word.specs.Condition.{holds_at}
use Rattle.ct_word.specs.Reading.{condition_at}
use Rattle.ct_word.specs.Stands.{TermBelow}
use Rattle.ct_word.specs.Value.{World}
use Rattle.ct_word.specs.WellFormed.{is_place_of}
use Rattle.ct_near.specs.declared.index.Conjuncts.{Conjuncts}
use Rattle.ct_near.specs.declared.index.Entry.{Entry}
use Rattle.ct_near.specs.Entries.{IsEntryOf, IsListed}
use Rattle.ct_worlds.specs.declared.shape.Shape.TheVariants as shape
use Rattle.ct_worlds.specs.Shape.{shape_at}
use Rattle.ct_worlds.specs.declared.nulls.Nulls.{Nulls}
use Rattle.ct_worlds.specs.Gathering.{has}

-- the word at a place is the And of two places
abbrev pub IsAnd : List ℕ → ℕ → ℕ → ℕ → Type 0
IsAnd words p a b = shape_at words p ≡ shape.Joined connective.And a b

-- a place is the root, or is led to from it by words of ANDs alone
pub data IsInRun (words : List ℕ) (root : ℕ) : ℕ → Type 0 where
  first : IsInRun words root root
  part : {p q : ℕ} (a b : ℕ) → IsInRun words root p → IsAnd words p a b → (q ≡ a) ⊎ (q ≡ b) → IsInRun words root q

-- no And stands at a place
abbrev pub IsNoAnd : List ℕ → ℕ → Type 0
IsNoAnd words p = (a b : ℕ) → IsAnd words p a b → ⊥

-- a conjunct of the root: an end of its run
pub record IsConjunct (words : List ℕ) (root p : ℕ) : Type 0 where
  pub run : IsInRun words root p
  pub end : IsNoAnd words p

-- a place is the root, or is led to from it by words of ANDs alone, none of which is the one at a place
pub data IsInRunBeside (words : List ℕ) (root one : ℕ) : ℕ → Type 0 where
  top : IsInRunBeside words root one root
  side : {p q : ℕ} (a b : ℕ) → IsInRunBeside words root one p → p ≢ one → IsAnd words p a b → (q ≡ a) ⊎ (q ≡ b) → IsInRunBeside words root one q

-- another end of the run that is not followed into one of its conditions
pub record IsOther (words : List ℕ) (root one p : ℕ) : Type 0 where
  pub run : IsInRunBeside words root one p
  pub end : IsNoAnd words p
  pub apart : p ≢ one

-- an And of the run
pub record IsAndInRun (words : List ℕ) (root p : ℕ) : Type 0 where
  pub run : IsInRun words root p
  pub left : ℕ
  pub right : ℕ
  pub is : IsAnd words p left right

-- one of these ANDs names a place
pub record IsNamed (words ands : List ℕ) (p : ℕ) : Type 0 where
  pub and : ℕ
  pub among : Contains ands and
  pub left : ℕ
  pub right : ℕ
  pub is : IsAnd words and left right
  pub of : (p ≡ left) ⊎ (p ≡ right)

-- ANDs, each of which but the root comes after one that names it
pub data AreTopDown (words : List ℕ) (root : ℕ) : List ℕ → Type 0 where
  none : AreTopDown words root []
  more : {ands : List ℕ} (before : List ℕ) (p : ℕ) → ands ≡ before ++ p ∷ [] → AreTopDown words root before → (p ≡ root) ⊎ IsNamed words before p → AreTopDown words root ands

-- the condition holds where those at these places do
abbrev pub IsImpliedBy : List ℕ → ℕ → List ℕ → Type 0
IsImpliedBy words root places = (v : World) → ((p : ℕ) → Contains places p → holds_at v (condition_at words p) ≡ true) → holds_at v (condition_at words root) ≡ true

-- with each of these conditions the nulls below it are listed, by its number
abbrev pub AreIndexed : List ℕ → List ℕ → List Entry → Type 0
AreIndexed words places entries = (number : ℕ) (n : Null) → number < length places → TermBelow words (slice_index_or places number 0) (term.Null n) → IsListed words entries number n

-- the conjuncts of the condition at a place: it holds where they all do; they are exactly the ends of its run, and the others there are its ANDs; with each are listed exactly the nulls below it; no place stands twice, and each And but the root comes after one that names it
pub record AreConjuncts (words : List ℕ) (root : ℕ) (c : Conjuncts) : Type 0 where
  pub condition : is_place_of words class.Cond root ≡ true
  pub enough : IsImpliedBy words root c.places.items
  pub each : (p : ℕ) → Contains c.places.items p → IsInRun words root p
  pub ends : (p : ℕ) → Contains c.places.items p → IsNoAnd words p
  pub ands : (p : ℕ) → Contains c.ands.items p → IsAndInRun words root p
  pub all : (p : ℕ) → IsInRun words root p → Contains c.places.items p ⊎ Contains c.ands.items p
  pub nulls : AreIndexed words c.places.items c.index.entries.items
  pub only : (e : Entry) → Contains c.index.entries.items e → IsEntryOf words c.places.items e
  pub places_once : IsDistinct nat_eq c.places.items
  pub ands_once : IsDistinct nat_eq c.ands.items
  pub ands_order : AreTopDown words root c.ands.items

-- the other parts of a run beside one of its conditions, into which the run is not followed: with it they are enough, and they are all
pub record AreBeside (words : List ℕ) (root one : ℕ) (others : List ℕ) : Type 0 where
  pub enough : (v : World) → holds_at v (condition_at words one) ≡ true → ((p : ℕ) → Contains others p → holds_at v (condition_at words p) ≡ true)
      → holds_at v (condition_at words root) ≡ true
  pub run : IsInRun words root one
  pub each : (p : ℕ) → Contains others p → IsInRun words root p
  pub are : (p : ℕ) → Contains others p → IsOther words root one p
  pub all : (p : ℕ) → IsOther words root one p → Contains others p

-- a place was added if it is chosen
pub record IsChoice (old new : List ℕ) (place : ℕ) (is_chosen : Bool) : Type 0 where
  pub kept : (p : ℕ) → Contains old p → Contains new p
  pub put : is_chosen ≡ true → Contains new place
  pub only : (p : ℕ) → Contains new p → Contains old p ⊎ ((p ≡ place) × (is_chosen ≡ true))

-- places but one
pub record AreOthers (places : List ℕ) (one : ℕ) (others : List ℕ) : Type 0 where
  pub only : (p : ℕ) → Contains others p → Contains places p × p ≢ one
  pub all : (p : ℕ) → Contains places p → (p ≡ one) ⊎ Contains others p

-- a conjunct that is asked
pub record IsAskedOne (places : List ℕ) (is_asked : List Bool) (p : ℕ) : Type 0 where
  pub number : ℕ
  pub within : number < length places
  pub asked : slice_index_or is_asked number false ≡ true
  pub is : slice_index_or places number 0 ≡ p

-- the conjuncts that are asked, and these
pub record AreChosen (places : List ℕ) (is_asked : List Bool) (own chosen : List ℕ) : Type 0 where
  pub asked : (k : ℕ) → k < length places → slice_index_or is_asked k false ≡ true → Contains chosen (slice_index_or places k 0)
  pub ours : (p : ℕ) → Contains own p → Contains chosen p
  pub only : (p : ℕ) → Contains chosen p → IsAskedOne places is_asked p ⊎ Contains own p

-- the conjunct of an entry is asked, or its null is none of these
abbrev pub is_covered : List Bool → Nulls → Entry → Bool
is_covered is_asked nulls e = slice_index_or is_asked e.conjunct false || not (has nulls.places e.null)

-- the conjunct of a number is not asked, and has one of these nulls
pub record IsUncovered (entries : List Entry) (is_asked : List Bool) (nulls : Nulls) (k : ℕ) : Type 0 where
  pub entry : Entry
  pub among : Contains entries entry
  pub conjunct : entry.conjunct ≡ k
  pub uncovered : is_covered is_asked nulls entry ≡ false
