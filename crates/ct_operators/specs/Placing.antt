-- Conditions with the cells of a row put for their columns.
use Rattle.std.specs.Prelude.{◌≡◌, ◌<◌, ◌≤◌, ◌+◌, ℕ, Bool, List, [], ◌∷◌, length, map, Option, Some, None, IsTrue, slice_index_or, unwrap_or, Contains}
use Rattle.ct_word.specs.declared.kinds.Kind.{Kind}
use Rattle.ct_word.specs.declared.kinds.Kind.TheVariants as kind
use Rattle.ct_word.specs.declared.kinds.Class.TheVariants as class
use Rattle.ct_word.specs.declared.values.Value.{Value}
use Rattle.ct_word.specs.Value.{World, at, same_value, tuple_at}
use Rattle.ct_word.specs.Reading.{condition_at, term_at}
use Rattle.ct_word.specs.WellFormed.{is_place_of}
use Rattle.ct_word.specs.Condition.{holds}
use Rattle.ct_worlds.specs.declared.shape.Shape.{Shape}
use Rattle.ct_worlds.specs.declared.shape.Shape.TheVariants as shape
use Rattle.ct_worlds.specs.Shape.{shape_at}
use Rattle.ct_worlds.specs.Truths.{ArePartsFirst}
use Rattle.ct_query.specs.Bounds.{ops}
use Rattle.ct_condition.specs.Rows.{cell_for}
use Rattle.ct_condition.specs.Terms.{TermsFrom}
use Rattle.ct_operators.specs.Building.{HoldsWhere}
use Rattle.ct_operators.specs.Terms.{IsPlaced}

-- the tuple that cells are worth
abbrev pub tuple_of : List ℕ → List ℕ → World → List Value
tuple_of words cells v = tuple_at v (map (term_at words) cells)

-- whether the condition at a place holds for the tuple of these cells
abbrev pub holds_for : List ℕ → ℕ → List ℕ → World → Bool
holds_for words c cells v = holds v (tuple_of words cells v) (condition_at words c)

-- whether the terms at two places are worth the same for the tuple of these cells
abbrev pub equal_for : List ℕ → ℕ → ℕ → List ℕ → World → Bool
equal_for words s t cells v = same_value (at v (tuple_of words cells v) (term_at words s)) (at v (tuple_of words cells v) (term_at words t))

-- the position of a word of this kind, if it is a column
abbrev pub column_of : Option Kind → ℕ → Option ℕ
column_of (Some kind.Column) k = Some k
column_of _ k = None

-- the place of the cell that stands for the term at a place: that of its column, or the place itself where it is none of these columns
abbrev pub place_on : List ℕ → List ℕ → ℕ → ℕ
place_on words cells p = unwrap_or (cell_for cells (term_at words p)) p

-- a place is of a term that is worth what another is for the tuple of these cells
pub record IsCellFor (words : List ℕ) (cells : List ℕ) (term place : ℕ) : Type 0 where
  pub is : place ≡ place_on words cells term
  pub class : IsTrue (is_place_of words class.Term place)
  pub worth : (v : World) → at v [] (term_at words place) ≡ at v (tuple_of words cells v) (term_at words term)
  pub from : TermsFrom words place (IsPlaced words term cells)

-- what was put for a condition: a place that holds where the condition does for the tuple of these cells
pub record IsPut (words cells : List ℕ) (cond place : ℕ) : Type 0 where
  pub holds : HoldsWhere words place (holds_for words cond cells)
  pub terms : TermsFrom words place (IsPlaced words cond cells)

-- beside each of these places stands what was put for it
abbrev pub ArePut : List ℕ → List ℕ → (ℕ → Type 0) → List ℕ → List ℕ → Type 0
ArePut words cells of places put = (i : ℕ) → i < length places → of (slice_index_or places i 0) → IsPut words cells (slice_index_or places i 0) (slice_index_or put i 0)

-- what stands beside a place
pub record IsPutFor (places put : List ℕ) (place result : ℕ) : Type 0 where
  pub at : ℕ
  pub within : at < length places
  pub is : slice_index_or places at 0 ≡ place
  pub beside : slice_index_or put at 0 ≡ result

-- how many words a condition of this shape takes over its parts, at most
abbrev pub step_of : Shape → ℕ
step_of (shape.Literal b) = 0
step_of _ = 1

-- and all of these conditions
unfoldable pub steps : List ℕ → List ℕ → ℕ
steps words [] = 0
steps words (p ∷ ps) = step_of (shape_at words p) + steps words ps

-- the conditions below one, each once and after its parts
pub record ArePartsOf (words : List ℕ) (cond : ℕ) (places : List ℕ) : Type 0 where
  pub first : ArePartsFirst words places
  pub among : Contains places cond
  pub short : steps words places ≤ ops (condition_at words cond)
