-- What the word of a condition says, and which places it names.
use Rattle.std.specs.Prelude.{◌≡◌, ℕ, ◌<◌, Bool, true, false, List, [], ◌∷◌, Option, Some, None, IsTrue, slice_get}
use Rattle.std.specs.List.{AllByRecursion}
use Rattle.ct_word.specs.declared.kinds.Kind.{Kind}
use Rattle.ct_word.specs.declared.kinds.Kind.TheVariants as kind
use Rattle.ct_word.specs.declared.kinds.Class.TheVariants as class
use Rattle.ct_word.specs.declared.connectives.Connective.TheVariants as connective
use Rattle.ct_word.specs.Word.{kind_of, left_of, right_of}
use Rattle.ct_word.specs.WellFormed.{is_place_of}
use Rattle.ct_word.specs.Reading.{condition_at, term_at}
use Rattle.ct_word.specs.Condition.{Condition, True, False, Same, Not}
use Rattle.ct_word.specs.Connective.{joined}
use Rattle.ct_worlds.specs.declared.shape.Shape.{Shape}
use Rattle.ct_worlds.specs.declared.shape.Shape.TheVariants as shape

-- what a word of this kind says with these fields; false where it is no condition
abbrev pub shape_of : Option Kind → ℕ → ℕ → Shape
shape_of (Some kind.True) a b = shape.Literal true
shape_of (Some kind.Equal) a b = shape.Equal a b
shape_of (Some kind.Not) a b = shape.Not a
shape_of (Some kind.And) a b = shape.Joined connective.And a b
shape_of (Some kind.Or) a b = shape.Joined connective.Or a b
shape_of _ a b = shape.Literal false

-- what a word says, if there is one
abbrev pub shape_of_word : Option ℕ → Shape
shape_of_word (Some w) = shape_of (kind_of w) (left_of w) (right_of w)
shape_of_word None = shape.Literal false

-- what the word at a place says
abbrev pub shape_at : List ℕ → ℕ → Shape
shape_at words place = shape_of_word (slice_get words place)

-- the places of the conditions that a shape names
abbrev pub parts_of : Shape → List ℕ
parts_of (shape.Not p) = p ∷ []
parts_of (shape.Joined j p q) = p ∷ q ∷ []
parts_of _ = []

-- the places of the conditions that the word at a place names
abbrev pub parts_at : List ℕ → ℕ → List ℕ
parts_at words place = parts_of (shape_at words place)

-- the places of the terms that a shape names
abbrev pub terms_of : Shape → List ℕ
terms_of (shape.Equal s t) = s ∷ t ∷ []
terms_of _ = []

-- a condition that has always this truth
abbrev pub literal : Bool → Condition
literal true = True
literal false = False

-- the condition of a shape, over those of the places that it names
abbrev pub condition_of : List ℕ → Shape → Condition
condition_of words (shape.Literal b) = literal b
condition_of words (shape.Equal s t) = Same (term_at words s) (term_at words t)
condition_of words (shape.Not p) = Not (condition_at words p)
condition_of words (shape.Joined j p q) = joined j (condition_at words p) (condition_at words q)

-- an earlier condition
pub record IsEarlier (words : List ℕ) (place part : ℕ) : Type 0 where
  pub below : part < place
  pub placed : IsTrue (is_place_of words class.Cond part)

-- a place stands for the condition of a shape, which names earlier conditions, and terms
pub record IsShaped (words : List ℕ) (place : ℕ) (s : Shape) : Type 0 where
  pub condition : condition_at words place ≡ condition_of words s
  pub parts : AllByRecursion (IsEarlier words place) (parts_of s)
  pub terms : AllByRecursion (λ t. IsTrue (is_place_of words class.Term t)) (terms_of s)
