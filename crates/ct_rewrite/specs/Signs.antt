-- The conditions of a log with their signs, and where they stand among nodes in the making.
use Rattle.std.specs.Prelude.{ℕ, ◌+◌, ◌*◌, ◌/◌, ◌%◌, Bool, true, false, not, List, [], ◌∷◌, nat_eq}
use Rattle.ct_word.specs.Condition.{Condition}
use Rattle.ct_word.specs.Reading.{condition_at}
use Rattle.ct_word.specs.WellFormed.{is_place_of}
use Rattle.ct_word.specs.declared.kinds.Class.TheVariants as class
use Rattle.ct_word.specs.declared.connectives.Connective.{Connective}
use Rattle.ct_word.specs.Connective.{dual}
use Rattle.ct_rewrite.specs.declared.answer.Node.{Node}
use Rattle.ct_worlds.specs.declared.shape.Shape.{Shape}
use Rattle.ct_worlds.specs.declared.shape.Shape.TheVariants as shape
use Rattle.ct_rewrite.specs.Nodes.{node_condition}
use Rattle.ct_rewrite.specs.Sizes.{Fits}
use Rattle.ct_worlds.specs.Shape.{shape_at}
use Rattle.ct_rewrite.specs.Building.{Says, signed}

-- the number of the condition at a place, for minus of its denial
abbrev pub number : ℕ → Bool → ℕ
number p true = 2 * p
number p false = 2 * p + 1

-- whether a number is that of a condition, and not of its denial
abbrev pub is_plus : ℕ → Bool
is_plus k = nat_eq (k % 2) 0

-- the condition that a number stands for
abbrev pub signed_at : List ℕ → ℕ → Condition
signed_at words k = signed (is_plus k) (condition_at words (k / 2))

-- whether a number is that of a condition of the words, or of its denial
abbrev pub is_number : List ℕ → ℕ → Bool
is_number words k = is_place_of words class.Cond (k / 2)

-- the numbers that a shape names with this sign
abbrev pub named_by : Bool → Shape → List ℕ
named_by s (shape.Not p) = number p (not s) ∷ []
named_by s (shape.Joined j p q) = number p s ∷ number q s ∷ []
named_by s _ = []

-- the numbers that the condition of a number names
abbrev pub named_at : List ℕ → ℕ → List ℕ
named_at words k = named_by (is_plus k) (shape_at words (k / 2))

-- the connective of a condition's parts, for minus of their denials
abbrev pub connective_for : Bool → Connective → Connective
connective_for true j = j
connective_for false j = dual j

-- a position says the condition of a number, and keeps to the bounds of the condition at its place
pub record IsFormAt (words : List ℕ) (nodes : List Node) (k position : ℕ) : Type 0 where
  pub says : Says nodes position (signed_at words k)
  pub fits : Fits (node_condition nodes position) (condition_at words (k / 2))
