-- The text of a condition without names, and the bounds on its bytes and on its nest.
use Rattle.std.specs.Prelude.{◌≤◌, ℕ, ◌+◌, max, List, [], ◌++◌, length, codes}
use Rattle.ct_word.specs.declared.values.Term.{Term}
use Rattle.ct_word.specs.Condition.{Condition, Conditions, True, False, Same, Not, And, Or, none, also}

-- the text of a condition where it is a part of another: an And or Or stands in parentheses
abbrev pub as_part : Condition → List ℕ → List ℕ
as_part (And cs) text = codes "(" ++ text ++ codes ")"
as_part (Or cs) text = codes "(" ++ text ++ codes ")"
as_part _ text = text

-- the text of a condition, each part written in its place; texts are those of the terms; a node denies equalities alone
abbrev mutual
  pub text_of : (Term → List ℕ) → Condition → List ℕ
  text_of texts True = codes "true"
  text_of texts False = codes "false"
  text_of texts (Same s t) = texts s ++ codes " = " ++ texts t
  text_of texts (Not (Same s t)) = texts s ++ codes " <> " ++ texts t
  text_of texts (Not c) = codes "not " ++ as_part c (text_of texts c)
  text_of texts (And cs) = text_of_parts texts (codes " and ") cs
  text_of texts (Or cs) = text_of_parts texts (codes " or ") cs

  -- the parts, with a text between
  pub text_of_parts : (Term → List ℕ) → List ℕ → Conditions → List ℕ
  text_of_parts texts between none = []
  text_of_parts texts between (also c cs) = as_part c (text_of texts c) ++ text_of_others texts between cs

  -- the parts after the first one
  pub text_of_others : (Term → List ℕ) → List ℕ → Conditions → List ℕ
  text_of_others texts between none = []
  text_of_others texts between (also c cs) = between ++ as_part c (text_of texts c) ++ text_of_others texts between cs

-- the nest of a condition where it is a part of another
abbrev pub nest_as_part : Condition → ℕ → ℕ
nest_as_part (And cs) n = n + 1
nest_as_part (Or cs) n = n + 1
nest_as_part _ n = n

-- how many parentheses of the text are open at once at most
abbrev mutual
  pub nest_of : Condition → ℕ
  nest_of (Not c) = nest_as_part c (nest_of c)
  nest_of (And cs) = nest_of_parts cs
  nest_of (Or cs) = nest_of_parts cs
  nest_of _ = 0

  -- the greatest nest of these parts
  pub nest_of_parts : Conditions → ℕ
  nest_of_parts none = 0
  nest_of_parts (also c cs) = max (nest_as_part c (nest_of c)) (nest_of_parts cs)

-- the most bytes that the text of a condition's form may have; bytes are those of the terms' texts
abbrev mutual
  pub wide : (Term → ℕ) → Condition → ℕ
  wide bytes True = 5
  wide bytes False = 5
  wide bytes (Same s t) = bytes s + bytes t + 4
  wide bytes (Not c) = wide bytes c
  wide bytes (And cs) = wide_of_fields bytes cs
  wide bytes (Or cs) = wide_of_fields bytes cs

  -- the sum for these fields, and 7 between each two
  pub wide_of_fields : (Term → ℕ) → Conditions → ℕ
  wide_of_fields bytes none = 0
  wide_of_fields bytes (also c none) = wide bytes c
  wide_of_fields bytes (also c (also d cs)) = wide bytes c + wide_of_fields bytes (also d cs) + 7

-- the deepest nest that the text of a condition's form may have
abbrev mutual
  pub deep : Condition → ℕ
  deep (Not c) = deep c
  deep (And cs) = deep_of_fields cs + 1
  deep (Or cs) = deep_of_fields cs + 1
  deep _ = 0

  -- the greatest for these fields
  pub deep_of_fields : Conditions → ℕ
  deep_of_fields none = 0
  deep_of_fields (also c cs) = max (deep c) (deep_of_fields cs)

-- the text of each term has a byte
abbrev pub NoneIsEmpty : (Term → List ℕ) → Type 0
NoneIsEmpty texts = (t : Term) → 1 ≤ length (texts t)

-- the bytes of a condition's text where it is a part of another
abbrev pub part_length : (Term → List ℕ) → Condition → ℕ
part_length texts c = length (as_part c (text_of texts c))

-- the nest of a condition's text where it is a part of another
abbrev pub part_nest : Condition → ℕ
part_nest c = nest_as_part c (nest_of c)

-- a form has at most the bytes and the nest that a condition allows, as a part of another too
pub record Fits (form c : Condition) : Type 0 where
  pub short : (texts : Term → List ℕ) → NoneIsEmpty texts → part_length texts form ≤ wide (λ t. length (texts t)) c
  pub shallow : part_nest form ≤ deep c
