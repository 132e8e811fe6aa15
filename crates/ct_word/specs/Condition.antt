-- A condition as a tree, and its truth under a valuation and a row.
use Rattle.std.specs.Prelude.{◌≡◌, Bool, true, false, not, ◌&&◌, ◌||◌, List, [], ◌∷◌}
use Rattle.ct_word.specs.declared.values.Value.{Value}
use Rattle.ct_word.specs.declared.values.Term.{Term}
use Rattle.ct_word.specs.Value.{World, at, same_value}

-- a condition: a tree, and a list of such trees
mutual
  pub data Condition : Type 0 where
    True : Condition
    False : Condition
    Same : (s t : Term) → Condition
    Not : (c : Condition) → Condition
    And : (cs : Conditions) → Condition
    Or : (cs : Conditions) → Condition

  -- a list of conditions
  pub data Conditions : Type 0 where
    none : Conditions
    also : (c : Condition) (cs : Conditions) → Conditions

-- the truth of a condition
abbrev mutual
  pub holds : World → List Value → Condition → Bool
  holds v row True = true
  holds v row False = false
  holds v row (Same s t) = same_value (at v row s) (at v row t)
  holds v row (Not c) = not (holds v row c)
  holds v row (And cs) = all_hold v row cs
  holds v row (Or cs) = any_holds v row cs

  -- whether each of these holds
  pub all_hold : World → List Value → Conditions → Bool
  all_hold v row none = true
  all_hold v row (also c cs) = holds v row c && all_hold v row cs

  -- whether one of these holds
  pub any_holds : World → List Value → Conditions → Bool
  any_holds v row none = false
  any_holds v row (also c cs) = holds v row c || any_holds v row cs

-- the truth of a condition without a row
abbrev pub holds_at : World → Condition → Bool
holds_at v c = holds v [] c

-- a list of conditions as the trees have it
abbrev pub listed : List Condition → Conditions
listed [] = none
listed (c ∷ cs) = also c (listed cs)

-- the And of two conditions
abbrev pub both : Condition → Condition → Condition
both c d = And (listed (c ∷ d ∷ []))

-- the Or of two conditions
abbrev pub either : Condition → Condition → Condition
either c d = Or (listed (c ∷ d ∷ []))

-- two conditions with one truth, at every valuation and row
abbrev pub SameTruth : Condition → Condition → Type 0
SameTruth c d = (v : World) (row : List Value) → holds v row c ≡ holds v row d
