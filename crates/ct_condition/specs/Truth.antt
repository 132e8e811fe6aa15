-- Places of conditions, by their truth.
use Rattle.std.specs.Prelude.{◌≡◌, ◌<◌, ◌^◌, ℕ, Bool, not, ◌&&◌, ◌||◌, List, IsTrue}
use Rattle.std.specs.List.{list_all}
use Rattle.ct_word.specs.declared.kinds.Class.TheVariants as class
use Rattle.ct_word.specs.declared.values.Value.{Value}
use Rattle.ct_word.specs.declared.connectives.Connective.{Connective}
use Rattle.ct_word.specs.Connective.{join}
use Rattle.ct_word.specs.Value.{World, at, same_value}
use Rattle.ct_word.specs.Condition.{holds}
use Rattle.ct_word.specs.Reading.{condition_at, term_at}
use Rattle.ct_word.specs.WellFormed.{is_place_of}
use Rattle.ct_query.specs.Bounds.{ops}

-- a truth for each valuation and row
abbrev pub Truth : Type 0
Truth = World → List Value → Bool

-- a place holds a condition with this truth
pub record HasTruth (words : List ℕ) (place : ℕ) (truth : Truth) : Type 0 where
  pub class : IsTrue (is_place_of words class.Cond place)
  pub small : place < 2 ^ 28
  pub truth_is : (v : World) (row : List Value) → holds v row (condition_at words place) ≡ truth v row

-- the truth of the condition at a place
abbrev pub truth_at : List ℕ → ℕ → Truth
truth_at words c = λ v row. holds v row (condition_at words c)

-- the truth of the equality of the terms at two places
abbrev pub equal_at : List ℕ → ℕ → ℕ → Truth
equal_at words s t = λ v row. same_value (at v row (term_at words s)) (at v row (term_at words t))

-- that the condition at a place does not hold
abbrev pub not_at : List ℕ → ℕ → Truth
not_at words c = λ v row. not (truth_at words c v row)

-- that both of the conditions at two places hold
abbrev pub and_at : List ℕ → ℕ → ℕ → Truth
and_at words c d = λ v row. truth_at words c v row && truth_at words d v row

-- that one of the conditions at two places holds
abbrev pub or_at : List ℕ → ℕ → ℕ → Truth
or_at words c d = λ v row. truth_at words c v row || truth_at words d v row

-- the truth of the conditions at two places under a connective
abbrev pub join_at : Connective → List ℕ → ℕ → ℕ → Truth
join_at j words c d = λ v row. join j (truth_at words c v row) (truth_at words d v row)

-- that each of the conditions at these places holds
abbrev pub all_at : List ℕ → List ℕ → Truth
all_at words cs = λ v row. list_all (λ c. truth_at words c v row) cs

-- the condition at a place is the opposite of the one at another
pub record Negates (words : List ℕ) (place other : ℕ) : Type 0 where
  pub class : IsTrue (is_place_of words class.Cond other)
  pub opposite : (v : World) (row : List Value) → truth_at words place v row ≡ not (truth_at words other v row)

-- the equalities, Nots and connectives of the condition at a place
abbrev pub ops_at : List ℕ → ℕ → ℕ
ops_at words c = ops (condition_at words c)
