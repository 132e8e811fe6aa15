-- Facts of places that hold in every longer list of words.
use Rattle.std.{proofs.Common.{◌≡◌, ℕ, ◌<◌, List, length, ◌∙◌}, specs.Prelude.{IsTrue, Some, slice_get}}
use Rattle.ct_word.{specs.declared.kinds.Class.Class, specs.WellFormed.{IsWellFormed, is_place_of}, specs.Reading.{Meaning, term_at, condition_at}}
use Rattle.ct_word.{specs.Stands.StandsAt, specs.Later.Later}
use Rattle.ct_word.proofs.Prefixes.{prefix_same, prefix_of_prefix, get_in_prefix, place_in_prefix, stands_in_prefix, term_in_prefix, condition_in_prefix}
use mathlib.Core.List.{IsPrefix}

-- the fact holds of these words too, where they are well formed
pub later_now : (P : List ℕ → Type 0) (ws : List ℕ) → IsWellFormed ws → Later ws P → P ws
later_now P ws formed h = h ws formed (prefix_same ws)

-- and of every longer list of those that are longer
pub later_grows : (P : List ℕ → Type 0) (ws xs : List ℕ) → IsPrefix ws xs → Later ws P → Later xs P
later_grows P ws xs p h = λ zs formed q. h zs formed (prefix_of_prefix ws xs zs p q)

-- what a later fact implies is a later fact
pub later_implied : (P Q : List ℕ → Type 0) (ws : List ℕ) → ((xs : List ℕ) → IsWellFormed xs → IsPrefix ws xs → P xs → Q xs) → Later ws P → Later ws Q
later_implied P Q ws f h = λ xs formed p. f xs formed p (h xs formed p)

-- a place of a class is one later
pub later_place : (ws : List ℕ) (c : Class) (k : ℕ) → IsTrue (is_place_of ws c k) → Later ws (λ xs. IsTrue (is_place_of xs c k))
later_place ws c k e = λ xs formed p. place_in_prefix ws xs c k p e

-- a place has its word later
pub later_word : (ws : List ℕ) (k w : ℕ) → k < length ws → slice_get ws k ≡ Some w → Later ws (λ xs. slice_get xs k ≡ Some w)
later_word ws k w lt e = λ xs formed p. get_in_prefix ws xs k p lt ∙ e

-- a place stands later for what it stands for
pub later_stands : (ws : List ℕ) (k : ℕ) (m : Meaning) → k < length ws → StandsAt ws k m → Later ws (λ xs. StandsAt xs k m)
later_stands ws k m lt s = λ xs formed p. stands_in_prefix ws xs k m p lt s

pub later_term : (ws : List ℕ) (k : ℕ) → k < length ws → Later ws (λ xs. term_at xs k ≡ term_at ws k)
later_term ws k lt = λ xs formed p. term_in_prefix ws xs k p lt

pub later_condition : (ws : List ℕ) (k : ℕ) → k < length ws → Later ws (λ xs. condition_at xs k ≡ condition_at ws k)
later_condition ws k lt = λ xs formed p. condition_in_prefix ws xs k p lt
