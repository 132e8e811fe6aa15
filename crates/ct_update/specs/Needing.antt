-- What a condition needs: terms that are worth one value wherever it holds.
use Rattle.std.specs.Prelude.{◌≡◌, ℕ, false, List, IsTrue}
use Rattle.ct_word.specs.declared.kinds.Class.TheVariants as class
use Rattle.ct_word.specs.declared.values.Value.{Value}
use Rattle.ct_word.specs.Value.{World, at, same_value}
use Rattle.ct_word.specs.Condition.{holds}
use Rattle.ct_word.specs.Reading.{condition_at, term_at}
use Rattle.ct_word.specs.WellFormed.{is_place_of}

-- places of terms
abbrev pub AreTerms : List ℕ → ℕ × ℕ → Type 0
AreTerms words pair = IsTrue (is_place_of words class.Term pair.0) × IsTrue (is_place_of words class.Term pair.1)

-- a condition holds nowhere where a part of it does not
abbrev pub NeedsPart : List ℕ → ℕ → ℕ → Type 0
NeedsPart words cond part = (v : World) (tuple : List Value) → holds v tuple (condition_at words part) ≡ false → holds v tuple (condition_at words cond) ≡ false

-- a condition holds nowhere where these terms are worth different values
pub record IsNeeded (words : List ℕ) (cond : ℕ) (pair : ℕ × ℕ) : Type 0 where
  pub terms : AreTerms words pair
  pub needed : (v : World) (tuple : List Value) → same_value (at v tuple (term_at words pair.0)) (at v tuple (term_at words pair.1)) ≡ false
      → holds v tuple (condition_at words cond) ≡ false
