-- What a question is, and which decisions are right for it.
use Rattle.std.specs.Prelude.{◌≡◌, ℕ, true, List}
use Rattle.ct_word.specs.declared.kinds.Class.TheVariants as class
use Rattle.ct_word.specs.Condition.{holds_at}
use Rattle.ct_word.specs.Reading.{condition_at}
use Rattle.ct_word.specs.Stands.{HasNoColumn}
use Rattle.ct_word.specs.WellFormed.{is_place_of}
use Rattle.ct_derivation.specs.Accepts.{Accepts}
use Rattle.ct_cut.specs.Cut.{IsCut}
use Rattle.ct_decide.specs.declared.deciding.Decision.{Decision}
use Rattle.ct_decide.specs.declared.deciding.Decision.TheVariants as decision

-- a root is the place of a condition below which no column stands
pub record IsQuestion (words : List ℕ) (root : ℕ) : Type 0 where
  pub condition : is_place_of words class.Cond root ≡ true
  pub plain : HasNoColumn words root

-- a world at which the root holds, or a derivation that is accepted over the words and the root, and is cut
abbrev pub IsRight : List ℕ → ℕ → Decision → Type 0
IsRight words root (decision.World v) = holds_at v (condition_at words root) ≡ true
IsRight words root (decision.Refuted d) = Accepts words root d × IsCut words root d
