-- What a worker knows.
use Rattle.std.specs.Prelude.{ℕ, List, ◌≡◌, ◌<◌, All, IfSome, IsTrue, Option, true}
use Rattle.ct_word.specs.declared.kinds.Class.TheVariants as class
use Rattle.ct_word.specs.Condition.{holds_at}
use Rattle.ct_word.specs.Reading.{condition_at}
use Rattle.ct_word.specs.Value.{World}
use Rattle.ct_word.specs.WellFormed.{is_place_of}
use Rattle.ct_condition.specs.Worth.{AreWorths}
use Rattle.ct_near.specs.Conjuncts.{AreConjuncts}
use Rattle.ct_workers.specs.Right.{IsRight}
use Rattle.ct_workers.specs.declared.asking.Held.{Held}
use Rattle.ct_workers.specs.declared.asking.Known.{Known}
use Rattle.ct_workers.specs.declared.known.Answer.{Answer}
use Rattle.ct_workers.specs.declared.known.Worker.{Worker}

-- a world, with what the words are worth there
abbrev pub IsKnown : List ℕ → Known → Type 0
IsKnown words k = AreWorths words k.world k.worths

-- the place of a condition that holds in a world
pub record HoldsIn (words : List ℕ) (v : World) (p : ℕ) : Type 0 where
  pub condition : IsTrue (is_place_of words class.Cond p)
  pub holds : IsTrue (holds_at v (condition_at words p))

-- a place with its conjuncts
abbrev pub IsHeld : List ℕ → Held → Type 0
IsHeld words h = AreConjuncts words h.place h.conjuncts

-- known worlds, and a condition with its conjuncts
pub record IsWorker (words : List ℕ) (w : Worker) : Type 0 where
  pub worlds : All (IsKnown words) w.worlds.items
  pub held : IfSome w.held (IsHeld words)

-- an answer is right for its root
abbrev pub IsRightAnswer : List ℕ → Answer → Type 0
IsRightAnswer words a = IsRight words a.root a.decision

-- each answer of a row is right for its root
abbrev pub AreRight : List ℕ → List (Option Answer) → Type 0
AreRight words row = All (λ o. IfSome o (IsRightAnswer words)) row
