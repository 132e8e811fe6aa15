-- What contracts see of a pass, of a guest and of the keeper's pass.
use Rattle.std.specs.Prelude.{◌≡◌, ℕ, ◌+◌, List, Option, Some, length}
use Rattle.std.specs.Prelude.{◌⊎◌, slice_get}
use Rattle.ct_arena.specs.declared.tally.Tally.{Tally}

-- what a session has seen of the log, with its tally
pub record Seen : Type 0 where
  pub session : ℕ
  pub words : List ℕ
  pub made : ℕ
  pub mine : ℕ

-- what the keeper has seen of the log, how many sessions were enrolled, the tally of the guest, and those of the sessions that were ended
pub record Keeping : Type 0 where
  pub words : List ℕ
  pub enrolled : ℕ
  pub guest : Option Tally
  pub ended : List Tally

-- a pass without its words
abbrev pub tally_of : Seen → Tally
tally_of p = record { session = p.session; made = p.made; mine = p.mine }

-- the pass of a session that has seen these words
abbrev pub pass_of : Tally → List ℕ → Seen
pass_of t words = record { session = t.session; words = words; made = t.made; mine = t.mine }

-- a word stands at the last place of a list
pub record StandsLast (words : List ℕ) (place w : ℕ) : Type 0 where
  pub stands : slice_get words place ≡ Some w
  pub last : length words ≡ place + 1

-- a count is one more where the word was put at the end of the list, and else as it was
abbrev pub CountsWord : ℕ → ℕ → List ℕ → ℕ → Type 0
CountsWord old new words w = (new ≡ old) ⊎ ((new ≡ old + 1) × ((place : ℕ) × StandsLast words place w))
