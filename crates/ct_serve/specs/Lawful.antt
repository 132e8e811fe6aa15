-- When a transcript is lawful.
use Rattle.std.specs.Prelude.{◌≡◌, ℕ, ◌≤◌, [], length, take, All, IsTrue}
use Rattle.ct_word.specs.Value.{World}
use Rattle.ct_word.specs.WellFormed.{IsWellFormed}
use Rattle.ct_arena.specs.Counts.{opening}
use Rattle.ct_query.specs.Worlds.{admits}
use Rattle.ct_rewrite.specs.History.{plain_history, IsCommitFormed}
use Rattle.ct_word.specs.StandsFor.{StandsFor}
use Rattle.ct_transcript.specs.declared.transcript.Transcript.{Transcript}
use Rattle.ct_serve.specs.Sessions.{AreLawfulSessions}

-- a transcript is lawful for a capacity of N words
pub record Lawful (t : Transcript) (N : ℕ) : Type 0 where
  pub begins : take 2 t.words ≡ opening
  pub fits : length t.words ≤ N
  pub formed : IsWellFormed t.words
  pub stands : StandsFor (plain_history t.history) t.words
  pub commits_formed : All IsCommitFormed t.history
  pub sessions : AreLawfulSessions (plain_history t.history) t.words N 1 t.sessions
  pub no_others : All (λ c. (1 ≤ c.session) × (c.session ≤ length t.sessions)) (plain_history t.history)
  pub worlds : (m : ℕ) → m ≤ length t.history → (v : World) × IsTrue (admits v (take m (plain_history t.history)) [])
