-- What a call does to the words, and to what interning leaves as it was.
use Rattle.std.specs.Prelude.{◌≡◌, ◌≤◌, ◌+◌, ℕ, Bool, true, List, [], ◌∷◌, length, if◌then◌else◌}
use Rattle.std.specs.Borrow.{GName}
use mathlib.Core.List.{IsPrefix}
use Rattle.ct_word.specs.WellFormed.{IsWellFormed}
use Rattle.ct_arena.specs.Seen.{Seen}

-- one for a call that was refused, none for another
abbrev pub charge : Bool → ℕ
charge refused = if refused then 1 else 0

-- words were added, at most so many made, and fewer by a call that was refused, as one is in a full log alone; the count of made words never falls, and the rest is as it was
pub record Writes {S : Type 0} (words_of : S → List ℕ) (made_of : S → ℕ) (kept_of : S → List ℕ) (lent_of : S → List GName) (cap : ℕ) (old new : S) (most : ℕ) (refused : Bool) : Type 0 where
  pub longer : IsPrefix (words_of old) (words_of new)
  pub formed : IsWellFormed (words_of new)
  pub room : length (words_of new) ≤ cap
  pub full : refused ≡ true → length (words_of new) ≡ cap
  pub rises : made_of old ≤ made_of new
  pub made : made_of new + charge refused ≤ made_of old + most
  pub kept : kept_of new ≡ kept_of old
  pub lent : lent_of new ≡ lent_of old

-- the session of a pass, and how many commits are its own
abbrev pub kept_of : Seen → List ℕ
kept_of p = p.session ∷ p.mine ∷ []

-- the same of a pass alone, which keeps its session and the number of its commits
abbrev pub PassWrites : ℕ → Seen → Seen → ℕ → Bool → Type 0
PassWrites cap old new most refused = Writes (λ (p : Seen). p.words) (λ (p : Seen). p.made) kept_of (λ (p : Seen). []) cap old new most refused
