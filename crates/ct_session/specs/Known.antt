-- What a session knows for its next insertion.
use Rattle.std.specs.Prelude.{◌≡◌, ℕ, List, [], IfSome}
use Rattle.ct_statement.specs.declared.sight.Sight.{Sight}
use Rattle.ct_statement.specs.Sight.{IsSight, actions_before}
use Rattle.ct_session.specs.declared.knowing.Known.{Known}

-- what a statement outside a transaction sees: a version of the words, and no actions after it
pub record SeesAlone (words : List ℕ) (s : Sight) : Type 0 where
  pub sight : IsSight words s
  pub none : actions_before s ≡ []

-- what is known was seen so, by an earlier insertion
abbrev pub IsKnown : List ℕ → Known → Type 0
IsKnown words k = IfSome k.sight (SeesAlone words)

-- what is seen in words is seen in further ones
abbrev pub StillSeen : List ℕ → List ℕ → Type 0
StillSeen words words' = (s : Sight) → IsSight words s → IsSight words' s
