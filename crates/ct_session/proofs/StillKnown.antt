-- What a session knows for its next insertion, as words grow.
use Rattle.std.{proofs.Common.{ℕ, List, sym}, specs.Prelude.{Option, Some, None, IfSome, IsNone}, proofs.lemmas.Bool.false≢true, proofs.lemmas.Option.IfSome_then}
use Rattle.ct_word.specs.WellFormed.{IsWellFormed}
use Rattle.ct_statement.{specs.declared.sight.Sight.Sight, proofs.Sights.sight_grows}
use Rattle.ct_session.{specs.declared.knowing.Known.Known, specs.Known.{IsKnown, SeesAlone, StillSeen}}
use mathlib.Core.List.{IsPrefix}

-- where nothing is known, it is true of all words
pub nothing_known : (words : List ℕ) (k : Known) → IsNone k.sight → IsKnown words k
nothing_known words k none = by_sight k.sight none where
  by_sight : (o : Option Sight) → IsNone o → IfSome o (SeesAlone words)
  by_sight None n = tt
  by_sight (Some s) n = absurd (false≢true (sym n))

-- what is seen in words is seen in longer ones
pub seen_longer : (words words' : List ℕ) → IsPrefix words words' → IsWellFormed words' → StillSeen words words'
seen_longer words words' longer formed s is = sight_grows words words' longer s formed is

-- what is known stays so in words in which all is seen still
pub known_stays : (words words' : List ℕ) → StillSeen words words' → (k : Known) → IsKnown words k → IsKnown words' k
known_stays words words' stays k is = IfSome_then k.sight is (λ s i. record { sight = stays s i.sight; none = i.none })
