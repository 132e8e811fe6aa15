use Rattle.std.{proofs.Common.{◌≡◌, ◌++◌, vec_len}, specs.Prelude.string_bytes}
use Rattle.ct_word.specs.WordAt.{backwards}
use Rattle.ct_word.proofs.reading.spelled.Given as goal

abbrev pub invariant-loop-character : goal.invariant-loop-character
invariant-loop-character l = backwards l.fn.characters.items ≡ string_bytes l.text ++ backwards l.characters.items

abbrev pub decreases-loop-character : goal.decreases-loop-character
decreases-loop-character l = vec_len l.characters
