use Rattle.ct_word.proofs.Spelling.{popped}
use Rattle.ct_word.proofs.reading.spelled.Goals as goal

pub loop-character-preserved : goal.loop-character-preserved
loop-character-preserved c = rw c.in_ok-push.ensures.bytes (popped _ _ _ _ _ c.loop-character.invariant c.in-Some.ensures.items)
