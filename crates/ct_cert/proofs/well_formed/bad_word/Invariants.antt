use Rattle.std.proofs.Common.{◌≡◌, [], length, take, drop}
use Rattle.ct_cert.specs.Judgement as judged
use Rattle.ct_cert.proofs.well_formed.bad_word.Given as goal

abbrev pub invariant-loop-i : goal.invariant-loop-i
invariant-loop-i l =
    (l.chain.room ≡ length l.words) × (l.chain.words ≡ take l.i l.words)
    × (judged.bad_word (take l.i l.words) (drop l.i l.words) ≡ judged.bad_word [] l.words)
