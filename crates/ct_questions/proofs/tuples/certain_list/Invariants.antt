use Rattle.std.proofs.Common.{◌≡◌, take}
use Rattle.ct_questions.proofs.Listing.{proofs_of}
use Rattle.ct_questions.proofs.tuples.certain_list.Given as goal

abbrev pub invariant-loop-number : goal.invariant-loop-number
invariant-loop-number l = l.list.items ≡ proofs_of (take l.number l.candidates) (take l.number l.decisions)
