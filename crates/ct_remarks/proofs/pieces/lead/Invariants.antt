use Rattle.std.proofs.Common.{◌≡◌, ◌+◌, drop}
use Rattle.ct_remarks.specs.Standing.{lead_from, lead}
use Rattle.ct_remarks.proofs.pieces.lead.Given as goal

abbrev pub invariant-loop-at : goal.invariant-loop-at
invariant-loop-at l = lead l.piece ≡ l.at + lead_from l.in_comment (drop l.at l.piece)
