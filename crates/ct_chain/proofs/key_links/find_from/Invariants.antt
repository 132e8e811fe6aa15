use Rattle.std.proofs.Common.{◌-◌, length}
use Rattle.ct_chain.specs.Keys.{IsKeySought}
use Rattle.ct_chain.proofs.key_links.find_from.Given as goal

abbrev pub invariant-loop-at : goal.invariant-loop-at
invariant-loop-at l = IsKeySought (length l.heads) l.keys l.key l.from l.at

abbrev pub decreases-loop-at : goal.decreases-loop-at
decreases-loop-at l = length l.keys - l.at
