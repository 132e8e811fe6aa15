use Rattle.std.proofs.Common.{◌≡◌, ◌*◌, take, max}
use Rattle.ct_rows.proofs.links.Links.spread.Given as goal

abbrev pub invariant-loop-place : goal.invariant-loop-place
invariant-loop-place l = l.spread ≡ record { slots = max (2 * l.self.slots) 8; entries = take l.place l.self.entries }
