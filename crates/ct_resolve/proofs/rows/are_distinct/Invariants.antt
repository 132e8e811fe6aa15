use Rattle.std.proofs.Common.{◌≡◌, drop}
use Rattle.ct_resolve.proofs.Distinct.{are_new}
use Rattle.ct_resolve.specs.Names as naming
use Rattle.ct_resolve.proofs.rows.are_distinct.Given as goal

-- the names are distinct exactly where those that are left are new to the set
abbrev pub invariant-loop-name : goal.invariant-loop-name
invariant-loop-name l = naming.are_distinct l.names ≡ are_new l.seen.keys (drop l.name-index l.names)
