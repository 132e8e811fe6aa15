use Rattle.std.proofs.Common.{◌≡◌, [], drop}
use Rattle.ct_derivation.specs.Path.{no_links}
use Rattle.ct_checker.specs.Added.{added_all}
use Rattle.ct_checker.proofs.paths.mark_links.Given as goal

abbrev pub invariant-loop-place : goal.invariant-loop-place
invariant-loop-place l =
    (added_all l.marks.falses (no_links l.last (drop l.place-index l.rest)) ≡ added_all [] (no_links l.first l.rest)) × (l.marks.room ≡ l.fn.marks.room)
