use Rattle.std.{proofs.Common.{◌≡◌, drop}, specs.List.list_all}
use Rattle.ct_derivation.{specs.Literal.has, specs.Path.no_links}
use Rattle.ct_checker.proofs.paths.has_links.Given as goal

abbrev pub invariant-loop-place : goal.invariant-loop-place
invariant-loop-place l =
    list_all (has l.marks.falses) (no_links l.last (drop l.place-index l.rest)) ≡ list_all (has l.marks.falses) (no_links l.first l.rest)
