use Rattle.std.proofs.Common.{◌≡◌, drop}
use Rattle.ct_headings.specs.Named.{heading_in}
use Rattle.ct_headings.proofs.headings.SchemaHeadings.heading.Given as goal

abbrev pub invariant-loop-heading : goal.invariant-loop-heading
invariant-loop-heading l = heading_in (drop l.heading-index l.self.tables) l.name ≡ heading_in l.self.tables l.name
