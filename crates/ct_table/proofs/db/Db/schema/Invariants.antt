use Rattle.std.proofs.Common.{◌≡◌, ◌++◌, map}
use Rattle.ct_table.{specs.Denotes.heading_of, specs.Shared.entry_of}
use Rattle.ct_table.proofs.db.Db.schema.Given as goal

abbrev pub invariant-loop-name : goal.invariant-loop-name
invariant-loop-name l = l.headings.items ++ map heading_of (map entry_of l.name-iterator) ≡ map heading_of l.self
