use Rattle.std.proofs.Common.{◌-◌}
use Rattle.ct_cert.{specs.Reading.many, proofs.Many.Continues}
use Rattle.ct_cert.proofs.entries.many.Given as goal

abbrev pub invariant-loop : goal.invariant-loop
invariant-loop g l =
    Continues g.T.Entry.starting g.T.Entry.reading l.items.items (l.most - l.counter) l.rest (many g.T.Entry.starting g.T.Entry.reading l.most l.bytes)
