use Rattle.std.proofs.Common.{length, rules}
use Rattle.ct_trail.{specs.Assignment.satisfied, proofs.Logs.added_take, proofs.Steps.{scan_within, scan_open}}
use Rattle.ct_trail.proofs.scan.scan_added.Goals as goal

pub look_at_added-requires-clause-within : goal.look_at_added-requires-clause-within
look_at_added-requires-clause-within c =
    scan_within (length c.args.truths.now) c.args.top c.args.entries.now c.loop-k.k c.index-entries-k.result c.loop-k-test.true c.index-entries-k.is c.requires.top c.requires.within

pub returns-in-Undecided : goal.returns-in-Undecided
returns-in-Undecided c =
    let free = c.in-Undecided.ensures.is_free in
    let within = scan_open c.args.top c.args.entries.now c.loop-k.k c.index-entries-k.result c.in-Undecided.l c.loop-k-test.true c.index-entries-k.is c.requires.within c.in-Undecided.ensures.member in
    (search rules, search rules)

pub loop-k-preserved : goal.loop-k-preserved
loop-k-preserved c = added_take (satisfied c.args.truths.now) c.args.entries.now c.loop-k.k c.index-entries-k.result c.loop-k-test.true c.index-entries-k.is c.loop-k.invariant c.in-Satisfied.ensures
