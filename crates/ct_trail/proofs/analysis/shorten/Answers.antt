use Rattle.std.proofs.Common.{ap, ◌∙◌, length, get_or}
use Rattle.ct_trail.{specs.Literal.is_clause, specs.Log.clauses_in, proofs.Resolved.{unit, clause_in}, proofs.Trails.{nothing, put_there, within_of}}
use Rattle.ct_trail.proofs.analysis.shorten.Goals as goal

pub keeps-requires-clause-within : goal.keeps-requires-clause-within
keeps-requires-clause-within c =
    let trail = c.args.trail.now in
    (within_of (clauses_in c.args.entries.now) (length c.args.marks.now) trail c.requires.trail).each c.args.place (get_or trail c.args.place nothing) (put_there trail c.args.place c.requires.place)

pub clause-requires : goal.clause-requires
clause-requires c =
    let trail = c.args.trail.now in
    (unit (clauses_in c.args.entries.now) trail c.args.marks.now c.requires.trail c.args.place (get_or trail c.args.place nothing) (put_there trail c.args.place c.requires.place) c.in-Some.reason c.in-Some.is).place

pub are_marked-requires-clause-within : goal.are_marked-requires-clause-within
are_marked-requires-clause-within c =
    let trail = c.args.trail.now in
    ap (is_clause (length c.args.marks.now)) c.clause.ensures
    ∙ clause_in (clauses_in c.args.entries.now) trail c.args.marks.now c.requires.trail c.args.place (get_or trail c.args.place nothing) (put_there trail c.args.place c.requires.place) c.in-Some.reason c.in-Some.is

pub resolve-requires-clause-there : goal.resolve-requires-clause-there
resolve-requires-clause-there c =
    let trail = c.args.trail.now in
    record { put = get_or trail c.args.place nothing; there = put_there trail c.args.place c.requires.place; reasoned = c.in-Some.is }
