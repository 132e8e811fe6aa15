use Rattle.std.proofs.Common.{◌+◌, refl, length, arith}
use Rattle.ct_trail.{specs.Log.clauses_in, proofs.Resolved.{put_of, resolves_more}, proofs.Returns.{none_joined, nothing_kept, goes_back}, proofs.Trails.within_of}
use Rattle.ct_trail.proofs.analysis.resolve_all.Goals as goal

pub next_turn-requires-clause-trail : goal.next_turn-requires-clause-trail
next_turn-requires-clause-trail c =
    let log = clauses_in c.args.entries.now in
    within_of log (length c.loop-back.marks) c.args.trail.now
    (put_of (length c.args.marks.now) log c.args.trail.now c.args.marks.now c.loop-back.marks refl c.loop-back.invariant.resolves c.requires.trail)

pub returns-in-Over-clause-returns : goal.returns-in-Over-clause-returns
returns-in-Over-clause-returns c =
    nothing_kept (length c.args.marks.now) (clauses_in c.args.entries.now) c.args.trail.now c.loop-back.marks c.requires.trail
    (none_joined c.loop-back.marks c.args.trail.now 0 c.loop-back.end (length c.args.trail.now) c.in-Over.ensures c.loop-back.invariant.none)

pub returns-in-Back-clause-returns : goal.returns-in-Back-clause-returns
returns-in-Back-clause-returns c =
    goes_back (length c.args.marks.now) (clauses_in c.args.entries.now) c.args.trail.now c.loop-back.marks c.requires.trail
    c.loop-back.end c.in-Back.back c.loop-back.invariant.within c.loop-back.invariant.none c.in-Back.ensures

pub loop-back-preserved : goal.loop-back-preserved
loop-back-preserved c =
    let trail = c.args.trail.now in
    let last = c.in-Resolve.ensures.last in
    record {
      within = omega (arith, last.place, c.loop-back.invariant.within);
      resolves = resolves_more (clauses_in c.args.entries.now) trail c.args.marks.now c.loop-back.marks c.resolve.new.marks c.loop-back.invariant.resolves c.resolve.ensures.resolves;
      none = c.resolve.ensures.above (length trail) (none_joined c.loop-back.marks trail (c.in-Resolve.place + 1) c.loop-back.end (length trail) last.none c.loop-back.invariant.none);
    }
