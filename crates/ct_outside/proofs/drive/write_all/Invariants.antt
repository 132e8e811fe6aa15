use Rattle.std.proofs.Common.{◌≤◌, take}
use Rattle.ct_outside.{specs.Outside.{Added, Called}, specs.Writes.joined}
use Rattle.ct_outside.proofs.drive.write_all.Given as goal

abbrev pub invariant-loop-line : goal.invariant-loop-line
invariant-loop-line g l =
    let K = g.K.Sink in
    record {
      later : K.faults l.fn.out ≤ K.faults l.out;
      taken : Added (K.taken l.fn.out) (K.taken l.out) (joined (take l.line-index l.lines));
      calls : Called (K.calls l.fn.out) (K.calls l.out) l.line-index;
    }
