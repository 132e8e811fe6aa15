use Rattle.std.proofs.Common.{◌∙◌, subst, arith}
use Rattle.ct_outside.{specs.Outside.AddedFront, proofs.Additions.{failed_at, on_err}}
use Rattle.ct_outside.proofs.drive.write_all.Goals as goal

pub returns-in_err-write-clause-err : goal.returns-in_err-write-clause-err
returns-in_err-write-clause-err g c =
    let K = g.K.Sink in
    let front : AddedFront (K.taken c.loop-line.out) (K.taken c.write.new.self) c.line-item.result =
    subst (λ b. AddedFront (K.taken c.loop-line.out) (K.taken c.write.new.self) b) (c.as_bytes.ensures.value ∙ c.as_str.ensures) c.in_err-write.ensures.err in
    on_err _ (failed_at _ _ _ _ _ _ c.args.lines.now c.loop-line.line-index c.line-item.result (omega arith) c.line-item.is c.loop-line.invariant.taken front c.loop-line.invariant.calls c.in_err-write.ensures.calls)
