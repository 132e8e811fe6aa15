use Rattle.ct_query.specs.Pred.{condition_of}
use Rattle.ct_history.proofs.Encoded.{condition_is}
use Rattle.std.proofs.Common.{arith}
use Rattle.ct_condition.proofs.Writes.{writes_within}
use Rattle.ct_history.proofs.{Frames.refused, Named.words_written}
use Rattle.ct_history.proofs.encoding.condition.Goals as goal

pub returns-clause-is : goal.returns-clause-is
returns-clause-is g c =
    condition_is c.args.pass.now.words c.pred.new.pass.words (condition_of c.args.p.now) c.in_ok-place.place c.words.ensures.formed
    c.in_ok-place.ensures.truth c.in_ok-place.ensures.terms c.in_ok-place.ensures.ops

pub returns-in_err-place-clause-writes : goal.returns-in_err-place-clause-writes
returns-in_err-place-clause-writes g c =
    let most = words_written c.args.pass.now.words (condition_of c.args.p.now) in
    refused _ c.from_residual.result c.from_residual.ensures.1 (omega (arith, most)) c.in_err-place.ensures.writes

pub returns-clause-writes : goal.returns-clause-writes
returns-clause-writes g c =
    let most = words_written c.args.pass.now.words (condition_of c.args.p.now) in
    writes_within _ (omega (arith, most)) c.in_ok-place.ensures.writes
