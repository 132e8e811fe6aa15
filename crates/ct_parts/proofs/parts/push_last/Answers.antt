use Rattle.std.{proofs.Common.arith, proofs.lemmas.Result.on_ok_weaker}
use Rattle.ct_parts.proofs.Cut.{in_new_part, last_part, in_last_part}
use Rattle.ct_parts.proofs.parts.push_last.Goals as goal

pub returns-then-len-eq0-clause-cut : goal.returns-then-len-eq0-clause-cut
returns-then-len-eq0-clause-cut g c =
    rw (c.in_ok-push.ensures.items, c.in_ok-of.ensures) (in_new_part _ c.args.len c.args.item c.requires.cut c.requires.len c.if-len-eq0.true).0

pub returns-then-len-eq0-clause-pushed : goal.returns-then-len-eq0-clause-pushed
returns-then-len-eq0-clause-pushed g c =
    rw (c.in_ok-push.ensures.items, c.in_ok-of.ensures) (in_new_part _ c.args.len c.args.item c.requires.cut c.requires.len c.if-len-eq0.true).1

pub index_mut-requires : goal.index_mut-requires
index_mut-requires g c =
    omega (arith, c.args.parts.now.ok.0, last_part _ c.args.len c.args.item c.requires.cut c.requires.len c.if-len-eq0.false)

pub returns-clause-cut : goal.returns-clause-cut
returns-clause-cut g c = on_ok_weaker c.push-2.result
    (λ e. rw e (in_last_part _ c.args.len c.args.item c.requires.cut c.requires.len c.if-len-eq0.false _ c.index_mut.ensures.value).0) c.push-2.ensures.pushed

pub returns-clause-pushed : goal.returns-clause-pushed
returns-clause-pushed g c = on_ok_weaker c.push-2.result
    (λ e. rw e (in_last_part _ c.args.len c.args.item c.requires.cut c.requires.len c.if-len-eq0.false _ c.index_mut.ensures.value).1) c.push-2.ensures.pushed
