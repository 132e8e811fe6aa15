use Rattle.std.proofs.Common.{sym, arith, ◌+◌, ◌-◌, ◌∙◌}
use Rattle.ct_cert.proofs.Many.{begun, ended, continued, none_in, nothing_in}
use Rattle.ct_cert.proofs.entries.many.Goals as goal

pub loop-init : goal.loop-init
loop-init g c = begun g.T.Entry.starting g.T.Entry.reading c.new-items.result.items c.args.bytes.now (c.args.most - 0) c.args.most c.new-items.ensures.items (omega arith)

pub returns-then-not-begins-clause-items : goal.returns-then-not-begins-clause-items
returns-then-not-begins-clause-items g c =
    c.from_vec.ensures
    ∙ (ended g.T.Entry.starting g.T.Entry.reading _ _ _ _ (none_in g.T.Entry.starting g.T.Entry.reading _ _ (sym c.begins.ensures ∙ c.if-not-begins.true)) c.loop.invariant).0

pub returns-then-not-begins-clause-rest : goal.returns-then-not-begins-clause-rest
returns-then-not-begins-clause-rest g c =
    (ended g.T.Entry.starting g.T.Entry.reading _ _ _ _ (none_in g.T.Entry.starting g.T.Entry.reading _ _ (sym c.begins.ensures ∙ c.if-not-begins.true)) c.loop.invariant).1

pub loop-preserved : goal.loop-preserved
loop-preserved g c =
    continued g.T.Entry.starting g.T.Entry.reading _ _ _ (c.args.most - c.loop.counter) (c.args.most - (c.loop.counter + 1)) c.in_ok-item.item c.in_ok-item.behind.now c.push.new.self.items (omega arith)
    (sym c.begins.ensures ∙ c.if-not-begins.false) c.in_ok-item.ensures.item c.in_ok-item.ensures.rest c.in_ok-push.ensures.items c.loop.invariant

pub returns-clause-items : goal.returns-clause-items
returns-clause-items g c =
    c.from_vec-2.ensures
    ∙ (ended g.T.Entry.starting g.T.Entry.reading _ _ _ _ (nothing_in g.T.Entry.starting g.T.Entry.reading (c.args.most - c.loop.counter) c.loop.rest.now (omega arith)) c.loop.invariant).0

pub returns-clause-rest : goal.returns-clause-rest
returns-clause-rest g c =
    (ended g.T.Entry.starting g.T.Entry.reading _ _ _ _ (nothing_in g.T.Entry.starting g.T.Entry.reading (c.args.most - c.loop.counter) c.loop.rest.now (omega arith)) c.loop.invariant).1
