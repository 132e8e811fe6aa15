use Rattle.std.proofs.Common.{arith, refl}
use Rattle.ct_transaction.specs.Bounded.{nothing}
use Rattle.ct_transaction.{proofs.Ordered.rolled_back_executes, proofs.Replies.proceeds_same}
use Rattle.ct_parse.specs.declared.tree.Statement.TheVariants as tree
use Rattle.ct_transaction.proofs.orders.roll_back.Goals as goal

pub returns-clause-executes : goal.returns-clause-executes
returns-clause-executes g c =
    let cap = g.N.Site.log.cap in
    let s = c.args.session in
    rolled_back_executes cap s.pass s.seen s.fresh s.transaction tree.Rollback c.requires.some refl (proceeds_same cap s.pass.session s.pass.words c.words-words.ensures.room)

pub returns-clause-makes : goal.returns-clause-makes
returns-clause-makes g c = nothing (omega arith)
