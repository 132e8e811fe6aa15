use Rattle.std.{proofs.Common.{◌+◌, ◌*◌, not, length, subst, arith}, specs.Prelude.IfOk, specs.List.filter}
use Rattle.ct_query.specs.Database.{SameSet, has_tuple}
use Rattle.ct_condition.proofs.Writes.{writes_within}
use Rattle.ct_operators.{specs.Tables.value_of_rows, proofs.Tests.{each_as, from_both, all_words}}
use Rattle.ct_operators.proofs.membership.except.Goals as goal

pub sifted-requires-clause-fits : goal.sifted-requires-clause-fits
sifted-requires-clause-fits g c = (each_as _ _ _ c.args.right.now.rows _ c.as_slice.ensures c.requires.columns c.requires.right.each, tt)

pub returns-clause-tuples : goal.returns-clause-tuples
returns-clause-tuples g c v =
    let old = g.I.Interner.list c.args.pass.now in
    subst (λ rs. IfOk c.sifted.result (λ out. SameSet (value_of_rows (g.I.Interner.list c.sifted.new.pass) v out.rows) (filter (λ t. not (has_tuple (value_of_rows old v rs) t)) (value_of_rows old v (g.T.RowSource.table c.args.left.now).rows)))) c.as_slice.ensures
    (c.sifted.ensures.tuples v)

pub returns-clause-terms : goal.returns-clause-terms
returns-clause-terms g c = from_both _ _ c.sifted.result (g.T.RowSource.table c.args.left.now).rows c.args.right.now.rows _ c.as_slice.ensures c.sifted.ensures.terms

pub returns-clause-writes : goal.returns-clause-writes
returns-clause-writes g c =
    writes_within _ (omega (arith, all_words (length (g.T.RowSource.table c.args.left.now).rows) (2 * length (g.T.RowSource.table c.args.left.now).columns + 2) c.args.right.now.rows c.as_slice.result.now c.as_slice.ensures)) c.sifted.ensures.writes
