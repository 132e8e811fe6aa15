use Rattle.std.{proofs.Common.{◌+◌, ◌++◌, ◌∙◌, length, ap, sym, subst}, specs.Prelude.All, proofs.lemmas.List.length-append, proofs.lemmas.Result.err_from_is_err_and}
use Rattle.ct_query.specs.Pred.{condition_of}
use Rattle.ct_condition.proofs.Writes.{writes_none}
use Rattle.ct_algebra.{specs.Equals.{equals_of, HasEqual}, specs.Joining.{MakesPairs, TermOfJoin}, proofs.Comparing.has_equals, proofs.Making.{joined_rows, joined_values}}
use Rattle.ct_algebra.proofs.joining.join.Goals.{After-from_vec}
use Rattle.ct_algebra.proofs.joining.join.Goals as goal

pub joined-requires-clause-equals : goal.joined-requires-clause-equals
joined-requires-clause-equals g c =
    let cond = condition_of c.args.p.now in
    let width = length c.args.left.now.columns in
    subst (All (HasEqual width cond)) (sym (c.as_slice.ensures.value ∙ c.in_ok-equals.ensures ∙ ap (λ n. equals_of n cond) (c.len.ensures ∙ ap (λ cs. length cs) c.columns-3.ensures))) (has_equals width cond)

-- the pairs of all rows
all : (g : _) (c : After-from_vec g)
    → MakesPairs (g.I.Interner.list c.args.pass.now) (g.I.Interner.list c.joined.new.pass) (length c.args.left.now.columns + length c.args.right.now.columns) (condition_of c.args.p.now) c.args.left.now.rows
    c.args.right.now.rows (TermOfJoin (g.I.Interner.list c.args.pass.now) (condition_of c.args.p.now) (c.args.left.now.rows ++ c.args.right.now.rows)) c.from_vec.result
all g c =
    subst (MakesPairs (g.I.Interner.list c.args.pass.now) (g.I.Interner.list c.joined.new.pass) (length c.args.left.now.columns + length c.args.right.now.columns) (condition_of c.args.p.now) c.args.left.now.rows
    c.args.right.now.rows (TermOfJoin (g.I.Interner.list c.args.pass.now) (condition_of c.args.p.now) (c.args.left.now.rows ++ c.args.right.now.rows))) (sym c.from_vec.ensures) c.in_ok-rows.ensures.rows

pub returns-clause-width : goal.returns-clause-width
returns-clause-width g c =
    ap (λ cs. length cs) (c.in_ok-columns.ensures ∙ (λ i. c.columns.ensures i ++ c.columns-2.ensures i)) ∙ length-append c.args.left.now.columns c.args.right.now.columns

pub returns-clause-rows : goal.returns-clause-rows
returns-clause-rows g c = joined_rows _ _ _ _ (condition_of c.args.p.now) _ _ _ _ (all g (goal.at.returns-clause-rows g c).After-from_vec) c.requires.left c.requires.right

pub returns-clause-tuples : goal.returns-clause-tuples
returns-clause-tuples g c v = joined_values _ _ _ _ (condition_of c.args.p.now) _ _ _ _ (all g (goal.at.returns-clause-tuples g c).After-from_vec) v

pub returns-clause-part : goal.returns-clause-part
returns-clause-part g c = (all g (goal.at.returns-clause-part g c).After-from_vec).part

pub returns-clause-terms : goal.returns-clause-terms
returns-clause-terms g c = (all g (goal.at.returns-clause-terms g c).After-from_vec).from

pub returns-clause-writes : goal.returns-clause-writes
returns-clause-writes g c = c.in_ok-rows.ensures.writes

pub returns-in_err-columns-clause-writes : goal.returns-in_err-columns-clause-writes
returns-in_err-columns-clause-writes g c =
    let exit = err_from_is_err_and c.from_residual.result c.from_residual.ensures.1 in
    rw (exit.1, exit.2) (writes_none _ c.words.ensures.formed c.words.ensures.room)

pub returns-in_err-equals-clause-writes : goal.returns-in_err-equals-clause-writes
returns-in_err-equals-clause-writes g c =
    let exit = err_from_is_err_and c.from_residual-in_err-equals.result c.from_residual-in_err-equals.ensures.1 in
    rw (exit.1, exit.2) (writes_none _ c.words.ensures.formed c.words.ensures.room)

pub returns-in_err-rows-clause-writes : goal.returns-in_err-rows-clause-writes
returns-in_err-rows-clause-writes g c =
    let exit = err_from_is_err_and c.from_residual-in_err-rows.result c.from_residual-in_err-rows.ensures.1 in
    rw (exit.1, exit.2) c.in_err-rows.ensures.writes
