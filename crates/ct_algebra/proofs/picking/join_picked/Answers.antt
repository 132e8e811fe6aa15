use Rattle.std.{proofs.Common.{◌∙◌, length, ap, sym, subst}, specs.Prelude.All, proofs.lemmas.Result.err_from_is_err_and}
use Rattle.ct_query.specs.Pred.{condition_of}
use Rattle.ct_condition.proofs.Writes.{writes_none}
use Rattle.ct_algebra.{specs.Equals.{equals_of, HasEqual}, proofs.Comparing.has_equals, proofs.Picks.{picked_values, picked_part, picked_terms}}
use Rattle.ct_algebra.proofs.picking.join_picked.Goals as goal

pub gathered-requires-clause-equals : goal.gathered-requires-clause-equals
gathered-requires-clause-equals g c =
    let cond = condition_of c.args.p.now in
    let width = length c.args.left.now.columns in
    subst (All (HasEqual width cond)) (sym (c.as_slice.ensures.value ∙ c.in_ok-equals.ensures ∙ ap (λ n. equals_of n cond) (c.len.ensures ∙ ap (λ cs. length cs) c.columns.ensures))) (has_equals width cond)

pub returns-clause-rows : goal.returns-clause-rows
returns-clause-rows g c = (c.in_ok-finish.ensures.gathered _ _ _ c.words-2.ensures.begins c.words-2.ensures.formed c.in_ok-gathering.ensures.rows.gathered).are

pub returns-clause-tuples : goal.returns-clause-tuples
returns-clause-tuples g c v =
    let picks = c.in_ok-gathering.ensures.rows in
    picked_values _ _ _ c.args.columns.now c.requires.columns (condition_of c.args.p.now) _ _ _ _ _ picks (c.in_ok-finish.ensures.gathered _ _ _ c.words-2.ensures.begins c.words-2.ensures.formed picks.gathered) v

pub returns-clause-part : goal.returns-clause-part
returns-clause-part g c =
    let picks = c.in_ok-gathering.ensures.rows in
    picked_part _ _ _ c.args.columns.now c.requires.columns (condition_of c.args.p.now) _ _ _ _ _ picks (c.in_ok-finish.ensures.gathered _ _ _ c.words-2.ensures.begins c.words-2.ensures.formed picks.gathered)

pub returns-clause-terms : goal.returns-clause-terms
returns-clause-terms g c =
    let picks = c.in_ok-gathering.ensures.rows in
    picked_terms _ _ _ c.args.columns.now c.requires.columns (condition_of c.args.p.now) _ _ _ _ _ picks (c.in_ok-finish.ensures.gathered _ _ _ c.words-2.ensures.begins c.words-2.ensures.formed picks.gathered)

pub returns-clause-writes : goal.returns-clause-writes
returns-clause-writes g c = c.in_ok-gathering.ensures.writes

pub returns-in_err-names-clause-writes : goal.returns-in_err-names-clause-writes
returns-in_err-names-clause-writes g c =
    let exit = err_from_is_err_and c.from_residual.result c.from_residual.ensures.1 in
    rw (exit.1, exit.2) (writes_none _ c.words.ensures.formed c.words.ensures.room)

pub returns-in_err-equals-clause-writes : goal.returns-in_err-equals-clause-writes
returns-in_err-equals-clause-writes g c =
    let exit = err_from_is_err_and c.from_residual-in_err-equals.result c.from_residual-in_err-equals.ensures.1 in
    rw (exit.1, exit.2) (writes_none _ c.words.ensures.formed c.words.ensures.room)

pub returns-in_err-gathering-clause-writes : goal.returns-in_err-gathering-clause-writes
returns-in_err-gathering-clause-writes g c =
    let exit = err_from_is_err_and c.from_residual-in_err-gathering.result c.from_residual-in_err-gathering.ensures.1 in
    rw (exit.1, exit.2) c.in_err-gathering.ensures.writes

pub returns-in_err-finish-clause-writes : goal.returns-in_err-finish-clause-writes
returns-in_err-finish-clause-writes g c =
    let exit = err_from_is_err_and c.from_residual-in_err-finish.result c.from_residual-in_err-finish.ensures.1 in
    rw (exit.1, exit.2) c.in_ok-gathering.ensures.writes
