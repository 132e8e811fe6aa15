use Rattle.std.{proofs.Common.{◌∙◌, length, subst, sym}, specs.Prelude.IsTrue, specs.List.list_all}
use Rattle.ct_word.specs.WellFormed.{is_place_of}
use Rattle.ct_statement.proofs.Printed.{are_conditions, positions_long, answer_prints}
use Rattle.ct_word.specs.declared.kinds.Class.TheVariants as class
use Rattle.ct_statement.proofs.printing.answer_of.Goals as goal

pub normal-requires-clause-roots : goal.normal-requires-clause-roots
normal-requires-clause-roots c =
    subst (λ ps. IsTrue (list_all (is_place_of c.args.words.now class.Cond) ps)) (sym (c.as_slice.ensures.value ∙ c.in_ok-places.ensures))
    (are_conditions c.args.words.now c.args.global c.requires.global (length c.args.columns) c.args.rows.now c.requires.rows)

pub printed_rows-requires-clause-positions : goal.printed_rows-requires-clause-positions
printed_rows-requires-clause-positions c =
    positions_long c.args.words.now c.in_ok-nodes.field-0.nodes c.args.global c.args.rows.now c.in_ok-nodes.field-0.roots c.as_slice-2.result.now c.as_slice.result.now c.in-Some.global.now c.in-Some.positions.now
    c.in_ok-nodes.ensures.truth (c.as_slice.ensures.value ∙ c.in_ok-places.ensures) c.as_slice-2.ensures c.in-Some.ensures.cases.0

pub returns : goal.returns
returns c =
    answer_prints c.args.words.now c.in_ok-nodes.field-0.nodes c.args.global c.args.rows.now c.in_ok-nodes.field-0.roots c.as_slice-2.result.now c.as_slice.result.now c.in-Some.global.now c.in-Some.positions.now
    c.in_ok-nodes.ensures.truth (c.as_slice.ensures.value ∙ c.in_ok-places.ensures) c.as_slice-2.ensures c.in-Some.ensures.cases.0
    c.args.columns c.columns.inside.items.items (length c.args.columns) _ c.requires.rows c.in_ok-nodes.ensures.placed c.in_ok-nodes.ensures.ordered c.columns.view_is c.in_ok-printed_rows.ensures
