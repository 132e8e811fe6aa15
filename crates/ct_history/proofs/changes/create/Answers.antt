use Rattle.std.{proofs.Common.{arith, subst}, proofs.lemmas.List.Sums.sum_by-cons, specs.Prelude.IfOk}
use Rattle.ct_word.{proofs.Prefixes.{place_in_prefix, prefix_of_prefix, place_within, stands_in_prefix}, specs.Change.Create, specs.Stands.StandsAt}
use Rattle.ct_word.specs.Reading.{IsChangeList, as_name_list, as_text}
use Rattle.ct_history.{specs.Encodes.name_words, proofs.Lists.list_said}
use Rattle.ct_word.specs.declared.kinds.Class.TheVariants as class
use Rattle.ct_condition.proofs.Writes.{writes_both, writes_within}
use Rattle.ct_history.proofs.Frames.{refused}
use Rattle.ct_history.proofs.changes.create.Goals as goal

pub returns-clause-stands : goal.returns-clause-stands
returns-clause-stands g c =
    let old = c.args.pass.now.words in
    let texts = c.text.new.pass.words in
    let now = c.names.new.pass.words in
    let table = stands_in_prefix texts now c.in_ok-table.table _ c.in_ok-list_of_names.ensures.writes.longer (place_within texts class.Text c.in_ok-table.table c.in_ok-table.ensures.place) c.in_ok-table.ensures.stands in
    subst (λ xs. IfOk c.add.result (λ place. StandsAt c.add.new.pass.words place (IsChangeList xs)))
    (list_said old now c.args.list _ _ (prefix_of_prefix old texts now c.in_ok-table.ensures.longer c.in_ok-list_of_names.ensures.writes.longer) c.requires.list
    (λ i. Create (as_text (table i)) (as_name_list (c.in_ok-list_of_names.ensures.stands i))))
    c.add.ensures.adds

pub add-requires-clause-list : goal.add-requires-clause-list
add-requires-clause-list g c =
    let texts = c.text.new.pass.words in
    let now = c.names.new.pass.words in
    place_in_prefix c.args.pass.now.words now class.ChangeList c.args.list (prefix_of_prefix c.args.pass.now.words texts now c.in_ok-table.ensures.longer c.in_ok-list_of_names.ensures.writes.longer) c.requires.list

pub add-requires-clause-formed : goal.add-requires-clause-formed
add-requires-clause-formed g c = grind (arith, place_in_prefix)

pub returns-in_err-table-clause-writes : goal.returns-in_err-table-clause-writes
returns-in_err-table-clause-writes g c =
    let all = sum_by-cons name_words c.args.name.now c.args.columns.now in
    refused _ c.from_residual.result c.from_residual.ensures.1 (omega (arith, all)) c.in_err-table.ensures.writes

pub returns-in_err-list_of_names-clause-writes : goal.returns-in_err-list_of_names-clause-writes
returns-in_err-list_of_names-clause-writes g c =
    let all = sum_by-cons name_words c.args.name.now c.args.columns.now in
    refused _ c.from_residual-in_err-list_of_names.result c.from_residual-in_err-list_of_names.ensures.1 (omega (arith, all)) (writes_both c.in_ok-table.ensures.writes c.in_err-list_of_names.ensures.writes)

pub returns-clause-writes : goal.returns-clause-writes
returns-clause-writes g c =
    let all = sum_by-cons name_words c.args.name.now c.args.columns.now in
    writes_within _ (omega (arith, all)) (writes_both c.in_ok-table.ensures.writes (writes_both c.in_ok-list_of_names.ensures.writes c.add.ensures.writes))
