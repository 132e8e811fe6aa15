use Rattle.std.{proofs.Common.{arith, ◌∙◌, [], Some}, proofs.lemmas.Result.IfOk-weaker}
use Rattle.ct_word.{proofs.Prefixes.{place_in_prefix, prefix_of_prefix}, specs.Change.Insert, specs.Reading.{IsChangeList, as_row_list}}
use Rattle.ct_query.specs.Pred.{condition_of}
use Rattle.ct_history.{specs.Encodes.Adds, proofs.Encoded.{rows_under, rows_do, rows_from, rows_few}, proofs.Lists.list_said}
use Rattle.ct_query.specs.Plain as plain
use Rattle.ct_word.specs.declared.kinds.Class.TheVariants as class
use Rattle.ct_condition.proofs.Writes.{writes_both, writes_within}
use Rattle.ct_history.proofs.{Encoded.rows_words, Frames.refused, Named.no_columns}
use Rattle.ct_history.proofs.encoding.insert_rows.Goals as goal

pub returns-clause-adds : goal.returns-clause-adds
returns-clause-adds g c =
    let old = c.args.pass.now.words in
    let conds = c.condition.new.pass.words in
    let now = c.term_rows.new.pass.words in
    let p = condition_of c.args.p.now in
    let name = c.args.name.now in
    let rows = c.args.rows.now in
    let cond = c.in_ok-cond.cond in
    let is = c.in_ok-cond.ensures.is in
    let change = Insert name (rows_under conds cond p is name rows) in
    let longer = prefix_of_prefix old conds now c.in_ok-cond.ensures.writes.longer c.in_ok-list_of_rows.ensures.writes.longer in
    IfOk-weaker c.insert_list.result _ (λ place. Adds old c.insert_list.new.pass.words c.args.list place (plain.InsertRows name rows p) [])
    (λ place stands. record {
      change = change;
      list_is = stands ∙ (λ i. Some (IsChangeList (list_said old now c.args.list _ change longer c.requires.list (λ j. Insert name (as_row_list (c.in_ok-list_of_rows.ensures.rows.stands j))) i)));
      does = rows_do conds cond p is name rows;
      from = rows_from conds cond p is name rows;
      few = rows_few conds cond p is name rows;
    })
    c.insert_list.ensures.stands

pub insert_list-requires-clause-list : goal.insert_list-requires-clause-list
insert_list-requires-clause-list g c =
    let old = c.args.pass.now.words in
    let conds = c.condition.new.pass.words in
    let now = c.term_rows.new.pass.words in
    place_in_prefix old now class.ChangeList c.args.list (prefix_of_prefix old conds now c.in_ok-cond.ensures.writes.longer c.in_ok-list_of_rows.ensures.writes.longer) c.requires.list

pub returns-in_err-cond-clause-writes : goal.returns-in_err-cond-clause-writes
returns-in_err-cond-clause-writes g c =
    let none = no_columns (condition_of c.args.p.now) c.requires.predicate.columns in
    refused _ c.from_residual.result c.from_residual.ensures.1 (omega (arith, none)) c.in_err-cond.ensures.writes

pub returns-in_err-list_of_rows-clause-writes : goal.returns-in_err-list_of_rows-clause-writes
returns-in_err-list_of_rows-clause-writes g c =
    let none = no_columns (condition_of c.args.p.now) c.requires.predicate.columns in
    let rows = rows_words c.args.rows.now in
    refused _ c.from_residual-in_err-list_of_rows.result c.from_residual-in_err-list_of_rows.ensures.1 (omega (arith, none, rows)) (writes_both c.in_ok-cond.ensures.writes c.in_err-list_of_rows.ensures.writes)

pub returns-clause-writes : goal.returns-clause-writes
returns-clause-writes g c =
    let none = no_columns (condition_of c.args.p.now) c.requires.predicate.columns in
    let rows = rows_words c.args.rows.now in
    writes_within _ (omega (arith, none, rows)) (writes_both c.in_ok-cond.ensures.writes (writes_both c.in_ok-list_of_rows.ensures.writes c.insert_list.ensures.writes))
