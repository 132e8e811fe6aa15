use Rattle.std.{proofs.Common.{arith, ◌∙◌, [], Some, refl}, proofs.lemmas.Result.IfOk-weaker}
use Rattle.ct_word.{proofs.Prefixes.place_in_prefix, specs.Change.Assert, specs.Reading.{IsChangeList, condition_at}}
use Rattle.ct_query.specs.Pred.{condition_of}
use Rattle.ct_history.{specs.Encodes.Adds, proofs.Lists.list_said}
use Rattle.ct_query.specs.Plain as plain
use Rattle.ct_condition.proofs.Writes.{writes_both, writes_within}
use Rattle.ct_history.proofs.{Frames.refused, Named.no_columns}
use Rattle.ct_history.proofs.encoding.assert_that.Goals as goal

pub returns-clause-adds : goal.returns-clause-adds
returns-clause-adds g c =
    let old = c.args.pass.now.words in
    let now = c.condition.new.pass.words in
    let cond = c.in_ok-cond.cond in
    let is = c.in_ok-cond.ensures.is in
    let change = Assert (condition_at now cond) in
    IfOk-weaker c.assert_at.result _ (λ place. Adds old c.assert_at.new.pass.words c.args.list place (plain.Assert (condition_of c.args.p.now)) [])
    (λ place stands. record {
      change = change;
      list_is = stands ∙ (λ i. Some (IsChangeList (list_said old now c.args.list change change c.in_ok-cond.ensures.writes.longer c.requires.list refl i)));
      does = λ v. is.truth v [];
      from = is.from;
      few = is.few;
    })
    c.assert_at.ensures.stands

pub assert_at-requires-clause-list : goal.assert_at-requires-clause-list
assert_at-requires-clause-list g c = grind (arith, place_in_prefix)

pub returns-in_err-cond-clause-writes : goal.returns-in_err-cond-clause-writes
returns-in_err-cond-clause-writes g c =
    let none = no_columns (condition_of c.args.p.now) c.requires.predicate.columns in
    refused _ c.from_residual.result c.from_residual.ensures.1 (omega (arith, none)) c.in_err-cond.ensures.writes

pub returns-clause-writes : goal.returns-clause-writes
returns-clause-writes g c =
    let none = no_columns (condition_of c.args.p.now) c.requires.predicate.columns in
    writes_within _ (omega (arith, none)) (writes_both c.in_ok-cond.ensures.writes c.assert_at.ensures.writes)
