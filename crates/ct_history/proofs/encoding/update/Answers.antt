use Rattle.std.{proofs.Common.{arith, ◌∙◌, [], Some, refl}, proofs.lemmas.Result.IfOk-weaker}
use Rattle.ct_word.{proofs.Prefixes.{place_in_prefix, prefix_of_prefix}, specs.Change.Update, specs.Reading.{IsChangeList, as_text, condition_at}}
use Rattle.ct_query.specs.Pred.{condition_of}
use Rattle.ct_history.{specs.Encodes.Adds, proofs.Encoded.{condition_later, update_from}, proofs.Lists.{body_said, list_said}}
use Rattle.ct_query.specs.Plain as plain
use Rattle.ct_word.specs.declared.kinds.Class.TheVariants as class
use Rattle.ct_condition.proofs.Writes.{writes_both, writes_within}
use Rattle.ct_history.proofs.Frames.{refused}
use Rattle.ct_history.proofs.encoding.update.Goals as goal

pub returns-clause-adds : goal.returns-clause-adds
returns-clause-adds g c =
    let old = c.args.pass.now.words in
    let conds = c.condition.new.pass.words in
    let lists = c.sets.new.pass.words in
    let bodies = c.put.new.pass.words in
    let now = c.text.new.pass.words in
    let name = c.args.name.now in
    let sets = c.args.sets_of.now in
    let p = condition_of c.args.p.now in
    let cond = c.in_ok-cond.cond in
    let to_bodies = prefix_of_prefix conds lists bodies c.in_ok-list_of_sets.ensures.writes.longer c.in_ok-body.ensures.longer in
    let is = condition_later conds bodies p cond to_bodies c.in_ok-cond.ensures.is in
    let change = Update name sets (condition_at bodies cond) in
    let longer = prefix_of_prefix old bodies now (prefix_of_prefix old conds bodies c.in_ok-cond.ensures.writes.longer to_bodies) c.in_ok-table.ensures.longer in
    let body = body_said lists bodies now sets c.in_ok-list_of_sets.list_of_sets cond c.in_ok-body.body
    c.in_ok-list_of_sets.ensures.stands c.in_ok-list_of_sets.ensures.place c.in_ok-body.ensures.longer
    c.in_ok-body.ensures.stands c.in_ok-body.ensures.place c.in_ok-table.ensures.longer in
    IfOk-weaker c.add.result _ (λ place. Adds old c.add.new.pass.words c.args.list place (plain.Update name sets p) [])
    (λ place stands. record {
      change = change;
      list_is = stands ∙ (λ i. Some (IsChangeList (list_said old now c.args.list _ change longer c.requires.list (λ j. Update (as_text (c.in_ok-table.ensures.stands j)) (body j).0 (body j).1) i)));
      does = (refl, refl, is.truth);
      from = update_from bodies cond p is name sets;
      few = is.few;
    })
    c.add.ensures.adds

pub add-requires-clause-list : goal.add-requires-clause-list
add-requires-clause-list g c =
    let old = c.args.pass.now.words in
    let conds = c.condition.new.pass.words in
    let lists = c.sets.new.pass.words in
    let bodies = c.put.new.pass.words in
    let now = c.text.new.pass.words in
    place_in_prefix old now class.ChangeList c.args.list
    (prefix_of_prefix old bodies now
    (prefix_of_prefix old conds bodies c.in_ok-cond.ensures.writes.longer (prefix_of_prefix conds lists bodies c.in_ok-list_of_sets.ensures.writes.longer c.in_ok-body.ensures.longer))
    c.in_ok-table.ensures.longer)
    c.requires.list

pub returns-in_err-cond-clause-writes : goal.returns-in_err-cond-clause-writes
returns-in_err-cond-clause-writes g c = refused _ c.from_residual.result c.from_residual.ensures.1 (omega arith) c.in_err-cond.ensures.writes

pub returns-in_err-list_of_sets-clause-writes : goal.returns-in_err-list_of_sets-clause-writes
returns-in_err-list_of_sets-clause-writes g c = refused _ c.from_residual-in_err-list_of_sets.result c.from_residual-in_err-list_of_sets.ensures.1 (omega arith) (writes_both c.in_ok-cond.ensures.writes c.in_err-list_of_sets.ensures.writes)

pub returns-in_err-body-clause-writes : goal.returns-in_err-body-clause-writes
returns-in_err-body-clause-writes g c = refused _ c.from_residual-in_err-body.result c.from_residual-in_err-body.ensures.1 (omega arith) (writes_both c.in_ok-cond.ensures.writes (writes_both c.in_ok-list_of_sets.ensures.writes c.in_err-body.ensures.writes))

pub returns-in_err-table-clause-writes : goal.returns-in_err-table-clause-writes
returns-in_err-table-clause-writes g c =
    refused _ c.from_residual-in_err-table.result c.from_residual-in_err-table.ensures.1 (omega arith)
    (writes_both c.in_ok-cond.ensures.writes (writes_both c.in_ok-list_of_sets.ensures.writes (writes_both c.in_ok-body.ensures.writes c.in_err-table.ensures.writes)))

pub returns-clause-writes : goal.returns-clause-writes
returns-clause-writes g c =
    writes_within _ (omega arith)
    (writes_both c.in_ok-cond.ensures.writes (writes_both c.in_ok-list_of_sets.ensures.writes (writes_both c.in_ok-body.ensures.writes (writes_both c.in_ok-table.ensures.writes c.add.ensures.writes))))
