use Rattle.std.{proofs.Common.{arith, ap}, proofs.lemmas.Result.IfOk-weaker, specs.Prelude.{◌∷◌, ◌++◌, []}}
use Rattle.ct_word.{proofs.Prefixes.place_in_prefix, specs.Reading.{IsChangeList, change_list_at}, specs.Stands.StandsAt, specs.WellFormed.same_class}
use Rattle.ct_history.{specs.Places.change_of, proofs.Lists.change_added}
use Rattle.ct_word.specs.declared.kinds.Class.TheVariants as class
use Rattle.ct_condition.proofs.Writes.{writes_both}
use Rattle.ct_history.proofs.Frames.{refused}
use Rattle.ct_history.proofs.changes.add.Goals as goal

pub put-requires-clause-plain : goal.put-requires-clause-plain
put-requires-clause-plain g c = ap (λ x. same_class x class.Commit) c.requires.change

pub returns-clause-adds : goal.returns-clause-adds
returns-clause-adds g c =
    let old = c.args.pass.now.words in
    let mid = c.put.new.pass.words in
    let new = c.put-2.new.pass.words in
    IfOk-weaker c.put-2.result _ (λ place. StandsAt new place (IsChangeList (change_list_at old c.args.list ++ change_of old c.args.kind c.args.left c.args.right ∷ [])))
    (λ place. change_added old mid new c.args.kind c.args.left c.args.right c.args.list c.in_ok-change.change place c.in_ok-change.ensures.longer c.put-2.ensures.longer
    c.requires.list c.requires.change c.requires.formed c.in_ok-change.ensures.stands c.in_ok-change.ensures.place)
    c.put-2.ensures.stands

pub put-requires-2-clause-formed : goal.put-requires-2-clause-formed
put-requires-2-clause-formed g c = grind (arith, place_in_prefix)

pub returns-in_err-change-clause-writes : goal.returns-in_err-change-clause-writes
returns-in_err-change-clause-writes g c = refused _ c.from_residual.result c.from_residual.ensures.1 (omega arith) c.in_err-change.ensures.writes

pub returns-clause-writes : goal.returns-clause-writes
returns-clause-writes g c = writes_both c.in_ok-change.ensures.writes c.put-2.ensures.writes
