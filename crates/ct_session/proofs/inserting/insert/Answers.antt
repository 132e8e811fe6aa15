use Rattle.std.{proofs.Common.{◌≤◌, length, subst, sym}}
use Rattle.ct_word.specs.Reading.{commits_of}
use Rattle.ct_transaction.specs.Answers.{is_unasked}
use Rattle.ct_transaction.specs.declared.state.State.{State}
use Rattle.ct_session.{specs.Doing.IsDone, proofs.Unasked.never_both}
use Rattle.ct_session.proofs.inserting.insert.Goals as goal

pub anew-requires-clause-seen : goal.anew-requires-clause-seen
anew-requires-clause-seen g c = subst (λ (s : State _). s.seen ≤ length (commits_of s.pass.words)) (sym c.in-Err.ensures.same) c.requires.session.seen_is

pub returns-in-Ok-clause-done : goal.returns-in-Ok-clause-done
returns-in-Ok-clause-done g c = record {
  session = c.in-Ok.ensures.session;
  makes = c.in-Ok.ensures.makes;
  unasked = never_both (is_unasked c.in-Ok.done.1) c.in-Ok.ensures.asked;
  executes = c.in-Ok.ensures.executes;
}

pub returns-in-Err-clause-done : goal.returns-in-Err-clause-done
returns-in-Err-clause-done g c =
    let after = c.anew.result.0 in
    subst (λ (s : State _). IsDone g.N.Site.log.cap s.pass s.seen s.fresh c.args.statement.now after.pass after.seen after.fresh after.transaction c.anew.result.1) c.in-Err.ensures.same c.anew.ensures.done
