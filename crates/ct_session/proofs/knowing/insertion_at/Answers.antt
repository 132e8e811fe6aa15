use Rattle.std.proofs.Common.{refl, subst}
use Rattle.ct_query.{specs.Schema.schema, specs.Views.statement_of}
use Rattle.ct_statement.specs.Sight.{actions_before, history_of}
use Rattle.ct_transaction.specs.Prepared.{IsResolved}
use Rattle.ct_session.{specs.Offering.InsertsRows, proofs.Again.{insertion_plain, insertion_rows, rows_literal}}
use Rattle.ct_session.proofs.knowing.insertion_at.Goals as goal

pub resolved_at-requires-clause-plain : goal.resolved_at-requires-clause-plain
resolved_at-requires-clause-plain g c = insertion_plain c.args.statement.now c.requires.insertion

pub returns-clause-resolved : goal.returns-clause-resolved
returns-clause-resolved g c =
    let s = c.args.sight.now in
    let pass = c.args.pass.now in
    subst (λ asked. IsResolved (history_of pass.words s) (actions_before s) pass.session c.args.fresh c.args.statement.now asked) c.in-Ok-literal_act.ensures.act c.in-Ok.ensures.ok

pub returns-clause-found : goal.returns-clause-found
returns-clause-found g c =
    let s = c.args.sight.now in
    let pass = c.args.pass.now in
    record {
      sight = s;
      sees = c.requires.sees;
      base_is = refl;
      found = subst (λ asked. IsResolved (history_of pass.words s) (actions_before s) pass.session c.args.fresh c.args.statement.now asked) c.in-Ok-literal_act.ensures.act c.in-Ok.ensures.ok;
    }

pub returns-clause-rows : goal.returns-clause-rows
returns-clause-rows g c =
    let s = c.args.sight.now in
    let pass = c.args.pass.now in
    subst InsertsRows c.in-Ok-literal_act.ensures.act
    (insertion_rows (schema (history_of pass.words s) (actions_before s)) pass.session c.args.fresh c.args.statement.now (statement_of c.in-Ok.found) c.requires.insertion c.in-Ok.ensures.ok.resolves)

-- an insertion of written rows is all in its text, so it is found
pub unreachable-requires : goal.unreachable-requires
unreachable-requires g c =
    let s = c.args.sight.now in
    let pass = c.args.pass.now in
    c.in_default.ensures.other (rows_literal (statement_of c.in-Ok.found)
    (insertion_rows (schema (history_of pass.words s) (actions_before s)) pass.session c.args.fresh c.args.statement.now (statement_of c.in-Ok.found) c.requires.insertion c.in-Ok.ensures.ok.resolves))
