use Rattle.std.proofs.Common.{◌≡◌, false, map, ap, sym, subst, ◌∙◌}
use Rattle.ct_query.{specs.Fits.FitsStatement, specs.Schema.schema, specs.Views.statement_of, specs.declared.schema.Schema.Schema}
use Rattle.ct_resolve.specs.Statements.{resolved}
use Rattle.ct_table.specs.Denotes.{heading_of}
use Rattle.ct_statement.specs.Making.{says_full}
use Rattle.ct_statement.specs.Sight.{actions_before, history_of}
use Rattle.ct_transaction.{specs.Prepared.IsRefused, proofs.Resolving.{named_refuses, named_room, no_order}}
use Rattle.ct_transaction.proofs.preparing.resolved_at.Goals as goal

pub returns-in-Ok-clause-ok : goal.returns-in-Ok-clause-ok
returns-in-Ok-clause-ok g c =
    let words = c.args.pass.now.words in
    let s = c.args.sight.now in
    let st = c.args.statement.now in
    let asked = statement_of c.in-Ok.resolved in
    let w = c.requires.written in
    let same : record { tables = map heading_of c.db.result.now } ≡ schema (history_of words s) (actions_before s) =
    λ i. record { tables = (ap (map heading_of) c.db.ensures ∙ c.requires.sight.denotes.worth.headings) i } in
    let found = (λ i. resolved (sym same i) (sym c.session-session.ensures.value i) c.args.fresh st) ∙ c.in-Ok.ensures.ok in
    record {
      resolves = found;
      fits = subst (λ (sch : Schema). FitsStatement sch.tables asked) same (c.in-Ok.ensures.fits c.session-session.ensures.least c.session-session.ensures.most);
      writes = c.in-Ok.ensures.writable w.lexemes w.written w.spells;
      plain = no_order (schema (history_of words s) (actions_before s)) c.args.pass.now.session c.args.fresh st asked c.requires.plain found;
    }

pub returns-in-Err-clause-err : goal.returns-in-Err-clause-err
returns-in-Err-clause-err g c =
    let words = c.args.pass.now.words in
    let s = c.args.sight.now in
    let st = c.args.statement.now in
    let same : record { tables = map heading_of c.db.result.now } ≡ schema (history_of words s) (actions_before s) =
    λ i. record { tables = (ap (map heading_of) c.db.ensures ∙ c.requires.sight.denotes.worth.headings) i } in
    subst (λ why. IsRefused (history_of words s) (actions_before s) g.N.Site.log.cap words c.args.pass.now.session c.args.fresh st why) (sym c.named.ensures)
    (named_refuses (history_of words s) (actions_before s) g.N.Site.log.cap words c.args.pass.now.session c.args.fresh st c.in-Err.e
    (λ n. (λ i. resolved (sym same i) (sym c.session-session.ensures.value i) c.args.fresh st) ∙ c.in-Err.ensures.err n))

pub returns-in-Err-clause-room : goal.returns-in-Err-clause-room
returns-in-Err-clause-room g c = subst (λ why. says_full why ≡ false) (sym c.named.ensures) (named_room c.in-Err.e)
