use Rattle.std.{proofs.Common.{refl, subst}, proofs.lemmas.Result.IfOk-at_ok}
use Rattle.ct_keeper.specs.Catalogue.{IsNewest}
use Rattle.ct_table.specs.Snapshot.{commits_to}
use Rattle.ct_transaction.proofs.Opened.{session_grows}
use Rattle.ct_session.{specs.Exporting.{IsFileOf, WhyNoFile}, specs.Standing.Standing, proofs.StillKnown.{seen_longer, known_stays}}
use Rattle.ct_session.proofs.Exports.{session_seen, now_is, looked, exported_then, not_exported_then}
use Rattle.ct_session.proofs.exporting.exported.Goals as goal

pub returns-in_default-clause-session : goal.returns-in_default-clause-session
returns-in_default-clause-session g c =
    let s = c.args.session in
    let begun = c.begin-pass.result.0 in
    let longer = c.begin-pass.ensures.longer in
    session_grows s.pass.words begun.words longer c.words-words.ensures.formed s.seen s.transaction c.requires.session

pub returns-in_default-clause-known : goal.returns-in_default-clause-known
returns-in_default-clause-known g c = λ k is.
    let longer = c.begin-pass.ensures.longer in
    known_stays c.args.session.pass.words c.begin-pass.result.0.words (seen_longer c.args.session.pass.words c.begin-pass.result.0.words longer c.words-words.ensures.formed) k is

pub returns-in-Ok-file-clause-session : goal.returns-in-Ok-file-clause-session
returns-in-Ok-file-clause-session g c =
    let s = c.args.session in
    let begun = c.begin-pass.result.0 in
    let longer = c.begin-pass.ensures.longer in
    let at = c.in-Ok.snapshot.version in
    let newest = (IfOk-at_ok (IsNewest begun.words) c.in-Ok.is c.begin-pass.ensures.snapshot).version in
    session_seen begun.words s.seen at c.max.result s.transaction (session_grows s.pass.words begun.words longer c.words-words.ensures.formed s.seen s.transaction c.requires.session) newest c.max.ensures

pub returns-in-Ok-file-clause-known : goal.returns-in-Ok-file-clause-known
returns-in-Ok-file-clause-known g c = λ k is.
    let longer = c.begin-pass.ensures.longer in
    known_stays c.args.session.pass.words c.begin-pass.result.0.words (seen_longer c.args.session.pass.words c.begin-pass.result.0.words longer c.words-words.ensures.formed) k is

pub returns-in-Ok-file-clause-ok : goal.returns-in-Ok-file-clause-ok
returns-in-Ok-file-clause-ok g c =
    let s = c.args.session in
    let begun = c.begin-pass.result.0 in
    let longer = c.begin-pass.ensures.longer in
    let at = c.in-Ok.snapshot.version in
    let newest = (IfOk-at_ok (IsNewest begun.words) c.in-Ok.is c.begin-pass.ensures.snapshot).version in
    let N = g.N.Site.log.cap in
    let old : Standing = record { pass = s.pass; seen = s.seen; fresh = s.fresh; transaction = s.transaction } in
    let new : Standing = record { pass = begun; seen = c.max.result; fresh = s.fresh; transaction = s.transaction } in
    let looks = looked N old new c.args.name.now at longer c.begin-pass.ensures.pass c.max.ensures refl refl in
    let now = now_is old new at longer c.requires.session.seen_is newest in
    exported_then N old new c.args.name.now at looks now c.in-Ok-file.bytes.items
    (subst (λ w. IsFileOf w (commits_to w at) c.args.name.now c.in-Ok-file.bytes.items) c.words-words.ensures.words c.in-Ok-file.ensures.ok)

pub returns-in-Err-clause-session : goal.returns-in-Err-clause-session
returns-in-Err-clause-session g c =
    let s = c.args.session in
    let begun = c.begin-pass.result.0 in
    let longer = c.begin-pass.ensures.longer in
    let at = c.in-Ok.snapshot.version in
    let newest = (IfOk-at_ok (IsNewest begun.words) c.in-Ok.is c.begin-pass.ensures.snapshot).version in
    session_seen begun.words s.seen at c.max.result s.transaction (session_grows s.pass.words begun.words longer c.words-words.ensures.formed s.seen s.transaction c.requires.session) newest c.max.ensures

pub returns-in-Err-clause-known : goal.returns-in-Err-clause-known
returns-in-Err-clause-known g c = λ k is.
    let longer = c.begin-pass.ensures.longer in
    known_stays c.args.session.pass.words c.begin-pass.result.0.words (seen_longer c.args.session.pass.words c.begin-pass.result.0.words longer c.words-words.ensures.formed) k is

pub returns-in-Err-clause-error : goal.returns-in-Err-clause-error
returns-in-Err-clause-error g c =
    let s = c.args.session in
    let begun = c.begin-pass.result.0 in
    let longer = c.begin-pass.ensures.longer in
    let at = c.in-Ok.snapshot.version in
    let newest = (IfOk-at_ok (IsNewest begun.words) c.in-Ok.is c.begin-pass.ensures.snapshot).version in
    let N = g.N.Site.log.cap in
    let old : Standing = record { pass = s.pass; seen = s.seen; fresh = s.fresh; transaction = s.transaction } in
    let new : Standing = record { pass = begun; seen = c.max.result; fresh = s.fresh; transaction = s.transaction } in
    let looks = looked N old new c.args.name.now at longer c.begin-pass.ensures.pass c.max.ensures refl refl in
    let now = now_is old new at longer c.requires.session.seen_is newest in
    not_exported_then N old new c.args.name.now at looks now c.in-Err.why
    (subst (λ w. WhyNoFile w at c.args.name.now c.in-Err.why) c.words-words.ensures.words c.in-Err.ensures.error)
