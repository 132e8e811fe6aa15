use Rattle.std.proofs.Common.{◌≡◌, length, subst, ◌∙◌, arith}
use Rattle.ct_rewrite.specs.History.{plain_history}
use Rattle.ct_word.specs.StandsFor.{StandsFor}
use Rattle.ct_serve.proofs.Closed.{as_many, lawful_closed, within_closed}
use Rattle.ct_serve.proofs.serving.closed.Goals as goal

pub close-words-requires : goal.close-words-requires
close-words-requires g c = record { all = as_many c.args.passes.items g.N.Site.sessions c.requires.numbers }

pub returns-clause-lawful : goal.returns-clause-lawful
returns-clause-lawful g c =
    let words = c.close-words.result in
    let w = c.close-words.ensures in
    let h = c.in_ok-history in
    lawful_closed g.N.Site.log.cap words w.formed w.room h.history (subst (StandsFor (plain_history h.history)) c.words-listed.ensures h.ensures.0)
    c.args.passes.items c.args.logs g.N.Site.sessions w.begins h.ensures.1 c.requires.numbers c.requires.ended w.numbered w.seen w.known w.admitted

pub returns-clause-within : goal.returns-clause-within
returns-clause-within g c =
    let words = c.close-words.result in
    let w = c.close-words.ensures in
    let h = c.in_ok-history in
    within_closed g.N.Site.log.cap words w.formed w.room h.history (subst (StandsFor (plain_history h.history)) c.words-listed.ensures h.ensures.0)
    c.args.passes.items c.args.logs g.N.Site.sessions c.requires.numbers c.requires.ended w.seen w.whole

pub parts_for-parts-requires : goal.parts_for-parts-requires
parts_for-parts-requires g c =
    let many : length c.args.passes.items ≡ g.N.Site.sessions = as_many c.args.passes.items g.N.Site.sessions c.requires.numbers in
    let len : c.len-sessions.result ≡ length c.args.passes.items = c.len-sessions.ensures ∙ c.args.passes.ok.0 in
    let some = c.requires.some in record { some = omega (arith, many, len, some) }
