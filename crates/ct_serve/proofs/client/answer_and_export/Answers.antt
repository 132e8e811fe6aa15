use Rattle.std.{proofs.Common.{◌+◌, ◌≤◌, length, subst, ◌∙◌}, proofs.lemmas.Result.{IfOk-weaker, IfErr-weaker}}
use Rattle.ct_arena.{specs.Counts.AreNumbered, specs.Seen.Seen}
use Rattle.ct_serve.proofs.Exports.{looked_any, same_number, answered_after, file_after, none_after}
use Rattle.ct_serve.proofs.client.answer_and_export.Goals as goal

pub returns-clause-number : goal.returns-clause-number
returns-clause-number g c =
    let old = c.answer_script-replies.new.session in
    let new = c.export-file.new.self in
    let l = looked_any g.N.Site.log.cap old new c.args.name.now c.export-file.result (λ r. r.0) (λ r. r.1.items) c.export-file.ensures.ok c.export-file.ensures.error in
    same_number old new l.0 l.1 ∙ c.answer_script-replies.ensures.number

pub returns-clause-answered : goal.returns-clause-answered
returns-clause-answered g c =
    let N = g.N.Site.log.cap in
    let old = c.answer_script-replies.new.session in
    let new = c.export-file.new.self in
    let l = looked_any N old new c.args.name.now c.export-file.result (λ r. r.0) (λ r. r.1.items) c.export-file.ensures.ok c.export-file.ensures.error in
    let room = subst (λ (p : Seen). length p.words ≤ N) c.pass-2.ensures c.words-2.ensures.room in
    let before = subst (λ (p : Seen). AreNumbered p.session p.mine p.words) c.pass.ensures c.words.ensures.numbered in
    let after = subst (λ (p : Seen). AreNumbered p.session p.mine p.words) c.pass-2.ensures c.words-2.ensures.numbered in
    IfOk-weaker c.answer_script-replies.result _ _
    (λ rs p. answered_after N c.args.session.now old new l.0 c.args.script.now l.1 c.requires.begins c.answer_script-replies.ensures.number room before after rs.items p)
    c.answer_script-replies.ensures.progress

pub returns-clause-file : goal.returns-clause-file
returns-clause-file g c =
    let old = c.answer_script-replies.new.session in
    let counted = subst (λ (p : Seen). 2 + p.made ≤ length p.words) c.pass.ensures c.words.ensures.counted in
    IfOk-weaker c.export-file.result _ _ (λ r h. file_after g.N.Site.log.cap old c.export-file.new.self c.args.name.now r.0 r.1.items counted h) c.export-file.ensures.ok

pub returns-clause-none : goal.returns-clause-none
returns-clause-none g c =
    let old = c.answer_script-replies.new.session in
    let counted = subst (λ (p : Seen). 2 + p.made ≤ length p.words) c.pass.ensures c.words.ensures.counted in
    IfErr-weaker c.export-file.result _ _ (λ e h. none_after g.N.Site.log.cap old c.export-file.new.self c.args.name.now e counted h) c.export-file.ensures.error
