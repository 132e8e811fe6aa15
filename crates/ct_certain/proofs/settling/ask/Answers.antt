use Rattle.std.{proofs.Common.{sym, subst}, specs.Prelude.IfSome, proofs.lemmas.Option.IfSome_then}
use Rattle.ct_word.proofs.Prefixes.{prefix_same}
use Rattle.ct_word.specs.Stands.{HasNoColumn}
use Rattle.ct_certain.{specs.Answered.{IsNearOwn, IsSettledOwn}, proofs.Nearby.own_grows, proofs.Asking.{root_plain, shown_answer, none_answer}}
use Rattle.ct_decide.specs.declared.deciding.Decision.TheVariants as decision
use Rattle.ct_certain.proofs.settling.ask.Goals as goal

pub settle_by-requires-clause-columns : goal.settle_by-requires-clause-columns
settle_by-requires-clause-columns g c =
    let old = g.I.Interner.list c.args.pass.now in
    let new = g.I.Interner.list c.and.new.pass in
    subst (λ ws. HasNoColumn ws c.in_ok-root.root) (sym c.words-now.ensures.words)
    (root_plain old old new (prefix_same old) c.words.ensures.formed c.args.global c.args.row.now c.requires.asked c.in_ok-root.root c.in_ok-root.ensures.terms)

pub settle_by-requires-clause-near : goal.settle_by-requires-clause-near
settle_by-requires-clause-near g c =
    let old = g.I.Interner.list c.args.pass.now in
    let new = g.I.Interner.list c.and.new.pass in
    subst (λ ws. IfSome c.args.near (λ n. IsNearOwn ws c.args.global n.now)) (sym c.words-now.ensures.words)
    (IfSome_then c.args.near c.requires.near (λ n is. own_grows old new c.in_ok-root.ensures.longer c.words-now.ensures.formed c.words.ensures.formed c.args.global n.now is))

pub returns-in-World-clause-answer : goal.returns-in-World-clause-answer
returns-in-World-clause-answer g c =
    let old = g.I.Interner.list c.args.pass.now in
    let new = g.I.Interner.list c.and.new.pass in
    let root = c.in_ok-root.root in
    shown_answer old old new (prefix_same old) c.words.ensures.formed c.args.global c.args.row.now c.requires.asked root c.in_ok-root.ensures.longer c.words-now.ensures.formed c.in_ok-root.ensures.truth c.in_ok-root.ensures.terms
    c.in-World.found c.in_ok-world-in-World.world
    (subst (λ ws. IsSettledOwn ws root c.args.global (decision.World c.in-World.found)) c.words-now.ensures.words (subst (IsSettledOwn c.words-now.result.now root c.args.global) c.in-World.is c.in_ok-decision.ensures.settled))
    c.in_ok-world-in-World.ensures.same c.in_ok-world-in-World.ensures.tidy

pub returns-clause-answer : goal.returns-clause-answer
returns-clause-answer g c =
    let old = g.I.Interner.list c.args.pass.now in
    let new = g.I.Interner.list c.and.new.pass in
    let root = c.in_ok-root.root in
    none_answer old old new (prefix_same old) c.words.ensures.formed c.args.global c.args.row.now c.requires.asked root c.in_ok-root.ensures.longer c.words-now.ensures.formed c.in_ok-root.ensures.truth c.in-Refuted.field-0
    (subst (λ ws. IsSettledOwn ws root c.args.global (decision.Refuted c.in-Refuted.field-0)) c.words-now.ensures.words (subst (IsSettledOwn c.words-now.result.now root c.args.global) c.in-Refuted.is c.in_ok-decision.ensures.settled)).0
