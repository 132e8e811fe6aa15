use Rattle.std.{proofs.Common.{◌∙◌, ap, Some, sym, subst}, proofs.lemmas.Result.IfOk-weaker, proofs.lemmas.Bool.false≢true}
use Rattle.ct_word.{specs.Reading.{IsText, IsTerm, as_text, meanings}, specs.Stands.StandsAt, proofs.Prefixes.place_within}
use Rattle.ct_condition.{specs.Terms.{BelowSome, text_term}, proofs.Fields.kept, proofs.Reached.{formed_before, both_of, only_term, under_one, terms_before}}
use Rattle.ct_condition.proofs.Known.{text_word, text_there, over_there}
use Rattle.ct_word.specs.declared.kinds.Class.TheVariants as class
use Rattle.std.{proofs.Common.arith, proofs.lemmas.Result.err_from_is_err_and}
use Rattle.ct_condition.proofs.Writes.{writes_both, writes_within}
use Rattle.ct_condition.proofs.terms.over_text.Goals as goal

pub put-requires-clause-formed : goal.put-requires-clause-formed
put-requires-clause-formed g c = (text_word c.args.kind c.requires).2 (g.I.Interner.list c.text.new.pass) c.in_ok-place.place c.in_ok-place.ensures.place

pub put-requires-clause-plain : goal.put-requires-clause-plain
put-requires-clause-plain g c = (text_word c.args.kind c.requires).1

pub returns-clause-place : goal.returns-clause-place
returns-clause-place g c = rw (text_word c.args.kind c.requires).0 at c.put.ensures.place

pub returns-clause-stands : goal.returns-clause-stands
returns-clause-stands g c =
    let new = g.I.Interner.list c.put.new.pass in
    let stays : StandsAt new c.in_ok-place.place (IsText c.args.t.now) =
    kept (g.I.Interner.list c.text.new.pass) new class.Text c.in_ok-place.place _ c.put.ensures.longer c.in_ok-place.ensures.place c.in_ok-place.ensures.stands in
    IfOk-weaker c.put.result _ (λ place. StandsAt new place (IsTerm (text_term c.args.kind c.args.t.now)))
    (λ place s. s ∙ ap (λ m. Some m) ((text_word c.args.kind c.requires).3 (meanings new) c.in_ok-place.place 0) ∙ ap (λ o. Some (IsTerm (text_term c.args.kind (as_text o)))) stays) c.put.ensures.stands

pub returns-clause-terms : goal.returns-clause-terms
returns-clause-terms g c =
    let old = g.I.Interner.list c.text.new.pass in
    let new = g.I.Interner.list c.put.new.pass in
    let place = c.in_ok-place.place in
    both_of c.put.result _ _ _
    (λ p stands from. only_term new p c.args.kind place 0 (text_term c.args.kind c.args.t.now)
    (λ u h. c.in_ok-place.ensures.terms u
    (terms_before old new c.put.ensures.longer c.put.ensures.formed place u (place_within old class.Text place c.in_ok-place.ensures.place) (under_one new place u (subst (λ ps. BelowSome new ps u) ((text_word c.args.kind c.requires).4 place) h)))) stands from)
    (returns-clause-stands g c) c.put.ensures.terms

pub returns-in_err-place-clause-known : goal.returns-in_err-place-clause-known
returns-in_err-place-clause-known g c p s =
    let old = g.I.Interner.list c.args.pass.now in
    let at = text_there old (formed_before old (g.I.Interner.list c.text.new.pass) c.in_err-place.ensures.longer c.in_err-place.ensures.formed) c.args.kind c.requires p c.args.t.now s in
    absurd (false≢true (c.in_err-place.ensures.known at.0 at.1).0)

pub returns-clause-known : goal.returns-clause-known
returns-clause-known g c p s =
    let old = g.I.Interner.list c.args.pass.now in
    let mid = g.I.Interner.list c.text.new.pass in
    let at = text_there old (formed_before old mid c.in_ok-place.ensures.longer c.in_ok-place.ensures.formed) c.args.kind c.requires p c.args.t.now s in
    let first = c.in_ok-place.ensures.known at.0 at.1 in
    let still = subst (λ ws. StandsAt ws p (IsTerm (text_term c.args.kind c.args.t.now))) (sym first.1) s in
    let again = text_there mid c.in_ok-place.ensures.formed c.args.kind c.requires p c.args.t.now still in
    let second = c.put.ensures.known (over_there mid c.in_ok-place.ensures.formed c.args.kind c.args.t.now c.in_ok-place.place again c.in_ok-place.ensures.stands) in
    (second.0, second.1 ∙ first.1, second.2 ∙ first.2)

pub returns-clause-writes : goal.returns-clause-writes
returns-clause-writes g c = writes_within _ (omega arith) (writes_both c.in_ok-place.ensures.writes c.put.ensures.writes)

pub returns-in_err-place-clause-writes : goal.returns-in_err-place-clause-writes
returns-in_err-place-clause-writes g c =
    rw (err_from_is_err_and c.from_residual.result c.from_residual.ensures.1).1 (writes_within _ (omega arith) c.in_err-place.ensures.writes)
