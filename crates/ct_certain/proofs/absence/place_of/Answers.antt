use Rattle.std.{proofs.Common.{◌≡◌, sym, subst}, specs.Prelude.{is_err, IsTrue}, proofs.lemmas.Result.{IfOk-at_ok, err_from_is_err_and}}
use Rattle.ct_word.{specs.Reading.IsTerm, specs.Stands.StandsAt, specs.WellFormed.is_place_of}
use Rattle.ct_query.specs.Fields.{FitsFields}
use Rattle.ct_condition.{specs.Terms.TermsFrom, specs.Writes.Writes, proofs.Writes.writes_none}
use Rattle.ct_certain.{specs.Missing.{IsAtHand, IsOfValue}, proofs.Values.{value_fits, value_writes}}
use Rattle.ct_word.specs.declared.kinds.Class.TheVariants as class
use Rattle.ct_word.specs.declared.values.Term.TheVariants as term
use Rattle.ct_certain.proofs.absence.place_of.Goals as goal

pub term-found-requires : goal.term-found-requires
term-found-requires g c = record {
  fields = subst (λ x. FitsFields (term.Value x)) (sym c.in_ok-copy.ensures.cases) (value_fits (g.I.Interner.list c.args.pass.now) c.words.ensures.formed c.args.value.now c.requires);
}

pub returns-in_err-copy-clause-writes : goal.returns-in_err-copy-clause-writes
returns-in_err-copy-clause-writes g c =
    let exit = err_from_is_err_and c.from_residual.result c.from_residual.ensures.1 in
    rw (exit.1, exit.2) (writes_none _ c.words.ensures.formed c.words.ensures.room)

pub returns-in-Ok-clause-place : goal.returns-in-Ok-clause-place
returns-in-Ok-clause-place g c =
    let new = g.I.Interner.list c.term-found.new.pass in
    let x = c.in_ok-copy.copy in
    subst (λ y. IsOfValue new y c.in-Ok.place) c.in_ok-copy.ensures.cases
    (record {
      place = IfOk-at_ok (λ p. IsTrue (is_place_of new class.Term p)) c.in-Ok.is c.term-found.ensures.place;
      stands = IfOk-at_ok (λ p. StandsAt new p (IsTerm (term.Value x))) c.in-Ok.is c.term-found.ensures.stands;
      terms = IfOk-at_ok (λ p. TermsFrom new p (λ t. t ≡ term.Value x)) c.in-Ok.is c.term-found.ensures.terms;
    })

pub returns-in-Ok-clause-writes : goal.returns-in-Ok-clause-writes
returns-in-Ok-clause-writes g c =
    let old = c.args.pass.now in
    let new = c.term-found.new.pass in
    let x = c.in_ok-copy.copy in
    subst (λ r. Writes g.I.Interner.list g.I.Interner.made g.I.Interner.kept g.I.Interner.lent g.N.Site.log.cap old new 1 (is_err r)) c.in-Ok.is
    (value_writes old new x c.term-found.result (subst (IsAtHand (g.I.Interner.list old)) (sym c.in_ok-copy.ensures.cases) c.requires)
    c.term-found.ensures.known c.term-found.ensures.writes)

pub returns-in-Err-clause-writes : goal.returns-in-Err-clause-writes
returns-in-Err-clause-writes g c =
    let old = c.args.pass.now in
    let new = c.term-found.new.pass in
    let x = c.in_ok-copy.copy in
    subst (λ r. Writes g.I.Interner.list g.I.Interner.made g.I.Interner.kept g.I.Interner.lent g.N.Site.log.cap old new 1 (is_err r)) c.in-Err.is
    (value_writes old new x c.term-found.result (subst (IsAtHand (g.I.Interner.list old)) (sym c.in_ok-copy.ensures.cases) c.requires)
    c.term-found.ensures.known c.term-found.ensures.writes)
