use Rattle.std.{proofs.Common.{◌≡◌, ap, sym, subst, ◌∙◌}, specs.Prelude.{Option, Some, option_map}}
use Rattle.ct_transaction.specs.Bounded.{IsBounded}
use Rattle.ct_session.specs.Standing.{Standing, standing_of, state_in}
use Rattle.ct_session.proofs.session.Session.execute.Goals as goal

-- the standing of a state that is there
standing_is : {A : Type 0} (o : Option A) (x : A) (f : A → Standing) (s : Standing) → o ≡ Some x → standing_of (option_map f o) ≡ s → f x ≡ s
standing_is o x f s there view = sym (ap (λ p. standing_of (option_map f p)) there) ∙ view

pub returns-clause-bounded : goal.returns-clause-bounded
returns-clause-bounded g c =
    subst (λ (s : Standing). IsBounded g.N.Site.log.cap (state_in s) c.executed-state.result.0.pass.words c.args.text.now c.executed-state.result.1 s.pass.made c.executed-state.result.0.pass.made)
    (standing_is c.self.inside.state c.in-Some.state (λ t. record { pass = t.pass; seen = t.seen; fresh = t.fresh; transaction = t.transaction }) c.args.self.now (sym c.take.ensures.value ∙ c.in-Some.is) c.self.view_is)
    c.executed-state.ensures.bounded
