use Rattle.std.{proofs.Common.{◌∙◌, ap, sym, subst, inl, refl}, specs.Prelude.IsTrue}
use Rattle.ct_word.specs.WellFormed.{is_plain_word}
use Rattle.ct_arena.{specs.Own.IsOwn, specs.Seen.CountsWord}
use Rattle.ct_arena.proofs.Keeping.{session_seat, session_after, plain_counts, outcome_longer, outcome_counts, outcome_session, outcome_mine}
use mathlib.Core.List.{IsPrefix}
use Rattle.ct_arena.proofs.passes.Pass.intern.Goals as goal

pub put-requires-clause-seat : goal.put-requires-clause-seat
put-requires-clause-seat g c = session_seat c.self.inside.token.me c.self.inside.tally c.self.inside.seen.words c.self.invariant.0.seat

pub put-requires-clause-own : goal.put-requires-clause-own
put-requires-clause-own g c = subst (λ n. IsOwn n c.self.inside.tally c.self.inside.seen.words) (sym c.args.arena.now.room) c.self.invariant.0.own

pub put-requires-clause-next : goal.put-requires-clause-next
put-requires-clause-next g c =
    let plain : IsTrue (is_plain_word c.self.inside.seen.words c.args.w) = rw (ap (λ v. v.words) c.self.view_is) c.requires in
    inl plain

pub put-requires-clause-commits : goal.put-requires-clause-commits
put-requires-clause-commits g c = plain_counts c.args.self.now.words c.args.w _ refl c.requires

pub invariant_of-self : goal.invariant_of-self
invariant_of-self g c = (
  record {
    named = record { least = c.self.invariant.0.named.least; most = c.self.invariant.0.named.most; table = c.put.ensures.table ∙ c.self.invariant.0.named.table };
    seat = session_after c.self.inside.token.me c.put.new.token.me c.self.inside.tally c.put.new.tally c.self.inside.seen.words c.put.new.seen.words c.self.invariant.0.seat c.put.ensures.seat;
    own = subst (λ n. IsOwn n c.put.new.tally c.put.new.seen.words) c.args.arena.now.room c.put.ensures.own;
  },
  c.put.ensures.chain ∙ c.args.arena.now.room,
)

pub returns-clause-longer : goal.returns-clause-longer
returns-clause-longer g c = subst (λ l. IsPrefix l c.put.new.seen.words) (ap (λ v. v.words) c.self.view_is) (outcome_longer _ _ _ _ _ c.args.w c.put.ensures.outcome)

pub returns-clause-formed : goal.returns-clause-formed
returns-clause-formed g c = c.put.ensures.own.log.formed

pub returns-clause-made : goal.returns-clause-made
returns-clause-made g c = subst (λ m. CountsWord m c.put.new.tally.made c.put.new.seen.words c.args.w) (ap (λ v. v.made) c.self.view_is) (outcome_counts _ _ _ _ _ c.args.w c.put.ensures.outcome)

pub returns-clause-mine : goal.returns-clause-mine
returns-clause-mine g c =
    let plain : IsTrue (is_plain_word c.self.inside.seen.words c.args.w) = rw (ap (λ v. v.words) c.self.view_is) c.requires in
    outcome_mine _ _ _ _ _ c.args.w plain c.put.ensures.outcome ∙ ap (λ v. v.mine) c.self.view_is

pub returns-clause-session : goal.returns-clause-session
returns-clause-session g c = outcome_session _ _ _ _ _ c.args.w c.put.ensures.outcome ∙ ap (λ v. v.session) c.self.view_is
