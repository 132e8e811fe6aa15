use Rattle.std.proofs.Common.{◌∙◌, ap, sym, subst}
use Rattle.ct_arena.{specs.Counts.IsLog, specs.Own.IsOwn, proofs.Keeping.{session_seen, session_read}}
use Rattle.ct_arena.proofs.passes.Pass.catch_up.Goals as goal

pub read_on-requires-clause-seat : goal.read_on-requires-clause-seat
read_on-requires-clause-seat g c = session_seen c.self.inside.token.me c.self.inside.tally c.self.inside.seen.words c.self.invariant.0.seat

pub read_on-requires-clause-log : goal.read_on-requires-clause-log
read_on-requires-clause-log g c = subst (λ n. IsLog n c.self.inside.seen.words) (sym c.args.arena.now.room) c.self.invariant.0.own.log

pub invariant_of-self : goal.invariant_of-self
invariant_of-self g c =
    let before : IsOwn c.args.arena.now.cap c.self.inside.tally c.self.inside.seen.words = subst (λ n. IsOwn n c.self.inside.tally c.self.inside.seen.words) (sym c.args.arena.now.room) c.self.invariant.0.own in (
      record {
        named = record { least = c.self.invariant.0.named.least; most = c.self.invariant.0.named.most; table = c.read_on.ensures.table ∙ c.self.invariant.0.named.table };
        seat = session_read c.self.inside.token.me c.read_on.new.token.me c.self.inside.tally c.self.inside.seen.words c.read_on.new.seen.words c.self.invariant.0.seat c.read_on.ensures.seat;
        own = subst (λ n. IsOwn n c.self.inside.tally c.read_on.new.seen.words) c.args.arena.now.room (c.read_on.ensures.own c.self.inside.tally (ap (λ m. m.0.guest) c.self.invariant.0.seat) before);
      },
      c.read_on.ensures.chain ∙ c.args.arena.now.room,
    )

pub returns-clause-formed : goal.returns-clause-formed
returns-clause-formed g c = c.read_on.ensures.log.formed
