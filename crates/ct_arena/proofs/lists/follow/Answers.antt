use Rattle.std.{proofs.Common.{ap, subst}, specs.Prelude.{Contains, slice_index_or}}
use Rattle.ct_arena.proofs.Entering.{new_at}
use Rattle.ct_arena.proofs.lists.follow.Goals as goal

pub push-requires-clause-new : goal.push-requires-clause-new
push-requires-clause-new c =
    λ there. new_at c.args.ahead.now c.loop-place.place c.requires.formed c.loop-place-test.true
    (subst (λ l. Contains l (slice_index_or c.args.ahead.now c.loop-place.place 0)) (ap (λ v. v.words) c.loop-place.invariant) there)
