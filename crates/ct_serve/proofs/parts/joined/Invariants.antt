use Rattle.ct_serve.specs.Joined.{AreJoined}
use Rattle.ct_serve.proofs.parts.joined.Given as goal

abbrev pub invariant-loop-part : goal.invariant-loop-part
invariant-loop-part g l = AreJoined (λ v. v.items) l.yielded l.all.items
