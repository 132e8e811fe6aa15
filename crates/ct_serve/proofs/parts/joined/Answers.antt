use Rattle.std.proofs.Common.{◌∷◌, [], ◌++◌, sym, subst}
use Rattle.ct_serve.specs.Joined.{AreJoined, none, more}
use Rattle.ct_serve.proofs.parts.joined.Goals as goal

pub loop-part-init : goal.loop-part-init
loop-part-init g c = rw (c.new-all.ensures.items) none

pub loop-part-preserved : goal.loop-part-preserved
loop-part-preserved g c =
    let part = c.in_ok-part.part in
    let before = c.loop-part.all.items in
    rw (c.in_ok-append.ensures.items)
    (subst (λ r. AreJoined (λ v. v.items) (c.loop-part.yielded ++ r ∷ []) (before ++ part.items)) (sym c.in_ok-part.was) (more c.loop-part.yielded before part c.loop-part.invariant))
