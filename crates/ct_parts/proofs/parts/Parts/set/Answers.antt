use Rattle.std.{proofs.Common.{arith, sym, ◌∙◌, ap, set, ◌/◌}, proofs.lemmas.Result.on_ok_weaker}
use Rattle.ct_parts.{specs.Cut.joined, proofs.Cut.{in_part, in_place, write, same_cut}}
use Rattle.ct_parts.proofs.parts.Parts.set.Goals as goal

pub index_mut-requires : goal.index_mut-requires
index_mut-requires g c = omega (arith, c.self.inside.parts.ok.0, in_part _ _ c.args.place c.self.invariant.0 c.self.view_is c.requires.place)

pub set-requires-clause-place : goal.set-requires-clause-place
set-requires-clause-place g c = in_place _ _ c.args.place c.self.invariant.0 c.self.view_is c.requires.place _ c.index_mut.ensures.value

pub invariant_of-self : goal.invariant_of-self
invariant_of-self g c = let h = same_cut 128 _ _ _ _ c.self.invariant.0 c.set.ensures.len c.index_mut.ensures.value in (h.0, c.self.invariant.1 ∙ sym h.1)

pub returns-clause-set : goal.returns-clause-set
returns-clause-set g c = on_ok_weaker c.set.result
    (λ e. ap (λ p. joined (set c.self.inside.parts.items (c.args.place / 128) p)) e ∙ write _ _ c.args.place c.self.invariant.0 c.self.view_is c.requires.place _ c.index_mut.ensures.value c.args.item) c.set.ensures.set
