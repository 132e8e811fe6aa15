use Rattle.std.{proofs.Common.{ap, sym, subst, ◌∙◌}, specs.Prelude.IfSome, proofs.lemmas.Option.IfSome_then}
use Rattle.ct_rewrite.specs.Tidy.{IsTidy}
use Rattle.ct_tidy.specs.Nulls.{cut_to}
use Rattle.ct_certain.{specs.Answered.IsWithin, proofs.Short.{cut_tidy, cut_within}}
use Rattle.ct_certain.proofs.pool.approach.Goals as goal

pub weigh-requires-clause-tidy : goal.weigh-requires-clause-tidy
weigh-requires-clause-tidy c =
    subst IsTidy (sym c.in_ok-part.ensures)
    (cut_tidy c.args.words.now c.args.pool.now.nulls.keys c.new-none.result.keys c.in-Some.world (subst (λ o. IfSome o IsTidy) c.in-Some.is c.in_ok-world.ensures))

pub returns : goal.returns
returns c =
    let words = c.args.words.now in
    let global = c.args.global in
    let pool = c.requires.pool in
    let ms = c.args.pool.now.nulls.keys in
    let world = c.in-Some.world in
    let own = subst (IsWithin words global) (sym (c.in_ok-part.ensures ∙ ap (λ ns. cut_to ms ns world) c.new-none.ensures.empty)) (cut_within words global ms pool.nulls world) in
    record {
      near = IfSome_then c.in_ok-pool.field-0 c.in_ok-pool.ensures (λ k is. record { known = is.0; own = subst (IsWithin words global) (sym is.1) own });
      worlds = pool.worlds;
      found = pool.found;
      never = pool.never;
      nulls = pool.nulls;
      conjuncts = pool.conjuncts;
    }
