use Rattle.std.{proofs.Common.{sym, subst}, specs.Prelude.{All}, proofs.lemmas.List.Elements.All-nil, proofs.lemmas.Option.IfSome_then}
use Rattle.ct_certain.{specs.Answered.{AreFound, IsKnown, IsNever, IsWithin}, proofs.Pools.none_found, proofs.Short.one_root}
use Rattle.ct_certain.proofs.pool.start.Goals as goal

pub returns : goal.returns
returns c =
    let words = c.args.words.now in
    record {
      near = IfSome_then c.in_ok-near.near c.in_ok-near.ensures (λ k is. record { known = is.0; own = subst (IsWithin words c.args.global) (sym is.1) (subst (IsWithin words c.args.global) (sym c.new.ensures) (All-nil _)) });
      worlds = subst (All (IsKnown words c.args.global)) (sym c.new-2.ensures.items) (All-nil _);
      found = subst (AreFound words c.args.global) (sym c.new-3.ensures.empty) (none_found words c.args.global);
      never = subst (All (IsNever words c.args.global)) (sym c.new-4.ensures.empty) (All-nil _);
      nulls = one_root words c.args.global c.in_ok-nulls.nulls.keys c.in_ok-nulls.ensures;
      conjuncts = c.in_ok-conjuncts.ensures;
    }
