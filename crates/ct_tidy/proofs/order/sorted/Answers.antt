use Rattle.std.{proofs.Common.{rules, ap, ◌∙◌, subst}, specs.List.Sorted.IsStableBy, proofs.lemmas.List.Sorted.answers_always}
use Rattle.ct_rewrite.specs.Tidy.{null_before}
use Rattle.ct_word.specs.Value.{value_of_null}
use Rattle.ct_tidy.proofs.{Parts.sorted_gives, Ordered.pair_ranks}
use Rattle.ct_tidy.proofs.order.sorted.Goals as goal

pub returns : goal.returns
returns c = λ n.
    let stable = c.in_ok-sort_by.ensures.stable (λ p q. null_before p.0 q.0) pair_ranks (answers_always _ _ _ (λ f a r g h. search rules)) in
    ap (λ w. value_of_null w n) c.from_vec.ensures
    ∙ sorted_gives c.args.world c.sort_by.new.self.items (subst (λ v. IsStableBy (λ p q. null_before p.0 q.0) v c.sort_by.new.self.items) c.into_vec-pairs.ensures stable) n
