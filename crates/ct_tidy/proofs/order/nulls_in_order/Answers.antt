use Rattle.std.{proofs.Common.rules, proofs.lemmas.List.Sorted.answers_always}
use Rattle.ct_rewrite.specs.Tidy.{null_before}
use Rattle.ct_tidy.proofs.Ordered.{null_ranks}
use Rattle.ct_tidy.proofs.order.nulls_in_order.Goals as goal

pub returns-clause-ordered : goal.returns-clause-ordered
returns-clause-ordered c = c.in_ok-sort_by.ensures.sorted null_before null_ranks (answers_always _ _ _ (λ f a r g h. search rules))
