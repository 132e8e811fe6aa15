use Rattle.std.proofs.Common.{ap, sym, ◌∙◌}
use Rattle.indexmap.specs.IndexSet.{insert_key}
use Rattle.ct_tidy.{specs.Nulls.with_term, proofs.Gathered.compared}
use Rattle.ct_tidy.proofs.below.put_null.Goals as goal

pub returns-in_ok-insert : goal.returns-in_ok-insert
returns-in_ok-insert c =
    c.in_ok-insert.ensures.keys ∙ (λ i. insert_key (compared i) c.args.nulls.now.keys c.in-Null.null)
    ∙ ap (λ t. with_term t c.args.nulls.now.keys) (sym c.in-Null.is ∙ c.in_ok-null.ensures)
