use Rattle.std.proofs.Common.{◌∙◌}
use Rattle.ct_query.{specs.Views.statement_of, proofs.Added.once_each}
use Rattle.ct_query.proofs.reading.reads.Goals as goal

pub returns-clause-once : goal.returns-clause-once
returns-clause-once c = once_each (statement_of c.args.statement.now) c.from_vec.result (c.from_vec.ensures ∙ c.in_ok-found.ensures)
