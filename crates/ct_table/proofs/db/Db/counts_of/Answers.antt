use Rattle.std.proofs.Common.{◌++◌, map, ap, ◌∙◌}
use Rattle.ct_query.{specs.Reads.tables_of, specs.Size.{rows_in, size}, specs.Views.query_of}
use Rattle.ct_table.{specs.Counting.count_at, proofs.Counts.own_size}
use Rattle.ct_table.proofs.db.Db.counts_of.Goals as goal

pub returns-clause-tables : goal.returns-clause-tables
returns-clause-tables c =
    c.from_vec.ensures ∙ c.in_ok-add_counts.ensures ∙ ap (λ cs. cs ++ map (count_at c.args.self.now) (tables_of (query_of c.args.q.now))) c.new-counts.ensures.items

pub returns-clause-same_size : goal.returns-clause-same_size
returns-clause-same_size c =
    let q = query_of c.args.q.now in
    ap (λ cs. size (rows_in cs) q) (c.from_vec.ensures ∙ c.in_ok-add_counts.ensures ∙ ap (λ cs. cs ++ map (count_at c.args.self.now) (tables_of q)) c.new-counts.ensures.items)
    ∙ own_size c.args.self.now q
