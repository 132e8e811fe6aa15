use Rattle.std.proofs.Common.{◌≡◌, map, drop}
use Rattle.ct_query.specs.Views.{query_of}
use Rattle.ct_resolve.specs.Queries.{table_of, product_onto, product_of}
use Rattle.ct_resolve.proofs.tables.product.Given as goal

abbrev pub invariant-loop-joined : goal.invariant-loop-joined
invariant-loop-joined l = product_onto (query_of l.query) (map table_of (drop l.joined-index l.tables.rest)) ≡ product_of l.tables
