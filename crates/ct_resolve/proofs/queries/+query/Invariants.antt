use Rattle.std.proofs.Common.{◌≡◌, Ok, drop}
use Rattle.ct_parse.specs.declared.tree.Query.{out-Query}
use Rattle.ct_resolve.{specs.Queries.{with_primaries, term_at, with_terms}, specs.Views.named_of}
use Rattle.ct_resolve.proofs.queries.+query.Given as goal

abbrev pub invariant-query_term-loop-next : goal.invariant-query_term-loop-next
invariant-query_term-loop-next g l = with_primaries (g.H.Headings.schema l.schema).tables (Ok (named_of l.found)) (drop l.next-index l.next-items) ≡ term_at (g.H.Headings.schema l.schema).tables l.written

abbrev pub invariant-query_terms-loop-next : goal.invariant-query_terms-loop-next
invariant-query_terms-loop-next g l =
    with_terms (g.H.Headings.schema l.schema).tables (Ok (named_of l.found)) (drop l.next-index l.next-items) ≡ with_terms (g.H.Headings.schema l.schema).tables (term_at (g.H.Headings.schema l.schema).tables (out-Query l.written).first) (out-Query l.written).rest
