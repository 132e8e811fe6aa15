use Rattle.std.proofs.Common.{◌≡◌, ◌+◌, drop, IfOk, IfErr, ◌≢◌, Ok, Err, sym, ap, ◌∙◌, subst}
use Rattle.ct_resolve.{specs.Queries.{with_primaries, with_terms}, specs.Views.named_of, proofs.Founds.{passed, read_next}}
use Rattle.ct_resolve.proofs.QueryTrees.{query_is, nested_same, primaries_stop, terms_stop}
use Rattle.ct_resolve.specs.declared.error.ResolveError.TheVariants as fault
use Rattle.ct_resolve.proofs.queries.+query.Goals as goal

pub query-returns-in_err-found-clause-err : goal.query-returns-in_err-found-clause-err
query-returns-in_err-found-clause-err g t c = passed _ c.from_residual.ensures.1 (λ memory. query_is (g.H.Headings.schema c.args.schema.now).tables c.args.written.now ∙ c.in_err-found.ensures.err memory)

pub query-returns-clause-ok : goal.query-returns-clause-ok
query-returns-clause-ok g t c = query_is (g.H.Headings.schema c.args.schema.now).tables c.args.written.now ∙ c.in_ok-found.ensures.ok

pub primary-returns-in-Nested-clause-ok : goal.primary-returns-in-Nested-clause-ok
primary-returns-in-Nested-clause-ok g t c = subst (λ x. IfOk c.query.result (λ n. x ≡ Ok (named_of n))) (nested_same _ c.in-Nested.is c.get.ensures) c.query.ensures.ok

pub primary-returns-in-Nested-clause-err : goal.primary-returns-in-Nested-clause-err
primary-returns-in-Nested-clause-err g t c = subst (λ x. IfErr c.query.result (λ e. e ≢ fault.Memory → x ≡ Err e)) (nested_same _ c.in-Nested.is c.get.ensures) c.query.ensures.err

pub query_term-returns-in_err-found-2-clause-err : goal.query_term-returns-in_err-found-2-clause-err
query_term-returns-in_err-found-2-clause-err g t c =
    passed _ c.from_residual-in_err-found-2.ensures.1 (λ memory.
    sym c.loop-next.invariant ∙ ap (with_primaries (g.H.Headings.schema c.args.schema.now).tables (Ok (named_of c.loop-next.found))) (read_next _ _ _ c.loop-next-test.true c.next-item.is)
    ∙ primaries_stop (g.H.Headings.schema c.args.schema.now).tables (named_of c.loop-next.found) c.next-item.result (drop (c.loop-next.next-index + 1) c.as_slice-next-items.result.now) _ (c.in_err-found-2.ensures.err memory))

pub query_terms-returns-in_err-found-2-clause-err : goal.query_terms-returns-in_err-found-2-clause-err
query_terms-returns-in_err-found-2-clause-err g t c =
    passed _ c.from_residual-in_err-found-2.ensures.1 (λ memory.
    sym c.loop-next.invariant ∙ ap (with_terms (g.H.Headings.schema c.args.schema.now).tables (Ok (named_of c.loop-next.found))) (read_next _ _ _ c.loop-next-test.true c.next-item.is)
    ∙ terms_stop (g.H.Headings.schema c.args.schema.now).tables (named_of c.loop-next.found) c.next-item.result (drop (c.loop-next.next-index + 1) c.as_slice-next-items.result.now) _ (c.in_err-found-2.ensures.err memory))
