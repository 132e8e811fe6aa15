-- What is said of the rows of a query's tree, said of its lists.
use Rattle.std.{proofs.Common.{◌≡◌, List, [], ◌∷◌, refl, ap, sym, ◌∙◌}, specs.Prelude.{Ok, Err}}
use Rattle.ct_query.specs.declared.schema.Heading.{Heading}
use Rattle.ct_parse.{specs.declared.tree.SetOperator.SetOperator, specs.declared.tree.QueryPrimary.QueryPrimary, specs.declared.tree.QueryTerm.QueryTerm}
use Rattle.ct_parse.specs.declared.tree.Query.{Query, Query', out-Query, outs-Query', Row_of-QueryPrimary, end_of-QueryPrimary, more_of-QueryPrimary, Row_of-Query-rest-2, end_of-Query-rest-2, more_of-Query-rest-2, items-the_row-QueryPrimary, items_shown-the_row-QueryPrimary-1, items-the_row-Query-rest-2, items_shown-the_row-Query-rest-2-2}
use Rattle.ct_resolve.{specs.declared.error.ResolveError.ResolveError, specs.Found.{Found, and_then}}
use Rattle.ct_resolve.specs.Queries.{Named, sides, operation, primary_at, primaries_at, terms_at, query_at, with_primary, with_primaries, term_at, with_term, with_terms}
use Rattle.ct_parse.specs.declared.tree.QueryPrimary as primary

-- a refusal stays
pub primaries_refused : (schema : List Heading) (e : ResolveError) (ps : List QueryPrimary) → with_primaries schema (Err e) ps ≡ Err e
primaries_refused schema e [] = refl
primaries_refused schema e (p ∷ ps) = primaries_refused schema e ps

pub terms_refused : (schema : List Heading) (e : ResolveError) (ts : List (SetOperator × QueryTerm)) → with_terms schema (Err e) ts ≡ Err e
terms_refused schema e [] = refl
terms_refused schema e (t ∷ ts) = terms_refused schema e ts

pub primaries_stop : (schema : List Heading) (x : Named) (p : QueryPrimary) (ps : List QueryPrimary) (e : ResolveError)
    → with_primary schema x p ≡ Err e → with_primaries schema (Ok x) (p ∷ ps) ≡ Err e
primaries_stop schema x p ps e h = ap (λ a. with_primaries schema a ps) h ∙ primaries_refused schema e ps

pub terms_stop : (schema : List Heading) (x : Named) (t : SetOperator × QueryTerm) (ts : List (SetOperator × QueryTerm)) (e : ResolveError)
    → with_term schema x t ≡ Err e → with_terms schema (Ok x) (t ∷ ts) ≡ Err e
terms_stop schema x t ts e h = ap (λ a. with_terms schema a ts) h ∙ terms_refused schema e ts

-- what parentheses hold
pub nested_is : (schema : List Heading) (q : Query) → primary_at schema (primary.Nested q) ≡ query_at schema q
unfolding Rattle.ct_parse.specs.declared.tree.QueryPrimary.TheBlock.hidden-the_row-Query-0 denote.Hole.Carrier.hidden
nested_is schema q = refl

pub nested_same : (schema : List Heading) {w : QueryPrimary} {q r : Query} → w ≡ primary.Nested q → r ≡ q → query_at schema r ≡ primary_at schema w
nested_same schema {q = q} e f = sym (ap (primary_at schema) e ∙ nested_is schema q ∙ ap (query_at schema) (sym f))

primaries_row : {n : _} (schema : List Heading) (a : Found Named) (row : Row_of-QueryPrimary n) → primaries_at schema a row ≡ with_primaries schema a (items-the_row-QueryPrimary n row)
primaries_row schema a end_of-QueryPrimary = refl
primaries_row schema a (more_of-QueryPrimary p rest) = primaries_row schema (and_then a (λ x. with_primary schema x p)) rest

terms_row : {n : _} (schema : List Heading) (a : Found Named) (row : Row_of-Query-rest-2 n) → terms_at schema a row ≡ with_terms schema a (items-the_row-Query-rest-2 n row)
terms_row schema a end_of-Query-rest-2 = refl
terms_row schema a (more_of-Query-rest-2 o p shape ps rest) =
    let term = primaries_row schema (primary_at schema p) ps ∙ ap (with_primaries schema (primary_at schema p)) (sym (items_shown-the_row-QueryPrimary-1 shape ps)) in
    ap (λ t. terms_at schema (and_then a (λ x. and_then t (λ y. sides (operation o) x y))) rest) term ∙ terms_row schema _ rest

pub query_is : (schema : List Heading) (q : Query) → query_at schema q ≡ with_terms schema (term_at schema (out-Query q).first) (out-Query q).rest
query_is schema (Query' p shape ps shapes rest) =
    let term = primaries_row schema (primary_at schema p) ps ∙ ap (with_primaries schema (primary_at schema p)) (sym (items_shown-the_row-QueryPrimary-1 shape ps)) in
    ap (λ t. terms_at schema t rest) term
    ∙ terms_row schema _ rest ∙ ap (with_terms schema _) (sym (items_shown-the_row-Query-rest-2-2 shapes rest))
    ∙ ap (λ r. with_terms schema (term_at schema r.first) r.rest) (sym (outs-Query' p shape ps shapes rest))
