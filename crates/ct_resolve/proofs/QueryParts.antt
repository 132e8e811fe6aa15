-- What holds of each query that is found, by what holds of a SELECT and of both sides of a set operator.
use Rattle.std.specs.Prelude.{IfOk}
use Rattle.ct_query.{specs.declared.schema.Heading.Heading, specs.Plain.PlainQuery}
use Rattle.ct_parse.{specs.declared.tree.QueryPrimary.{QueryPrimary, more_of-Query}, specs.declared.tree.Select.Select, specs.declared.tree.SetOperator.SetOperator}
use Rattle.ct_parse.specs.declared.tree.Query.{Query, Query', Row_of-QueryPrimary, end_of-QueryPrimary, more_of-QueryPrimary, Row_of-Query-rest-2, end_of-Query-rest-2, more_of-Query-rest-2}
use Rattle.ct_resolve.{specs.Found.{Found, and_then}, proofs.FoundParts.and_then_has}
use Rattle.ct_resolve.specs.Queries.{Named, select_at, operation, sides, primary_at, primaries_at, terms_at, query_at}
use Rattle.std.proofs.Common.{List}
use Rattle.ct_query.specs.Plain as plain
use Rattle.ct_parse.specs.declared.tree.QueryPrimary as primary

module _ (schema : List Heading) (P : Named → Type 0) (chosen : (s : Select) → IfOk (select_at schema s) P)
    (met : (x y : Named) → P x → P y → IfOk (sides (λ l r. plain.Intersect l r) x y) P) (operated : (o : SetOperator) (x y : Named) → P x → P y → IfOk (sides (operation o) x y) P) where
  both : (f : PlainQuery → PlainQuery → PlainQuery) (a b : Found Named) → ((x y : Named) → P x → P y → IfOk (sides f x y) P) → IfOk a P → IfOk b P → IfOk (and_then a (λ x. and_then b (λ y. sides f x y))) P
  both f a b joins p q = and_then_has P P a (λ x. and_then b (λ y. sides f x y)) p (λ x px. and_then_has P P b (λ y. sides f x y) q (λ y py. joins x y px py))

  mutual
    primary_has : (p : QueryPrimary) → IfOk (primary_at schema p) P
    primary_has (primary.Nested' shape (more_of-Query q rest)) = query_has q
    primary_has (primary.Select s) = chosen s

    primaries_have : {n : _} (a : Found Named) (row : Row_of-QueryPrimary n) → IfOk a P → IfOk (primaries_at schema a row) P
    primaries_have a end_of-QueryPrimary p = p
    primaries_have a (more_of-QueryPrimary q rest) p =
        primaries_have (and_then a (λ x. and_then (primary_at schema q) (λ y. sides (λ l r. plain.Intersect l r) x y))) rest (both (λ l r. plain.Intersect l r) a (primary_at schema q) met p (primary_has q))

    terms_have : {n : _} (a : Found Named) (row : Row_of-Query-rest-2 n) → IfOk a P → IfOk (terms_at schema a row) P
    terms_have a end_of-Query-rest-2 p = p
    terms_have a (more_of-Query-rest-2 o q shape qs rest) p =
        terms_have (and_then a (λ x. and_then (primaries_at schema (primary_at schema q) qs) (λ y. sides (operation o) x y))) rest
        (both (operation o) a (primaries_at schema (primary_at schema q) qs) (operated o) p (primaries_have (primary_at schema q) qs (primary_has q)))

    pub query_has : (q : Query) → IfOk (query_at schema q) P
    query_has (Query' p shape ps shapes rest) = terms_have (primaries_at schema (primary_at schema p) ps) rest (primaries_have (primary_at schema p) ps (primary_has p))
