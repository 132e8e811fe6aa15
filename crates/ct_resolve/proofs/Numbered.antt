-- Each query that a text asks for has a number of words.
use Rattle.std.{proofs.Common.{ℕ, List, [], ◌∷◌, length, map, Option, Some, None, refl}, specs.Prelude.{Ok, IfOk, IsSome, nat_eq, option_map}}
use Rattle.ct_word.specs.Condition.{Condition}
use Rattle.ct_query.{specs.declared.schema.Heading.Heading, specs.Plain.PlainQuery, specs.Bounds.{product_counts, query_words, side_words, operator_words}}
use Rattle.ct_parse.{specs.declared.tree.Query.Query, specs.declared.tree.Select.Select, specs.declared.tree.SetOperator.SetOperator, specs.declared.tree.Table.Table}
use Rattle.ct_resolve.{specs.Conditions.{condition_at, all_found}, specs.Found.{and_then, unless, each}, specs.Names.are_distinct, proofs.FoundParts.{and_then_has, unless_has}}
use Rattle.ct_resolve.specs.Queries.{visible, table_of, tables_of, seen_table, Picked, items_at, product_onto, product_of, Named, conditions_of, selected, select_at, operation, sides, query_at}
use Rattle.ct_resolve.{proofs.WritingConditions.any_found_at_all, proofs.QueryParts.query_has}
use Rattle.ct_query.specs.Plain as plain
use Rattle.ct_parse.specs.declared.tree.SetOperator.TheVariants as operator
use Rattle.ct_resolve.specs.declared.error.ResolveError.TheVariants as fault

-- a query has a number of words, whatever the counts
abbrev HasNumber : Named → Type 0
HasNumber a = (counts : List ℕ → ℕ) → IsSome (query_words counts a.query)

mapped : {A B : Type 0} (f : A → B) (o : Option A) → IsSome o → IsSome (option_map f o)
mapped f (Some a) is = is
mapped f None is = is

both_sides : (more : ℕ) (a b : Option ℕ) → IsSome a → IsSome b → IsSome (side_words more a b)
both_sides more (Some x) (Some y) p q = q
both_sides more (Some x) None p q = q
both_sides more None b p q = p

product_has : (counts : List ℕ → ℕ) (q : PlainQuery) (ts : List Table) → IsSome (product_counts counts q) → IsSome (product_counts counts (product_onto q ts))
product_has counts q [] is = is
product_has counts q (t ∷ ts) is = product_has counts (plain.Product q (plain.Table t.name)) ts (mapped _ (product_counts counts q) is)

selected_has : (scope : List Heading) (s : Select) → IfOk (selected scope s) HasNumber
selected_has scope s =
    let tested = all_found (each (condition_at scope) (conditions_of s)) in
    let named : List Picked → Condition → Named = λ ps c. record { columns = map (λ p. p.1) ps; query = plain.Project (map (λ p. p.0) ps) (plain.Select c (product_of s.tables)) } in
    and_then_has (λ _. Unit {0}) HasNumber (items_at scope s.items) (λ ps. and_then tested (λ c. Ok (named ps c))) (any_found_at_all (items_at scope s.items))
    (λ ps _. and_then_has (λ _. Unit {0}) HasNumber tested (λ c. Ok (named ps c)) (any_found_at_all tested)
    (λ c _ counts. mapped _ (product_counts counts (product_of s.tables)) (product_has counts (plain.Table s.tables.first.name) (map table_of s.tables.rest) refl)))

select_has : (schema : List Heading) (s : Select) → IfOk (select_at schema s) HasNumber
select_has schema s =
    let distinct = are_distinct (map visible (tables_of s.tables)) in
    and_then_has (λ _. Unit {0}) HasNumber (each (seen_table schema) (tables_of s.tables)) (λ scope. unless distinct fault.DuplicateName (selected scope s)) (any_found_at_all (each (seen_table schema) (tables_of s.tables)))
    (λ scope _. unless_has HasNumber distinct fault.DuplicateName (selected scope s) (λ _. selected_has scope s))

sides_have : (f : PlainQuery → PlainQuery → PlainQuery) (a b : Named)
    → ((counts : List ℕ → ℕ) → IsSome (query_words counts a.query) → IsSome (query_words counts b.query) → IsSome (query_words counts (f a.query b.query)))
    → HasNumber a → HasNumber b → IfOk (sides f a b) HasNumber
sides_have f a b joins p q =
    unless_has HasNumber (nat_eq (length a.columns) (length b.columns)) fault.ColumnCount (Ok (record { columns = a.columns; query = f a.query b.query })) (λ _ counts. joins counts (p counts) (q counts))

operated : (o : SetOperator) (a b : Named) → HasNumber a → HasNumber b → IfOk (sides (operation o) a b) HasNumber
operated operator.Union a b = sides_have (operation operator.Union) a b (λ counts. both_sides (operator_words counts (plain.Union a.query b.query)) (query_words counts a.query) (query_words counts b.query))
operated operator.Except a b = sides_have (operation operator.Except) a b (λ counts. both_sides (operator_words counts (plain.Except a.query b.query)) (query_words counts a.query) (query_words counts b.query))

met : (a b : Named) → HasNumber a → HasNumber b → IfOk (sides (λ l r. plain.Intersect l r) a b) HasNumber
met a b = sides_have (λ l r. plain.Intersect l r) a b (λ counts. both_sides (operator_words counts (plain.Intersect a.query b.query)) (query_words counts a.query) (query_words counts b.query))

pub numbered : (schema : List Heading) (q : Query) → IfOk (query_at schema q) (λ a. (counts : List ℕ → ℕ) → IsSome (query_words counts a.query))
numbered schema = query_has schema HasNumber (select_has schema) met operated
