-- Queries with positions for the names of columns.
use Rattle.std.specs.Prelude.{ℕ, ◌+◌, List, [], ◌∷◌, ◌++◌, map, length, Option, Some, None, Ok, nat_eq}
use Rattle.ct_query.specs.declared.schema.Heading.{Heading}
use Rattle.ct_query.specs.Plain as plain
use Rattle.ct_query.specs.Plain.{PlainQuery}
use Rattle.ct_parse.specs.declared.tree.Condition.{Condition}
use Rattle.ct_parse.specs.declared.tree.Item.{Item}
use Rattle.ct_parse.specs.declared.tree.Items.{Items}
use Rattle.ct_parse.specs.declared.tree.Items.TheVariants as items
use Rattle.ct_parse.specs.declared.tree.Alias.{Alias}
use Rattle.ct_parse.specs.declared.tree.Table.{Table}
use Rattle.ct_parse.specs.declared.tree.Joined.{Joined}
use Rattle.ct_parse.specs.declared.tree.Joined.TheVariants as joined
use Rattle.ct_parse.specs.declared.tree.Tables.{Tables}
use Rattle.ct_parse.specs.declared.tree.Select.{Select}
use Rattle.ct_parse.specs.declared.tree.SetOperator.{SetOperator}
use Rattle.ct_parse.specs.declared.tree.SetOperator.TheVariants as operator
use Rattle.ct_parse.specs.declared.tree.QueryPrimary as primary
use Rattle.ct_parse.specs.declared.tree.QueryPrimary.{QueryPrimary, Row_of-Query, end_of-Query, more_of-Query}
use Rattle.ct_parse.specs.declared.tree.QueryTerm.{QueryTerm}
use Rattle.ct_parse.specs.declared.tree.Query.{Query, Query', Row_of-QueryPrimary, end_of-QueryPrimary, more_of-QueryPrimary, Row_of-Query-rest-2, end_of-Query-rest-2, more_of-Query-rest-2}
use Rattle.ct_resolve.specs.declared.error.ResolveError.TheVariants as fault
use Rattle.ct_resolve.specs.Found.{Found, and_then, unless, each}
use Rattle.ct_resolve.specs.Names.{table_in, are_distinct, own_name, column_at}
use Rattle.ct_resolve.specs.Conditions.{condition_at, all_found}

-- the name after AS, or else this one
abbrev pub name_or : Option (List ℕ) → List ℕ → List ℕ
name_or (Some a) n = a
name_or None n = n

-- the name under which a table is seen: its alias, or else its own
abbrev pub seen_or : Option Alias → List ℕ → List ℕ
seen_or (Some a) n = a.name
seen_or None n = n

-- the name under which a table of a FROM is seen
abbrev pub visible : Table → List ℕ
visible t = seen_or t.alias t.name

-- the table behind a comma or JOIN
abbrev pub table_of : Joined → Table
table_of (joined.Comma t) = t
table_of (joined.Join inner t c) = t

-- the condition behind ON, if there is one
abbrev pub on_of : Joined → List Condition
on_of (joined.Comma t) = []
on_of (joined.Join inner t c) = c ∷ []

-- the tables of a FROM from the left
abbrev pub tables_of : Tables → List Table
tables_of t = t.first ∷ map table_of t.rest

-- the conditions behind ON from the left
abbrev pub ons_of : List Joined → List Condition
ons_of [] = []
ons_of (j ∷ js) = on_of j ++ ons_of js

-- the condition behind WHERE, if there is one
abbrev pub where_of : Option Condition → List Condition
where_of None = []
where_of (Some c) = c ∷ []

-- the columns of a table of the schema, seen under the name that a FROM gives it
abbrev pub seen_table : List Heading → Table → Found Heading
seen_table schema t = and_then (table_in schema t.name) (λ h. Ok (record { name = visible t; columns = h.columns }))

-- a position and the name of the column there
abbrev pub Picked : Type 0
Picked = ℕ × List ℕ

-- names at the positions from this one on
abbrev pub numbered : ℕ → List (List ℕ) → List Picked
numbered k [] = []
numbered k (c ∷ cs) = (k, c) ∷ numbered (k + 1) cs

-- the columns of all tables in scope in their order
abbrev pub columns_of : List Heading → List (List ℕ)
columns_of [] = []
columns_of (h ∷ hs) = h.columns ++ columns_of hs

-- the position and the name of an item
abbrev pub item_at : List Heading → Item → Found Picked
item_at scope i = and_then (column_at scope i.column) (λ k. Ok (k, name_or i.alias (own_name i.column)))

-- the positions and names of items
abbrev pub items_at : List Heading → Items → Found (List Picked)
items_at scope items.Star = Ok (numbered 0 (columns_of scope))
items_at scope (items.Listed i is) = each (item_at scope) (i ∷ is)

-- the product of a query and of tables, taken from the left
abbrev pub product_onto : PlainQuery → List Table → PlainQuery
product_onto q [] = q
product_onto q (t ∷ ts) = product_onto (plain.Product q (plain.Table t.name)) ts

-- the product of the tables of a FROM
abbrev pub product_of : Tables → PlainQuery
product_of t = product_onto (plain.Table t.first.name) (map table_of t.rest)

-- a query with the names of its columns
pub record Named : Type 0 where
  pub columns : List (List ℕ)
  pub query : PlainQuery

-- the conditions of a SELECT: those behind ON from the left, and then the one behind WHERE
abbrev pub conditions_of : Select → List Condition
conditions_of s = ons_of s.tables.rest ++ where_of s.condition

-- a SELECT whose tables are in scope
abbrev pub selected : List Heading → Select → Found Named
selected scope s =
    and_then (items_at scope s.items) (λ ps.
    and_then (all_found (each (condition_at scope) (conditions_of s))) (λ c.
    Ok (record { columns = map (λ p. p.1) ps; query = plain.Project (map (λ p. p.0) ps) (plain.Select c (product_of s.tables)) })))

-- a SELECT: its tables, that they are seen under different names, its items and then its conditions
abbrev pub select_at : List Heading → Select → Found Named
select_at schema s =
    and_then (each (seen_table schema) (tables_of s.tables)) (λ scope.
    unless (are_distinct (map visible (tables_of s.tables))) fault.DuplicateName (selected scope s))

-- UNION or EXCEPT
abbrev pub operation : SetOperator → PlainQuery → PlainQuery → PlainQuery
operation operator.Union a b = plain.Union a b
operation operator.Except a b = plain.Except a b

-- a set operator's answer, with the names of its left side, where its sides have as many columns
abbrev pub sides : (PlainQuery → PlainQuery → PlainQuery) → Named → Named → Found Named
sides f a b = unless (nat_eq (length a.columns) (length b.columns)) fault.ColumnCount (Ok (record { columns = a.columns; query = f a.query b.query }))

-- a query with positions, and its parts; set operators from the left
abbrev mutual
  pub primary_at : List Heading → QueryPrimary → Found Named
  primary_at schema (primary.Nested' shape (more_of-Query q rest)) = query_at schema q
  primary_at schema (primary.Select s) = select_at schema s

  -- the query so far, and each behind an INTERSECT
  pub primaries_at : {n : _} → List Heading → Found Named → Row_of-QueryPrimary n → Found Named
  primaries_at schema a end_of-QueryPrimary = a
  primaries_at schema a (more_of-QueryPrimary p rest) =
      primaries_at schema (and_then a (λ x. and_then (primary_at schema p) (λ y. sides (λ l r. plain.Intersect l r) x y))) rest

  -- the query so far, and each behind a UNION or EXCEPT
  pub terms_at : {n : _} → List Heading → Found Named → Row_of-Query-rest-2 n → Found Named
  terms_at schema a end_of-Query-rest-2 = a
  terms_at schema a (more_of-Query-rest-2 o p shape ps rest) =
      terms_at schema (and_then a (λ x. and_then (primaries_at schema (primary_at schema p) ps) (λ y. sides (operation o) x y))) rest

  pub query_at : List Heading → Query → Found Named
  query_at schema (Query' p shape ps shapes rest) = terms_at schema (primaries_at schema (primary_at schema p) ps) rest

-- the query so far with one more primary behind an INTERSECT
abbrev pub with_primary : List Heading → Named → QueryPrimary → Found Named
with_primary schema x p = and_then (primary_at schema p) (λ y. sides (λ l r. plain.Intersect l r) x y)

-- the query so far with each of these
abbrev pub with_primaries : List Heading → Found Named → List QueryPrimary → Found Named
with_primaries schema a [] = a
with_primaries schema a (p ∷ ps) = with_primaries schema (and_then a (λ x. with_primary schema x p)) ps

-- primaries joined by INTERSECT
abbrev pub term_at : List Heading → QueryTerm → Found Named
term_at schema t = with_primaries schema (primary_at schema t.first) t.rest

-- the query so far with one more term behind a UNION or EXCEPT
abbrev pub with_term : List Heading → Named → SetOperator × QueryTerm → Found Named
with_term schema x t = and_then (term_at schema t.1) (λ y. sides (operation t.0) x y)

-- the query so far with each of these
abbrev pub with_terms : List Heading → Found Named → List (SetOperator × QueryTerm) → Found Named
with_terms schema a [] = a
with_terms schema a (t ∷ ts) = with_terms schema (and_then a (λ x. with_term schema x t)) ts
