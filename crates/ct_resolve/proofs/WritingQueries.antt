-- What a query that is spelled by lexemes as a text writes them is resolved to can be written.
use Rattle.std.proofs.Common.{◌+◌, ℕ, Bool, true, false, List, [], ◌∷◌, map, length, ap, sym, subst, ◌∙◌}
use Rattle.std.proofs.lemmas.List.Elements.{All-nil, All-cons, All-head, All-tail, All-append, All-map}
use Rattle.std.specs.Prelude.{All, Ok, Err, Option, IfOk, nat_eq, if◌then◌else◌}
use Rattle.ct_word.{specs.Value.same_text, specs.Condition.Condition}
use Rattle.ct_query.{specs.declared.schema.Heading.Heading, specs.Plain.PlainQuery}
use Rattle.ct_lex.{specs.declared.token.Lexeme.Lexeme, specs.Written.AreWritten}
use Rattle.ct_parse.{specs.declared.tree.Alias.Alias, specs.declared.tree.Item.Item, specs.declared.tree.Items.Items, specs.declared.tree.Joined.Joined}
use Rattle.ct_parse.{specs.declared.tree.Table.Table, specs.declared.tree.Tables.Tables, specs.declared.tree.Select.Select}
use Rattle.ct_parse.{specs.declared.tree.SetOperator.SetOperator, specs.declared.tree.QueryPrimary.QueryPrimary, specs.declared.tree.QueryTerm.QueryTerm}
use Rattle.ct_parse.specs.declared.tree.Query.{Query, out-roll-Query}
use Rattle.ct_parse.specs.Grammar.{AreMore, no_more, one_more, IsClosed, closed, HasCondition, no_condition, a_condition, no_name, as_name, IsItem, item, AreItems, star, listed, HasAlias, no_alias, alias, as_alias, IsTable, table, IsTableOn, table_on, IsJoined, comma, join, inner_join, AreJoined, none_joined, more_joined, AreTables, tables, IsDistinct, not_distinct, distinct, IsSelect, select, IsSetOperator, union, except, query_of, IsPrimary, nested_query, select_query, ArePrimaries, no_primary, intersect, IsQueryTerm, query_term, AreTerms, no_term, combined, IsQuery, query}
use Rattle.ct_resolve.{specs.Found.{Found, and_then, unless, each}, specs.Names.{table_in, are_distinct, own_name, column_at}}
use Rattle.ct_resolve.{specs.Conditions.{condition_at, all_found}, specs.Writing.{IsNamed, HasNames, Writes, WritesQuery}}
use Rattle.ct_resolve.specs.Queries.{name_or, visible, table_of, on_of, tables_of, ons_of, where_of, seen_table, Picked, numbered, columns_of, item_at, items_at, product_onto, product_of, Named, conditions_of, selected, select_at, operation, sides, primary_at, query_at, with_primary, with_primaries, term_at, with_term, with_terms}
use Rattle.ct_resolve.{proofs.FoundParts.{and_then_has, unless_has, in_front_has}, proofs.QueryTrees.{nested_is, query_is}}
use Rattle.ct_resolve.proofs.WritingConditions.{any_found_at_all, name_writes, column_writes, all_found_writes, Good, good, each_good}
use Rattle.ct_query.specs.Plain as plain
use Rattle.ct_parse.specs.declared.tree.Condition as tree
use Rattle.ct_parse.specs.declared.tree.Items.TheVariants as items
use Rattle.ct_parse.specs.declared.tree.SetOperator.TheVariants as operator
use Rattle.ct_resolve.specs.declared.error.ResolveError.TheVariants as fault

-- each behind a comma, and in parentheses
module _ {T : Type 0} {X : List Lexeme → T → List Lexeme → Type 0} (P : T → Type 0) (one : (ws r : List Lexeme) (x : T) → X ws x r → AreWritten ws → P x × AreWritten r) where
  pub more_write : {ws r : List Lexeme} {xs : List T} → AreMore X ws xs r → AreWritten ws → All P xs × AreWritten r
  more_write no_more h = (All-nil P, h)
  more_write (one_more {x = x} {xs = xs} d ds) h =
      let first = one _ _ x d h.1 in
      let others = more_write ds first.1 in
      (All-cons P x xs first.0 others.0, others.1)

  pub closed_write : {ws r : List Lexeme} {p : T × List T} → IsClosed X ws p r → AreWritten ws → All P (p.0 ∷ p.1) × AreWritten r
  closed_write (closed {x = x} {xs = xs} d ds) h =
      let first = one _ _ x d h.1 in
      let others = more_write ds first.1 in
      (All-cons P x xs first.0 others.0, others.1.1)

-- a condition behind a word
pub behind_writes : {w : List ℕ} {ws r : List Lexeme} {c : Option tree.Condition} → HasCondition w ws c r → AreWritten ws → All Good (where_of c) × AreWritten r
behind_writes no_condition h = (All-nil Good, h)
behind_writes (a_condition {c = c} d) h = let found = good d h.1 in (All-cons Good c [] found.0 (All-nil Good), found.1)

-- the names of the items of a SELECT
abbrev IsNamedItem : Item → Type 0
IsNamedItem i = IsNamed (name_or i.alias (own_name i.column))

item_writes : {ws r : List Lexeme} {i : Item} → IsItem ws i r → AreWritten ws → IsNamedItem i × AreWritten r
item_writes (item c no_name) h = column_writes c h
item_writes (item c (as_name n)) h = name_writes n (column_writes c h).1.1

abbrev AreNamed : Items → Type 0
AreNamed items.Star = Unit {0}
AreNamed (items.Listed i is) = All IsNamedItem (i ∷ is)

items_write : {ws r : List Lexeme} {is : Items} → AreItems ws is r → AreWritten ws → AreNamed is × AreWritten r
items_write star h = (tt, h.1)
items_write (listed {i = i} {is = is} d ds) h =
    let first = item_writes d h in
    let others = more_write IsNamedItem (λ ws r x e. item_writes e) ds first.1 in
    (All-cons IsNamedItem i is first.0 others.0, others.1)

abbrev IsNamedPick : Picked → Type 0
IsNamedPick p = IsNamed p.1

columns_named : (hs : List Heading) → All HasNames hs → All IsNamed (columns_of hs)
columns_named [] all = All-nil IsNamed
columns_named (h ∷ hs) all = All-append IsNamed h.columns (columns_of hs) (All-head HasNames h hs all) (columns_named hs (All-tail HasNames h hs all))

numbered_named : (k : ℕ) (cs : List (List ℕ)) → All IsNamed cs → All IsNamedPick (numbered k cs)
numbered_named k [] all = All-nil IsNamedPick
numbered_named k (c ∷ cs) all = All-cons IsNamedPick (k, c) (numbered (k + 1) cs) (All-head IsNamed c cs all) (numbered_named (k + 1) cs (All-tail IsNamed c cs all))

listed_named : (scope : List Heading) (is : List Item) → All IsNamedItem is → IfOk (each (item_at scope) is) (All IsNamedPick)
listed_named scope [] all = All-nil IsNamedPick
listed_named scope (i ∷ is) all =
    in_front_has IsNamedPick (item_at scope i) (each (item_at scope) is)
    (and_then_has (λ _. Unit {0}) IsNamedPick (column_at scope i.column) (λ k. Ok (k, name_or i.alias (own_name i.column))) (any_found_at_all (column_at scope i.column)) (λ k _. All-head IsNamedItem i is all))
    (listed_named scope is (All-tail IsNamedItem i is all))

abbrev ArePicked : List Heading → List Picked → Type 0
ArePicked scope ps = All HasNames scope → All IsNamedPick ps

picked_anyhow : (scope : List Heading) (m : Found (List Picked)) → IfOk m (All IsNamedPick) → IfOk m (ArePicked scope)
picked_anyhow scope (Ok ps) all = λ _. all
picked_anyhow scope (Err e) all = tt

items_named : (scope : List Heading) (is : Items) → AreNamed is → IfOk (items_at scope is) (ArePicked scope)
items_named scope items.Star named = λ all. numbered_named 0 (columns_of scope) (columns_named scope all)
items_named scope (items.Listed i is) named = picked_anyhow scope (each (item_at scope) (i ∷ is)) (listed_named scope (i ∷ is) named)

-- the tables in scope have names where those of the schema do
found_first : (b : Bool) (h : Heading) (hs : List Heading) (r : Found Heading) → IfOk r (λ x. All HasNames hs → HasNames x)
    → IfOk (if b then Ok h else r) (λ x. All HasNames (h ∷ hs) → HasNames x)
found_first true h hs r rest = λ all. All-head HasNames h hs all
found_first false h hs (Ok x) rest = λ all. rest (All-tail HasNames h hs all)
found_first false h hs (Err e) rest = tt

found_named : (schema : List Heading) (name : List ℕ) → IfOk (table_in schema name) (λ h. All HasNames schema → HasNames h)
found_named [] name = tt
found_named (h ∷ hs) name = found_first (same_text h.name name) h hs (table_in hs name) (found_named hs name)

abbrev IsScope : List Heading → List Heading → Type 0
IsScope schema scope = All HasNames schema → All HasNames scope

scope_named : (schema : List Heading) (ts : List Table) → IfOk (each (seen_table schema) ts) (IsScope schema)
scope_named schema [] = λ all. All-nil HasNames
scope_named schema (t ∷ ts) =
    and_then_has (λ h. All HasNames schema → HasNames h) (IsScope schema) (seen_table schema t) (λ h. and_then (each (seen_table schema) ts) (λ hs. Ok (h ∷ hs)))
    (and_then_has (λ h. All HasNames schema → HasNames h) (λ h. All HasNames schema → HasNames h) (table_in schema t.name) (λ h. Ok (record { name = visible t; columns = h.columns })) (found_named schema t.name) (λ h named. named))
    (λ h named. and_then_has (IsScope schema) (IsScope schema) (each (seen_table schema) ts) (λ hs. Ok (h ∷ hs)) (scope_named schema ts) (λ hs others all. All-cons HasNames h hs (named all) (others all)))

-- the tables of a FROM, and the conditions behind ON
abbrev HasTableName : Table → Type 0
HasTableName t = IsNamed t.name

seen_rest : {ws r : List Lexeme} {a : Option Alias} → HasAlias ws a r → AreWritten ws → AreWritten r
seen_rest no_alias h = h
seen_rest (alias n) h = (name_writes n h).1
seen_rest (as_alias n) h = (name_writes n h.1).1

table_writes : {ws r : List Lexeme} {t : Table} → IsTable ws t r → AreWritten ws → HasTableName t × AreWritten r
table_writes (table n a) h = let own = name_writes n h in (own.0, seen_rest a own.1)

abbrev WritesJoined : Joined → Type 0
WritesJoined j = HasTableName (table_of j) × All Good (on_of j)

on_writes : {ws r : List Lexeme} {t : Table} {c : tree.Condition} → IsTableOn ws (t, c) r → AreWritten ws → (HasTableName t × All Good (c ∷ [])) × AreWritten r
on_writes (table_on {c = c} t d) h =
    let own = table_writes t h in
    let found = good d own.1.1 in
    ((own.0, All-cons Good c [] found.0 (All-nil Good)), found.1)

joined_writes : {ws r : List Lexeme} {j : Joined} → IsJoined ws j r → AreWritten ws → WritesJoined j × AreWritten r
joined_writes (comma t) h = let own = table_writes t h.1 in ((own.0, All-nil Good), own.1)
joined_writes (join d) h = on_writes d h.1
joined_writes (inner_join d) h = on_writes d h.1.1

all_joined_write : {ws r : List Lexeme} {js : List Joined} → AreJoined ws js r → AreWritten ws → (All HasTableName (map table_of js) × All Good (ons_of js)) × AreWritten r
all_joined_write none_joined h = ((All-nil HasTableName, All-nil Good), h)
all_joined_write (more_joined {j = j} {js = js} d ds) h =
    let first = joined_writes d h in
    let others = all_joined_write ds first.1 in
    ((All-cons HasTableName (table_of j) (map table_of js) first.0.0 others.0.0, All-append Good (on_of j) (ons_of js) first.0.1 others.0.1), others.1)

tables_write : {ws r : List Lexeme} {t : Tables} → AreTables ws t r → AreWritten ws → (All HasTableName (tables_of t) × All Good (ons_of t.rest)) × AreWritten r
tables_write (tables {t = t} {js = js} d ds few) h =
    let first = table_writes d h in
    let others = all_joined_write ds first.1 in
    ((All-cons HasTableName t (map table_of js) first.0 others.0.0, others.0.1), others.1)

product_writes : (q : PlainQuery) (ts : List Table) → WritesQuery q → All HasTableName ts → WritesQuery (product_onto q ts)
product_writes q [] w all = w
product_writes q (t ∷ ts) w all = product_writes (plain.Product q (plain.Table t.name)) ts (w, All-head HasTableName t ts all) (All-tail HasTableName t ts all)

-- a query with names can be written, and its names are names where those of the schema's columns are
abbrev pub WritesNamed : List Heading → Named → Type 0
WritesNamed schema a = WritesQuery a.query × (All HasNames schema → All IsNamed a.columns)

selected_writes : (schema scope : List Heading) (s : Select) → AreNamed s.items → All HasTableName (tables_of s.tables) → All Good (conditions_of s) → IsScope schema scope
    → IfOk (selected scope s) (WritesNamed schema)
selected_writes schema scope s items named conditions seen =
    let first = s.tables.first in
    let others = map table_of s.tables.rest in
    let tested = all_found (each (condition_at scope) (conditions_of s)) in
    let answer : List Picked → Condition → Named = λ ps c. record { columns = map (λ p. p.1) ps; query = plain.Project (map (λ p. p.0) ps) (plain.Select c (product_of s.tables)) } in
    and_then_has (ArePicked scope) (WritesNamed schema) (items_at scope s.items) (λ ps. and_then tested (λ c. Ok (answer ps c))) (items_named scope s.items items)
    (λ ps picked. and_then_has Writes (WritesNamed schema) tested (λ c. Ok (answer ps c)) (all_found_writes (each (condition_at scope) (conditions_of s)) (each_good scope (conditions_of s) conditions))
    (λ c w. (
      (w, product_writes (plain.Table first.name) others (All-head HasTableName first others named) (All-tail HasTableName first others named)),
      λ all. All-map IsNamed (λ p. p.1) ps (picked (seen all)),
    )))

distinct_rest : {ws r : List Lexeme} {b : _} → IsDistinct ws b r → AreWritten ws → AreWritten r
distinct_rest not_distinct h = h
distinct_rest distinct h = h.1

operator_rest : {ws r : List Lexeme} {o : SetOperator} → IsSetOperator ws o r → AreWritten ws → AreWritten r
operator_rest union h = h.1
operator_rest except h = h.1

operation_writes : (o : SetOperator) (a b : PlainQuery) → WritesQuery a → WritesQuery b → WritesQuery (operation o a b)
operation_writes operator.Union a b v w = (v, w)
operation_writes operator.Except a b v w = (v, w)

module _ (schema : List Heading) where
  select_writes : {ws r : List Lexeme} {s : Select} → IsSelect ws s r → AreWritten ws → IfOk (select_at schema s) (WritesNamed schema) × AreWritten r
  select_writes (select {d = b} {is = is} {t = t} {c = c} d i f w) h =
      let picked = items_write i (distinct_rest d h.1) in
      let from = tables_write f picked.1.1 in
      let behind = behind_writes w from.1 in
      let s : Select = record { is_distinct = b; items = is; tables = t; condition = c } in
      let apart = are_distinct (map visible (tables_of t)) in (
        and_then_has (IsScope schema) (WritesNamed schema) (each (seen_table schema) (tables_of t)) (λ scope. unless apart fault.DuplicateName (selected scope s)) (scope_named schema (tables_of t))
            (λ scope seen. unless_has (WritesNamed schema) apart fault.DuplicateName (selected scope s) (λ _. selected_writes schema scope s picked.0 from.0.0 (All-append Good (ons_of t.rest) (where_of c) from.0.1 behind.0) seen)),
        behind.1,
      )

  sides_write : (f : PlainQuery → PlainQuery → PlainQuery) (a b : Found Named) → ((x y : PlainQuery) → WritesQuery x → WritesQuery y → WritesQuery (f x y))
      → IfOk a (WritesNamed schema) → IfOk b (WritesNamed schema) → IfOk (and_then a (λ x. and_then b (λ y. sides f x y))) (WritesNamed schema)
  sides_write f a b joins wa wb =
      and_then_has (WritesNamed schema) (WritesNamed schema) a (λ x. and_then b (λ y. sides f x y)) wa
      (λ x wx. and_then_has (WritesNamed schema) (WritesNamed schema) b (λ y. sides f x y) wb
      (λ y wy. unless_has (WritesNamed schema) (nat_eq (length x.columns) (length y.columns)) fault.ColumnCount (Ok (record { columns = x.columns; query = f x.query y.query }))
      (λ _. (joins x.query y.query wx.0 wy.0, wx.1))))

  mutual
    primary_writes : {ws r : List Lexeme} {p : QueryPrimary} → IsPrimary ws p r → AreWritten ws → IfOk (primary_at schema p) (WritesNamed schema) × AreWritten r
    primary_writes (nested_query {q = q} d) h = let inner = query_writes d h.1 in (subst (λ m. IfOk m (WritesNamed schema)) (sym (nested_is schema q)) inner.0, inner.1.1)
    primary_writes (select_query d) h = select_writes d h

    primaries_write : {ws r : List Lexeme} {ps : List QueryPrimary} → ArePrimaries ws ps r → AreWritten ws → (a : Found Named) → IfOk a (WritesNamed schema)
        → IfOk (with_primaries schema a ps) (WritesNamed schema) × AreWritten r
    primaries_write no_primary h a w = (w, h)
    primaries_write (intersect {p = p} d ds) h a w =
        let next = primary_writes d h.1 in
        primaries_write ds next.1 (and_then a (λ x. with_primary schema x p))
        (sides_write (λ l r. plain.Intersect l r) a (primary_at schema p) (λ x y v z. (v, z)) w next.0)

    term_writes : {ws r : List Lexeme} {t : QueryTerm} → IsQueryTerm ws t r → AreWritten ws → IfOk (term_at schema t) (WritesNamed schema) × AreWritten r
    term_writes (query_term {p = p} d ds) h = let first = primary_writes d h in primaries_write ds first.1 (primary_at schema p) first.0

    terms_write : {ws r : List Lexeme} {ts : List (SetOperator × QueryTerm)} → AreTerms ws ts r → AreWritten ws → (a : Found Named) → IfOk a (WritesNamed schema)
        → IfOk (with_terms schema a ts) (WritesNamed schema) × AreWritten r
    terms_write no_term h a w = (w, h)
    terms_write (combined {o = o} {t = t} sign d ds) h a w =
        let next = term_writes d (operator_rest sign h) in
        terms_write ds next.1 (and_then a (λ x. with_term schema x (o, t))) (sides_write (operation o) a (term_at schema t) (operation_writes o) w next.0)

    pub query_writes : {ws r : List Lexeme} {q : Query} → IsQuery ws q r → AreWritten ws → IfOk (query_at schema q) (WritesNamed schema) × AreWritten r
    query_writes (query {t = t} {ts = ts} d ds) h =
        let first = term_writes d h in
        let all = terms_write ds first.1 (term_at schema t) first.0 in
        let parts = ap (λ l. with_terms schema (term_at schema l.first) l.rest) (out-roll-Query (record { first = t; rest = ts })) in
        (subst (λ m. IfOk m (WritesNamed schema)) (sym (query_is schema (query_of t ts) ∙ parts)) all.0, all.1)
