-- What a query is resolved to fits the schema, and has a name for each of its columns.
use Rattle.std.{proofs.Common.{◌≡◌, ◌+◌, ◌<◌, ℕ, Bool, true, false, List, [], ◌∷◌, length, refl, ap, sym, subst, ◌∙◌, arith}, proofs.lemmas.Bool.eqb-true}
use Rattle.std.{proofs.lemmas.List.{length-append, length-map}, proofs.lemmas.List.Elements.{All-nil, All-cons, All-map, All-weaker}}
use Rattle.std.specs.Prelude.{All, map, nat_eq, Option, Some, Ok, IfOk, IsSome, is_some, if◌then◌else◌}
use Rattle.ct_word.{specs.Value.same_text, specs.Condition.Condition}
use Rattle.ct_query.{specs.declared.schema.Heading.Heading, specs.Fits.{columns_in, count_of, width, FitsRows, Fits}, specs.Plain.PlainQuery}
use Rattle.ct_parse.{specs.declared.tree.Item.Item, specs.declared.tree.Items.Items}
use Rattle.ct_parse.specs.declared.tree.Query.{Query}
use Rattle.ct_parse.{specs.declared.tree.Select.Select, specs.declared.tree.SetOperator.SetOperator, specs.declared.tree.Table.Table}
use Rattle.ct_parse.specs.declared.tree.Tables.{Tables}
use Rattle.ct_resolve.{specs.Conditions.{condition_at, all_found}, specs.Found.{Found, and_then, unless, each}}
use Rattle.ct_resolve.{specs.Names.{table_in, are_distinct, own_name, column_at}, proofs.FoundParts.{and_then_has, unless_has, each_has}, proofs.QueryParts.query_has}
use Rattle.ct_resolve.specs.Queries.{name_or, visible, table_of, tables_of, seen_table, Picked, numbered, columns_of, item_at, items_at, product_onto, product_of, Named, conditions_of, selected, select_at, operation, sides, query_at}
use Rattle.ct_resolve.proofs.FittingConditions.{width_of, column_below, all_found_fits, condition_fits}
use Rattle.ct_query.specs.Plain as plain
use Rattle.ct_parse.specs.declared.tree.Items.TheVariants as items
use Rattle.ct_parse.specs.declared.tree.SetOperator.TheVariants as operator
use Rattle.ct_resolve.specs.declared.error.ResolveError.TheVariants as fault

-- a table that is found has its columns in the schema
found_first : (b : Bool) (h : Heading) (r : Found Heading) (o : Option (List (List ℕ))) → IfOk r (λ x. o ≡ Some x.columns)
    → IfOk (if b then Ok h else r) (λ x. (if b then Some h.columns else o) ≡ Some x.columns)
found_first true h r o is = refl
found_first false h r o is = is

pub table_columns : (hs : List Heading) (name : List ℕ) → IfOk (table_in hs name) (λ x. columns_in hs name ≡ Some x.columns)
table_columns [] name = tt
table_columns (h ∷ hs) name = found_first (same_text h.name name) h (table_in hs name) (columns_in hs name) (table_columns hs name)

pub is_there : (hs : List Heading) (name : List ℕ) (columns : List (List ℕ)) → columns_in hs name ≡ Some columns → IsSome (columns_in hs name)
is_there hs name columns e = ap (λ o. is_some o) e

pub width_there : (hs : List Heading) (name : List ℕ) (columns : List (List ℕ)) → columns_in hs name ≡ Some columns → count_of (columns_in hs name) ≡ length columns
width_there hs name columns e = ap count_of e

-- the columns of a table of the schema, under the name that a FROM gives it
seen_columns : (schema : List Heading) (t : Table) → IfOk (seen_table schema t) (λ h. columns_in schema t.name ≡ Some h.columns)
seen_columns schema t =
    and_then_has (λ h. columns_in schema t.name ≡ Some h.columns) (λ h. columns_in schema t.name ≡ Some h.columns) (table_in schema t.name)
    (λ h. Ok (record { name = visible t; columns = h.columns })) (table_columns schema t.name) (λ h e. e)

-- a product of a query and tables fits, and is wider by the columns of the tables
abbrev IsProduct : List Heading → List Table → List Heading → Type 0
IsProduct schema ts scope = (q : PlainQuery) → Fits schema q → Fits schema (product_onto q ts) × (width schema (product_onto q ts) ≡ width schema q + width_of scope)

more_product : (schema : List Heading) (t : Table) (ts : List Table) (h : Heading) (hs : List Heading) → columns_in schema t.name ≡ Some h.columns
    → IsProduct schema ts hs → IsProduct schema (t ∷ ts) (h ∷ hs)
more_product schema t ts h hs e others q fits =
    let product = others (plain.Product q (plain.Table t.name)) (fits, is_there schema t.name h.columns e) in
    (product.0, omega (arith, product.1, width_there schema t.name h.columns e, length-append h.columns (columns_of hs)))

products_fit : (schema : List Heading) (ts : List Table) → IfOk (each (seen_table schema) ts) (IsProduct schema ts)
products_fit schema [] = λ q fits. (fits, omega arith)
products_fit schema (t ∷ ts) =
    and_then_has (λ h. columns_in schema t.name ≡ Some h.columns) (IsProduct schema (t ∷ ts)) (seen_table schema t) (λ h. and_then (each (seen_table schema) ts) (λ hs. Ok (h ∷ hs)))
    (seen_columns schema t)
    (λ h e. and_then_has (IsProduct schema ts) (IsProduct schema (t ∷ ts)) (each (seen_table schema) ts) (λ hs. Ok (h ∷ hs)) (products_fit schema ts)
    (λ hs others. more_product schema t ts h hs e others))

-- the product of the tables of a FROM
abbrev IsFrom : List Heading → Tables → List Heading → Type 0
IsFrom schema t scope = Fits schema (product_of t) × (width schema (product_of t) ≡ width_of scope)

from_fits : (schema : List Heading) (t : Tables) → IfOk (each (seen_table schema) (tables_of t)) (IsFrom schema t)
from_fits schema t =
    let rest = map table_of t.rest in
    and_then_has (λ h. columns_in schema t.first.name ≡ Some h.columns) (IsFrom schema t) (seen_table schema t.first) (λ h. and_then (each (seen_table schema) rest) (λ hs. Ok (h ∷ hs)))
    (seen_columns schema t.first)
    (λ h e. and_then_has (IsProduct schema rest) (IsFrom schema t) (each (seen_table schema) rest) (λ hs. Ok (h ∷ hs)) (products_fit schema rest)
    (λ hs others.
    let product = others (plain.Table t.first.name) (is_there schema t.first.name h.columns e) in
    (product.0, omega (arith, product.1, width_there schema t.first.name h.columns e, length-append h.columns (columns_of hs)))))

-- the items of a SELECT
abbrev IsPickedBelow : ℕ → Picked → Type 0
IsPickedBelow n p = p.0 < n

numbered_below : (k : ℕ) (cs : List (List ℕ)) → All (IsPickedBelow (k + length cs)) (numbered k cs)
numbered_below k [] = All-nil (IsPickedBelow (k + 0))
numbered_below k (c ∷ cs) =
    All-cons (IsPickedBelow (k + length (c ∷ cs))) (k, c) (numbered (k + 1) cs) (omega arith)
    (All-weaker (IsPickedBelow (k + 1 + length cs)) (IsPickedBelow (k + length (c ∷ cs))) (λ p l. omega (arith, l)) (numbered (k + 1) cs) (numbered_below (k + 1) cs))

item_below : (scope : List Heading) (i : Item) → IfOk (item_at scope i) (IsPickedBelow (width_of scope))
item_below scope i =
    and_then_has (λ k. k < width_of scope) (IsPickedBelow (width_of scope)) (column_at scope i.column) (λ k. Ok (k, name_or i.alias (own_name i.column))) (column_below scope i.column) (λ k l. l)

items_below : (scope : List Heading) (is : Items) → IfOk (items_at scope is) (All (IsPickedBelow (width_of scope)))
items_below scope items.Star =
    let all = numbered 0 (columns_of scope) in
    All-weaker (IsPickedBelow (0 + width_of scope)) (IsPickedBelow (width_of scope)) (λ p l. omega (arith, l)) all (numbered_below 0 (columns_of scope))
items_below scope (items.Listed i is) = each_has (IsPickedBelow (width_of scope)) (item_at scope) (item_below scope) (i ∷ is)

-- a query that fits and has a name for each of its columns
abbrev pub FitsNamed : List Heading → Named → Type 0
FitsNamed schema a = Fits schema a.query × (length a.columns ≡ width schema a.query)

projection_fits : (schema scope : List Heading) (q : PlainQuery) (ps : List Picked) (c : Condition) → Fits schema q → width schema q ≡ width_of scope
    → All (IsPickedBelow (width_of scope)) ps → FitsRows (width_of scope) c
    → FitsNamed schema (record { columns = map (λ p. p.1) ps; query = plain.Project (map (λ p. p.0) ps) (plain.Select c q) })
projection_fits schema scope q ps c fits wide below fit =
    let from = sym wide in (
      (subst (λ n. All (λ k. k < n) (map (λ p. p.0) ps)) from (All-map (λ k. k < width_of scope) (λ p. p.0) ps below), (subst (λ n. FitsRows n c) from fit, fits)),
      length-map ps (λ p. p.1) ∙ sym (length-map ps (λ p. p.0)),
    )

selected_fits : (schema scope : List Heading) (s : Select) → IsFrom schema s.tables scope → IfOk (selected scope s) (FitsNamed schema)
selected_fits schema scope s from =
    let q = product_of s.tables in
    let tested = all_found (each (condition_at scope) (conditions_of s)) in
    let named : List Picked → Condition → Named = λ ps c. record { columns = map (λ p. p.1) ps; query = plain.Project (map (λ p. p.0) ps) (plain.Select c q) } in
    and_then_has (All (IsPickedBelow (width_of scope))) (FitsNamed schema) (items_at scope s.items) (λ ps. and_then tested (λ c. Ok (named ps c))) (items_below scope s.items)
    (λ ps below. and_then_has (FitsRows (width_of scope)) (FitsNamed schema) tested (λ c. Ok (named ps c))
    (all_found_fits (width_of scope) (each (condition_at scope) (conditions_of s)) (each_has (FitsRows (width_of scope)) (condition_at scope) (condition_fits scope) (conditions_of s)))
    (λ c fit. projection_fits schema scope q ps c from.0 from.1 below fit))

select_fits : (schema : List Heading) (s : Select) → IfOk (select_at schema s) (FitsNamed schema)
select_fits schema s =
    let distinct = are_distinct (map visible (tables_of s.tables)) in
    and_then_has (IsFrom schema s.tables) (FitsNamed schema) (each (seen_table schema) (tables_of s.tables)) (λ scope. unless distinct fault.DuplicateName (selected scope s))
    (from_fits schema s.tables)
    (λ scope from. unless_has (FitsNamed schema) distinct fault.DuplicateName (selected scope s) (λ _. selected_fits schema scope s from))

-- set operators
module _ (schema : List Heading) where
  abbrev JoinsSides : (PlainQuery → PlainQuery → PlainQuery) → Type 0
  JoinsSides f = (a b : PlainQuery) → width schema a ≡ width schema b → Fits schema a → Fits schema b → Fits schema (f a b) × (width schema (f a b) ≡ width schema a)

  operation_joins : (o : SetOperator) → JoinsSides (operation o)
  operation_joins operator.Union a b same fa fb = ((same, fa, fb), refl)
  operation_joins operator.Except a b same fa fb = ((same, fa, fb), refl)

  intersection_joins : JoinsSides (λ l r. plain.Intersect l r)
  intersection_joins a b same fa fb = ((same, fa, fb), refl)

  sides_fit : (f : PlainQuery → PlainQuery → PlainQuery) (a b : Named) → JoinsSides f → FitsNamed schema a → FitsNamed schema b → IfOk (sides f a b) (FitsNamed schema)
  sides_fit f a b joins fa fb =
      unless_has (FitsNamed schema) (nat_eq (length a.columns) (length b.columns)) fault.ColumnCount (Ok (record { columns = a.columns; query = f a.query b.query }))
      (λ e.
      let same = eqb-true (length a.columns) (length b.columns) e in
      let joined = joins a.query b.query (sym fa.1 ∙ same ∙ fb.1) fa.0 fb.0 in
      (joined.0, fa.1 ∙ sym joined.1))

  pub query_fits : (q : Query) → IfOk (query_at schema q) (FitsNamed schema)
  query_fits = query_has schema (FitsNamed schema) (select_fits schema) (λ x y. sides_fit (λ l r. plain.Intersect l r) x y intersection_joins) (λ o x y. sides_fit (operation o) x y (operation_joins o))
