-- When one query may be evaluated in place of another.
use Rattle.std.specs.Prelude.{◌≡◌, ◌≤◌, ◌+◌, ℕ, List, IfSome, Contains}
use Rattle.ct_word.specs.declared.values.Term.{Term}
use Rattle.ct_word.specs.Value.{World}
use Rattle.ct_query.specs.declared.schema.Heading.{Heading}
use Rattle.ct_query.specs.Plain.{PlainQuery, Table, Select, Project, Product, Union, Except, Intersect}
use Rattle.ct_query.specs.Database.{Database}
use Rattle.ct_query.specs.Rows.{rows}
use Rattle.ct_query.specs.Patterns.{Patterns, query_pattern}
use Rattle.ct_query.specs.Fits.{Fits, width, IsColumnBelow}
use Rattle.ct_query.specs.Bounds.{query_words}
use Rattle.ct_query.specs.Terms.{query_terms}
use Rattle.ct_plan.specs.Over.{HasSchema}
use Rattle.ct_plan.specs.Spent.{row_words, literals}

-- a query without its selections: its tables, and what is made of them
abbrev pub bare : PlainQuery → PlainQuery
bare (Table t) = Table t
bare (Select c q) = bare q
bare (Project ks q) = Project ks (bare q)
bare (Product a b) = Product (bare a) (bare b)
bare (Union a b) = Union (bare a) (bare b)
bare (Except a b) = Except (bare a) (bare b)
bare (Intersect a b) = Intersect (bare a) (bare b)

-- over a schema that q fits, p may be evaluated in place of q: it fits; it has the same tables and columns, and so the
-- same names; it has the same list of tuples on every database with the schema; it has the same pattern; each term that
-- it names and that is no column is named in q; and it is evaluated within the words of q, where these are bounded
pub record Replaces (s : List Heading) (q p : PlainQuery) : Type 0 where
  pub fits : Fits s p
  pub same_parts : bare p ≡ bare q
  pub same_width : width s p ≡ width s q
  pub same_rows : (v : World) (w : Database) → HasSchema s w → rows v p w ≡ rows v q w
  pub same_pattern : (lines : Patterns) → query_pattern lines p ≡ query_pattern lines q
  pub named : (t : Term) → IsColumnBelow 0 t → Contains (query_terms p) t → Contains (query_terms q) t
  pub words : (counts : List ℕ → ℕ) → IfSome (query_words counts q) (λ n. row_words s counts p + literals q ≤ n)
