-- Which terms stand below the answer to a query.
use Rattle.std.specs.Prelude.{◌≡◌, ◌⊎◌, ℕ, List, Some}
use Rattle.std.specs.List.{Contains}
use Rattle.ct_word.specs.declared.values.Term.{Term}
use Rattle.ct_query.specs.Plain.{PlainQuery, Table, Select, Project, Product, Union, Except, Intersect}
use Rattle.ct_query.specs.Reads.{tables_of}
use Rattle.ct_condition.specs.Terms.{IsNamed}
use Rattle.ct_table.specs.Denotes.{TableView, find_table}
use Rattle.ct_operators.specs.Terms.{TermOfRows, IsNoColumn}

-- a term stands below the rows of a table that a query reads
pub record TermOfTables (words : List ℕ) (db : List TableView) (q : PlainQuery) (t : Term) : Type 0 where
  pub name : List ℕ
  pub is_read : Contains (tables_of q) name
  pub table : TableView
  pub found : find_table db name ≡ Some table
  pub below : TermOfRows words table.rows t

-- a term is a side of an equality of a query's selections
abbrev pub IsNamedIn : PlainQuery → Term → Type 0
IsNamedIn (Table name) t = ⊥
IsNamedIn (Select c q) t = IsNamed c t ⊎ IsNamedIn q t
IsNamedIn (Project ks q) t = IsNamedIn q t
IsNamedIn (Product a b) t = IsNamedIn a t ⊎ IsNamedIn b t
IsNamedIn (Union a b) t = IsNamedIn a t ⊎ IsNamedIn b t
IsNamedIn (Except a b) t = IsNamedIn a t ⊎ IsNamedIn b t
IsNamedIn (Intersect a b) t = IsNamedIn a t ⊎ IsNamedIn b t

-- a term stands below the tables that a query reads, or is named in it and is no column
abbrev pub TermOfQuery : List ℕ → List TableView → PlainQuery → Term → Type 0
TermOfQuery words db q t = TermOfTables words db q t ⊎ (IsNamedIn q t × IsNoColumn t)
