-- Databases that have the tables of a schema.
use Rattle.std.specs.Prelude.{◌≡◌, List, [], ◌∷◌, length, All, ⊤}
use Rattle.ct_query.specs.declared.schema.Heading.{Heading}
use Rattle.ct_query.specs.Database.{Relation, Database}

-- a table has this name and these columns, and its tuples are as wide
pub record HasHeading (h : Heading) (r : Relation) : Type 0 where
  pub name : r.name ≡ h.name
  pub columns : r.columns ≡ h.columns
  pub tuples : All (λ t. length t ≡ length h.columns) r.tuples

-- a database has the tables of a schema, in order
abbrev pub HasSchema : List Heading → Database → Type 0
HasSchema [] [] = ⊤
HasSchema (h ∷ s) (r ∷ w) = HasHeading h r × HasSchema s w
HasSchema _ _ = ⊥
