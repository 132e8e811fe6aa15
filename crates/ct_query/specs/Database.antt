-- A complete database: tables of tuples, without nulls and conditions.
use Rattle.std.specs.Prelude.{◌≡◌, ℕ, Bool, List, [], ◌∷◌, map, ⊤, if◌then◌else◌}
use Rattle.std.specs.List.{list_any}
use Rattle.ct_word.specs.declared.values.Value.{Value}
use Rattle.ct_word.specs.Value.{same_text, same_tuple}

-- a table: its name, the names of its columns, its tuples
pub record Relation : Type 0 where
  pub name : List ℕ
  pub columns : List (List ℕ)
  pub tuples : List (List Value)

-- the tables in the order of their creation
abbrev pub Database : Type 0
Database = List Relation

-- the tuples of the table with this name
abbrev pub tuples_of : Database → List ℕ → List (List Value)
tuples_of [] t = []
tuples_of (r ∷ rs) t = if same_text r.name t then r.tuples else tuples_of rs t

-- a table with other tuples
abbrev pub with_tuples : Relation → List (List Value) → Relation
with_tuples r tuples = record { name = r.name; columns = r.columns; tuples = tuples }

-- the database after a change of the tuples of one table
abbrev pub changed : Database → List ℕ → (List (List Value) → List (List Value)) → Database
changed w t change = map (λ r. if same_text r.name t then with_tuples r (change r.tuples) else r) w

-- whether a tuple is a member
abbrev pub has_tuple : List (List Value) → List Value → Bool
has_tuple tuples tuple = list_any (λ t. same_tuple t tuple) tuples

-- two lists of tuples with the same members
abbrev pub SameSet : List (List Value) → List (List Value) → Type 0
SameSet a b = (tuple : List Value) → has_tuple a tuple ≡ has_tuple b tuple

-- two tables of the same name and columns with the same set of tuples
pub record SameRelation (a b : Relation) : Type 0 where
  pub name : a.name ≡ b.name
  pub columns : a.columns ≡ b.columns
  pub tuples : SameSet a.tuples b.tuples

-- two databases of the same tables in order
abbrev pub SameDatabase : Database → Database → Type 0
SameDatabase [] [] = ⊤
SameDatabase (a ∷ as') (b ∷ bs) = SameRelation a b × SameDatabase as' bs
SameDatabase _ _ = ⊥
