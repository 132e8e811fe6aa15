-- An assignment of truths to atoms, and the terms that its true equalities join.
use Rattle.std.specs.Prelude.{◌≡◌, ◌≢◌, ℕ, Bool, true, false, not, ◌&&◌, List, [], ◌∷◌, Option, Some, None, nat_lt, slice_get, ◌⊎◌}
use Rattle.std.specs.List.{list_all, AllByRecursion}
use Rattle.ct_word.specs.declared.kinds.Kind.{Kind}
use Rattle.ct_word.specs.declared.kinds.Kind.TheVariants as kind
use Rattle.ct_word.specs.declared.kinds.Class.TheVariants as class
use Rattle.ct_word.specs.Word.{kind_of}
use Rattle.ct_word.specs.WellFormed.{is_place_of}
use Rattle.ct_derivation.specs.declared.literals.Atom.{Atom}
use Rattle.ct_derivation.specs.declared.literals.Atom.TheVariants as atom
use Rattle.ct_derivation.specs.declared.literals.Lit.{Lit}
use Rattle.ct_derivation.specs.Literal.{Clause}
use Rattle.ct_derivation.specs.Path.{pair_of, end_of, path_clause, is_constant}

abbrev pub is_column_kind : Option Kind → Bool
is_column_kind (Some kind.Column) = true
is_column_kind _ = false

abbrev pub is_column_word : Option ℕ → Bool
is_column_word None = false
is_column_word (Some w) = is_column_kind (kind_of w)

-- whether a place is one of a constant or a null
abbrev pub is_plain_term : List ℕ → ℕ → Bool
is_plain_term words p = is_place_of words class.Term p && not (is_column_word (slice_get words p))

-- whether an equality is one of two constants or nulls, the smaller place first
abbrev pub is_plain_atom : List ℕ → Atom → Bool
is_plain_atom words (atom.Node p) = true
is_plain_atom words (atom.Same s t) = (is_plain_term words s && is_plain_term words t) && nat_lt s t

-- whether each equality is one of two constants or nulls, the smaller place first
unfoldable pub are_plain : List ℕ → List Atom → Bool
are_plain words atoms = list_all (is_plain_atom words) atoms

abbrev pub is_ordered : Atom → Bool
is_ordered (atom.Node p) = true
is_ordered (atom.Same s t) = nat_lt s t

-- whether each equality has the smaller place first
unfoldable pub are_ordered : List Atom → Bool
are_ordered atoms = list_all is_ordered atoms

-- an atom has this truth
pub record Gives (atoms : List Atom) (truth : List Bool) (b : Bool) (a : Atom) : Type 0 where
  pub place : ℕ
  pub atom_at : slice_get atoms place ≡ Some a
  pub truth_at : slice_get truth place ≡ Some b

-- the equality of two terms is true
abbrev pub IsLink : List Atom → List Bool → ℕ → ℕ → Type 0
IsLink atoms truth s t = Gives atoms truth true (pair_of s t)

-- two terms are in one congruence class: true equalities lead from the one to the other
pub data Joined (atoms : List Atom) (truth : List Bool) : ℕ → ℕ → Type 0 where
  here : {s : ℕ} → Joined atoms truth s s
  step : {s u : ℕ} (t : ℕ) → IsLink atoms truth s t → Joined atoms truth t u → Joined atoms truth s u

-- each two neighbours of a path are joined by a true equality
abbrev pub AreLinks : List Atom → List Bool → ℕ → List ℕ → Type 0
AreLinks atoms truth t [] = Unit {0}
AreLinks atoms truth t (u ∷ us) = IsLink atoms truth t u × AreLinks atoms truth u us

-- a path along true equalities from one term to another
pub record IsWalk (atoms : List Atom) (truth : List Bool) (s t : ℕ) (path : List ℕ) : Type 0 where
  pub rest : List ℕ
  pub is : path ≡ s ∷ rest
  pub links : AreLinks atoms truth s rest
  pub ends : end_of s rest ≡ t

-- each literal of a clause is false
abbrev pub IsFalse : List Atom → List Bool → Clause → Type 0
IsFalse atoms truth ls = AllByRecursion (λ (l : Lit). Gives atoms truth (not l.positive) l.atom) ls

-- a path of terms whose clause the assignment makes false
pub record IsFalsePath (words : List ℕ) (atoms : List Atom) (truth : List Bool) (path : List ℕ) : Type 0 where
  pub clause : Clause
  pub clause_is : path_clause words path ≡ Some clause
  pub is_false : IsFalse atoms truth clause

-- two terms of one class that have to differ: both are constants, or their equality is false
pub record IsClash (words : List ℕ) (atoms : List Atom) (truth : List Bool) (s t : ℕ) : Type 0 where
  pub differ : s ≢ t
  pub term : is_place_of words class.Term s ≡ true
  pub joined : Joined atoms truth s t
  pub apart : (is_constant words s && is_constant words t ≡ true) ⊎ Gives atoms truth false (pair_of s t)
