-- Which nulls stand below conditions and cells, and worlds cut to nulls.
use Rattle.std.specs.Prelude.{◌≡◌, ◌⊎◌, ◌||◌, ◌<◌, ℕ, Bool, true, false, List, [], ◌∷◌, Option, Some, None, IsTrue, All, filter, slice_get, slice_index_or, if◌then◌else◌}
use Rattle.std.specs.List.{Contains, list_any}
use mathlib.Core.List.{IsPrefix}
use Rattle.indexmap.specs.IndexSet.{insert_key}
use Rattle.ct_word.specs.declared.kinds.Kind.{Kind}
use Rattle.ct_word.specs.declared.kinds.Kind.TheVariants as kind
use Rattle.ct_word.specs.declared.kinds.Class.TheVariants as class
use Rattle.ct_word.specs.declared.values.Null.{Null}
use Rattle.ct_word.specs.declared.values.Term.{Term}
use Rattle.ct_word.specs.declared.values.Term.TheVariants as term
use Rattle.ct_word.specs.Value.{World, same_null}
use Rattle.ct_word.specs.Word.{kind_of, left_of, right_of}
use Rattle.ct_word.specs.WellFormed.{is_place_of}
use Rattle.ct_word.specs.Reading.{IsTerm}
use Rattle.ct_word.specs.Stands.{Below, StandsAt}

-- a place of a condition or a term
abbrev pub IsPart : List ℕ → ℕ → Type 0
IsPart words p = IsTrue (is_place_of words class.Cond p) ⊎ IsTrue (is_place_of words class.Term p)

-- whether the left field of a word of this kind names a condition or a term of a condition
abbrev pub names_left : Kind → Bool
names_left kind.Not = true
names_left kind.Equal = true
names_left kind.And = true
names_left kind.Or = true
names_left _ = false

-- whether the right one does too
abbrev pub names_right : Kind → Bool
names_right kind.Equal = true
names_right kind.And = true
names_right kind.Or = true
names_right _ = false

-- the conditions and terms that a word of a condition names
abbrev pub parts_in : Option Kind → ℕ → ℕ → List ℕ
parts_in (Some k) a b = if names_left k then a ∷ (if names_right k then b ∷ [] else []) else []
parts_in None a b = []

abbrev pub parts_of : ℕ → List ℕ
parts_of w = parts_in (kind_of w) (left_of w) (right_of w)

-- places were put into a set, each where it was not there
pub record ArePut (old added new : List ℕ) : Type 0 where
  pub grown : IsPrefix old new
  pub put : All (Contains new) added
  pub only : All (λ p. Contains old p ⊎ Contains added p) new

-- a place is reached from one of these
abbrev pub IsReached : List ℕ → List ℕ → ℕ → Type 0
IsReached words roots p = (root : ℕ) × Contains roots root × Below words root p

-- places that are reached from these, with the parts of the first of them
pub record AreGathered (words roots : List ℕ) (count : ℕ) (places : List ℕ) : Type 0 where
  pub each : All (IsPart words) places
  pub reached : All (IsReached words roots) places
  pub begun : All (Contains places) roots
  pub closed : (k w q : ℕ) → k < count → slice_get words (slice_index_or places k 0) ≡ Some w → Contains (parts_of w) q → Contains places q

-- whether a null is one of these
abbrev pub has_null : List Null → Null → Bool
has_null ns n = list_any (same_null n) ns

-- exactly the nulls of a source
pub record AreNullsOf (source : Term → Type 0) (ns : List Null) : Type 0 where
  pub each : All (λ n. source (term.Null n)) ns
  pub all : (n : Null) → source (term.Null n) → IsTrue (has_null ns n)

-- whether words of this kind stand for nulls
abbrev pub is_null : Kind → Bool
is_null kind.NamedNull = true
is_null kind.FreshNull = true
is_null _ = false

-- nulls with the one that a term is, if it is one
abbrev pub with_term : Term → List Null → List Null
with_term (term.Null n) ns = insert_key same_null ns n
with_term _ ns = ns

-- a term stands at one of these places
abbrev pub IsTermAtSome : List ℕ → List ℕ → Term → Type 0
IsTermAtSome words places t = (p : ℕ) × Contains places p × StandsAt words p (IsTerm t)

-- the pairs of a world whose nulls are among some or others
abbrev pub cut_to : List Null → List Null → World → World
cut_to ms ns v = filter (λ p. has_null ms p.0 || has_null ns p.0) v
