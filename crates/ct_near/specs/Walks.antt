-- Walks down from a condition.
use Rattle.std.specs.Prelude.{⊤, ◌≡◌, ◌⊎◌, ◌<◌, ◌≤◌, ℕ, false, cond, List, [], ◌∷◌, ◌++◌, nat_eq, slice_index_or, Contains, IsTrue}
use Rattle.std.specs.List.{IsDistinct}
use Rattle.ct_word.specs.declared.connectives.Connective.TheVariants as connective
use Rattle.ct_word.specs.declared.kinds.Class.TheVariants as class
use Rattle.ct_word.specs.WellFormed.{is_place_of}
use Rattle.ct_worlds.specs.declared.shape.Shape.{Shape}
use Rattle.ct_worlds.specs.declared.shape.Shape.TheVariants as shape
use Rattle.ct_near.specs.declared.index.Entry.{Entry}
use Rattle.ct_near.specs.declared.walking.Found.{Found}
use Rattle.ct_near.specs.declared.walking.Way.{Way}
use Rattle.ct_near.specs.declared.walking.Way.TheVariants as way
use Rattle.ct_worlds.specs.Shape.{parts_of, shape_at, terms_of}
use Rattle.ct_near.specs.Conjuncts.{AreTopDown, IsNamed}
use Rattle.ct_near.specs.Entries.{Extends, IsEntryAmong, Lists}

-- what a condition says for a walk: a literal where the walk does not go into it
abbrev pub opened : Way → ℕ → Shape → Shape
opened (way.All conjunct) p s = s
opened (way.Ands stop) p (shape.Joined connective.And a b) = cond (nat_eq p stop) (shape.Literal false) (shape.Joined connective.And a b)
opened (way.Ands stop) p s = shape.Literal false

-- the places to which a walk goes on from a place
abbrev pub next_at : List ℕ → Way → ℕ → List ℕ
next_at words w p = parts_of (opened w p (shape_at words p))

-- a walk from a root comes to a place
pub data IsLedTo (words : List ℕ) (w : Way) (root : ℕ) : ℕ → Type 0 where
  start : IsLedTo words w root root
  onward : {p q : ℕ} → IsLedTo words w root p → Contains (next_at words w p) q → IsLedTo words w root q

-- a condition at or before the root
pub record IsUnder (words : List ℕ) (root p : ℕ) : Type 0 where
  pub within : p ≤ root
  pub placed : IsTrue (is_place_of words class.Cond p)

-- the walks that made the marks come before the one with this number
abbrev pub AreOld : List ℕ → ℕ → Type 0
AreOld marks number = (p : ℕ) → slice_index_or marks p 0 < number

-- a walk with this number was at a place
abbrev pub IsMarked : List ℕ → ℕ → ℕ → Type 0
IsMarked marks number p = slice_index_or marks p 0 ≡ number

-- a walk goes on from a place
abbrev pub IsInner : List ℕ → Way → ℕ → Type 0
IsInner words w p = (next_at words w p ≡ []) → ⊥

-- what was found has the place of an And into which a walk goes, or of a condition at which it ends
pub record IsPlaced (words : List ℕ) (stop : ℕ) (found : Found) (p : ℕ) : Type 0 where
  pub leaf : next_at words (way.Ands stop) p ≡ [] → Contains found.leaves.items p
  pub inner : IsInner words (way.Ands stop) p → Contains found.inner.items p

-- what was found has a place to which a walk came, or the nulls there
abbrev pub IsNoted : List ℕ → Way → Found → ℕ → Type 0
IsNoted words (way.Ands stop) found p = IsPlaced words stop found p
IsNoted words (way.All conjunct) found p = Lists words found.index.entries.items conjunct p

-- an entry that entering a place adds: of the null at a place of a term that the condition there names
abbrev pub IsEntryAt : List ℕ → Way → ℕ → Entry → Type 0
IsEntryAt words (way.Ands stop) p e = ⊥
IsEntryAt words (way.All conjunct) p e = IsEntryAmong words conjunct (Contains (terms_of (shape_at words p))) e

-- an entry that a walk adds
abbrev pub IsEntryFrom : List ℕ → Way → ℕ → Entry → Type 0
IsEntryFrom words w root e = (p : ℕ) × IsLedTo words w root p × IsEntryAt words w p e

-- a walk into ANDs notes a place as one of these, or as an end
abbrev pub IsPushed : List ℕ → Way → ℕ → Found → Found → Type 0
IsPushed words (way.All conjunct) place old new = ⊤
IsPushed words (way.Ands stop) place old new =
    ((new.inner.items ≡ old.inner.items ++ place ∷ []) × (new.leaves.items ≡ old.leaves.items))
    ⊎ ((next_at words (way.Ands stop) place ≡ []) × (new.inner.items ≡ old.inner.items) × (new.leaves.items ≡ old.leaves.items ++ place ∷ []))

-- what entering a place adds: parts that wait, and the place to what was found
pub record IsEntered (words : List ℕ) (w : Way) (place : ℕ) (waiting waiting' : List ℕ) (old new : Found) : Type 0 where
  pub grown : waiting' ≡ waiting ++ next_at words w place
  pub inner : (p : ℕ) → Contains new.inner.items p → Contains old.inner.items p ⊎ ((p ≡ place) × IsInner words w p)
  pub leaves : (p : ℕ) → Contains new.leaves.items p → Contains old.leaves.items p ⊎ ((p ≡ place) × (next_at words w p ≡ []))
  pub kept : (p : ℕ) → IsNoted words w old p → IsNoted words w new p
  pub noted : IsNoted words w new place
  pub entries : Extends (IsEntryAt words w place) old.index.entries.items new.index.entries.items
  pub pushed : IsPushed words w place old new

-- how far a walk has come
pub record IsWalking (words : List ℕ) (w : Way) (root number : ℕ) (marks waiting : List ℕ) (found : Found) : Type 0 where
  pub ahead : (p : ℕ) → Contains waiting p → IsLedTo words w root p
  pub led : (p : ℕ) → IsMarked marks number p → IsLedTo words w root p
  pub begun : IsMarked marks number root ⊎ Contains waiting root
  pub parts : (p q : ℕ) → IsMarked marks number p → Contains (next_at words w p) q → IsMarked marks number q ⊎ Contains waiting q
  pub noted : (p : ℕ) → IsMarked marks number p → IsNoted words w found p
  pub leaves : (p : ℕ) → Contains found.leaves.items p → IsLedTo words w root p × (next_at words w p ≡ [])
  pub inner : (p : ℕ) → Contains found.inner.items p → IsLedTo words w root p × IsInner words w p

-- all places to which a walk came, and what was found there
pub record IsWalked (words : List ℕ) (w : Way) (root number : ℕ) (marks : List ℕ) (found : Found) : Type 0 where
  pub begun : IsMarked marks number root
  pub led : (p : ℕ) → IsMarked marks number p → IsLedTo words w root p
  pub parts : (p q : ℕ) → IsMarked marks number p → Contains (next_at words w p) q → IsMarked marks number q
  pub noted : (p : ℕ) → IsMarked marks number p → IsNoted words w found p
  pub leaves : (p : ℕ) → Contains found.leaves.items p → IsLedTo words w root p × (next_at words w p ≡ [])
  pub inner : (p : ℕ) → Contains found.inner.items p → IsLedTo words w root p × IsInner words w p

-- what a walk into ANDs found has no place twice, and each And but the root comes after one that names it
pub record IsTrace (words : List ℕ) (root : ℕ) (found : Found) : Type 0 where
  pub leaves_once : IsDistinct nat_eq found.leaves.items
  pub ands_once : IsDistinct nat_eq found.inner.items
  pub ands_order : AreTopDown words root found.inner.items

abbrev pub IsTraced : List ℕ → Way → ℕ → Found → Type 0
IsTraced words (way.All conjunct) root found = ⊤
IsTraced words (way.Ands stop) root found = IsTrace words root found

-- so far, where it was at each of these, and those that wait are named
pub record IsTracing (words : List ℕ) (root number : ℕ) (marks waiting : List ℕ) (found : Found) : Type 0 where
  pub trace : IsTrace words root found
  pub seen : (p : ℕ) → Contains found.inner.items p ⊎ Contains found.leaves.items p → IsMarked marks number p
  pub named : (p : ℕ) → Contains waiting p → (p ≡ root) ⊎ IsNamed words found.inner.items p

abbrev pub IsTracingOn : List ℕ → Way → ℕ → ℕ → List ℕ → List ℕ → Found → Type 0
IsTracingOn words (way.All conjunct) root number marks waiting found = ⊤
IsTracingOn words (way.Ands stop) root number marks waiting found = IsTracing words root number marks waiting found
