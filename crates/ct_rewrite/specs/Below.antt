-- Places that name lower places, sets and lists that have what their places name, and the position of each place.
use Rattle.std.specs.Prelude.{◌≡◌, ℕ, ◌<◌, ◌≤◌, Bool, ◌||◌, cond, List, ◌∷◌, nat_eq, nat_lt, IsTrue}
use Rattle.std.specs.List.{list_all, list_any}
use Rattle.std.specs.Ordering.{nat_cmp}
use Rattle.std.specs.BTreeSet.{BTreeSet, contains}
use Rattle.ct_worlds.specs.Truths.{AreRising}

-- whether a list has a place
abbrev pub has : List ℕ → ℕ → Bool
has places p = list_any (nat_eq p) places

-- whether a set has a place
abbrev pub has_in : BTreeSet ℕ → ℕ → Bool
has_in places p = contains nat_cmp places p

-- these places were added to those before
abbrev pub AreAdded : (ℕ → Bool) → (ℕ → Bool) → List ℕ → Type 0
AreAdded old new ks = (k : ℕ) → new k ≡ (old k || has ks k)

-- places below a bound, each of which names lower ones of them
pub record IsDownward (is_in : ℕ → Bool) (parts : ℕ → List ℕ) (bound : ℕ) : Type 0 where
  pub within : (k : ℕ) → IsTrue (is_in k) → k < bound
  pub lower : (k : ℕ) → IsTrue (is_in k) → IsTrue (list_all (λ p. nat_lt p k) (parts k))
  pub inside : (k : ℕ) → IsTrue (is_in k) → IsTrue (list_all is_in (parts k))

-- from a place on, what each place names is there
abbrev pub IsClosedFrom : (ℕ → List ℕ) → ℕ → (ℕ → Bool) → Type 0
IsClosedFrom parts low there = (k : ℕ) → low ≤ k → IsTrue (there k) → IsTrue (list_all there (parts k))

-- whether a place waits, or was passed
abbrev pub is_seen : (ℕ → Bool) → List ℕ → ℕ → Bool
is_seen waits passed k = waits k || has passed k

-- the places from a bound on were passed, in their order, and the lower ones that were led to wait
pub record IsPassedTo (is_in : ℕ → Bool) (parts : ℕ → List ℕ) (roots : List ℕ) (bound : ℕ) (waits : ℕ → Bool) (passed : List ℕ) : Type 0 where
  pub inside : (k : ℕ) → IsTrue (is_seen waits passed k) → IsTrue (is_in k)
  pub seeds : IsTrue (list_all (is_seen waits passed) roots)
  pub closed : IsClosedFrom parts bound (is_seen waits passed)
  pub lower : (k : ℕ) → IsTrue (waits k) → k < bound
  pub from : (k : ℕ) → IsTrue (has passed k) → bound ≤ k
  pub rising : AreRising passed

-- places, and the positions of the first of them
pub record Placement : Type 0 where
  pub places : List ℕ
  pub positions : List ℕ

-- the position that stands beside a place, 0 for none
abbrev pub found : List ℕ → List ℕ → ℕ → ℕ
found (p ∷ ps) (k ∷ ks) q = cond (nat_eq p q) k (found ps ks q)
found _ _ q = 0

-- the position of a place, 0 for none
abbrev pub position_at : Placement → ℕ → ℕ
position_at t p = found t.places t.positions p

-- this holds of a place and its position
abbrev pub HasAt : (ℕ → ℕ → Type 0) → Placement → ℕ → Type 0
HasAt P t p = P p (position_at t p)
