-- Terms that lead to earlier ones of their classes.
use Rattle.std.specs.Prelude.{◌≡◌, ◌<◌, ◌≤◌, ◌↔◌, ℕ, Bool, true, List, Option, length, slice_index_or}
use Rattle.ct_derivation.specs.declared.literals.Atom.{Atom}
use Rattle.ct_equality.specs.declared.classes.Member.{Member}
use Rattle.ct_equality.specs.Members.{is_listed, class_of, members_at}
use Rattle.ct_equality.specs.Joining.{clash_of, joined_classes}
use Rattle.ct_equality.specs.Classes.{AreJoined}

-- each place leads to itself or an earlier one
abbrev pub AreLow : List ℕ → Type 0
AreLow parents = (i : ℕ) → i < length parents → slice_index_or parents i 0 ≤ i

-- each place leads to one with the same value
abbrev pub IsLed : (ℕ → ℕ) → List ℕ → Type 0
IsLed f parents = (i : ℕ) → i < length parents → f (slice_index_or parents i 0) ≡ f i

-- the same places lead to themselves
abbrev pub HaveRoots : List ℕ → List ℕ → Type 0
HaveRoots old new = (i : ℕ) → i < length old → (slice_index_or old i 0 ≡ i) ↔ (slice_index_or new i 0 ≡ i)

-- on the way from a place to the first one of its class, the places behind led to later ones on it
pub record IsWay (old new : List ℕ) (from at : ℕ) : Type 0 where
  pub count : length new ≡ length old
  pub low : AreLow new
  pub within : at < length old
  pub roots : HaveRoots old new
  pub led : (f : ℕ → ℕ) → IsLed f old → IsLed f new × (f at ≡ f from)

-- the way is at its end
pub record IsWayUp (old new : List ℕ) (from at : ℕ) : Type 0 where
  pub way : IsWay old new from at
  pub root : slice_index_or new at 0 ≡ at

-- what a forest keeps of its own
pub record IsSound (parents chiefs : List ℕ) : Type 0 where
  pub count : length chiefs ≡ length parents
  pub low : AreLow parents

-- the classes of these terms: the first one of each has the term by which the class goes
pub record IsForest (us : List ℕ) (ms : List Member) (parents chiefs : List ℕ) : Type 0 where
  pub count : length parents ≡ length us
  pub led : IsLed (λ i. class_of ms (slice_index_or us i 0)) parents
  pub roots : (i : ℕ) → i < length us → slice_index_or parents i 0 ≡ i → class_of ms (slice_index_or us i 0) ≡ slice_index_or chiefs i 0
  pub apart : (i j : ℕ) → i < length us → j < length us → slice_index_or parents i 0 ≡ i → slice_index_or parents j 0 ≡ j → slice_index_or chiefs i 0 ≡ slice_index_or chiefs j 0 → i ≡ j
  pub within : (i : ℕ) → i < length us → is_listed ms (class_of ms (slice_index_or us i 0)) ≡ true

-- the first n places have the terms by which their classes go, and the others what they had
pub record AreClassesTo (parents chiefs : List ℕ) (n : ℕ) (classes : List ℕ) : Type 0 where
  pub count : length classes ≡ length chiefs
  pub done : (us : List ℕ) (ms : List Member) → IsForest us ms parents chiefs → (i : ℕ) → i < n → i < length us → slice_index_or classes i 0 ≡ class_of ms (slice_index_or us i 0)
  pub rest : (i : ℕ) → n ≤ i → slice_index_or classes i 0 ≡ slice_index_or chiefs i 0

-- what joining the classes of a and b answers and leaves
pub record IsStep (words us : List ℕ) (ms : List Member) (a b : ℕ) (answer : Option (ℕ × ℕ)) (parents chiefs : List ℕ) : Type 0 where
  pub clash : answer ≡ clash_of words a b
  pub forest : IsForest us (joined_classes words a b ms) parents chiefs

-- the classes when the true equalities among the first n atoms have joined their terms
pub record IsJoining (words : List ℕ) (atoms : List Atom) (truth : List Bool) (n : ℕ) (us parents chiefs : List ℕ) : Type 0 where
  pub sound : IsSound parents chiefs
  pub members : List Member
  pub forest : IsForest us members parents chiefs
  pub joined : AreJoined words atoms truth n (members_at words us) members
