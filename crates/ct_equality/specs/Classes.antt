-- What the classes of the terms keep while true equalities join them.
use Rattle.std.specs.Prelude.{◌≡◌, ◌<◌, ◌≤◌, ℕ, Bool, true, false, List, length, Some, slice_get}
use Rattle.ct_derivation.specs.declared.literals.Atom.{Atom}
use Rattle.ct_derivation.specs.declared.literals.Atom.TheVariants as atom
use Rattle.ct_derivation.specs.Path.{is_constant}
use Rattle.ct_equality.specs.declared.classes.Member.{Member}
use Rattle.ct_equality.specs.Members.{is_listed, class_of, number_of, is_taken}
use Rattle.ct_equality.specs.Terms.{is_end_of}
use Rattle.ct_equality.specs.Assigned.{Joined, Gives}

-- each class goes by one of its terms, by its constant where it has one and else by its least, and true equalities lead to it
pub record AreClasses (words : List ℕ) (atoms : List Atom) (truth : List Bool) (ms : List Member) : Type 0 where
  pub joined : (p : ℕ) → Joined atoms truth p (class_of ms p)
  pub chief : (p : ℕ) → class_of ms (class_of ms p) ≡ class_of ms p
  pub constants : (p : ℕ) → is_constant words p ≡ true → class_of ms p ≡ p
  pub within : (p : ℕ) → is_listed ms p ≡ true → is_listed ms (class_of ms p) ≡ true
  pub least : (p : ℕ) → is_constant words (class_of ms p) ≡ false → class_of ms p ≤ p

-- classes only go over into one another; terms and numbers stay
pub record Merges (old new : List Member) : Type 0 where
  pub count : length new ≡ length old
  pub listed : (p : ℕ) → is_listed new p ≡ is_listed old p
  pub numbers : (p : ℕ) → number_of new p ≡ number_of old p
  pub taken : (k : ℕ) → is_taken new k ≡ is_taken old k
  pub grows : (p q : ℕ) → class_of old p ≡ class_of old q → class_of new p ≡ class_of new q

-- the terms of each true equality among the first n atoms are in one class
abbrev pub IsClosed : List Atom → List Bool → ℕ → List Member → Type 0
IsClosed atoms truth n ms =
    (k s t : ℕ) → k < n → slice_get atoms k ≡ Some (atom.Same s t) → slice_get truth k ≡ Some true → class_of ms s ≡ class_of ms t

-- the terms of each false equality among the first n atoms are in two classes
abbrev pub IsApart : List Atom → List Bool → ℕ → List Member → Type 0
IsApart atoms truth n ms =
    (k s t : ℕ) → k < n → slice_get atoms k ≡ Some (atom.Same s t) → slice_get truth k ≡ Some false → class_of ms s ≡ class_of ms t → ⊥

-- each term of the equalities is listed
abbrev pub AreListed : List Atom → List Member → Type 0
AreListed atoms ms = (p : ℕ) → is_end_of atoms p ≡ true → is_listed ms p ≡ true

-- the classes when the true equalities among the first n atoms have joined their terms
pub record AreJoined (words : List ℕ) (atoms : List Atom) (truth : List Bool) (n : ℕ) (old new : List Member) : Type 0 where
  pub classes : AreClasses words atoms truth new
  pub merges : Merges old new
  pub closed : IsClosed atoms truth n new

-- an equality is false, and its terms are in one class
pub record IsContradiction (atoms : List Atom) (truth : List Bool) (ms : List Member) (s t : ℕ) : Type 0 where
  pub given : Gives atoms truth false (atom.Same s t)
  pub one_class : class_of ms s ≡ class_of ms t
