-- The valuation that classes give.
use Rattle.std.specs.Prelude.{◌≡◌, ◌≢◌, ◌<◌, ◌^◌, ◌⊎◌, ◌↔◌, ◌++◌, ℕ, Bool, true, false, List, [], ◌∷◌, Option, Some, None, length, map}
use Rattle.std.specs.List.{AllByRecursion, IsDistinct, list_any}
use Rattle.ct_word.specs.declared.values.Value.{Value}
use Rattle.ct_word.specs.declared.values.Value.TheVariants as val
use Rattle.ct_word.specs.declared.values.Null.{Null}
use Rattle.ct_word.specs.declared.values.Term.{Term}
use Rattle.ct_word.specs.declared.values.Term.TheVariants as term
use Rattle.ct_word.specs.declared.kinds.Class.TheVariants as class
use Rattle.ct_word.specs.WellFormed.{is_place_of}
use Rattle.ct_word.specs.Value.{World, at, other_zero, same_null, same_value}
use Rattle.ct_word.specs.Reading.{term_at}
use Rattle.ct_derivation.specs.declared.literals.Atom.{Atom}
use Rattle.ct_derivation.specs.declared.literals.Atom.TheVariants as atom
use Rattle.ct_derivation.specs.Path.{is_constant}
use Rattle.ct_derivation.specs.Truth.{atom_holds}
use Rattle.ct_equality.specs.declared.classes.Member.{Member}
use Rattle.ct_equality.specs.declared.closing.Closed.{Closed}
use Rattle.ct_equality.specs.declared.closing.Closed.TheVariants as closed
use Rattle.ct_equality.specs.Terms.{terms_of, is_end_of, is_among}
use Rattle.ct_equality.specs.Members.{is_listed, class_of, number_of, number_at, is_taken}
use Rattle.ct_equality.specs.Assigned.{Gives, Joined, IsFalsePath}

-- the value of a constant
abbrev pub value_in : Term → Value
value_in (term.Value x) = x
value_in _ = other_zero

-- `@k`, or otherwise the value of this constant
abbrev pub numbered_value : Option ℕ → Term → Value
numbered_value (Some k) t = val.Other k
numbered_value None t = value_in t

-- the value of a class
abbrev pub class_value : List ℕ → List Member → ℕ → Value
class_value words ms c = numbered_value (number_of ms c) (term_at words c)

-- the pair of a null and its value; none for a constant
abbrev pub with_pair : Term → Value → World → World
with_pair (term.Null n) x v = (n, x) ∷ v
with_pair _ x v = v

-- the nulls among these places, with the values of their classes
abbrev pub world_of : List ℕ → List Member → List ℕ → World
world_of words ms [] = []
world_of words ms (t ∷ ts) = with_pair (term_at words t) (class_value words ms (class_of ms t)) (world_of words ms ts)

-- the null, if it is one, and then these
abbrev pub with_null : Term → List Null → List Null
with_null (term.Null n) ns = n ∷ ns
with_null _ ns = ns

-- the nulls among these places
abbrev pub nulls_of : List ℕ → List ℕ → List Null
nulls_of words [] = []
nulls_of words (t ∷ ts) = with_null (term_at words t) (nulls_of words ts)

-- a term of the equalities is this constant
pub record IsConstantOf (words : List ℕ) (atoms : List Atom) (x : Value) : Type 0 where
  pub place : ℕ
  pub is_end : is_end_of atoms place ≡ true
  pub constant : is_constant words place ≡ true
  pub value : value_in (term_at words place) ≡ x

-- one of the values `@k`
pub record IsNumbered (x : Value) : Type 0 where
  pub number : ℕ
  pub short : number < 2 ^ 28
  pub value : x ≡ val.Other number

-- a constant of the equalities, or a value `@k`
abbrev pub IsPlainValue : List ℕ → List Atom → Value → Type 0
IsPlainValue words atoms x = IsConstantOf words atoms x ⊎ IsNumbered x

-- whether a null of these pairs has a value
abbrev pub has_value : World → Value → Bool
has_value before x = list_any (λ p. same_value p.1 x) before

-- a value is a constant of the equalities, or that of a null before
abbrev pub IsTaken : List ℕ → List Atom → World → Value → Type 0
IsTaken words atoms before x = IsConstantOf words atoms x ⊎ (has_value before x ≡ true)

-- `@k` with k such that each smaller one is taken
pub record IsLeast (words : List ℕ) (atoms : List Atom) (before : World) (x : Value) : Type 0 where
  pub number : ℕ
  pub value : x ≡ val.Other number
  pub smaller : (k : ℕ) → k < number → IsTaken words atoms before (val.Other k)

-- each value is taken when its null comes, or is `@k` with the least k that is not
abbrev pub AreNext : List ℕ → List Atom → World → World → Type 0
AreNext words atoms before [] = Unit {0}
AreNext words atoms before (p ∷ v) = (IsTaken words atoms before p.1 ⊎ IsLeast words atoms before p.1) × AreNext words atoms (before ++ p ∷ []) v

-- a valuation of the nulls in the equalities, in the order of their places, under which each equality has its truth
-- and two terms have one value just where true equalities join them
pub record IsWorldOf (words : List ℕ) (atoms : List Atom) (truth : List Bool) (v : World) : Type 0 where
  pub truths : (s t : ℕ) (b : Bool) → Gives atoms truth b (atom.Same s t) → atom_holds words v (atom.Same s t) ≡ b
  pub nulls : map (λ p. p.0) v ≡ nulls_of words (terms_of atoms)
  pub classes : (s t : ℕ) → is_end_of atoms s ≡ true → is_end_of atoms t ≡ true → (at v [] (term_at words s) ≡ at v [] (term_at words t)) ↔ Joined atoms truth s t
  pub values : AllByRecursion (λ p. IsPlainValue words atoms p.1) v
  pub next : AreNext words atoms [] v
  pub distinct : IsDistinct same_null (map (λ p. p.0) v)

-- a valuation that gives each equality its truth, or a path whose clause the assignment makes false
abbrev pub ClosedOf : List ℕ → List Atom → List Bool → Closed → Type 0
ClosedOf words atoms truth (closed.World v) = IsWorldOf words atoms truth v
ClosedOf words atoms truth (closed.Path p) = IsFalsePath words atoms truth p

-- the numbers when the classes of the first terms have got theirs: constants have their own, and no two the same
pub record AreNumbered (words : List ℕ) (old new : List Member) (done : List ℕ) : Type 0 where
  pub count : length new ≡ length old
  pub listed : (p : ℕ) → is_listed new p ≡ is_listed old p
  pub classes : (p : ℕ) → class_of new p ≡ class_of old p
  pub once : (p q k : ℕ) → number_of new p ≡ Some k → number_of new q ≡ Some k → p ≡ q
  pub short : (p k : ℕ) → number_of new p ≡ Some k → k < 2 ^ 28
  pub constants : (p : ℕ) → is_constant words p ≡ true → is_listed new p ≡ true → number_of new p ≡ number_at words p
  pub chiefs : (p : ℕ) → is_among done p ≡ true → class_of new p ≡ p → is_constant words p ≡ false → number_of new p ≢ None
  pub given : (p k : ℕ) → number_of new p ≡ Some k → is_constant words p ≡ false → (is_among done p ≡ true) × (class_of new p ≡ p)
  pub found : (k : ℕ) → is_taken new k ≡ true → (p : ℕ) × (number_of new p ≡ Some k)
  pub least : (p k j : ℕ) → number_of new p ≡ Some k → is_constant words p ≡ false → j < k → (q : ℕ) × (number_of new q ≡ Some j) × (is_constant words q ≡ false → q < p)

-- whether a term is a value
abbrev pub is_value : Term → Bool
is_value (term.Value x) = true
is_value _ = false

-- a class has a number, or goes by a constant
pub record HasValue (words : List ℕ) (ms : List Member) (c : ℕ) : Type 0 where
  pub term : is_place_of words class.Term c ≡ true
  pub value : number_of ms c ≡ None → is_value (term_at words c) ≡ true

-- the classes of these terms have values
abbrev pub HaveValues : List ℕ → List Member → List ℕ → Type 0
HaveValues words ms ts = (p : ℕ) → is_among ts p ≡ true → HasValue words ms (class_of ms p)

-- the same, and each number below `next` is taken
pub record AreNumberedTo (words : List ℕ) (old new : List Member) (done : List ℕ) (next : ℕ) : Type 0 where
  pub numbers : AreNumbered words old new done
  pub below : (k : ℕ) → k < next → is_taken new k ≡ true
