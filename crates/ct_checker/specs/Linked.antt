-- Chains that lead to each literal of a list.
use Rattle.std.specs.Prelude.{◌≡◌, ℕ, ◌+◌, ◌*◌, ◌%◌, ◌<◌, true, List, length, slice_index, slice_index_or}
use Rattle.ct_derivation.specs.declared.literals.Atom.{Atom}
use Rattle.ct_derivation.specs.declared.literals.Atom.TheVariants as atom
use Rattle.ct_derivation.specs.declared.literals.Lit.{Lit}
use Rattle.ct_derivation.specs.Literal.{same_lit}

abbrev pub number_of : Atom → ℕ
number_of (atom.Node p) = p
number_of (atom.Same s t) = s * 1000003 + t

unfoldable pub bucket_of : ℕ → Lit → ℕ
bucket_of buckets l = number_of l.atom % buckets

-- the chain down from a place leads to place j, all below n
pub data Reaches (next : List ℕ) (n j : ℕ) : ℕ → Type 0 where
  here : {i : ℕ} → i < n → i ≡ j → Reaches next n j i
  down : {i : ℕ} → i < n → slice_index next i < i → Reaches next n j (slice_index next i) → Reaches next n j i

-- the chain of each literal's bucket leads to it
pub record Linked (falses : List Lit) (heads next : List ℕ) : Type 0 where
  pub reach : (j : ℕ) (d : Lit) → j < length falses → Reaches next (length falses) j (slice_index heads (bucket_of (length heads) (slice_index_or falses j d)))

-- the chain from a place leads to each place where l stands
pub record IsHead (falses : List Lit) (next : List ℕ) (first : ℕ) (l : Lit) : Type 0 where
  pub leads : (j : ℕ) (d : Lit) → j < length falses → same_lit l (slice_index_or falses j d) ≡ true → Reaches next (length falses) j first
