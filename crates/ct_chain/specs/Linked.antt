-- How the places of a list are linked: each to the last one before it that is of its bucket.
use Rattle.std.specs.Prelude.{◌≡◌, ◌≢◌, ℕ, ◌+◌, ◌<◌, ◌≤◌, ◌^◌, List, length, get_or}
use Rattle.ct_chain.specs.Bucket.{bucket_of}
use Rattle.ct_chain.specs.Seen.{AreDistinct}

-- `at` is one more than the last place before `upto` whose number is in bucket b of n, or 0 where there is none
pub record IsLast (n : ℕ) (numbers : List ℕ) (b at upto : ℕ) : Type 0 where
  pub within : at ≤ upto
  pub own : (p : ℕ) → p + 1 ≡ at → bucket_of n (get_or numbers p 0) ≡ b
  pub none : (p : ℕ) → at ≤ p → p < upto → bucket_of n (get_or numbers p 0) ≢ b

-- the places before `upto` are linked in n buckets
pub record IsLinked (n : ℕ) (numbers heads next : List ℕ) (upto : ℕ) : Type 0 where
  pub some : 0 < n
  pub few : n ≤ 2 ^ 32
  pub count : length heads ≡ n
  pub buckets : (b : ℕ) → b < n → IsLast n numbers b (get_or heads b 0) upto
  pub places : (p : ℕ) → p < upto → IsLast n numbers (bucket_of n (get_or numbers p 0)) (get_or next p 0) p

-- what a chain keeps of its fields
pub record IsChain (cap : ℕ) (words heads next : List ℕ) : Type 0 where
  pub room : length words ≤ cap
  pub small : cap < 2 ^ 32
  pub links : length next ≡ length words
  pub distinct : AreDistinct words
  pub linked : IsLinked (length heads) words heads next (length words)

-- a number that is not at `at` - 1 or before it is nowhere, and what is there is of its bucket
pub record IsSought (n : ℕ) (numbers : List ℕ) (number at : ℕ) : Type 0 where
  pub within : at ≤ length numbers
  pub own : (p : ℕ) → p + 1 ≡ at → bucket_of n (get_or numbers p 0) ≡ bucket_of n number
  pub none : (p : ℕ) → at ≤ p → p < length numbers → get_or numbers p 0 ≢ number
