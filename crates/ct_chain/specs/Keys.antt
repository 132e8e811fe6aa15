-- How the places of a list of keys are linked: each to the next one after it that is of its bucket.
use Rattle.std.specs.Prelude.{◌≡◌, ◌≢◌, ℕ, ◌+◌, ◌-◌, ◌<◌, ◌≤◌, ◌^◌, List, length, get_or}
use Rattle.ct_chain.specs.Bucket.{bucket_of}
use Rattle.ct_chain.specs.Linked.{IsLast}

-- `at` is the first place at or past `from` whose key is in bucket b of n, or the largest number of 32 bits where there is none
pub record IsFirst (n : ℕ) (keys : List ℕ) (b at from : ℕ) : Type 0 where
  pub past : from ≤ at
  pub own : at < length keys → bucket_of n (get_or keys at 0) ≡ b
  pub none : (p : ℕ) → from ≤ p → p < at → p < length keys → bucket_of n (get_or keys p 0) ≢ b
  pub end : length keys ≤ at → at ≡ 2 ^ 32 - 1

-- each bucket leads to its first place, and each place to the next one of its bucket
pub record AreAhead (n : ℕ) (keys heads next : List ℕ) : Type 0 where
  pub some : 0 < n
  pub few : n ≤ 2 ^ 32
  pub count : length heads ≡ n
  pub links : length next ≡ length keys
  pub buckets : (b : ℕ) → b < n → IsFirst n keys b (get_or heads b 0) 0
  pub places : (p : ℕ) → p < length keys → IsFirst n keys (bucket_of n (get_or keys p 0)) (get_or next p 0) (p + 1)

-- and each bucket has one more than its last place, or 0
pub record AreKeysLinked (n : ℕ) (keys heads tails next : List ℕ) : Type 0 where
  pub ahead : AreAhead n keys heads next
  pub count : length tails ≡ n
  pub lasts : (b : ℕ) → b < n → IsLast n keys b (get_or tails b 0) (length keys)

-- a key is not at or past `from` before `at`, and what is there is of its bucket
pub record IsKeySought (n : ℕ) (keys : List ℕ) (key from at : ℕ) : Type 0 where
  pub own : at < length keys → bucket_of n (get_or keys at 0) ≡ bucket_of n key
  pub none : (p : ℕ) → from ≤ p → p < at → p < length keys → get_or keys p 0 ≢ key
  pub end : length keys ≤ at → at ≡ 2 ^ 32 - 1
