-- What changes when a class goes over into another, and when a term gets a number.
use Rattle.std.{proofs.Common.{◌≡◌, ℕ, true, false, List, [], ◌∷◌, Some, nat_eq, refl, arith, ◌⊎◌}, proofs.lemmas.Bool.Decides.nat_tests}
use Rattle.ct_equality.{specs.declared.classes.Member.Member, specs.Members.{is_listed, class_of, number_of, is_taken, moved, merged, numbered}}

pub class_unlisted : (ms : List Member) (p : ℕ) → is_listed ms p ≡ false → class_of ms p ≡ p
class_unlisted [] p e = refl
class_unlisted (m ∷ ms) p e = grind (arith, nat_tests, class_unlisted ms p)

module _ (g k : ℕ) where
  pub listed_merged : (ms : List Member) (p : ℕ) → is_listed (merged g k ms) p ≡ is_listed ms p
  listed_merged [] p = refl
  listed_merged (m ∷ ms) p = rw (listed_merged ms p)

  pub numbers_merged : (ms : List Member) (p : ℕ) → number_of (merged g k ms) p ≡ number_of ms p
  numbers_merged [] p = refl
  numbers_merged (m ∷ ms) p = rw (numbers_merged ms p)

  pub taken_merged : (ms : List Member) (j : ℕ) → is_taken (merged g k ms) j ≡ is_taken ms j
  taken_merged [] j = refl
  taken_merged (m ∷ ms) j = rw (taken_merged ms j)

  class_listed : (ms : List Member) (p : ℕ) → is_listed ms p ≡ true → class_of (merged g k ms) p ≡ moved g k (class_of ms p)
  class_listed [] p e = cc
  class_listed (m ∷ ms) p e = grind (arith, nat_tests, class_listed ms p)

  pub class_merged : (ms : List Member) → is_listed ms g ≡ true → (p : ℕ) → class_of (merged g k ms) p ≡ moved g k (class_of ms p)
  class_merged ms there p = grind (arith, nat_tests, class_listed ms p, class_unlisted ms p, class_unlisted (merged g k ms) p, listed_merged ms p)

module _ (p k : ℕ) where
  pub listed_numbered : (ms : List Member) (q : ℕ) → is_listed (numbered p k ms) q ≡ is_listed ms q
  listed_numbered [] q = refl
  listed_numbered (m ∷ ms) q = rw (listed_numbered ms q)

  pub class_numbered : (ms : List Member) (q : ℕ) → class_of (numbered p k ms) q ≡ class_of ms q
  class_numbered [] q = refl
  class_numbered (m ∷ ms) q = rw (class_numbered ms q)

  pub number_numbered : (ms : List Member) (q : ℕ) → nat_eq q p ≡ false → number_of (numbered p k ms) q ≡ number_of ms q
  number_numbered [] q e = refl
  number_numbered (m ∷ ms) q e = grind (arith, nat_tests, number_numbered ms q)

  pub number_new : (ms : List Member) → is_listed ms p ≡ true → number_of (numbered p k ms) p ≡ Some k
  number_new [] e = cc
  number_new (m ∷ ms) e = grind (arith, nat_tests, number_new ms)

  -- a number that is taken was taken before, or is the new one
  pub taken_numbered : (ms : List Member) (j : ℕ) → is_taken (numbered p k ms) j ≡ true → (j ≡ k) ⊎ (is_taken ms j ≡ true)
  taken_numbered [] j e = cc
  taken_numbered (m ∷ ms) j e = grind (arith, nat_tests, taken_numbered ms j)

-- a term with a number is listed
pub number_listed : (ms : List Member) (p k : ℕ) → number_of ms p ≡ Some k → is_listed ms p ≡ true
number_listed [] p k e = cc
number_listed (m ∷ ms) p k e = grind (arith, nat_tests, number_listed ms p k)

-- the number of a term is taken
pub taken_by : (ms : List Member) (p k : ℕ) → number_of ms p ≡ Some k → is_taken ms k ≡ true
taken_by [] p k e = cc
taken_by (m ∷ ms) p k e = grind (arith, nat_tests, taken_by ms p k)
