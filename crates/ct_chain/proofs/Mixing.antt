-- A bucket is one of those that there are.
use Rattle.std.{proofs.Common.{ℕ, ◌*◌, ◌/◌, ◌<◌, ◌≤◌, ◌^◌, arith}, proofs.lemmas.Nat.{div_below, mul-le}}
use Rattle.ct_chain.specs.Bucket.{bucket_of, fold_mul}

scaled_below : (half n : ℕ) → half < 2 ^ 32 → 0 < n → half * n / 2 ^ 32 < n
scaled_below half n small some =
    let most : half * n ≤ 4294967295 * n = mul-le half n 4294967295 n (omega arith) (omega arith) in
    div_below (half * n) (2 ^ 32) n (omega arith) (omega arith)

pub bucket_below : (n w : ℕ) → 0 < n → bucket_of n w < n
unfolding bucket_of
bucket_below n w some = scaled_below (fold_mul (fold_mul w 13787848793156543929) 10723151780598845931 / 2 ^ 32) n (omega arith) some
