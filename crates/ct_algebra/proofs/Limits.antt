-- A size within the limit, where it was counted by a number that stops at the greatest of 64 bits.
use Rattle.std.proofs.Common.{◌≡◌, ℕ, ◌≤◌, ◌<◌, arith}
use Rattle.ct_query.specs.Size.{stopped}
use Rattle.ct_algebra.specs.Evaluates.{limit}

pub not_above : (n m s : ℕ) → n ≡ m → s ≡ stopped n → s ≤ limit → limit < m → ⊥
not_above n m s e counted within above = omega arith
