-- What a look at a clause, and one at all added clauses, answer.
use Rattle.std.specs.Prelude.{◌≡◌, ℕ, ◌<◌, true, false, List, length, if◌then◌else◌}
use Rattle.std.specs.Ordering.{int_eq}
use Rattle.std.proofs.Math.IntN.{ℤ}
use Rattle.ct_trail.specs.declared.assignment.Truth.{Truth}
use Rattle.ct_trail.specs.declared.look.Look.{Look}
use Rattle.ct_trail.specs.declared.look.Look.TheVariants as look
use Rattle.ct_trail.specs.Literal.{Clause, is_positive, has}
use Rattle.ct_trail.specs.Log.{clause_at}
use Rattle.ct_trail.specs.Assignment.{satisfied, falsified, falsified_but, IsOpen, IsUnit}

-- l has no truth, no literal of the clause is true, and another one than l is not false
pub record IsUndecided (truths : List Truth) (c : Clause) (l : ℤ) : Type 0 where
  pub is_free : IsOpen truths l
  pub member : has c l ≡ true
  pub none_true : satisfied truths c ≡ false
  pub others : falsified_but truths l c ≡ false

-- what a clause is under an assignment
abbrev pub LookOf : List Truth → Clause → Look → Type 0
LookOf truths c look.Satisfied = satisfied truths c ≡ true
LookOf truths c look.Falsified = falsified truths c ≡ true
LookOf truths c (look.Unit l) = IsUnit truths c l
LookOf truths c (look.Undecided l) = IsUndecided truths c l

-- the first of two literals, unless it is the negative of a variable
abbrev pub preferred : ℤ → ℤ → ℤ
preferred m l = if is_positive m then m else l

-- what it is with one more literal without a truth
abbrev pub opened : Look → ℤ → Look
opened look.Satisfied l = look.Satisfied
opened look.Falsified l = look.Unit l
opened (look.Unit m) l = if int_eq l m then look.Unit m else look.Undecided (preferred m l)
opened (look.Undecided m) l = look.Undecided (preferred m l)

-- the clause at k is false
pub record IsFalsifiedAt (truths : List Truth) (log : List Clause) (k : ℕ) : Type 0 where
  pub place : k < length log
  pub none : falsified truths (clause_at log k) ≡ true

-- l is the last literal of the clause at k
pub record IsUnitAt (truths : List Truth) (l : ℤ) (log : List Clause) (k : ℕ) : Type 0 where
  pub place : k < length log
  pub unit : IsUnit truths (clause_at log k) l
