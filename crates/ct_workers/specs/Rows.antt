-- The answers of one worker, and of all.
use Rattle.std.specs.Prelude.{◌≡◌, ◌<◌, ◌≤◌, ◌+◌, ◌*◌, ℕ, List, length, get_or, Option, None, Some, IfOk}
use Rattle.ct_workers.specs.Known.{IsRightAnswer}
use Rattle.ct_workers.specs.declared.known.Answer.{Answer}
use Rattle.ct_workers.specs.declared.sides.Slot.{Slot}

-- a right answer to the root of this number
pub record IsAnswerTo (words roots : List ℕ) (number : ℕ) (o : Option Answer) : Type 0 where
  pub answer : Answer
  pub there : o ≡ Some answer
  pub root : answer.root ≡ get_or roots number 0
  pub right : IsRightAnswer words answer

-- right answers to a first root, and to each that is so many further on
pub record IsRow (words roots : List ℕ) (step first : ℕ) (row : List (Option Answer)) : Type 0 where
  pub each : (j : ℕ) → j < length row → IsAnswerTo words roots (first + j * step) (get_or row j None)
  pub all : length roots ≤ first + length row * step

-- a worker has its answers, if memory was not wanting
abbrev pub HasWorked : List ℕ → List ℕ → ℕ → ℕ → Slot → Type 0
HasWorked words roots step first s = IfOk s.row (λ row. IsRow words roots step first row.items)

-- the rows of all workers
abbrev pub AreRows : {V : Type 0} → (V → List (Option Answer)) → List ℕ → List ℕ → ℕ → List V → Type 0
AreRows items words roots step rows = (k : ℕ) (d : _) → k < length rows → IsRow words roots step k (items (get_or rows k d))
