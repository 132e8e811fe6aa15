-- What the source and the sink in memory hold.
use Rattle.std.specs.Prelude.{◌+◌, ◌-◌, ◌^◌, ℕ, Bool, List, [], ◌∷◌, ◌++◌, take, length, min, ◌&&◌, Option, Some, None, Result, Ok, Err, nat_eq, nat_lt, if◌then◌else◌}
use Rattle.ct_word.specs.Value.{same_text}
use Rattle.std.specs.List.{list_any}
use Rattle.ct_outside.specs.Outside.{Held}
use Rattle.ct_outside.specs.declared.scripts.ReadError.{ReadError}
use Rattle.ct_outside.specs.declared.scripts.ReadError.TheVariants as fault

-- the bytes under a name: those of the first pair with it
abbrev pub bytes_under : List (List ℕ × List ℕ) → Held
bytes_under [] name = None
bytes_under (p ∷ ps) name = if same_text p.0 name then Some p.1 else bytes_under ps name

-- one more fault, short of the greatest u64
abbrev pub one_more : ℕ → ℕ
one_more count = min (count + 1) (2 ^ 64 - 1)

-- the number of calls that a count tells: none at its end
abbrev pub told_calls : ℕ → Option ℕ
told_calls count = if nat_lt count (2 ^ 64 - 1) then Some count else None

-- a source in memory: its pairs of names and bytes, the numbers of the calls that are to fail, the names that it was
-- asked, how many calls it had, and how many of them failed
pub record Source : Type 0 where
  pub pairs : List (List ℕ × List ℕ)
  pub to_fail : List ℕ
  pub asked : List (List ℕ)
  pub calls : ℕ
  pub faults : ℕ

-- a sink in memory: the calls that are to fail, each with how many bytes it takes before, the bytes that it took, how
-- many calls it had, and how many of them failed
pub record Taking : Type 0 where
  pub to_fail : List (ℕ × ℕ)
  pub bytes : List ℕ
  pub calls : ℕ
  pub faults : ℕ

-- how many bytes a call takes before it fails, where it is to fail
abbrev pub planned : List (ℕ × ℕ) → ℕ → Option ℕ
planned [] call = None
planned (p ∷ ps) call = if nat_eq p.0 call then Some p.1 else planned ps call

-- whether the next call of a source is to fail; a count at its end numbers no call
abbrev pub fails_next : Source → Bool
fails_next s = nat_lt s.calls (2 ^ 64 - 1) && list_any (λ call. nat_eq call (s.calls + 1)) s.to_fail

-- what a read answers that finds these bytes
abbrev pub answer_within : Option (List ℕ) → ℕ → Result (List ℕ) ReadError
answer_within None limit = Err fault.Failed
answer_within (Some bytes) limit = if nat_lt limit (length bytes) then Err fault.TooLong else Ok bytes

-- what the next read answers while there is memory
abbrev pub next_answer : Source → List ℕ → ℕ → Result (List ℕ) ReadError
next_answer s name limit = if fails_next s then Err fault.Failed else answer_within (bytes_under s.pairs name) limit

-- the faults of a source after it gave an answer
abbrev pub faults_after : Result (List ℕ) ReadError → ℕ → ℕ
faults_after (Err fault.Failed) faults = one_more faults
faults_after _ faults = faults

-- the source after a read that was asked this name and gave its next answer
abbrev pub after_read : Source → List ℕ → ℕ → Source
after_read s name limit = record s { asked = s.asked ++ name ∷ []; calls = one_more s.calls; faults = faults_after (next_answer s name limit) s.faults }

-- the source after a read without memory, with the names that it still noted
abbrev pub after_want : Source → List (List ℕ) → Source
after_want s names = record s { asked = s.asked ++ names; calls = one_more s.calls }

-- how many bytes the next call takes before it fails, where it is to fail; a count at its end numbers no call
abbrev pub next_plan : Taking → Option ℕ
next_plan s = if nat_lt s.calls (2 ^ 64 - 1) then planned s.to_fail (s.calls + 1) else None

-- the sink after a write that took the whole piece
abbrev pub after_write : Taking → List ℕ → Taking
after_write s piece = record s { bytes = s.bytes ++ piece; calls = one_more s.calls }

-- the sink after a write that took this many bytes of the piece and failed
abbrev pub after_failure : Taking → List ℕ → ℕ → Taking
after_failure s piece count = record s { bytes = s.bytes ++ take count piece; calls = one_more s.calls; faults = one_more s.faults }
