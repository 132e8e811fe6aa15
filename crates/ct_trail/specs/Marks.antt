-- The marks of variables in the analysis of a false clause.
use Rattle.std.specs.Prelude.{◌≡◌, ℕ, Bool, true, false, List, [], ◌∷◌, ◌++◌, Option, Some, None, length, slice_index_or, slice_set, slice_get, if◌then◌else◌}
use Rattle.std.specs.List.{list_all}
use Rattle.std.proofs.Math.IntN.{ℤ, neg_ℤ}
use Rattle.ct_trail.specs.declared.marks.Mark.{Mark}
use Rattle.ct_trail.specs.declared.marks.Mark.TheVariants as mark
use Rattle.ct_trail.specs.declared.trail.Put.{Put}
use Rattle.ct_trail.specs.Literal.{Clause, place_of}
use Rattle.ct_trail.specs.Log.{clause_at}

-- the mark of a literal's variable
abbrev pub mark_at : List Mark → ℤ → Mark
mark_at marks l = slice_index_or marks (place_of l) mark.Clear

abbrev pub is_marked : Mark → Bool
is_marked mark.Clear = false
is_marked mark.Kept = true
is_marked mark.Resolved = true

abbrev pub is_kept : Mark → Bool
is_kept mark.Clear = false
is_kept mark.Kept = true
is_kept mark.Resolved = false

abbrev pub is_resolved : Mark → Bool
is_resolved mark.Clear = false
is_resolved mark.Kept = false
is_resolved mark.Resolved = true

-- the mark of a variable once it is met
abbrev pub raised : Mark → Mark
raised mark.Clear = mark.Kept
raised mark.Kept = mark.Kept
raised mark.Resolved = mark.Resolved

-- the marks once the variables of a clause are met
abbrev pub with_kept : List Mark → Clause → List Mark
with_kept marks [] = marks
with_kept marks (l ∷ c) = with_kept (slice_set marks (place_of l) (raised (mark_at marks l))) c

-- the marks once the other literals of a clause stand for l
abbrev pub replaced : List Mark → ℤ → Clause → List Mark
replaced marks l c = with_kept (slice_set marks (place_of l) mark.Resolved) c

-- whether each variable of a clause is marked
unfoldable pub all_marked : List Mark → Clause → Bool
all_marked marks c = list_all (λ l. is_marked (mark_at marks l)) c

-- the opposites of the literals that are kept, the last one first
abbrev pub kept_of : List Mark → List Put → Clause
kept_of marks [] = []
kept_of marks (p ∷ ps) = kept_of marks ps ++ (if is_kept (mark_at marks p.literal) then neg_ℤ p.literal ∷ [] else [])

abbrev pub listed : Option ℕ → List ℕ
listed None = []
listed (Some k) = k ∷ []

-- the reasons of the literals that are resolved
abbrev pub reasons_of : List Mark → List Put → List ℕ
reasons_of marks [] = []
reasons_of marks (p ∷ ps) = (if is_resolved (mark_at marks p.literal) then listed p.reason else []) ++ reasons_of marks ps

-- a reason each of whose variables is marked
abbrev pub IsMet : List Clause → List Mark → Option ℕ → Type 0
IsMet log marks None = ⊥
IsMet log marks (Some k) = all_marked marks (clause_at log k) ≡ true

-- each literal that is resolved has a reason, whose variables are marked
pub record IsClosed (log : List Clause) (trail : List Put) (marks : List Mark) : Type 0 where
  pub each : (i : ℕ) (p : Put) → slice_get trail i ≡ Some p → is_resolved (mark_at marks p.literal) ≡ true → IsMet log marks p.reason

-- what was marked stays so, and literals are resolved by their reasons
pub record Resolves (log : List Clause) (trail : List Put) (old new : List Mark) : Type 0 where
  pub long : length new ≡ length old
  pub marked : (l : ℤ) → is_marked (mark_at old l) ≡ true → is_marked (mark_at new l) ≡ true
  pub closed : IsClosed log trail new
