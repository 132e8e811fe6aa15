-- How far a search has come: its log and its trail.
use Rattle.std.specs.Prelude.{◌≡◌, ℕ, zero, suc, ◌+◌, ◌≤◌, ◌<◌, Bool, true, ◌&&◌, List, [], ◌∷◌, ◌++◌, Option, Some, None, length, take, slice_set, ◌⊎◌, if◌then◌else◌}
use Rattle.std.specs.List.{list_all}
use Rattle.std.proofs.Math.IntN.{ℤ}
use Rattle.ct_trail.specs.declared.assignment.Truth.{Truth}
use Rattle.ct_trail.specs.declared.assignment.Truth.TheVariants as truth
use Rattle.ct_trail.specs.declared.log.Rup.{Rup}
use Rattle.ct_trail.specs.declared.log.Entry.{Entry}
use Rattle.ct_trail.specs.declared.log.Entry.TheVariants as entry
use Rattle.ct_trail.specs.declared.look.Look.{Look}
use Rattle.ct_trail.specs.declared.look.Look.TheVariants as look
use Rattle.ct_trail.specs.declared.scan.Scan.{Scan}
use Rattle.ct_trail.specs.declared.scan.Scan.TheVariants as scan
use Rattle.ct_trail.specs.declared.trail.Put.{Put}
use Rattle.ct_trail.specs.declared.learning.Return.{Return}
use Rattle.ct_trail.specs.Literal.{Clause, is_literal, is_clause, place_of, LARGEST}
use Rattle.ct_trail.specs.Assignment.{satisfied, truth_of, is_open, IsOpen}
use Rattle.ct_trail.specs.Look.{LookOf, IsUndecided, IsFalsifiedAt, IsUnitAt}
use Rattle.ct_trail.specs.Log.{entry_clause, clauses_in, clause_at, added_in, each_learned_follows}
use Rattle.ct_trail.specs.Trail.{truths_of, IsTrail}
use Rattle.ct_trail.specs.Learning.{IsReturnOf}

-- what contracts see of a board; `top` is the greatest variable of the added clauses
pub record Standing : Type 0 where
  pub vars : ℕ
  pub top : ℕ
  pub entries : List Entry
  pub trail : List Put

abbrev pub truths_now : Standing → List Truth
truths_now s = truths_of s.vars s.trail

abbrev pub log_now : Standing → List Clause
log_now s = clauses_in s.entries

-- what is true of each board
pub record IsStanding (s : Standing) : Type 0 where
  pub vars : s.vars ≤ LARGEST
  pub top : s.top ≤ s.vars
  pub within : list_all (is_clause s.top) (clauses_in s.entries) ≡ true
  pub least : (k : ℕ) → list_all (is_clause k) (added_in s.entries) ≡ true → s.top ≤ k
  pub follow : each_learned_follows [] s.entries ≡ true
  pub trail : IsTrail s.vars s.top (clauses_in s.entries) s.trail

-- the same with one more literal on the trail
abbrev pub extended : Standing → ℤ → Option ℕ → Standing
extended s l r = record { vars = s.vars; top = s.top; entries = s.entries; trail = s.trail ++ record { literal = l; reason = r } ∷ [] }

-- whether a literal has a variable up to the greatest of the added clauses, and no truth
abbrev pub can_decide : Standing → ℤ → Bool
can_decide s l = is_literal s.top l && is_open (truth_of (truths_now s) l)

-- the same with that literal as a decision, if it can be one
abbrev pub decided : Standing → ℤ → Standing
decided s l = if can_decide s l then extended s l None else s

-- the same with so many literals of the trail
abbrev pub shortened : Standing → ℕ → Standing
shortened s n = record { vars = s.vars; top = s.top; entries = s.entries; trail = take n s.trail }

-- the last literal of a trail is gone, and has no truth
abbrev pub IsTakenBack : List Put → List Truth → List Put → List Truth → Type 0
IsTakenBack ps ts qs us = ((ps ≡ []) × (qs ≡ ps) × (us ≡ ts)) ⊎ ((p : Put) × (ps ≡ qs ++ p ∷ []) × (us ≡ slice_set ts (place_of p.literal) truth.Open))

-- the same with one more entry
abbrev pub entered : Standing → Entry → Standing
entered s e = record { vars = s.vars; top = s.top; entries = s.entries ++ e ∷ []; trail = s.trail }

-- a clause is learned, and tells where the search goes on
pub record Learned (old new : Standing) (back : Option Return) : Type 0 where
  pub step : Rup
  pub is : new ≡ entered old (entry.Learned step)
  pub returns : IsReturnOf old.vars old.trail step.clause back

-- one more than the worth of each trail of at most n literals
abbrev pub full : ℕ → ℕ
full zero = 1
full (suc n) = full n + (full n + full n)

-- what a literal is worth: 2 units with a reason, 1 as a decision
abbrev pub digit : Option ℕ → ℕ → ℕ
digit None unit = unit
digit (Some k) unit = unit + unit

-- what a trail of at most n literals is worth: a number to the base 3, whose first digit counts most
abbrev pub worth : ℕ → List Put → ℕ
worth zero ps = 0
worth (suc n) [] = 0
worth (suc n) (p ∷ ps) = digit p.reason (full n) + worth n ps

abbrev pub worth_of : Standing → ℕ
worth_of s = worth s.vars s.trail

-- the log gets longer, by what is learned alone
pub record Continues (old new : Standing) : Type 0 where
  pub vars : new.vars ≡ old.vars
  pub more : List Entry
  pub is : new.entries ≡ old.entries ++ more
  pub none : added_in more ≡ []

-- and the trail is worth no less
pub record Advances (old new : Standing) : Type 0 where
  pub continues : Continues old new
  pub worth : worth_of old ≤ worth_of new

-- what the clause at a position is; satisfied where there is none
abbrev pub SeenAt : Standing → ℕ → Look → Type 0
SeenAt s k look.Satisfied = k < length (log_now s) → satisfied (truths_now s) (clause_at (log_now s) k) ≡ true
SeenAt s k look.Falsified = IsFalsifiedAt (truths_now s) (log_now s) k
SeenAt s k (look.Unit l) = IsUnitAt (truths_now s) l (log_now s) k
SeenAt s k (look.Undecided l) = (k < length (log_now s)) × IsUndecided (truths_now s) (clause_at (log_now s) k) l × (is_literal s.top l ≡ true)

-- what an added clause is; a learned one counts as satisfied
abbrev pub AddedLook : List Truth → Entry → Look → Type 0
AddedLook truths e look.Satisfied = list_all (satisfied truths) (added_in (e ∷ [])) ≡ true
AddedLook truths e look.Falsified = LookOf truths (entry_clause e) look.Falsified
AddedLook truths e (look.Unit l) = LookOf truths (entry_clause e) (look.Unit l)
AddedLook truths e (look.Undecided l) = LookOf truths (entry_clause e) (look.Undecided l)

-- what the added clauses are; `entries` are those of a log
abbrev pub ScanOf : List Truth → List Entry → ℕ → Scan → Type 0
ScanOf truths entries top scan.Satisfied = list_all (satisfied truths) (added_in entries) ≡ true
ScanOf truths entries top (scan.Falsified k) = IsFalsifiedAt truths (clauses_in entries) k
ScanOf truths entries top (scan.Unit k l) = IsUnitAt truths l (clauses_in entries) k
ScanOf truths entries top (scan.Undecided l) = IsOpen truths l × (is_literal top l ≡ true)
