-- A file behind a table: what a source tells of both, and which of them were asked.
use Rattle.std.proofs.Common.{◌≡◌, ◌<◌, ◌≤◌, ℕ, zero, suc, List, [], ◌∷◌, ◌++◌, length, take, Option, Some, None, refl, sym, ap, subst, inl, inr, arith, append-nil}
use Rattle.std.{specs.Prelude.{MatchOption, Result, Ok, Err, IfOk, OnOk}, proofs.lemmas.List.{length-append, take_all}}
use Rattle.ct_outside.{specs.Outside.{Held, Holds, HoldsMore, StillHolds, Rose, Added, AddedFront, Called}, proofs.Additions.added_more}
use Rattle.ct_transcript.specs.declared.transcript.Transcript.{Transcript}
use Rattle.ct_run.specs.{Scripts.{SCRIPT_BYTES, IsScript}, Runs.{Asking, Taking, IsUntouched, IsNothingDone}, declared.ending.Status.Status}
use Rattle.ct_run.specs.Imports.{IsTableOf, IsBehind, IsNoTable, long, HoldsNoTable, HoldsNoEnd, IsUnreadBehind, IsNoScriptBehind, ImportPromise}
use Rattle.ct_run.specs.declared.ending.Status.TheVariants as status

module _ {A : Type 0} (told mid now : Option (List A)) (x y : A) (first : Added told mid (x ∷ [])) where
  -- the second one was asked, too
  pub both_asked : Added mid now (y ∷ []) → Added told now (x ∷ y ∷ [])
  both_asked second = added_more told mid now (x ∷ []) (y ∷ []) first second

  -- the second one was asked, or not
  pub front_asked : AddedFront mid now (y ∷ []) → AddedFront told now (x ∷ y ∷ [])
  front_asked (k, second) = (suc k, added_more told mid now (x ∷ []) (take k (y ∷ [])) first second)

-- the first one was asked, or not
pub first_asked : {A : Type 0} (told now : Option (List A)) (x y : A) → AddedFront told now (x ∷ []) → AddedFront told now (x ∷ y ∷ [])
first_asked told now x y (zero, a) = (zero, a)
first_asked told now x y (suc k, a) = (1, subst (λ l. Added told now (x ∷ l)) (take_all k [] (omega arith)) a)

pub none_held : (told : Option Held) (csv bytes : List ℕ) → Holds told csv bytes → IsNoTable bytes → HoldsNoTable told csv
none_held None csv bytes is none = tt
none_held (Some held) csv bytes is none = subst (λ o. MatchOption o ⊥ IsNoTable) (sym is) none

long_here : (o : Option (List ℕ)) → MatchOption o ⊥ (λ bytes. SCRIPT_BYTES < length bytes) → MatchOption o ⊥ IsNoTable
long_here None m = m
long_here (Some bytes) m = long m

pub long_table : (told : Option Held) (csv : List ℕ) → HoldsMore told csv SCRIPT_BYTES → HoldsNoTable told csv
long_table None csv m = tt
long_table (Some held) csv m = long_here (held csv) m

-- what a source held at first, it holds later
pub held_later : (told mid : Option Held) (file own : List ℕ) → StillHolds told mid → Holds mid file own → Holds told file own
held_later None mid file own still is = tt
held_later (Some held) mid file own still is = subst (λ m. Holds m file own) still is

module _ (told mid : Option Held) (imported file : List ℕ) (still : StillHolds told mid) where
  pub none_behind : (own : List ℕ) → Holds mid file own → (IsScript (imported ++ own) → ⊥) → HoldsNoEnd told imported file
  none_behind own is none = ended told (held_later told mid file own still is) where
    ended : (o : Option Held) → Holds o file own → HoldsNoEnd o imported file
    ended None h = tt
    ended (Some held) h = subst (λ o. MatchOption o ⊥ (λ bytes. IsScript (imported ++ bytes) → ⊥)) (sym h) none

  past : (o : Option (List ℕ)) → MatchOption o ⊥ (λ bytes. SCRIPT_BYTES < length bytes) → MatchOption o ⊥ (λ own. IsScript (imported ++ own) → ⊥)
  past None m = m
  past (Some own) m = λ s. let le = s.short in let n = length-append imported own in omega arith

  pub long_end : HoldsMore mid file SCRIPT_BYTES → HoldsNoEnd told imported file
  long_end m = ended told still where
    ended : (o : Option Held) → StillHolds o mid → HoldsNoEnd o imported file
    ended None s = tt
    ended (Some held) s = past (held file) (subst (λ o. HoldsMore o file SCRIPT_BYTES) s m)

-- a count of faults rose after it had not fallen
pub rose_later : (a b c : ℕ) → a ≤ b → Rose b c → Rose a c
rose_later a b c le (inl lt) = inl (omega (arith, le, lt))
rose_later a b c le (inr most) = inr most

pub on_ok : {X E P : Type 0} → (r : Result X E) → P → OnOk r P
on_ok (Ok x) p = p
on_ok (Err e) p = tt

-- a script behind that of a table
pub behind_of : {E : Type 0} (r : Result (List ℕ) E) (told mid : Option Held) (name csv file imported own : List ℕ) → IsTableOf told name csv imported → StillHolds told mid → Holds mid file own
    → IfOk r (λ s. s ≡ imported ++ own) → IfOk r IsScript → IfOk r (IsBehind told name csv file)
behind_of (Ok s) told mid name csv file imported own table still held joined script = record {
  imported = imported;
  own = own;
  table = table;
  held = held_later told mid file own still held;
  joined = joined;
  is_script = script;
}
behind_of (Err e) told mid name csv file imported own table still held joined script = tt

-- a sink that was not called
pub left_alone : (faults faults' : ℕ) (taken : Option (List ℕ)) (calls : Option ℕ) → IsUntouched (record { faults = faults; faults' = faults'; taken = taken; taken' = taken; calls = calls; calls' = calls })
left_alone faults faults' taken calls = record { nothing = added taken; called = called calls } where
  added : (told : Option (List ℕ)) → Added told told []
  added None = tt
  added (Some old) = ap Some (sym (append-nil old))

  called : (n : Option ℕ) → Called n n 0
  called None = refl
  called (Some n) = inl (ap Some (omega arith))

-- what is promised where nothing was served
pub unserved_promise : (name csv file : List ℕ) (a : Asking) (k : Taking) (s : Status) (t : Transcript) → IsNothingDone k t → (s ≡ status.ReadFault → IsUnreadBehind name csv file a × Rose a.faults a.faults')
    → (s ≡ status.Script → IsNoScriptBehind name csv file a) → (s ≡ status.Done → ⊥) × (s ≡ status.Refused → ⊥) × (s ≡ status.WriteFault → ⊥) × (s ≡ status.Words → ⊥) → ImportPromise name csv file a k s t
unserved_promise name csv file a k status.Done t none read script other = absurd (other.0 refl)
unserved_promise name csv file a k status.Refused t none read script other = absurd (other.1 refl)
unserved_promise name csv file a k status.WriteFault t none read script other = absurd (other.2 refl)
unserved_promise name csv file a k status.Words t none read script other = absurd (other.3 refl)
unserved_promise name csv file a k status.Memory t none read script other = inl none
unserved_promise name csv file a k status.ReadFault t none read script other = (none, (read refl).0, (read refl).1)
unserved_promise name csv file a k status.Script t none read script other = (none, script refl)
