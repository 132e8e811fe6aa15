-- What a source of scripts and a sink tell of themselves.
use Rattle.std.specs.Prelude.{◌≡◌, ◌≤◌, ◌<◌, ◌+◌, ◌-◌, ◌^◌, ◌⊎◌, ℕ, List, ◌++◌, length, take, Option, Some, None, IfSome, MatchOption}

-- a count of faults rose, or stands at the greatest u64
abbrev pub Rose : ℕ → ℕ → Type 0
Rose before now = (before < now) ⊎ (2 ^ 64 - 1 ≤ now)

-- bytes under names
abbrev pub Held : Type 0
Held = List ℕ → Option (List ℕ)

-- where a source told what it holds, it still tells it, and holds the same
abbrev pub StillHolds : Option Held → Option Held → Type 0
StillHolds told now = IfSome told (λ held. now ≡ Some held)

-- where a source tells, these are the bytes under the name
abbrev pub Holds : Option Held → List ℕ → List ℕ → Type 0
Holds told name bytes = IfSome told (λ held. held name ≡ Some bytes)

-- where a source tells, at most limit bytes are held under the name
abbrev pub HoldsWithin : Option Held → List ℕ → ℕ → Type 0
HoldsWithin told name limit = IfSome told (λ held. MatchOption (held name) ⊥ (λ bytes. length bytes ≤ limit))

-- where a source tells, more than limit bytes are held under the name
abbrev pub HoldsMore : Option Held → List ℕ → ℕ → Type 0
HoldsMore told name limit = IfSome told (λ held. MatchOption (held name) ⊥ (λ bytes. limit < length bytes))

-- where a list was told, it still is, and exactly these items were added at its end
abbrev pub Added : {A : Type 0} → Option (List A) → Option (List A) → List A → Type 0
Added told now items = IfSome told (λ old. now ≡ Some (old ++ items))

-- where a list was told, it still is, and the first of these items were added at its end
abbrev pub AddedFront : {A : Type 0} → Option (List A) → Option (List A) → List A → Type 0
AddedFront told now items = (count : ℕ) × Added told now (take count items)

-- this many calls were made: their number, where it was told, still is while it is below the greatest u64
abbrev pub Called : Option ℕ → Option ℕ → ℕ → Type 0
Called None now more = now ≡ None
Called (Some before) now more = (now ≡ Some (before + more)) ⊎ ((now ≡ None) × (2 ^ 64 - 1 ≤ before + more))
