-- Reverse unit propagation along hints, over any kind of literals.
use Rattle.std.specs.Prelude.{◌≡◌, ℕ, Bool, true, false, ◌&&◌, List, [], ◌∷◌, ◌++◌, length, Option, Some, None, nat_lt, slice_get, if◌then◌else◌}
use Rattle.std.specs.List.{list_any, list_all}

-- a kind of literals: when two are the same, and the opposite of one
pub record Literals : Type 1 where
  pub literal : Type 0
  pub same : literal → literal → Bool
  pub opposite : literal → literal

-- what a clause is where some literals are taken as false
pub data Look (L : Type 0) : Type 0 where
  Unfit : Look L
  Falsified : Look L
  Forces : (l : L) → Look L

-- whether a literal is among these
abbrev pub is_among : (k : Literals) → List k.literal → k.literal → Bool
is_among k ls l = list_any (k.same l) ls

-- by the one literal that is not false, if there is one
abbrev pub by_rest : {L : Type 0} → Option L → Look L
by_rest None = Falsified
by_rest (Some l) = Forces l

-- the clause under false literals, of which no literal may be true and at most one not false; `rest` is the one met so far
abbrev pub look : (k : Literals) → List k.literal → Option k.literal → List k.literal → Look k.literal
look k falses rest [] = by_rest rest
look k falses rest (l ∷ ls) =
    if is_among k falses l then look k falses rest ls
    else (if is_among k falses (k.opposite l) then Unfit
    else elim rest [ None ↦ look k falses (Some l) ls | Some m ↦ if k.same m l then look k falses (Some m) ls else Unfit ])

-- the clause of a log that a hint names
abbrev pub look_at : (k : Literals) → List k.literal → Option (List k.literal) → Look k.literal
look_at k falses None = Unfit
look_at k falses (Some clause) = look k falses None clause

-- whether the hints in order, each making its clause's last literal true, lead to a falsified clause
abbrev pub meets : (k : Literals) → List (List k.literal) → List k.literal → List ℕ → Bool
meets k log falses [] = false
meets k log falses (h ∷ hs) =
    elim (look_at k falses (slice_get log h)) [ Unfit ↦ false | Falsified ↦ true | Forces l ↦ meets k log (falses ++ k.opposite l ∷ []) hs ]

-- whether each hint names a clause of the log
abbrev pub are_hints : {X : Type 0} → List X → List ℕ → Bool
are_hints log hints = list_all (λ h. nat_lt h (length log)) hints

-- reverse unit propagation: with the clause's literals taken as false, the hints lead to a falsified clause
abbrev pub follows : (k : Literals) → List (List k.literal) → List k.literal → List ℕ → Bool
follows k log clause hints = are_hints log hints && meets k log clause hints

-- a translation that keeps sameness and opposites
pub record Carries (from to : Literals) (f : from.literal → to.literal) : Type 0 where
  pub same : (a b : from.literal) → to.same (f a) (f b) ≡ from.same a b
  pub opposite : (a : from.literal) → to.opposite (f a) ≡ f (from.opposite a)
