-- Which conditions fold to one that stands already, by the first rule that fits.
use Rattle.std.specs.Prelude.{◌≡◌, ℕ, Bool, true, false, not, ◌&&◌, ◌||◌, List, Option, Some, None, Result, Ok, nat_eq, slice_get, IfOk, if◌then◌else◌}
use Rattle.ct_word.specs.declared.kinds.Kind.{Kind}
use Rattle.ct_word.specs.declared.kinds.Kind.TheVariants as kind
use Rattle.ct_word.specs.Constant.{is_constant_word}
use Rattle.ct_word.specs.Word.{kind_of, left_of}
use Rattle.ct_word.specs.declared.connectives.Connective.{Connective}
use Rattle.ct_word.specs.declared.connectives.Connective.TheVariants as connective
use Rattle.ct_word.specs.Connective.{unit}

-- the place of the word true or false, with which the words begin
abbrev pub literal_place : Bool → ℕ
literal_place true = 0
literal_place false = 1

-- the place that a word of this kind is the Not of, if its kind is Not
abbrev pub denied_by : Option Kind → ℕ → Option ℕ
denied_by (Some kind.Not) a = Some a
denied_by _ a = None

abbrev pub denied_in : Option ℕ → Option ℕ
denied_in (Some w) = denied_by (kind_of w) (left_of w)
denied_in None = None

-- the place that the word at a place is the Not of, if it is one
abbrev pub denied : List ℕ → ℕ → Option ℕ
denied words c = denied_in (slice_get words c)

abbrev pub is_place : Option ℕ → ℕ → Bool
is_place (Some p) d = nat_eq p d
is_place None d = false

-- whether one of two words is the Not of the other
abbrev pub are_opposite : List ℕ → ℕ → ℕ → Bool
are_opposite words c d = is_place (denied words c) d || is_place (denied words d) c

-- whether two places are of constants
abbrev pub are_constants : List ℕ → ℕ → ℕ → Bool
are_constants words s t = is_constant_word (slice_get words s) && is_constant_word (slice_get words t)

-- whether two places are of different constants
abbrev pub are_apart : List ℕ → ℕ → ℕ → Bool
are_apart words s t = not (nat_eq s t) && are_constants words s t

-- of an equality
abbrev pub folded_eq : List ℕ → ℕ → ℕ → Option ℕ
folded_eq words s t =
    if nat_eq s t then Some 0 else
    if are_constants words s t then Some 1 else None

-- of a Not
abbrev pub folded_not : List ℕ → ℕ → Option ℕ
folded_not words c =
    if nat_eq c 0 then Some 1 else
    if nat_eq c 1 then Some 0 else denied words c

-- the place of the truth that says nothing under a connective, and of the one that settles it
abbrev pub unit_place : Connective → ℕ
unit_place j = literal_place (unit j)

abbrev pub settling_place : Connective → ℕ
settling_place j = literal_place (not (unit j))

-- of two conditions under a connective
abbrev pub folded_join : Connective → List ℕ → ℕ → ℕ → Option ℕ
folded_join j words c d =
    if nat_eq c (settling_place j) || nat_eq d (settling_place j) then Some (settling_place j) else
    if nat_eq c (unit_place j) then Some d else
    if nat_eq d (unit_place j) || nat_eq c d then Some c else
    if are_opposite words c d then Some (settling_place j) else None

-- of an And
abbrev pub folded_and : List ℕ → ℕ → ℕ → Option ℕ
folded_and words c d = folded_join connective.And words c d

-- of an Or
abbrev pub folded_or : List ℕ → ℕ → ℕ → Option ℕ
folded_or words c d = folded_join connective.Or words c d

-- the kind of the word of two conditions under a connective
abbrev pub kind_under : Connective → Kind
kind_under connective.And = kind.And
kind_under connective.Or = kind.Or

-- the answer of a call: the place that is folded to, the words as they were; else the place of this word
abbrev pub FoldsTo : {E : Type 0} → Option ℕ → ℕ → List ℕ → List ℕ → Result ℕ E → Type 0
FoldsTo (Some place) w old new result = (result ≡ Ok place) × (new ≡ old)
FoldsTo None w old new result = IfOk result (λ place. slice_get new place ≡ Some w)
