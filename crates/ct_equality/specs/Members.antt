-- The terms of a question with their classes.
use Rattle.std.specs.Prelude.{ℕ, Bool, true, false, List, [], ◌∷◌, Option, Some, None, map, nat_eq, slice_get, if◌then◌else◌}
use Rattle.std.specs.List.{list_any}
use Rattle.ct_word.specs.declared.kinds.Kind.{Kind}
use Rattle.ct_word.specs.declared.kinds.Kind.TheVariants as kind
use Rattle.ct_word.specs.Word.{kind_of, left_of}
use Rattle.ct_equality.specs.declared.classes.Member.{Member}

-- the k of a word of this kind that stands for `@k`
abbrev pub number_by : Option Kind → ℕ → Option ℕ
number_by (Some kind.OtherValue) a = Some a
number_by _ a = None

abbrev pub number_in : Option ℕ → Option ℕ
number_in None = None
number_in (Some w) = number_by (kind_of w) (left_of w)

-- the k of the constant `@k` at a place
unfoldable pub number_at : List ℕ → ℕ → Option ℕ
number_at words p = number_in (slice_get words p)

-- whether a place is listed
abbrev pub is_listed : List Member → ℕ → Bool
is_listed [] p = false
is_listed (m ∷ ms) p = if nat_eq m.place p then true else is_listed ms p

-- the class of a place; a place that is not listed is alone in its class
abbrev pub class_of : List Member → ℕ → ℕ
class_of [] p = p
class_of (m ∷ ms) p = if nat_eq m.place p then m.class else class_of ms p

-- the number that a place has
abbrev pub number_of : List Member → ℕ → Option ℕ
number_of [] p = None
number_of (m ∷ ms) p = if nat_eq m.place p then m.number else number_of ms p

-- whether two optional numbers are the same
abbrev pub same_number : Option ℕ → ℕ → Bool
same_number None k = false
same_number (Some j) k = nat_eq j k

-- whether a member has this number
abbrev pub is_taken : List Member → ℕ → Bool
is_taken ms k = list_any (λ m. same_number m.number k) ms

-- a class, or where it has gone
abbrev pub moved : ℕ → ℕ → ℕ → ℕ
moved gone kept c = if nat_eq c gone then kept else c

abbrev pub in_class : ℕ → ℕ → Member → Member
in_class gone kept m = record { place = m.place; class = moved gone kept m.class; number = m.number }

-- the members where one class has gone over into another
abbrev pub merged : ℕ → ℕ → List Member → List Member
merged gone kept ms = map (in_class gone kept) ms

abbrev pub with_number : ℕ → ℕ → Member → Member
with_number p k m = record { place = m.place; class = m.class; number = if nat_eq m.place p then Some k else m.number }

-- the members where a place has got a number
abbrev pub numbered : ℕ → ℕ → List Member → List Member
numbered p k ms = map (with_number p k) ms

-- a term alone in its class
abbrev pub member_at : List ℕ → ℕ → Member
member_at words p = record { place = p; class = p; number = number_at words p }

abbrev pub members_at : List ℕ → List ℕ → List Member
members_at words ts = map (member_at words) ts
