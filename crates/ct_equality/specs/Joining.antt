-- How two classes are joined.
use Rattle.std.specs.Prelude.{ℕ, Bool, true, not, ◌&&◌, ◌||◌, List, Option, Some, None, nat_eq, nat_lt, if◌then◌else◌}
use Rattle.ct_derivation.specs.declared.literals.Atom.{Atom}
use Rattle.ct_derivation.specs.declared.literals.Atom.TheVariants as atom
use Rattle.ct_derivation.specs.Path.{is_constant}
use Rattle.ct_equality.specs.declared.classes.Member.{Member}
use Rattle.ct_equality.specs.Members.{class_of, merged}

-- whether the class of a and b goes by b: by a constant, and otherwise by the smaller place
abbrev pub prefers : List ℕ → ℕ → ℕ → Bool
prefers words a b = is_constant words b || (nat_lt b a && not (is_constant words a))

abbrev pub kept_of : List ℕ → ℕ → ℕ → ℕ
kept_of words a b = if prefers words a b then b else a

abbrev pub gone_of : List ℕ → ℕ → ℕ → ℕ
gone_of words a b = if prefers words a b then a else b

-- two constants that would come into one class
unfoldable pub clash_of : List ℕ → ℕ → ℕ → Option (ℕ × ℕ)
clash_of words a b = if nat_eq a b then None else (if is_constant words (gone_of words a b) then Some (kept_of words a b, gone_of words a b) else None)

-- the members where two classes are one, unless their constants clash
unfoldable pub joined_classes : List ℕ → ℕ → ℕ → List Member → List Member
joined_classes words a b ms = if nat_eq a b then ms else (if is_constant words (gone_of words a b) then ms else merged (gone_of words a b) (kept_of words a b) ms)

-- two constants that a true equality would bring into one class
abbrev pub clash_by : List ℕ → List Member → Atom → Bool → Option (ℕ × ℕ)
clash_by words ms (atom.Same s t) true = clash_of words (class_of ms s) (class_of ms t)
clash_by words ms _ _ = None

-- the members where the terms of a true equality are in one class, unless constants clash
abbrev pub joined_by : List ℕ → List Member → Atom → Bool → List Member
joined_by words ms (atom.Same s t) true = joined_classes words (class_of ms s) (class_of ms t) ms
joined_by words ms _ _ = ms
