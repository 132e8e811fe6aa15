-- Two conditions under a connective.
use Rattle.std.proofs.Common.{◌≡◌, Bool, true, false, not, ◌&&◌, ◌||◌, List, refl}
use Rattle.ct_word.{specs.declared.values.Value.Value, specs.declared.connectives.Connective.Connective, specs.Value.World, specs.Condition.{Condition, holds}}
use Rattle.ct_word.specs.Connective.{joined, join, dual, unit}
use Rattle.ct_word.specs.declared.connectives.Connective.TheVariants as connective

and_with_true : (a b : Bool) → (a && (b && true)) ≡ (a && b)
and_with_true true true = refl
and_with_true true false = refl
and_with_true false b = refl

or_with_false : (a b : Bool) → (a || (b || false)) ≡ (a || b)
or_with_false true b = refl
or_with_false false true = refl
or_with_false false false = refl

-- the truth of two conditions under a connective
pub joined_holds : (j : Connective) (v : World) (row : List Value) (c d : Condition) → holds v row (joined j c d) ≡ join j (holds v row c) (holds v row d)
joined_holds connective.And v row c d = and_with_true (holds v row c) (holds v row d)
joined_holds connective.Or v row c d = or_with_false (holds v row c) (holds v row d)

-- the denial of a join is the join of the denials under the other connective
pub denied_join : (j : Connective) (a b : Bool) → not (join j a b) ≡ join (dual j) (not a) (not b)
denied_join connective.And true b = refl
denied_join connective.And false b = refl
denied_join connective.Or true b = refl
denied_join connective.Or false b = refl

-- the unit says nothing
pub join_unit : (j : Connective) (b : Bool) → join j (unit j) b ≡ b
join_unit connective.And b = refl
join_unit connective.Or b = refl
