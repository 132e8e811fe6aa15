-- And and Or as one: each is the other's dual.
use Rattle.std.specs.Prelude.{Bool, true, false, not, ◌&&◌, ◌||◌}
use Rattle.ct_word.specs.declared.connectives.Connective.{Connective}
use Rattle.ct_word.specs.declared.connectives.Connective.TheVariants as connective
use Rattle.ct_word.specs.Condition.{Condition, both, either}

-- two conditions under a connective
abbrev pub joined : Connective → Condition → Condition → Condition
joined connective.And c d = both c d
joined connective.Or c d = either c d

-- two truths under a connective
abbrev pub join : Connective → Bool → Bool → Bool
join connective.And a b = a && b
join connective.Or a b = a || b

-- the other connective
abbrev pub dual : Connective → Connective
dual connective.And = connective.Or
dual connective.Or = connective.And

-- the truth of no conditions under a connective
abbrev pub unit : Connective → Bool
unit connective.And = true
unit connective.Or = false

-- whether a truth leaves a connective open: a false one settles And, a true one settles Or
abbrev pub open_by : Connective → Bool → Bool
open_by connective.And b = b
open_by connective.Or b = not b
