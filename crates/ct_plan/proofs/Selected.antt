-- One predicate for several, and one selection.
use Rattle.std.proofs.Common.{◌≡◌, ◌<◌, List, [], ◌∷◌, length, map, refl, arith}
use Rattle.ct_query.{specs.declared.query.Pred.Pred, specs.Pred.condition_of, specs.Plain.{PlainQuery, Select}, proofs.Trees.and_is}
use Rattle.ct_plan.specs.Planned.{all_of, selected}
use Rattle.ct_query.specs.declared.query.Pred as pred

-- two or more are a run of AND
pub and_long : (ps : List Pred) → 1 < length ps → condition_of (pred.And ps) ≡ all_of (map condition_of ps)
and_long [] l = absurd (omega (arith, l))
and_long (p ∷ []) l = absurd (omega (arith, l))
and_long (p ∷ p' ∷ ps) l = and_is (p ∷ p' ∷ ps)

-- one or more are one selection
pub some_selected : (ps : List Pred) (q : PlainQuery) → 0 < length ps → Select (all_of (map condition_of ps)) q ≡ selected (map condition_of ps) q
some_selected [] q l = absurd (omega (arith, l))
some_selected (p ∷ ps) q l = refl
