-- Closed tests: the pairs of small lists of keys.
use Rattle.std.proofs.Common.{◌≡◌, [], ◌∷◌, refl}
use Rattle.ct_join.{specs.declared.keys.Key.TheVariants.{Constant, Null}, specs.Pairs.{candidates, partners}}

-- equal constants, and each pair with a null
a_null_meets_all : candidates (Constant 5 ∷ Null ∷ Constant 7 ∷ []) (Constant 5 ∷ Constant 6 ∷ Null ∷ []) ≡ (0, 0) ∷ (0, 2) ∷ (1, 0) ∷ (1, 1) ∷ (1, 2) ∷ (2, 2) ∷ []
a_null_meets_all = refl

-- a constant 0 is no null
zero_is_a_constant : partners (Constant 1) (Constant 0 ∷ Null ∷ Constant 1 ∷ []) ≡ 1 ∷ 2 ∷ []
zero_is_a_constant = refl

nothing_meets_nothing : candidates [] (Null ∷ []) ≡ []
nothing_meets_nothing = refl
