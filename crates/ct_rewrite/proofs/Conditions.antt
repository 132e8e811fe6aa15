-- What the positions of conditions stand for.
use Rattle.std.{proofs.Common.{◌≡◌, ℕ, ◌≤◌, Bool, true, List, [], ◌∷◌, length, map, refl, ap, sym, ◌∙◌, subst, arith}, specs.Prelude.IsTrue}
use Rattle.std.{specs.List.{AllByRecursion, list_all, AllZip}, proofs.lemmas.Bool.{and_from, lt-ltb}}
use Rattle.ct_word.{specs.declared.values.Term.Term, specs.Condition.{Condition, SameTruth}, specs.Reading.condition_at}
use Rattle.ct_rewrite.{specs.declared.answer.Node.Node, specs.Nodes.{node_condition, is_position}, specs.Moving.IsKept}
use Rattle.ct_rewrite.{specs.Building.Says, specs.Below.{HasAt, Placement, position_at}, specs.Signs.{IsFormAt, number}, proofs.Signs.{says_number, fits_number}, proofs.Sizes.{nest_lower, text_shorter}}
use Rattle.ct_rewrite.{proofs.Finding.there_have, specs.Sizes.{Fits, NoneIsEmpty, deep, nest_of, text_of, wide}}

-- the number of the condition at a place
abbrev plus : ℕ → ℕ
plus p = number p true

-- a position says a condition and keeps to its bounds
record Stands (ns : List Node) (k : ℕ) (c : Condition) : Type 0 where
  says : Says ns k c
  fits : Fits (node_condition ns k) c

-- the positions of the roots stand for the conditions at their places
roots_stand : (ws : List ℕ) (ns : List Node) (fs : Placement) (roots : List ℕ) → AllByRecursion (HasAt (IsFormAt ws ns) fs) (map plus roots)
    → AllZip (λ k p. Stands ns k (condition_at ws p)) (map (position_at fs) (map plus roots)) roots
roots_stand ws ns fs [] h = tt
roots_stand ws ns fs (r ∷ roots) h =
    let m = position_at fs (plus r) in
    (record { says = says_number ws ns r true m h.0; fits = fits_number ws ns r true m h.0 }, roots_stand ws ns fs roots h.1)

-- positions that stand for the conditions, and those at which they were kept
module _ (ws : List ℕ) (ns out : List Node) (P : Condition → Condition → Type 0) (says : (k : ℕ) (c : Condition) → Stands ns k c → P (node_condition ns k) c) where
  kept_each : (js ks ps : List ℕ) → AllZip (λ j k. IsKept ns out k j) js ks → AllZip (λ k p. Stands ns k (condition_at ws p)) ks ps
      → AllZip (λ j p. P (node_condition out j) (condition_at ws p)) js ps
  kept_each [] [] [] h e = tt
  kept_each [] [] (p ∷ ps) h e = absurd e
  kept_each [] (k ∷ ks) ps h e = absurd h
  kept_each (j ∷ js) [] ps h e = absurd h
  kept_each (j ∷ js) (k ∷ ks) [] h e = absurd e
  kept_each (j ∷ js) (k ∷ ks) (p ∷ ps) h e = (subst (λ x. P x (condition_at ws p)) (sym h.0.same) (says k (condition_at ws p) e.0), kept_each js ks ps h.1 e.1)

pub kept_placed : (ns out : List Node) (js ks : List ℕ) → AllZip (λ j k. IsKept ns out k j) js ks → IsTrue (list_all (is_position out) js)
kept_placed ns out [] [] h = refl
kept_placed ns out [] (k ∷ ks) h = absurd h
kept_placed ns out (j ∷ js) [] h = absurd h
kept_placed ns out (j ∷ js) (k ∷ ks) h = and_from _ _ (lt-ltb j (length out) h.0.within) (kept_placed ns out js ks h.1)

stand_placed : (ws : List ℕ) (ns : List Node) (ks ps : List ℕ) → AllZip (λ k p. Stands ns k (condition_at ws p)) ks ps → IsTrue (list_all (is_position ns) ks)
stand_placed ws ns [] [] h = refl
stand_placed ws ns [] (p ∷ ps) h = absurd h
stand_placed ws ns (k ∷ ks) [] h = absurd h
stand_placed ws ns (k ∷ ks) (p ∷ ps) h = and_from _ _ (lt-ltb k (length ns) h.0.says.within) (stand_placed ws ns ks ps h.1)

module _ (ws : List ℕ) (ns read : List Node) (fs : Placement) (there : ℕ → Bool) (roots numbers ks : List ℕ) (forms : (k : ℕ) → IsTrue (there k) → HasAt (IsFormAt ws ns) fs k)
    (by : numbers ≡ map plus roots) (led : IsTrue (list_all there numbers)) (seen : read ≡ ns) (found : ks ≡ map (position_at fs) numbers) where
  all_stand : AllZip (λ k p. Stands read k (condition_at ws p)) ks roots
  all_stand =
      subst (λ (xs : List ℕ). AllZip (λ k p. Stands read k (condition_at ws p)) xs roots) (sym (found ∙ ap (map (position_at fs)) by))
      (subst (λ (xs : List Node). AllZip (λ k p. Stands xs k (condition_at ws p)) (map (position_at fs) (map plus roots)) roots) (sym seen)
      (roots_stand ws ns fs roots (there_have (IsFormAt ws ns) fs there forms (map plus roots) (subst (λ (xs : List ℕ). IsTrue (list_all there xs)) by led))))

  pub roots_placed : IsTrue (list_all (is_position read) ks)
  roots_placed = stand_placed ws read ks roots all_stand

  module _ (out : List Node) (js : List ℕ) (kept : AllZip (λ j k. IsKept read out k j) js ks) where
    pub normal_truth : AllZip (λ j p. SameTruth (node_condition out j) (condition_at ws p)) js roots
    normal_truth = kept_each ws read out SameTruth (λ k c h. h.says.truth) js ks roots kept all_stand

    pub normal_wide : (texts : Term → List ℕ) → NoneIsEmpty texts → AllZip (λ j p. length (text_of texts (node_condition out j)) ≤ wide (λ t. length (texts t)) (condition_at ws p)) js roots
    normal_wide texts some =
        kept_each ws read out (λ x c. length (text_of texts x) ≤ wide (λ t. length (texts t)) c)
        (λ k c h. omega (arith, text_shorter texts (node_condition read k), h.fits.short texts some)) js ks roots kept all_stand

    pub normal_deep : AllZip (λ j p. nest_of (node_condition out j) ≤ deep (condition_at ws p)) js roots
    normal_deep =
        kept_each ws read out (λ x c. nest_of x ≤ deep c)
        (λ k c h. omega (arith, nest_lower (node_condition read k), h.fits.shallow)) js ks roots kept all_stand
