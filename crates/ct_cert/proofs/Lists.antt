-- One more of the references of a list is written.
use Rattle.std.{proofs.Common.{◌≡◌, ℕ, ◌+◌, ◌<◌, Bool, true, ◌&&◌, List, [], ◌∷◌, ◌++◌, length, get_or, take, map, flat_map, sym, ap, ◌∙◌, arith}, specs.List.list_all}
use Rattle.std.proofs.lemmas.List.{take_more, flat_map_more, get_or-map, length-map}
use Rattle.std.proofs.lemmas.List.Folds.{list_all_more}

module _ {A B : Type 0} (now : A → B) (text : B → List ℕ) (fits : B → Bool) (xs : List A) (i : ℕ) (x : A) (lt : i < length xs) (at : x ≡ get_or xs i x) where
  there : get_or (map now xs) i (now x) ≡ now x
  there = get_or-map now xs i x (now x) lt ∙ ap now (sym at)

  within : i < length (map now xs)
  within = omega (arith, length-map xs now)

  pub text_more : (start before after : List ℕ) → after ≡ before ++ text (now x) → before ≡ start ++ flat_map text (take i (map now xs))
      → after ≡ start ++ flat_map text (take (i + 1) (map now xs))
  text_more start before after written so_far =
      let more : take (i + 1) (map now xs) ≡ take i (map now xs) ++ now x ∷ [] = take_more (map now xs) i (now x) within ∙ ap (λ y. take i (map now xs) ++ y ∷ []) there in
      written ∙ ap (λ b. b ++ text (now x)) so_far ∙ flat_map_more text start (take i (map now xs)) (now x) ∙ ap (λ ys. start ++ flat_map text ys) (sym more)

  pub fits_more : fits (now x) ≡ true → list_all fits (take i (map now xs)) ≡ true → list_all fits (take (i + 1) (map now xs)) ≡ true
  fits_more own so_far = list_all_more fits (map now xs) i (now x) within ∙ (λ j. so_far j && fits (there j)) ∙ own
