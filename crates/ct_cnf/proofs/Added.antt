-- A list to which the items of others were added, those of one after those of another.
use Rattle.std.{proofs.Common.{◌≡◌, ◌<◌, ◌+◌, ℕ, List, [], ◌∷◌, ◌++◌, take, length, get_or, ap, sym, ◌∙◌, append_assoc, append-nil}, specs.List.flat_map}
use Rattle.std.proofs.lemmas.List.{take_more, Concat.flat_map-append}

pub flat_more : {Y : Type 0} (f : ℕ → List Y) (old mid new : List Y) (xs : List ℕ) (i : ℕ) → i < length xs → mid ≡ old ++ flat_map f (take i xs)
    → new ≡ mid ++ f (get_or xs i 0) → new ≡ old ++ flat_map f (take (i + 1) xs)
flat_more f old mid new xs i lt e added =
    let x = get_or xs i 0 in
    let done = flat_map f (take i xs) in
    added ∙ ap (λ l. l ++ f x) e ∙ append_assoc old done (f x)
    ∙ ap (λ l. old ++ l) (ap (λ l. done ++ l) (sym (append-nil (f x))) ∙ sym (flat_map-append f (take i xs) (x ∷ [])) ∙ ap (flat_map f) (sym (take_more xs i 0 lt)))
