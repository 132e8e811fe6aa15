-- The rows, one after another.
use Rattle.std.{proofs.Common.{◌≡◌, ℕ, ◌+◌, List, [], ◌∷◌, ◌++◌, ap, ap₂, sym, ◌∙◌, arith, append_assoc}, proofs.lemmas.List.FromFn.map-range_with_len_more}
use Rattle.ct_fill.specs.Script.{insertion, insertions}

pub one_more : (s k : ℕ) (old : List (List ℕ)) {now next : List (List ℕ)} → now ≡ old ++ insertions s k → next ≡ now ++ insertion s (k + 1) ∷ [] → next ≡ old ++ insertions s (k + 1)
one_more s k old h e =
    e ∙ ap (λ xs. xs ++ insertion s (k + 1) ∷ []) h ∙ append_assoc old (insertions s k) (insertion s (k + 1) ∷ [])
    ∙ ap (λ xs. old ++ xs) (sym (map-range_with_len_more (insertion s) 1 k (k + 1) (omega arith)))

-- an item after those that followed a list
then : (old items : List (List ℕ)) {now next : List (List ℕ)} {text item : List ℕ} → now ≡ old ++ items → text ≡ item → next ≡ now ++ text ∷ [] → next ≡ old ++ (items ++ item ∷ [])
then old items {item = item} h t e = e ∙ ap₂ (λ xs x. xs ++ x ∷ []) h t ∙ append_assoc old items (item ∷ [])

-- five items, pushed one after another
pub five : (old : List (List ℕ)) {l₁ l₂ l₃ l₄ l₅ : List (List ℕ)} {s₁ s₂ s₃ s₄ s₅ t₁ t₂ t₃ t₄ t₅ : List ℕ} → s₁ ≡ t₁ → s₂ ≡ t₂ → s₃ ≡ t₃ → s₄ ≡ t₄ → s₅ ≡ t₅
    → l₁ ≡ old ++ s₁ ∷ [] → l₂ ≡ l₁ ++ s₂ ∷ [] → l₃ ≡ l₂ ++ s₃ ∷ [] → l₄ ≡ l₃ ++ s₄ ∷ [] → l₅ ≡ l₄ ++ s₅ ∷ []
    → l₅ ≡ old ++ t₁ ∷ t₂ ∷ t₃ ∷ t₄ ∷ t₅ ∷ []
five old a b c d e f g h i j = then old _ (then old _ (then old _ (then old _ (f ∙ ap (λ x. old ++ x ∷ []) a) b g) c h) d i) e j
