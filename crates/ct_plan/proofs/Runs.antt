-- Runs of predicates: counted from a column on, and taken apart.
use Rattle.std.proofs.Common.{◌≡◌, ℕ, Bool, true, false, cond, List, [], ◌∷◌, ◌++◌, map, get_or, take, length, ◌+◌, ◌<◌, ◌≤◌, refl, sym, ap, ◌∙◌, take_all}
use Rattle.std.{specs.Prelude.{filter, if◌then◌else◌}, proofs.lemmas.List.{take_more, map_push, map-append}, proofs.lemmas.List.Elements.filter-append}
use Rattle.ct_word.specs.Condition.{Condition, listed}
use Rattle.ct_query.{specs.declared.query.Pred.Pred, specs.Pred.condition_of, proofs.Trees.{and_is, or_is}}
use Rattle.ct_plan.{specs.Columns.{counted_from, all_counted_from}, specs.Planned.{conjuncts, all_conjuncts}, proofs.Counted.counted_none}
use Rattle.ct_word.specs.Condition as condition
use Rattle.ct_query.specs.declared.query.Pred as pred

listed_counted : (from : ℕ) (ps : List Pred) → listed (map (λ p. counted_from from (condition_of p)) ps) ≡ all_counted_from from (listed (map condition_of ps))
listed_counted from [] = refl
listed_counted from (p ∷ ps) = ap (condition.also (counted_from from (condition_of p))) (listed_counted from ps)

pub and_counted : (from : ℕ) (ps qs : List Pred) → map condition_of ps ≡ map (λ p. counted_from from (condition_of p)) qs → condition_of (pred.And ps) ≡ counted_from from (condition_of (pred.And qs))
and_counted from ps qs e = and_is ps ∙ ap condition.And (ap listed e ∙ listed_counted from qs) ∙ ap (counted_from from) (sym (and_is qs))

pub or_counted : (from : ℕ) (ps qs : List Pred) → map condition_of ps ≡ map (λ p. counted_from from (condition_of p)) qs → condition_of (pred.Or ps) ≡ counted_from from (condition_of (pred.Or qs))
or_counted from ps qs e = or_is ps ∙ ap condition.Or (ap listed e ∙ listed_counted from qs) ∙ ap (counted_from from) (sym (or_is qs))

pub and_conjuncts : (ps : List Pred) → conjuncts (condition_of (pred.And ps)) ≡ all_conjuncts (listed (map condition_of ps))
and_conjuncts ps = ap conjuncts (and_is ps)

pub or_conjuncts : (ps : List Pred) → conjuncts (condition_of (pred.Or ps)) ≡ condition_of (pred.Or ps) ∷ []
or_conjuncts ps = ap conjuncts (or_is ps) ∙ ap (λ c. c ∷ []) (sym (or_is ps))

-- conditions counted from the first column on are what they are
pub all_none : (cs : List Condition) → map (counted_from 0) cs ≡ cs
all_none [] = refl
all_none (c ∷ cs) = let first = counted_none c in let rest = all_none cs in λ i. first i ∷ rest i

-- those that pass a test, each changed
module _ (f : Condition → Bool) (g : Condition → Condition) where
  one_last : (cs : List Condition) (c : Condition) → map g (filter f cs) ++ (if f c then g c ∷ [] else []) ≡ map g (filter f (cs ++ c ∷ []))
  one_last cs c = ap (λ l. map g (filter f cs) ++ l) (by_test (f c)) ∙ sym (map-append g (filter f cs) (filter f (c ∷ []))) ∙ ap (map g) (sym (filter-append f cs (c ∷ []))) where
    by_test : (b : Bool) → (if b then g c ∷ [] else []) ≡ map g (cond b (c ∷ []) [])
    by_test true = refl
    by_test false = refl

  pub part_more : (ps : List Pred) (i : ℕ) (p : Pred) (out more : List Condition) (wanted : Bool) → i < length ps → p ≡ get_or ps i p → wanted ≡ f (condition_of p)
      → out ≡ map g (filter f (map condition_of (take i ps))) → more ≡ out ++ (if wanted then g (condition_of p) ∷ [] else [])
      → more ≡ map g (filter f (map condition_of (take (i + 1) ps)))
  part_more ps i p out more wanted lt is test before after =
      let c = condition_of p in
      after ∙ (λ t. before t ++ (if test t then g c ∷ [] else [])) ∙ one_last (map condition_of (take i ps)) c
      ∙ ap (λ l. map g (filter f l)) (sym (map_push condition_of (take i ps) p) ∙ ap (map condition_of) (ap (λ x. take i ps ++ x ∷ []) is ∙ sym (take_more ps i p lt)))

  pub part_whole : (ps : List Pred) (i : ℕ) (out : List Condition) → length ps ≤ i → out ≡ map g (filter f (map condition_of (take i ps))) → out ≡ map g (filter f (map condition_of ps))
  part_whole ps i out le e = e ∙ ap (λ l. map g (filter f (map condition_of l))) (take_all i ps le)

-- those that pass a test, as they are
pub part_same : (f : Condition → Bool) (ps : List Pred) (i : ℕ) (out : List Condition) → length ps ≤ i → out ≡ map (counted_from 0) (filter f (map condition_of (take i ps))) → out ≡ filter f (map condition_of ps)
part_same f ps i out le e = part_whole f (counted_from 0) ps i out le e ∙ all_none (filter f (map condition_of ps))
