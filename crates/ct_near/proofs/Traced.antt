-- The order in which a walk goes into ANDs.
use Rattle.std.proofs.Common.{◌≡◌, ◌⊎◌, ℕ, ◌<◌, Bool, true, false, List, [], ◌∷◌, ◌++◌, length, nat_eq, set, refl, sym, ◌∙◌, subst, inl, inr}
use Rattle.std.{specs.Prelude.Contains, specs.List.{IsDistinct, list_any}, proofs.lemmas.Bool.{cases_eq, eqb-true}, proofs.lemmas.List.{get_or-set_other, get_or-set_same}}
use Rattle.std.proofs.lemmas.{Cmp.nat_eq_equiv, Map.Keys.IsDistinct-push, Map.Views.Contains-from_any}
use Rattle.std.proofs.lemmas.List.Elements.{Contains-append_cases, Contains-append_left, Contains-push, Contains-push_cases}
use Rattle.ct_word.proofs.Items.{no_item, sole_item}
use Rattle.ct_worlds.specs.Shape.{shape_at}
use Rattle.ct_near.{specs.declared.walking.{Found.Found, Way.Way}, specs.Conjuncts.{AreTopDown, IsNamed, more, none}, proofs.Entries.{Turn, at_and, at_leaf, pair_cases, turn}}
use Rattle.ct_near.specs.Walks.{IsMarked, IsPushed, IsTraced, IsTracing, IsTracingOn, next_at}
use Rattle.ct_near.specs.declared.walking.Way.TheVariants as way

once_more : (old new : List ℕ) (p : ℕ) → new ≡ old ++ p ∷ [] → IsDistinct nat_eq old → (Contains old p → ⊥) → IsDistinct nat_eq new
once_more old new p is d apart = subst (IsDistinct nat_eq) (sym is) (IsDistinct-push nat_eq_equiv old p d (by (list_any (nat_eq p) old) refl)) where
  by : (b : Bool) → list_any (nat_eq p) old ≡ b → list_any (nat_eq p) old ≡ false
  by false e = e
  by true e = absurd (apart (Contains-from_any eqb-true p old e))

nothing_once : (xs : List ℕ) → xs ≡ [] → IsDistinct nat_eq xs
unfolding IsDistinct
nothing_once xs e = subst (IsDistinct nat_eq) (sym e) tt

named_still : (words old new : List ℕ) (p q : ℕ) → new ≡ old ++ p ∷ [] → IsNamed words old q → IsNamed words new q
named_still words old new p q is n = record {
  and = n.and;
  among = subst (λ l. Contains l n.and) (sym is) (Contains-append_left old (p ∷ []) n.and n.among);
  left = n.left;
  right = n.right;
  is = n.is;
  of = n.of;
}

module _ (words : List ℕ) where
  -- what an And lets wait it names
  next_named : (stop p q : ℕ) (ands : List ℕ) → Contains ands p → Contains (next_at words (way.Ands stop) p) q → IsNamed words ands q
  next_named stop p q ands among h = by (turn stop p (shape_at words p)) where
    by : Turn stop p (shape_at words p) → IsNamed words ands q
    by (at_leaf e) = absurd (no_item q (subst (λ l. Contains l q) e h))
    by (at_and a b is e) = record { and = p; among = among; left = a; right = b; is = is; of = pair_cases a b q (subst (λ l. Contains l q) e h) }

  pub tracing_starts : (w : Way) (root number : ℕ) (marks : List ℕ) (found : Found) → found.inner.items ≡ [] → found.leaves.items ≡ [] → IsTracingOn words w root number marks (root ∷ []) found
  tracing_starts (way.All conjunct) root number marks found no_inner no_leaves = tt
  tracing_starts (way.Ands stop) root number marks found no_inner no_leaves = record {
    trace = record { leaves_once = nothing_once found.leaves.items no_leaves; ands_once = nothing_once found.inner.items no_inner; ands_order = subst (AreTopDown words root) (sym no_inner) none };
    seen = λ p h. elim h [ inl i ↦ absurd (no_item p (subst (λ l. Contains l p) no_inner i)) | inr l ↦ absurd (no_item p (subst (λ x. Contains x p) no_leaves l)) ];
    named = λ p h. inl (sym (sole_item root p h));
  }

  pub tracing_ends : (w : Way) (root number : ℕ) (marks waiting : List ℕ) (found : Found) → IsTracingOn words w root number marks waiting found → IsTraced words w root found
  tracing_ends (way.All conjunct) root number marks waiting found t = tt
  tracing_ends (way.Ands stop) root number marks waiting found t = t.trace

  pub tracing_skips : (w : Way) (root number : ℕ) (marks old rest : List ℕ) (place : ℕ) (found : Found) → old ≡ rest ++ place ∷ [] → IsTracingOn words w root number marks old found
      → IsTracingOn words w root number marks rest found
  tracing_skips (way.All conjunct) root number marks old rest place found is t = tt
  tracing_skips (way.Ands stop) root number marks old rest place found is t = record {
    trace = t.trace;
    seen = t.seen;
    named = λ p h. t.named p (subst (λ l. Contains l p) (sym is) (Contains-append_left rest (place ∷ []) p h));
  }

  pub tracing_goes : (w : Way) (root number : ℕ) (marks old rest : List ℕ) (place : ℕ) (found new : Found) (waiting : List ℕ) → old ≡ rest ++ place ∷ [] → waiting ≡ rest ++ next_at words w place
      → IsPushed words w place found new → place < length marks → (IsMarked marks number place → ⊥) → IsTracingOn words w root number marks old found
      → IsTracingOn words w root number (set marks place number) waiting new
  tracing_goes (way.All conjunct) root number marks old rest place found new waiting is grown pushed lt unmarked t = tt
  tracing_goes (way.Ands stop) root number marks old rest place found new waiting is grown pushed lt unmarked t = by pushed where
    was : (p : ℕ) → Contains rest p → (p ≡ root) ⊎ IsNamed words found.inner.items p
    was p h = t.named p (subst (λ l. Contains l p) (sym is) (Contains-append_left rest (place ∷ []) p h))

    still : (p : ℕ) → (Contains found.inner.items p ⊎ Contains found.leaves.items p) ⊎ (place ≡ p) → IsMarked (set marks place number) number p
    still p (inr same) = subst (IsMarked (set marks place number) number) same (get_or-set_same marks place number 0 lt)
    still p (inl h) = elim (cases_eq p place) [
      | inl same ↦ absurd (unmarked (subst (IsMarked marks number) same (t.seen p h)))
      | inr ne ↦ get_or-set_other marks place p number 0 ne ∙ t.seen p h
    ]

    split : (xs ys : List ℕ) (p : ℕ) → ys ≡ xs ++ place ∷ [] → Contains ys p → Contains xs p ⊎ (place ≡ p)
    split xs ys p e h = Contains-push_cases xs place p (subst (λ l. Contains l p) e h)

    first_name : (place ≡ root) ⊎ IsNamed words found.inner.items place
    first_name = t.named place (subst (λ l. Contains l place) (sym is) (Contains-push rest place))

    by : IsPushed words (way.Ands stop) place found new → IsTracing words root number (set marks place number) waiting new
    by (inl and) = record {
      trace = record {
        leaves_once = subst (IsDistinct nat_eq) (sym and.1) t.trace.leaves_once;
        ands_once = once_more found.inner.items new.inner.items place and.0 t.trace.ands_once (λ h. unmarked (t.seen place (inl h)));
        ands_order = more found.inner.items place and.0 t.trace.ands_order first_name;
      };
      seen = λ p h. elim h [
        | inl i ↦ elim (split found.inner.items new.inner.items p and.0 i) [ inl o ↦ still p (inl (inl o)) | inr same ↦ still p (inr same) ]
        | inr l ↦ still p (inl (inr (subst (λ x. Contains x p) and.1 l)))
      ];
      named = λ p h. elim (Contains-append_cases rest (next_at words (way.Ands stop) place) p (subst (λ l. Contains l p) grown h)) [
        | inl there ↦ elim (was p there) [ inl r ↦ inl r | inr n ↦ inr (named_still words found.inner.items new.inner.items place p and.0 n) ]
        | inr next ↦ inr (next_named stop place p new.inner.items (subst (λ l. Contains l place) (sym and.0) (Contains-push found.inner.items place)) next)
      ];
    }
    by (inr end) = record {
      trace = record {
        leaves_once = once_more found.leaves.items new.leaves.items place end.2 t.trace.leaves_once (λ h. unmarked (t.seen place (inr h)));
        ands_once = subst (IsDistinct nat_eq) (sym end.1) t.trace.ands_once;
        ands_order = subst (AreTopDown words root) (sym end.1) t.trace.ands_order;
      };
      seen = λ p h. elim h [
        | inl i ↦ still p (inl (inl (subst (λ x. Contains x p) end.1 i)))
        | inr l ↦ elim (split found.leaves.items new.leaves.items p end.2 l) [ inl o ↦ still p (inl (inr o)) | inr same ↦ still p (inr same) ]
      ];
      named = λ p h. elim (Contains-append_cases rest (next_at words (way.Ands stop) place) p (subst (λ l. Contains l p) grown h)) [
        | inl there ↦ elim (was p there) [ inl r ↦ inl r | inr n ↦ inr (subst (λ l. IsNamed words l p) (sym end.1) n) ]
        | inr next ↦ absurd (no_item p (subst (λ l. Contains l p) end.0 next))
      ];
    }
