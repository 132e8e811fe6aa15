use Rattle.std.{proofs.Common.{◌≡◌, true, false, get_or, subst, inl, inr}, specs.Prelude.Contains, proofs.lemmas.List.Elements.Contains-get_or}
use Rattle.ct_word.proofs.Items.{no_item}
use Rattle.ct_near.specs.{Conjuncts.IsAskedOne, Related.IsRelated}
use Rattle.ct_near.proofs.relating.related.Goals as goal

pub returns-clause-conjuncts : goal.returns-clause-conjuncts
returns-clause-conjuncts c = λ p h. elim (c.in_ok-places.ensures.only p h) [
  | inl a ↦ subst (λ l. Contains l p) c.places.ensures (subst (Contains c.places.result.now) a.is (Contains-get_or c.places.result.now a.number 0 a.within))
  | inr none ↦ absurd (no_item p none)
]

pub returns-clause-related : goal.returns-clause-related
returns-clause-related c = λ root are p h. elim (c.in_ok-places.ensures.only p h) [
  | inl one ↦
      let a = subst (λ l. IsAskedOne l c.as_slice.result.now p) c.places.ensures one in
      subst (IsRelated c.args.words.now root c.args.own.now) a.is (c.in_ok-asked.ensures.related root are a.number (subst (λ l. get_or l a.number false ≡ true) c.as_slice.ensures.value a.asked)).is
  | inr none ↦ absurd (no_item p none)
]
