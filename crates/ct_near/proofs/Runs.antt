-- What is led to by ANDs alone.
use Rattle.std.proofs.Common.{◌≡◌, ◌⊎◌, ℕ, true, List, [], ◌∷◌, ap, sym, subst, ◌∙◌, inl, inr}
use Rattle.std.{specs.Prelude.{IsTrue, Contains}, proofs.lemmas.Bool.and_parts}
use Rattle.ct_word.{specs.Value.World, specs.Condition.holds_at, specs.Reading.condition_at, specs.Stands.{Below, itself, through}}
use Rattle.ct_word.{specs.Connective.join, specs.WellFormed.{IsWellFormed, is_place_of}, proofs.Joins.joined_holds, proofs.Items.{first_item, later_item}}
use Rattle.ct_near.specs.Conjuncts.{IsAnd, IsInRun, first, part}
use Rattle.ct_worlds.{specs.Shape.{IsShaped, parts_of, parts_at}, proofs.Shaped.{below_more, shaped, part_earlier, part_named}}
use Rattle.ct_word.specs.declared.connectives.Connective.TheVariants as connective
use Rattle.ct_word.specs.declared.kinds.Class.TheVariants as class

pub below_below : (words : List ℕ) (p q r : ℕ) → Below words p q → Below words q r → Below words p r
below_below words p q r itself b = b
below_below words p q r (through w m there among rest) b = through w m there among (below_below words m q r rest b)

module _ (words : List ℕ) where
  -- the two conditions that an And names are parts of it
  pub and_parts_at : (p q a b : ℕ) → IsAnd words p a b → (q ≡ a) ⊎ (q ≡ b) → Contains (parts_at words p) q
  and_parts_at p q a b is of = subst (λ s. Contains (parts_of s) q) (sym is) (by of) where
    by : (q ≡ a) ⊎ (q ≡ b) → Contains (a ∷ b ∷ []) q
    by (inl e) = subst (Contains (a ∷ b ∷ [])) (sym e) (first_item (b ∷ []) a)
    by (inr e) = subst (Contains (a ∷ b ∷ [])) (sym e) (later_item (b ∷ []) a b (first_item [] b))

  -- what is led to stands below
  pub run_below : (root p : ℕ) → IsInRun words root p → Below words root p
  run_below root p first = itself
  run_below root p (part {p = q} a b before is of) =
      let named = part_named words q p (and_parts_at q p a b is of) in
      below_more words root q p named.word (run_below root q before) named.there named.among

  module _ (formed : IsWellFormed words) (root : ℕ) (placed : IsTrue (is_place_of words class.Cond root)) where
    -- and is a condition
    pub run_condition : (p : ℕ) → IsInRun words root p → IsTrue (is_place_of words class.Cond p)
    run_condition p first = placed
    run_condition p (part {p = q} a b before is of) = (part_earlier words q p formed (run_condition q before) (and_parts_at q p a b is of)).placed

    -- the truth of an And
    pub and_holds : (v : World) (p a b : ℕ) → IsInRun words root p → IsAnd words p a b
        → holds_at v (condition_at words p) ≡ join connective.And (holds_at v (condition_at words a)) (holds_at v (condition_at words b))
    and_holds v p a b run is =
        ap (holds_at v) (subst (IsShaped words p) is (shaped words p formed (run_condition p run))).condition
        ∙ joined_holds connective.And v [] (condition_at words a) (condition_at words b)

    -- and holds where the root does
    pub run_holds : (v : World) (p : ℕ) → IsInRun words root p → holds_at v (condition_at words root) ≡ true → holds_at v (condition_at words p) ≡ true
    run_holds v p first h = h
    run_holds v p (part {p = q} a b before is of) h =
        let both = and_parts _ _ (sym (and_holds v q a b before is) ∙ run_holds v q before h) in
        elim of [ inl e ↦ subst (λ x. holds_at v (condition_at words x) ≡ true) (sym e) both.0 | inr e ↦ subst (λ x. holds_at v (condition_at words x) ≡ true) (sym e) both.1 ]
