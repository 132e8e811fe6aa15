-- The part of a question that is asked near a known world, and what its answer says of the whole.
use Rattle.std.proofs.Common.{◌≡◌, ◌⊎◌, ℕ, Bool, true, false, List, [], ◌∷◌, ◌++◌, map, sym, subst, inl, inr, nat_eq, if◌then◌else◌}
use Rattle.std.{specs.Prelude.{Contains}, specs.List.{AllByRecursion, list_any}, proofs.lemmas.List.{Elements.{Contains-append_cases, Contains-push_cases}}}
use Rattle.ct_word.{specs.declared.values.Null.Null, specs.declared.values.Value.Value, specs.Value.World, specs.Condition.holds_at, specs.Reading.condition_at, specs.Stands.{TermBelow, itself}, specs.WellFormed.{IsWellFormed, is_place_of}}
use Rattle.ct_word.proofs.Items.{first_item, later_item, item_cases, no_item, sole_item}
use Rattle.ct_near.{specs.declared.index.Conjuncts.Conjuncts, specs.Conjuncts.{AreBeside, AreConjuncts, IsAnd, IsInRun}, specs.Near.{IsJoinedNear, IsNullNear, IsRepairedNear}, proofs.Runs.{and_parts_at, run_below, run_condition}}
use Rattle.ct_worlds.specs.Below.{AreBelow}
use Rattle.ct_worlds.specs.Repaired.{IsMade, IsValueOf}
use Rattle.ct_cnf.specs.Encoding.{IsConditionBelow}
use Rattle.ct_decide.specs.{declared.deciding.Decision.Decision, Asking.IsFound, Decided.{IsValueOf as IsOwn, DecisionOf, DecisionNear, IsWholeOrNear}, Part.{AreConditionsBelow, part_of}}
use Rattle.ct_decide.proofs.Parts.{below_all, conditions_below, part_below}
use Rattle.ct_decide.specs.declared.deciding.Decision.TheVariants as decision
use Rattle.ct_word.specs.declared.kinds.Class.TheVariants as class
use Rattle.ct_word.specs.declared.values.Term.TheVariants as term

-- what stands below conditions of a question is below its root
pub reached_below : (words : List ℕ) (root : ℕ) (roots places : List ℕ) → AreConditionsBelow words root roots → AreBelow words roots places → AreConditionsBelow words root places
reached_below words root roots places all below p h =
    let r = below.each p h in
    record { below = below_all words root r.root p (all r.root r.among).below r.below; condition = r.condition }

pub placed : (words : List ℕ) (root : ℕ) (ps : List ℕ) → AreConditionsBelow words root ps → (p : ℕ) → Contains ps p → is_place_of words class.Cond p ≡ true
placed words root ps all p h = (all p h).condition

pub root_below : (words : List ℕ) (root : ℕ) → is_place_of words class.Cond root ≡ true → IsConditionBelow words root root
root_below words root c = record { below = itself; condition = c }

module _ (words : List ℕ) (formed : IsWellFormed words) (root : ℕ) (condition : is_place_of words class.Cond root ≡ true) where
  pub run_conditions : (ps : List ℕ) → ((p : ℕ) → Contains ps p → IsInRun words root p) → AreConditionsBelow words root ps
  run_conditions ps run p h = record { below = run_below words root p (run p h); condition = run_condition words formed root condition p (run p h) }

  module _ (global : ℕ) (own : List ℕ) (c : Conjuncts) (are : AreConjuncts words global c) (beside : AreBeside words root global own) where
    global_below : IsConditionBelow words root global
    global_below = record { below = run_below words root global beside.run; condition = run_condition words formed root condition global beside.run }

    in_global : (ps : List ℕ) → ((p : ℕ) → Contains ps p → IsInRun words global p) → AreConditionsBelow words root ps
    in_global ps run = conditions_below words root global ps global_below
        (λ p h. record { below = run_below words global p (run p h); condition = run_condition words formed global are.condition p (run p h) })

    pub own_below : AreConditionsBelow words root own
    own_below = run_conditions own beside.each

    pub beside_below : AreConditionsBelow words root (global ∷ own)
    beside_below p h = elim (item_cases own global p h) [ inl e ↦ subst (IsConditionBelow words root) e global_below | inr later ↦ own_below p later ]

    pub deep_below : AreConditionsBelow words root c.ands.items
    deep_below = in_global c.ands.items (λ p h. (are.ands p h).run)

    pub asked_below : (others : List ℕ) → ((p : ℕ) → Contains others p → Contains c.places.items p) → AreConditionsBelow words root (own ++ others)
    asked_below others among p h = elim (Contains-append_cases own others p h) [
      | inl one ↦ own_below p one
      | inr other ↦ in_global others (λ q i. are.each q (among q i)) p other
    ]

-- the root holds where the known condition and its own ones do
pub root_near : (words : List ℕ) (root global : ℕ) (own : List ℕ) (v : World) → AreBeside words root global own → ((p : ℕ) → Contains (global ∷ own) p → holds_at v (condition_at words p) ≡ true)
    → holds_at v (condition_at words root) ≡ true
root_near words root global own v beside all = beside.enough v (all global (first_item own global)) (λ p h. all p (later_item own global p h))

module _ (words : List ℕ) (root : ℕ) (known : World) where
  abbrev Made : Value → Type 0
  Made x = IsMade words (root ∷ []) known x

  own_made : (x : Value) → IsOwn words root x → Made x
  own_made x (inl below) = inr (inl (record { root = root; among = first_item [] root; below = below }))
  own_made x (inr n) = inr (inr (record { number = n.number; short = n.short; value = n.value }))

  all_made : (v : World) → AllByRecursion (λ p. IsOwn words root p.1) v → AllByRecursion (λ p. Made p.1) v
  all_made [] all = tt
  all_made (p ∷ v) all = (own_made p.1 all.0, all_made v all.1)

  one_made : (v : World) → AllByRecursion (λ p. IsOwn words root p.1) v → (x : Value) → IsValueOf v x → Made x
  one_made [] all x h = absurd (no_item x h)
  one_made (p ∷ v) all x h = elim (item_cases (map (λ q. q.1) v) p.1 x h) [ inl e ↦ subst Made e (own_made p.1 all.0) | inr later ↦ one_made v all.1 x later ]

  joined_made : (found v : World) → AllByRecursion (λ p. IsOwn words root p.1) found → AllByRecursion (λ p. IsValueOf found p.1 ⊎ IsValueOf known p.1) v → AllByRecursion (λ p. Made p.1) v
  joined_made found [] all each = tt
  joined_made found (p ∷ v) all each = (elim each.0 [ inl new ↦ one_made found all p.1 new | inr old ↦ inl old ], joined_made found v all each.1)

  abbrev Near : Null → Type 0
  Near n = IsNullNear words (root ∷ []) known n

  own_near : (n : Null) → TermBelow words root (term.Null n) → Near n
  own_near n below = inr (record { root = root; among = first_item [] root; below = below })

  all_near : (v : World) → AllByRecursion (λ p. TermBelow words root (term.Null p.0)) v → AllByRecursion (λ p. Near p.0) v
  all_near [] all = tt
  all_near (p ∷ v) all = (own_near p.0 all.0, all_near v all.1)

  joined_nulls : (places : List ℕ) → AreConditionsBelow words root places → (v : World) → AllByRecursion (λ p. IsNullNear words places known p.0) v → AllByRecursion (λ p. Near p.0) v
  joined_nulls places are [] all = tt
  joined_nulls places are (p ∷ v) all = (
    elim all.0 [
      | inl old ↦ inl old
      | inr b ↦ own_near p.0 (b.below.0, below_all words root b.root b.below.0 (are b.root b.among).below b.below.1, b.below.2)
    ],
    joined_nulls places are v all.1,
  )

  sole : (v : World) → holds_at v (condition_at words root) ≡ true → (c : ℕ) → Contains (root ∷ []) c → holds_at v (condition_at words c) ≡ true
  sole v h c i = subst (λ x. holds_at v (condition_at words x) ≡ true) (sole_item root c i) h

  -- a world that lays a found one over the known one
  pub near_world : (global : ℕ) (own : List ℕ) (found v : World) → AreBeside words root global own → AreConditionsBelow words root (global ∷ own) → IsFound words (part_of root) found
      → IsJoinedNear words (global ∷ own) found known v → IsRepairedNear words (root ∷ []) known v
  near_world global own found v beside are is joined = record {
    holds = sole v (root_near words root global own v beside joined.holds);
    values = joined_made found v is.values joined.values;
    nulls = joined_nulls (global ∷ own) are v joined.nulls;
    once = joined.once is.once;
  }

  pub near_decided : (d : Decision) → DecisionOf words root d → DecisionNear words root known d
  near_decided (decision.World v) w = record { holds = sole v w.holds; values = all_made v w.values; nulls = all_near v w.nulls; once = λ once. w.once }
  near_decided (decision.Refuted d) r = r

  pub whole_decided : (d : Decision) → DecisionOf words root d → (global : ℕ) (own : List ℕ) → IsWholeOrNear words root global own known d
  whole_decided (decision.World v) w global own = inl w
  whole_decided (decision.Refuted d) r global own = tt

-- a place that is put in
pub put_in : (ks new : List ℕ) (k : ℕ) → new ≡ (if list_any (nat_eq k) ks then ks else ks ++ k ∷ []) → (p : ℕ) → Contains new p → Contains ks p ⊎ (p ≡ k)
put_in ks new k e p h = by (list_any (nat_eq k) ks) (subst (λ xs. Contains xs p) e h) where
  by : (b : Bool) → Contains (if b then ks else ks ++ k ∷ []) p → Contains ks p ⊎ (p ≡ k)
  by true i = inl i
  by false i = elim (Contains-push_cases ks k p i) [ inl there ↦ inl there | inr same ↦ inr (sym same) ]

-- the parts of an And below the root
pub and_below : (words : List ℕ) (formed : IsWellFormed words) (root p a b : ℕ) → IsConditionBelow words root p → IsAnd words p a b → (q : ℕ) → (q ≡ a) ⊎ (q ≡ b) → IsConditionBelow words root q
and_below words formed root p a b below is q of = part_below words formed root p below q (and_parts_at words p q a b is of)
