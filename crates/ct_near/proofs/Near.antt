-- Worlds that are changed at some nulls alone.
use Rattle.std.proofs.Common.{◌≡◌, ◌⊎◌, ℕ, Bool, true, false, not, ◌&&◌, ◌||◌, List, [], ◌∷◌, Option, Result, Ok, Err, filter, cond, get_or, map, refl, ap, sym, ◌∙◌, subst, inl, inr}
use Rattle.std.{specs.Prelude.{◌↔◌, IfOk, IsSome, IsTrue, Contains}, specs.List.{AllByRecursion, IsDistinct, list_all}, proofs.lemmas.Bool.{false≢true}, proofs.lemmas.List.get_or_default, proofs.lemmas.List.Elements.{Contains-append_cases, Contains-get_or}}
use Rattle.ct_word.{specs.declared.values.{Null.Null, Term.Term, Value.Value}, specs.Value.{World, same_null, value_of_null}, specs.Condition.holds_at, specs.Reading.condition_at, specs.Stands.TermBelow}
use Rattle.ct_word.{specs.WellFormed.{IsWellFormed, is_place_of}, proofs.Constants.one_term, proofs.Items.{first_item, later_item, item_cases, mapped_item, no_item, unmapped_item}}
use Rattle.ct_worlds.{specs.declared.nulls.Nulls.Nulls, specs.Gathering.has, specs.Nulls.{AreNulls, IsNullBelow, has_null, part_of}, specs.Repaired.{Each, IsChanged, IsMade, IsValueOf}, proofs.Drawing.changed_values}
use Rattle.ct_worlds.proofs.{Agreed.truth_agrees, Each.{all_each, each_all, each_passes}, Listed.root_listed}
use Rattle.ct_near.{specs.declared.index.Conjuncts.Conjuncts, specs.declared.scope.Scope.Scope, specs.Conjuncts.{AreChosen, AreConjuncts, AreIndexed, IsConjunct, is_covered}, specs.Entries.IsListed}
use Rattle.ct_near.specs.Related.{IsReachedNull, ours, theirs}
use Rattle.ct_near.{specs.Near.{FitsIn, HasNone, HoldAll, IsJoinedNear, IsLaid, IsLaidOver, IsNullNear, IsRepairedNear, IsScope, IsScopeOf, laid_over, rest_of}, proofs.{Laid.{new_gives, others_stay, over_once}, Runs.{below_below, run_below, run_condition, run_holds}}}
use Rattle.ct_word.specs.declared.kinds.Class.TheVariants as class
use Rattle.ct_word.specs.declared.values.Term.TheVariants as term

kept_item : {X : Type 0} (keep : X → Bool) (xs : List X) (x : X) → Contains (filter keep xs) x → Contains xs x × (keep x ≡ true)
kept_item keep [] x h = absurd (no_item x h)
kept_item keep (y ∷ ys) x h = by (keep y) refl h (kept_item keep ys x) where
  by : (b : Bool) → keep y ≡ b → Contains (cond b (y ∷ filter keep ys) (filter keep ys)) x → (Contains (filter keep ys) x → Contains ys x × (keep x ≡ true)) → Contains (y ∷ ys) x × (keep x ≡ true)
  by true e h rest = elim (item_cases (filter keep ys) y x h) [
    | inl same ↦ (subst (Contains (y ∷ ys)) same (first_item ys y), ap keep (sym same) ∙ e)
    | inr later ↦ let r = rest later in (later_item ys y x r.0, r.1)
  ]
  by false e h rest = let r = rest h in (later_item ys y x r.0, r.1)

-- a pair of a world that is laid over another one
laid_cases : (ns : List Null) (old made : World) (p : Null × Value) → Contains (laid_over ns old made) p → Contains old p ⊎ (Contains made p × IsTrue (has_null ns p.0))
laid_cases ns old made p h = elim (Contains-append_cases (rest_of ns old) (part_of ns made) p h) [
  | inl rest ↦ inl (kept_item (λ q. not (has_null ns q.0)) old p rest).0
  | inr new ↦ inr (kept_item (λ q. has_null ns q.0) made p new)
]

-- a value of a part of a world
part_value : (ns : List Null) (v : World) (x : Value) → IsValueOf (part_of ns v) x → IsValueOf v x
part_value ns v x h =
    let pair = unmapped_item (λ q. q.1) (part_of ns v) x h in
    subst (IsValueOf v) pair.2 (mapped_item (λ q. q.1) v pair.0 (kept_item (λ q. has_null ns q.0) v pair.0 pair.1).0)

-- conjuncts are conditions
pub conjunct_placed : (words : List ℕ) (root : ℕ) (c : Conjuncts) → IsWellFormed words → AreConjuncts words root c → (p : ℕ) → Contains c.places.items p → IsTrue (is_place_of words class.Cond p)
conjunct_placed words root c formed are p h = run_condition words formed root are.condition p (are.each p h)

-- what is chosen are conditions
pub chosen_placed : (words own places : List ℕ) (is_asked : List Bool) (chosen : List ℕ) → ((p : ℕ) → Contains places p → IsTrue (is_place_of words class.Cond p))
    → ((p : ℕ) → Contains own p → IsTrue (is_place_of words class.Cond p)) → AreChosen places is_asked own chosen → (p : ℕ) → Contains chosen p → IsTrue (is_place_of words class.Cond p)
chosen_placed words own places is_asked chosen placed conditions are p h = elim (are.only p h) [
  | inl a ↦ placed p (subst (Contains places) a.is (Contains-get_or places a.number 0 a.within))
  | inr one ↦ conditions p one
]

-- a conjunct that is not chosen has none of the nulls
pub others_none : (words own : List ℕ) (c : Conjuncts) (is_asked : List Bool) (chosen : List ℕ) (nulls : Nulls) → IsWellFormed words → AreIndexed words c.places.items c.index.entries.items
    → AreChosen c.places.items is_asked own chosen → AreNulls words nulls → list_all (is_covered is_asked nulls) c.index.entries.items ≡ true
    → (p : ℕ) → Contains c.places.items p → Contains chosen p ⊎ HasNone words nulls.listed.keys p
others_none words own c is_asked chosen nulls formed indexed are nulls_are covered p h = by (get_or is_asked h.0 false) refl where
  e : get_or c.places.items h.0 0 ≡ p
  e = get_or_default c.places.items h.0 0 p h.1 ∙ h.2

  none : get_or is_asked h.0 false ≡ false → HasNone words nulls.listed.keys p
  none flag n below = of (has_null nulls.listed.keys n) refl where
    listed : IsListed words c.index.entries.items h.0 n
    listed = indexed h.0 n h.1 (subst (λ q. TermBelow words q (term.Null n)) (sym e) below)

    of : (b : Bool) → has_null nulls.listed.keys n ≡ b → b ≡ false
    of false f = refl
    of true f =
        let at = nulls_are.each n f in
        let same = one_term words formed at.0 listed.entry.null at.2.placed listed.placed (at.2.null ∙ sym listed.null) in
        let test = each_passes (is_covered is_asked nulls) c.index.entries.items covered listed.entry listed.among in
        absurd (false≢true (sym (ap not (sym (ap (has nulls.places) same) ∙ at.1))
        ∙ sym (ap (λ b. b || not (has nulls.places listed.entry.null)) (ap (λ j. get_or is_asked j false) listed.conjunct ∙ flag)) ∙ test))

  by : (b : Bool) → get_or is_asked h.0 false ≡ b → Contains chosen p ⊎ HasNone words nulls.listed.keys p
  by true flag = inl (subst (Contains chosen) e (are.asked h.0 h.1 flag))
  by false flag = inr (none flag)

-- a conjunct is listed
pub conjunct_listed : (words : List ℕ) (root : ℕ) (c : Conjuncts) → AreConjuncts words root c → (p : ℕ) → IsConjunct words root p → Contains c.places.items p
conjunct_listed words root c are p is = elim (are.all p is.run) [ inl there ↦ there | inr h ↦ let a = are.ands p h in absurd (is.end a.left a.right a.is) ]

-- what a null of a scope stands below
pub scope_null : (words : List ℕ) (s : Scope) → IsScope words s → (n : Null) → IsTrue (has_null s.nulls.listed.keys n) → (p : ℕ) × Contains s.conditions.items p × TermBelow words p (term.Null n)
scope_null words s is n h =
    let b = is.each n h in
    let r = is.places.each b.root b.among in
    (r.root, r.among, (b.below.0, below_below words r.root b.root b.below.0 r.below b.below.1, b.below.2))

-- a test that each passes, all pass
passes_all : (test : ℕ → Bool) (ps : List ℕ) → Each (λ p. test p ≡ true) ps → list_all test ps ≡ true
passes_all test [] h = refl
passes_all test (p ∷ ps) h = (λ i. h p (first_item ps p) i && passes_all test ps (λ q later. h q (later_item ps p q later)) i)

-- where not all do, one does not
pub none_fits : (test : ℕ → Bool) (ps : List ℕ) (b : Bool) → b ≡ list_all test ps → b ≡ false → (false ≡ true) ↔ Each (λ p. test p ≡ true) ps
none_fits test ps b e f = (λ impossible. absurd (false≢true impossible), λ all. absurd (false≢true (sym f ∙ e ∙ passes_all test ps all)))

-- a clause about an answer
pub for_answer : {E : Type 0} (P Q : Option World → Type 0) (r : Result (Option World) E) → ((o : Option World) → P o → Q o) → IfOk r P → IfOk r Q
for_answer P Q (Ok o) f h = f o h
for_answer P Q (Err e) f h = tt

module _ (words : List ℕ) (root : ℕ) (own : List ℕ) (c : Conjuncts) (s : Scope) (formed : IsWellFormed words) (are : AreConjuncts words root c) (of : IsScopeOf words root c own s) where
  -- what stands below the scope stands below the root or a further condition
  near_below : (t : Term) (p : ℕ) → Contains s.conditions.items p → TermBelow words p t → (q : ℕ) × Contains (root ∷ own) q × TermBelow words q t
  near_below t p h b = elim (of.only p h) [
    | inl related ↦ (root, first_item own root, (b.0, below_below words root p b.0 (run_below words root p related.conjunct.run) b.1, b.2))
    | inr one ↦ (p, later_item own root p one, b)
  ]

  -- its nulls are reached
  scope_reached : (n : Null) → IsTrue (has_null s.nulls.listed.keys n) → IsReachedNull words root own n
  scope_reached n h =
      let b = scope_null words s of.is n h in
      elim (of.only b.0 b.1) [ inl r ↦ theirs b.0 r.null r.conjunct r.reached r.below b.2 | inr one ↦ ours b.0 one b.2 ]

  in_scope : (n : Null) (p : ℕ) → Contains s.conditions.items p → TermBelow words p (term.Null n) → IsTrue (has_null s.nulls.listed.keys n)
  in_scope n p h below = of.is.nulls p n (root_listed words s.conditions.items s.places.items of.is.places p h (of.is.conditions p h)) below

  -- and they are all that are
  scope_all : (n : Null) → IsReachedNull words root own n → IsTrue (has_null s.nulls.listed.keys n)
  scope_all n (ours p among below) = in_scope n p (of.ours p among) below
  scope_all n (theirs p m conjunct reached shared below) = elim (of.others p (conjunct_listed words root c are p conjunct)) [
    | inl h ↦ in_scope n p h below
    | inr none ↦ absurd (false≢true (sym (none m shared) ∙ scope_all m reached))
  ]

  near_null : (n : Null) → IsTrue (has_null s.nulls.listed.keys n) → IsNullBelow words (root ∷ own) n
  near_null n h =
      let b = scope_null words s of.is n h in
      let q = near_below (term.Null n) b.0 b.1 b.2 in
      record { root = q.0; among = q.1; below = q.2 }

  -- its conditions are the further ones and the related conjuncts
  fits_if : (v : World) → HoldAll words s v → FitsIn words root own v
  fits_if v all p (inr one) = all p (of.ours p one)
  fits_if v all p (inl r) = elim (of.others p (conjunct_listed words root c are p r.conjunct)) [
    | inl among ↦ all p among
    | inr none ↦ absurd (false≢true (sym (none r.null r.below) ∙ scope_all r.null r.reached))
  ]

  pub fits_is : (v : World) (o : Option World) → IsSome o ↔ HoldAll words s v → IsSome o ↔ FitsIn words root own v
  fits_is v o both = (λ there. fits_if v (both.0 there), λ fits. both.1 (λ p h. fits p (of.only p h)))

  module _ (old made new : World) (known : holds_at old (condition_at words root) ≡ true) (laid : IsLaid words s (rest_of s.nulls.listed.keys old) made new) where
    -- a condition of the scope holds as in the made world
    scope_holds : (p : ℕ) → Contains s.conditions.items p → holds_at new (condition_at words p) ≡ true
    scope_holds p h =
        truth_agrees words new made p formed (of.is.conditions p h) (λ n below. ap (λ v. value_of_null v n) laid.pairs ∙ new_gives s.nulls.listed.keys old made n (in_scope n p h below))
        ∙ laid.holds p h

    -- and another conjunct as in the old one
    conjunct_holds : (p : ℕ) → Contains c.places.items p → holds_at new (condition_at words p) ≡ true
    conjunct_holds p h = elim (of.others p h) [
      | inl among ↦ scope_holds p among
      | inr none ↦
          truth_agrees words new old p formed (conjunct_placed words root c formed are p h)
          (λ n below. ap (λ v. value_of_null v n) laid.pairs ∙ others_stay s.nulls.listed.keys old made n (none n below))
          ∙ run_holds words formed root are.condition old p (are.each p h) known
    ]

    near_holds : (p : ℕ) → Contains (root ∷ own) p → holds_at new (condition_at words p) ≡ true
    near_holds p h = elim (item_cases own root p h) [
      | inl e ↦ subst (λ q. holds_at new (condition_at words q) ≡ true) e (are.enough new conjunct_holds)
      | inr later ↦ scope_holds p (of.ours p later)
    ]

    pub laid_over_is : IsLaidOver words root own made old new
    laid_over_is = record { nulls = s.nulls.listed.keys; reached = scope_reached; all = scope_all; pairs = laid.pairs }

    near_nulls : AllByRecursion (λ p. IsNullNear words (root ∷ own) old p.0) new
    near_nulls = each_all (λ p. IsNullNear words (root ∷ own) old p.0) new (λ p h. elim (laid_cases s.nulls.listed.keys old made p (subst (λ v. Contains v p) laid.pairs h)) [
      | inl there ↦ inl (mapped_item (λ q. q.0) old p there)
      | inr own_one ↦ inr (near_null p.0 own_one.1)
    ])

    near_once : IsDistinct same_null (map (λ p. p.0) made) → IsDistinct same_null (map (λ p. p.0) old) → IsDistinct same_null (map (λ p. p.0) new)
    near_once d e = subst (λ v. IsDistinct same_null (map (λ p. p.0) v)) (sym laid.pairs) (over_once s.nulls.listed.keys old made e d)

    near_made : (x : Value) → IsMade words s.conditions.items (part_of s.nulls.listed.keys old) x → IsMade words (root ∷ own) old x
    near_made x (inl there) = inl (part_value s.nulls.listed.keys old x there)
    near_made x (inr (inr k)) = inr (inr k)
    near_made x (inr (inl b)) = let q = near_below (term.Value x) b.root b.among b.below in inr (inl (record { root = q.0; among = q.1; below = q.2 }))

    -- a world of the scope was made
    pub repaired_is : (next : ℕ) → IsChanged words s.conditions.items next (part_of s.nulls.listed.keys old) made → IsRepairedNear words (root ∷ own) old new
    repaired_is next changed = record {
      holds = near_holds;
      values = each_all (λ p. IsMade words (root ∷ own) old p.1) new (λ p h. elim (laid_cases s.nulls.listed.keys old made p (subst (λ v. Contains v p) laid.pairs h)) [
        | inl there ↦ inl (mapped_item (λ q. q.1) old p there)
        | inr one ↦ near_made p.1 (all_each (λ q. IsMade words s.conditions.items (part_of s.nulls.listed.keys old) q.1) made p (changed_values words s.conditions.items next (part_of s.nulls.listed.keys old) made changed) one.0)
      ]);
      nulls = near_nulls;
      once = near_once changed.once;
    }

    -- or was found
    pub joined_is : IsJoinedNear words (root ∷ own) made old new
    joined_is = record {
      holds = near_holds;
      values = each_all (λ p. IsValueOf made p.1 ⊎ IsValueOf old p.1) new (λ p h. elim (laid_cases s.nulls.listed.keys old made p (subst (λ v. Contains v p) laid.pairs h)) [
        | inl there ↦ inr (mapped_item (λ q. q.1) old p there)
        | inr one ↦ inl (mapped_item (λ q. q.1) made p one.0)
      ]);
      nulls = near_nulls;
      once = near_once;
    }
