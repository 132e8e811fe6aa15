-- Conjuncts, and the nulls that are listed with them.
use Rattle.std.proofs.Common.{◌≡◌, ◌≢◌, ◌⊎◌, ℕ, zero, suc, ◌+◌, ◌<◌, Bool, true, false, cond, not, ◌||◌, List, [], ◌∷◌, ◌++◌, length, take, get_or, nat_eq, refl, ap, sym, ◌∙◌, subst, arith, inl, inr}
use Rattle.std.{specs.Prelude.{IsTrue, Contains}, specs.List.list_any, proofs.lemmas.Bool.{and_from, cases_eq, cases_lt, eq-eqb, eqb-true, false≢true, or_cases}, proofs.lemmas.List.take_more, proofs.lemmas.List.Elements.{Contains-append_left, Contains-push, Contains-push_cases}}
use Rattle.ct_word.{specs.declared.values.Null.Null, specs.Value.World, specs.Condition.holds_at, specs.Reading.{as_term, condition_at}, specs.Stands.{Below, TermBelow, itself}}
use Rattle.ct_word.{specs.WellFormed.{IsWellFormed, is_place_of}, proofs.Items.{first_item, later_item, item_cases, no_item, sole_item}}
use Rattle.ct_worlds.{specs.declared.shape.Shape.Shape, specs.Shape.{parts_of, shape_at, terms_of}, proofs.Shaped.{IsClosed, below_more, part_earlier, part_named, term_below, term_stands}}
use Rattle.ct_near.{specs.declared.index.Entry.Entry, specs.declared.walking.{Found.Found, Way.Way}, proofs.{Listing.{Keeps, keeps_listed}, Steps.{and_goes, and_only, led_under, next_part}, Runs.{and_holds, and_parts_at, below_below, run_condition}}}
use Rattle.ct_near.specs.Conjuncts.{AreChosen, AreOthers, IsAnd, IsAndInRun, IsAskedOne, IsChoice, IsImpliedBy, IsInRun, IsInRunBeside, IsNoAnd, first, part, side, top}
use Rattle.ct_near.specs.Entries.{IsEntryAmong, IsEntryOf, IsListed}
use Rattle.ct_near.specs.Walks.{IsEntryAt, IsEntryFrom, IsInner, IsLedTo, IsMarked, IsWalked, next_at, onward, opened, start}
use Rattle.ct_word.specs.declared.connectives.Connective.TheVariants as connective
use Rattle.ct_word.specs.declared.kinds.Class.TheVariants as class
use Rattle.ct_word.specs.declared.values.Term.TheVariants as term
use Rattle.ct_worlds.specs.declared.shape.Shape.TheVariants as shape
use Rattle.ct_near.specs.declared.walking.Way.TheVariants as way

-- a walk ends at a condition, or goes on from an And to its parts
pub data Turn (stop p : ℕ) (s : Shape) : Type 0 where
  at_leaf : parts_of (opened (way.Ands stop) p s) ≡ [] → Turn stop p s
  at_and : (a b : ℕ) → s ≡ shape.Joined connective.And a b → parts_of (opened (way.Ands stop) p s) ≡ a ∷ b ∷ [] → Turn stop p s

pub turn : (stop p : ℕ) (s : Shape) → Turn stop p s
turn stop p (shape.Joined connective.And a b) = by (nat_eq p stop) refl where
  by : (e : Bool) → nat_eq p stop ≡ e → Turn stop p (shape.Joined connective.And a b)
  by true e = at_leaf (ap (λ t. parts_of (cond t (shape.Literal false) (shape.Joined connective.And a b))) e)
  by false e = at_and a b refl (ap (λ t. parts_of (cond t (shape.Literal false) (shape.Joined connective.And a b))) e)
turn stop p (shape.Joined connective.Or a b) = at_leaf refl
turn stop p (shape.Literal b) = at_leaf refl
turn stop p (shape.Equal a b) = at_leaf refl
turn stop p (shape.Not a) = at_leaf refl

-- an item of two
pub pair_cases : (a b q : ℕ) → Contains (a ∷ b ∷ []) q → (q ≡ a) ⊎ (q ≡ b)
pair_cases a b q h = elim (item_cases (b ∷ []) a q h) [ inl e ↦ inl (sym e) | inr later ↦ inr (sym (sole_item b q later)) ]

pub one_of_pair : (a b q : ℕ) → (q ≡ a) ⊎ (q ≡ b) → Contains (a ∷ b ∷ []) q
one_of_pair a b q (inl e) = subst (Contains (a ∷ b ∷ [])) (sym e) (first_item (b ∷ []) a)
one_of_pair a b q (inr e) = subst (Contains (a ∷ b ∷ [])) (sym e) (later_item (b ∷ []) a b (first_item [] b))

module _ (words : List ℕ) (stop root : ℕ) where
  -- what a walk through ANDs comes to
  pub run_of_led : (p : ℕ) → IsLedTo words (way.Ands stop) root p → IsInRun words root p
  run_of_led p start = first
  run_of_led p (onward {p = q} before h) = by (turn stop q (shape_at words q)) (run_of_led q before) where
    by : Turn stop q (shape_at words q) → IsInRun words root q → IsInRun words root p
    by (at_leaf e) run = absurd (no_item p (subst (λ l. Contains l p) e h))
    by (at_and a b is e) run = part a b run is (pair_cases a b p (subst (λ l. Contains l p) e h))

  -- it ends where no And is, and at the place at which it stops
  pub leaf_end : (p : ℕ) → next_at words (way.Ands stop) p ≡ [] → p ≢ stop → IsNoAnd words p
  leaf_end p none apart a b is = let long = ap length (sym (and_goes words stop p a b is apart) ∙ none) in omega (arith, long)

  pub beside_of_led : (p : ℕ) → IsLedTo words (way.Ands stop) root p → IsInRunBeside words root stop p
  beside_of_led p start = top
  beside_of_led p (onward {p = q} before h) = by (turn stop q (shape_at words q)) (beside_of_led q before) where
    by : Turn stop q (shape_at words q) → IsInRunBeside words root stop q → IsInRunBeside words root stop p
    by (at_leaf e) run = absurd (no_item p (subst (λ l. Contains l p) e h))
    by (at_and a b is e) run =
        side a b run (λ same. no_item p (subst (λ l. Contains l p) (and_only words stop q (λ x y i. same)) h)) is (pair_cases a b p (subst (λ l. Contains l p) e h))

  pub led_of_beside : (p : ℕ) → IsInRunBeside words root stop p → IsLedTo words (way.Ands stop) root p
  led_of_beside p top = start
  led_of_beside p (side {p = q} a b before apart is of) = onward (led_of_beside q before) (subst (λ l. Contains l p) (sym (and_goes words stop q a b is apart)) (one_of_pair a b p of))

  -- what is led to by ANDs is so beside the place at which the walk stops, or that place is
  run_to : (p : ℕ) → IsInRun words root p → IsInRunBeside words root stop p ⊎ IsInRunBeside words root stop stop
  run_to p first = inl top
  run_to p (part {p = q} a b before is of) = by (run_to q before) (cases_eq q stop) where
    by : IsInRunBeside words root stop q ⊎ IsInRunBeside words root stop stop → (q ≡ stop) ⊎ (q ≢ stop) → IsInRunBeside words root stop p ⊎ IsInRunBeside words root stop stop
    by (inr there) c = inr there
    by (inl beside) (inl same) = inr (subst (IsInRunBeside words root stop) same beside)
    by (inl beside) (inr apart) = inl (side a b beside apart is of)

  pub run_comes : IsInRun words root stop → IsInRunBeside words root stop stop
  run_comes run = elim (run_to stop run) [ inl b ↦ b | inr b ↦ b ]

  pub and_of_inner : (p : ℕ) → IsLedTo words (way.Ands stop) root p → IsInner words (way.Ands stop) p → IsAndInRun words root p
  and_of_inner p led inner = by (turn stop p (shape_at words p)) where
    by : Turn stop p (shape_at words p) → IsAndInRun words root p
    by (at_leaf e) = absurd (inner e)
    by (at_and a b is e) = record { run = run_of_led p led; left = a; right = b; is = is }

  module _ (formed : IsWellFormed words) (placed : IsTrue (is_place_of words class.Cond root)) (number : ℕ) (marks : List ℕ) (found : Found)
      (walked : IsWalked words (way.Ands stop) root number marks found) where
    all_hold_within : (v : World) (n p : ℕ) → p < n → IsMarked marks number p → ((q : ℕ) → Contains found.leaves.items q → holds_at v (condition_at words q) ≡ true)
        → holds_at v (condition_at words p) ≡ true
    all_hold_within v zero p lt m all = absurd (omega (arith, lt))
    all_hold_within v (suc n) p lt m all = by (turn stop p (shape_at words p)) (λ q less mark. all_hold_within v n q (omega (arith, less, lt)) mark all) where
      by : Turn stop p (shape_at words p) → ((q : ℕ) → q < p → IsMarked marks number q → holds_at v (condition_at words q) ≡ true) → holds_at v (condition_at words p) ≡ true
      by (at_leaf e) rec = all p ((walked.noted p m).leaf e)
      by (at_and a b is e) rec =
          let led = walked.led p m in
          let under = led_under words (way.Ands stop) root p formed placed led in
          let left = subst (λ l. Contains l a) (sym e) (first_item (b ∷ []) a) in
          let right = subst (λ l. Contains l b) (sym e) (later_item (b ∷ []) a b (first_item [] b)) in
          let one = rec a (part_earlier words p a formed under.placed (next_part words (way.Ands stop) p a left)).below (walked.parts p a m left) in
          let two = rec b (part_earlier words p b formed under.placed (next_part words (way.Ands stop) p b right)).below (walked.parts p b m right) in
          and_holds words formed root placed v p a b (run_of_led p led) is ∙ and_from _ _ one two

    -- where the leaves hold the root does
    pub leaves_enough : IsImpliedBy words root found.leaves.items
    leaves_enough v all = all_hold_within v (suc root) root (omega arith) walked.begun all

    -- the walk was wherever it leads
    marked : (p : ℕ) → IsLedTo words (way.Ands stop) root p → IsMarked marks number p
    marked p start = walked.begun
    marked p (onward {p = q} before h) = walked.parts q p (marked q before) h

    pub ends_found : (p : ℕ) → IsInRunBeside words root stop p → ((a b : ℕ) → IsAnd words p a b → p ≡ stop) → Contains found.leaves.items p
    ends_found p run ends = (walked.noted p (marked p (led_of_beside p run))).leaf (and_only words stop p ends)

    -- each place of the run was found, where the walk stops at no And
    pub all_found : (p : ℕ) → ((q a b : ℕ) → IsInRun words root q → IsAnd words q a b → q ≢ stop) → IsInRun words root p → Contains found.leaves.items p ⊎ Contains found.inner.items p
    all_found p never run = by (turn stop p (shape_at words p)) (marked p (led_of_beside p (whole p run))) where
      whole : (q : ℕ) → IsInRun words root q → IsInRunBeside words root stop q
      whole q first = top
      whole q (part {p = r} a b before is of) = side a b (whole r before) (never r a b before is) is of

      by : Turn stop p (shape_at words p) → IsMarked marks number p → Contains found.leaves.items p ⊎ Contains found.inner.items p
      by (at_leaf e) m = inl ((walked.noted p m).leaf e)
      by (at_and a b is e) m = inr ((walked.noted p m).inner (λ none. let long = ap length (sym e ∙ none) in omega (arith, long)))

-- an And names earlier places, so none stands at the first one
pub late_and : (words : List ℕ) (root : ℕ) → IsWellFormed words → IsTrue (is_place_of words class.Cond root) → (p a b : ℕ) → IsInRun words root p → IsAnd words p a b → p ≢ 0
late_and words root formed placed p a b run is at_zero =
    let less = (part_earlier words p a formed (run_condition words formed root placed p run) (and_parts_at words p a a b is (inl refl))).below in
    omega (arith, less, at_zero)

-- a walk into all conditions lists the nulls below its root
pub listed_below : (words : List ℕ) (place number conjunct : ℕ) (marks : List ℕ) (found : Found) → IsWellFormed words → IsTrue (is_place_of words class.Cond place)
    → IsWalked words (way.All conjunct) place number marks found → (n : Null) → TermBelow words place (term.Null n) → IsListed words found.index.entries.items conjunct n
listed_below words place number conjunct marks found formed placed walked n h =
    let closed : IsClosed words (IsMarked marks number) = record { are = λ q m. (led_under words (way.All conjunct) place q formed placed (walked.led q m)).placed; parts = walked.parts } in
    let at = term_below words (IsMarked marks number) formed closed place h.0 (term.Null n) h.1 walked.begun h.2 in
    walked.noted at.0 at.1 h.0 at.2 n (ap as_term h.2)

-- the nulls below the first conditions are listed
abbrev pub AreIndexedTo : List ℕ → List ℕ → List Entry → ℕ → Type 0
AreIndexedTo words places entries i = (k : ℕ) (n : Null) → k < i → TermBelow words (get_or places k 0) (term.Null n) → IsListed words entries k n

pub indexed_more : (words places : List ℕ) (old new : List Entry) (i : ℕ) → Keeps old new → AreIndexedTo words places old i
    → ((n : Null) → TermBelow words (get_or places i 0) (term.Null n) → IsListed words new i n) → AreIndexedTo words places new (i + 1)
indexed_more words places old new i keeps before here k n lt h = elim (cases_lt k i) [
  | inl less ↦ keeps_listed words old new k n keeps (before k n less h)
  | inr not_less ↦
      let same : i ≡ k = omega (arith, lt, not_less) in
      subst (λ j. IsListed words new j n) same (here n (subst (λ j. TermBelow words (get_or places j 0) (term.Null n)) (sym same) h))
]

-- what a walk comes to stands below its root
led_below : (words : List ℕ) (w : Way) (root p : ℕ) → IsLedTo words w root p → Below words root p
led_below words w root p start = itself
led_below words w root p (onward {p = q} before h) = let named = part_named words q p (next_part words w q p h) in below_more words root q p named.word (led_below words w root q before) named.there named.among

-- an entry that a walk from a conjunct adds is of a null below it
pub entry_below : (words places : List ℕ) (number : ℕ) (e : Entry) → IsWellFormed words → number < length places → IsTrue (is_place_of words class.Cond (get_or places number 0))
    → IsEntryFrom words (way.All number) (get_or places number 0) e → IsEntryOf words places e
entry_below words places number e formed lt placed from =
    let place = get_or places number 0 in
    let under = led_under words (way.All number) place from.0 formed placed from.1 in
    let is = from.2 in
    let t = term_stands words from.0 e.null (term.Null is.null) formed under.placed is.of is.there.null in
    record {
      conjunct = subst (λ k. k < length places) (sym is.conjunct) lt;
      null = is.null;
      there = is.there;
      below = subst (λ k. TermBelow words (get_or places k 0) (term.Null is.null)) (sym is.conjunct) (t.0, below_below words place from.0 t.0 (led_below words (way.All number) place from.0 from.1) t.1, t.2);
    }

-- one of the null at a place that an equality names
pub entry_named : (words : List ℕ) (conjunct place a b q : ℕ) → shape_at words place ≡ shape.Equal a b → (q ≡ a) ⊎ (q ≡ b) → (e : Entry) → IsEntryAmong words conjunct (λ x. x ≡ q) e
    → IsEntryAt words (way.All conjunct) place e
entry_named words conjunct place a b q is of e h = record {
  conjunct = h.conjunct;
  of = subst (λ s. Contains (terms_of s) e.null) (sym is) (subst (Contains (a ∷ b ∷ [])) (sym h.of) (one_of_pair a b q of));
  null = h.null;
  there = h.there;
}

-- one more place is chosen, or is not
pub others_more : (places : List ℕ) (one i : ℕ) (old new : List ℕ) → i < length places → IsChoice old new (get_or places i 0) (not (nat_eq (get_or places i 0) one))
    → AreOthers (take i places) one old → AreOthers (take (i + 1) places) one new
others_more places one i old new lt choice so_far = subst (λ l. AreOthers l one new) (sym (take_more places i 0 lt)) (record {
  only = λ p h. elim (choice.only p h) [
    | inl there ↦ let o = so_far.only p there in (Contains-append_left (take i places) (get_or places i 0 ∷ []) p o.0, o.1)
    | inr new ↦ (
      subst (Contains (take i places ++ get_or places i 0 ∷ [])) (sym new.0) (Contains-push (take i places) (get_or places i 0)),
      λ e. false≢true (sym (ap not (ap (λ x. nat_eq x one) (sym new.0 ∙ e) ∙ eq-eqb one one refl)) ∙ new.1),
    )
  ];
  all = λ p h. elim (Contains-push_cases (take i places) (get_or places i 0) p h) [
    | inl there ↦ elim (so_far.all p there) [ inl e ↦ inl e | inr k ↦ inr (choice.kept p k) ]
    | inr same ↦ by (nat_eq (get_or places i 0) one) refl p same
  ];
}) where
  by : (b : Bool) → nat_eq (get_or places i 0) one ≡ b → (p : ℕ) → get_or places i 0 ≡ p → (p ≡ one) ⊎ Contains new p
  by false e p same = inr (subst (Contains new) same (choice.put (ap not e)))
  by true e p same = inl (sym same ∙ eqb-true (get_or places i 0) one e)

-- a place that is found
pub found_among : (places : List ℕ) (one : ℕ) → list_any (λ y. nat_eq y one) places ≡ true → Contains places one
found_among [] one e = absurd (false≢true e)
found_among (p ∷ ps) one e = elim (or_cases (nat_eq p one) (list_any (λ y. nat_eq y one) ps) e) [
  | inl here ↦ subst (Contains (p ∷ ps)) (eqb-true p one here) (first_item ps p)
  | inr later ↦ later_item ps p one (found_among ps one later)
]

pub among_found : (places : List ℕ) (one : ℕ) → Contains places one → list_any (λ y. nat_eq y one) places ≡ true
among_found [] one h = absurd (no_item one h)
among_found (p ∷ ps) one h = elim (item_cases ps p one h) [
  | inl here ↦ ap (λ b. b || list_any (λ y. nat_eq y one) ps) (ap (λ y. nat_eq y one) here ∙ eq-eqb one one refl)
  | inr later ↦ ap (λ b. nat_eq p one || b) (among_found ps one later) ∙ either (nat_eq p one)
] where
  either : (b : Bool) → (b || true) ≡ true
  either true = refl
  either false = refl

-- the asked ones among the first conjuncts
pub record AreAskedTo (places : List ℕ) (is_asked : List Bool) (i : ℕ) (chosen : List ℕ) : Type 0 where
  pub asked : (k : ℕ) → k < i → get_or is_asked k false ≡ true → Contains chosen (get_or places k 0)
  pub only : (p : ℕ) → Contains chosen p → IsAskedOne places is_asked p

pub asked_more : (places : List ℕ) (is_asked : List Bool) (i : ℕ) (old new : List ℕ) (is : Bool) → i < length places → IsChoice old new (get_or places i 0) is → is ≡ get_or is_asked i false
    → AreAskedTo places is_asked i old → AreAskedTo places is_asked (i + 1) new
asked_more places is_asked i old new is lt choice e so_far = record {
  asked = λ k less a. elim (cases_lt k i) [
    | inl before ↦ choice.kept (get_or places k 0) (so_far.asked k before a)
    | inr not_less ↦
        let same : i ≡ k = omega (arith, less, not_less) in
        subst (λ j. Contains new (get_or places j 0)) same (choice.put (e ∙ ap (λ j. get_or is_asked j false) same ∙ a))
  ];
  only = λ p h. elim (choice.only p h) [ inl there ↦ so_far.only p there | inr new ↦ record { number = i; within = lt; asked = sym e ∙ new.1; is = sym new.0 } ];
}

pub chosen_more : (places : List ℕ) (is_asked : List Bool) (own : List ℕ) (i : ℕ) (old new : List ℕ) → i < length own → IsChoice old new (get_or own i 0) true
    → AreChosen places is_asked (take i own) old → AreChosen places is_asked (take (i + 1) own) new
chosen_more places is_asked own i old new lt choice so_far = subst (λ l. AreChosen places is_asked l new) (sym (take_more own i 0 lt)) (record {
  asked = λ k less a. choice.kept (get_or places k 0) (so_far.asked k less a);
  ours = λ p h. elim (Contains-push_cases (take i own) (get_or own i 0) p h) [ inl there ↦ choice.kept p (so_far.ours p there) | inr same ↦ subst (Contains new) same (choice.put refl) ];
  only = λ p h. elim (choice.only p h) [
    | inl there ↦ elim (so_far.only p there) [ inl l ↦ inl l | inr r ↦ inr (Contains-append_left (take i own) (get_or own i 0 ∷ []) p r) ]
    | inr new ↦ inr (subst (Contains (take i own ++ get_or own i 0 ∷ [])) (sym new.0) (Contains-push (take i own) (get_or own i 0)))
  ];
})
