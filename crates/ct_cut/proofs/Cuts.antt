-- A derivation that is accepted stays so when it is cut to what is needed, and then it has no more than that.
use Rattle.std.proofs.Common.{◌≡◌, ℕ, zero, suc, ◌+◌, ◌<◌, ◌≤◌, Bool, true, false, List, [], ◌∷◌, ◌++◌, length, map, get_or, Some, nat_lt, refl, ap, ◌∙◌, sym, subst, arith, inl, inr, append_assoc, append-nil, if◌then◌else◌}
use Rattle.std.{specs.Prelude.{slice_get, slice_index_or, option_map, Contains}, specs.List.list_all}
use Rattle.std.proofs.lemmas.Bool.{and_parts, and_from, false≢true, ltb-true, lt-ltb}
use Rattle.std.proofs.lemmas.Option.{slice_get-get_or, slice_get_within, slice_get-map}
use Rattle.std.proofs.lemmas.List.{length-map, length-append, get_or_append_left, get_or-map}
use Rattle.ct_derivation.{specs.declared.steps.Why.Why, specs.declared.steps.Step.Step, specs.Literal.Clause}
use Rattle.ct_derivation.specs.Propagation.{Literals, Look, Unfit, Falsified, Forces, look_at, meets, are_hints, follows}
use Rattle.ct_derivation.specs.Accepts.{over_atoms, clause_of, clauses_of, fits_lit, hints_of, gives, is_right, all_right, ends_empty}
use Rattle.ct_cut.{specs.Marks.is_marked, proofs.Marked.marked_within}
use Rattle.ct_word.proofs.Items.{first_item, later_item, mapped_item, no_item}
use Rattle.ct_cut.{specs.Translation.step, specs.Cut.{kept, rank, ranks, why_by, step_by, cut, hints_at, AreNeeded, IsHintOfLater}}
use Rattle.ct_cut.proofs.Kept.{all_item, kept_at, length_kept, number_at, rank_front, rank_rises, rank_next, ranked}
use Rattle.ct_derivation.specs.declared.steps.Why.TheVariants as why

-- hints lead to the same answer in a log that has what they name at their new numbers
module _ (k : Literals) (log less : List (List k.literal)) (number : ℕ → ℕ) where
  abbrev AreThere : List ℕ → Type 0
  AreThere hs = (h : ℕ) → Contains hs h → slice_get less (number h) ≡ slice_get log h

  abbrev after : List (List k.literal) → List k.literal → List ℕ → Look k.literal → Bool
  after ls falses hs l = elim l [ Unfit ↦ false | Falsified ↦ true | Forces m ↦ meets k ls (falses ++ k.opposite m ∷ []) hs ]

  meets_kept : (falses : List k.literal) (hs : List ℕ) → AreThere hs → meets k log falses hs ≡ meets k less falses (map number hs)
  meets_kept falses [] t = refl
  meets_kept falses (h ∷ hs) t =
      by_look (λ m. meets_kept (falses ++ k.opposite m ∷ []) hs (λ g i. t g (later_item hs h g i))) (look_at k falses (slice_get log h)) ∙ ap (λ o. after less falses (map number hs) (look_at k falses o)) (sym (t h (first_item hs h))) where
        by_look : ((m : k.literal) → meets k log (falses ++ k.opposite m ∷ []) hs ≡ meets k less (falses ++ k.opposite m ∷ []) (map number hs))
            → (l : Look k.literal) → after log falses hs l ≡ after less falses (map number hs) l
        by_look next Unfit = refl
        by_look next Falsified = refl
        by_look next (Forces m) = next m

  hints_kept : (hs : List ℕ) → AreThere hs → list_all (λ h. nat_lt h (length log)) hs ≡ true → list_all (λ h. nat_lt h (length less)) (map number hs) ≡ true
  hints_kept [] t e = refl
  hints_kept (h ∷ hs) t e =
      let parts = and_parts (nat_lt h (length log)) _ e in
      let there = t h (first_item hs h) ∙ slice_get-get_or log h [] (ltb-true h (length log) parts.0) in
      and_from (nat_lt (number h) (length less)) _ (lt-ltb (number h) (length less) (slice_get_within less (number h) _ there)) (hints_kept hs (λ g i. t g (later_item hs h g i)) parts.1)

  follows_kept : (clause : List k.literal) (hs : List ℕ) → AreThere hs → follows k log clause hs ≡ true → follows k less clause (map number hs) ≡ true
  follows_kept clause hs t e =
      let parts = and_parts (are_hints log hs) _ e in
      and_from (are_hints less (map number hs)) _ (hints_kept hs t parts.0) (sym (meets_kept clause hs t) ∙ parts.1)

clauses_cut : (numbers : List ℕ) (ms : List Bool) (ss : List Step) → clauses_of (cut numbers ms ss) ≡ kept ms (clauses_of ss)
clauses_cut numbers ms [] = refl
clauses_cut numbers [] (s ∷ ss) = refl
clauses_cut numbers (m ∷ ms) (s ∷ ss) = grind (arith, clauses_cut numbers ms ss)

abbrev pub hints_in : Step → List ℕ
hints_in s = hints_of s.why

-- hints name earlier steps
pub right_earlier : (words : List ℕ) (root : ℕ) (earlier ss : List Step) → all_right words root earlier ss ≡ true → (k h : ℕ) → Contains (hints_at (map hints_in ss) k) h → h < length earlier + k
unfolding is_right gives
right_earlier words root earlier [] e k h i = absurd (no_item h i)
right_earlier words root earlier (s ∷ ss) e zero h i = by_why s.why (and_parts (list_all (fits_lit words) s.clause) _ (and_parts (is_right words root earlier s) _ e).0).1 i where
  by_why : (w : Why) → gives words root earlier w s.clause ≡ true → Contains (hints_of w) h → h < length earlier + zero
  by_why (why.Rup hs) g i =
      let lt = ltb-true h _ (all_item (λ x. nat_lt x (length (clauses_of earlier))) hs h (and_parts (are_hints (clauses_of earlier) hs) _ g).0 i) in
      omega (arith, lt, length-map earlier clause_of)
  by_why _ g i = absurd (no_item h i)
right_earlier words root earlier (s ∷ ss) e (suc k) h i =
    omega (arith, length-append earlier (s ∷ []), right_earlier words root (earlier ++ s ∷ []) ss (and_parts (is_right words root earlier s) _ e).1 k h i)

module _ (words : List ℕ) (root : ℕ) (marks : List Bool) where
  abbrev numbers : List ℕ
  numbers = ranks 0 marks

  number_of : (h : ℕ) → h < length marks → slice_index_or numbers h 0 ≡ rank marks h
  number_of h lt = omega (arith, number_at 0 marks h lt)

  abbrev AreMarked : List ℕ → Type 0
  AreMarked hs = (h : ℕ) → Contains hs h → is_marked marks h ≡ true

  -- the marks are those of the steps before, and of the others
  module _ (done todo : List Bool) (both : done ++ todo ≡ marks) (earlier : List Step) (long : length done ≡ length earlier) where
    there : (h : ℕ) → h < length earlier → is_marked marks h ≡ true → slice_get (clauses_of (cut numbers done earlier)) (slice_index_or numbers h 0) ≡ slice_get (clauses_of earlier) h
    there h lt m =
        let within : h < length done = omega (arith, lt, long) in
        let marked = sym (get_or_append_left done todo false h within) ∙ ap (λ ms. is_marked ms h) both ∙ m in
        let number : slice_index_or numbers h 0 ≡ rank done h = number_of h (omega (arith, within, ap length both, length-append done todo)) ∙ ap (λ ms. rank ms h) (sym both) ∙ rank_front done todo h (omega (arith, within)) in
        let at = slice_get-get_or (clauses_of earlier) h [] (omega (arith, lt, length-map earlier clause_of)) in
        ap (slice_get (clauses_of (cut numbers done earlier))) number ∙ ap (λ cs. slice_get cs (rank done h)) (clauses_cut numbers done earlier) ∙ kept_at done (clauses_of earlier) h _ at marked ∙ sym at

    gives_kept : (w : Why) (c : Clause) → AreMarked (hints_of w) → gives words root earlier w c ≡ true → gives words root (cut numbers done earlier) (why_by numbers w) c ≡ true
    unfolding gives
    gives_kept (why.Rup hs) c a g =
        follows_kept over_atoms (clauses_of earlier) (clauses_of (cut numbers done earlier)) (λ h. slice_index_or numbers h 0) c hs
        (λ h i. there h (before h i) (a h i)) g where
          before : (h : ℕ) → Contains hs h → h < length earlier
          before h i = let lt = ltb-true h _ (all_item (λ x. nat_lt x (length (clauses_of earlier))) hs h (and_parts (are_hints (clauses_of earlier) hs) _ g).0 i) in omega (arith, lt, length-map earlier clause_of)
    gives_kept _ c a g = g

    step_kept : (s : Step) → AreMarked (hints_of s.why) → is_right words root earlier s ≡ true → is_right words root (cut numbers done earlier) (step_by numbers s) ≡ true
    unfolding is_right
    step_kept s a e = let parts = and_parts (list_all (fits_lit words) s.clause) _ e in and_from _ _ parts.0 (gives_kept s.why s.clause a parts.1)

  cut_more : (ms : List Bool) (m : Bool) (ss : List Step) (s : Step) → length ms ≡ length ss → cut numbers (ms ++ m ∷ []) (ss ++ s ∷ []) ≡ cut numbers ms ss ++ (if m then step_by numbers s ∷ [] else [])
  cut_more [] m [] s e = refl
  cut_more [] m (t ∷ ss) s e = absurd (omega (arith, e))
  cut_more (n ∷ ms) m [] s e = absurd (omega (arith, e))
  cut_more (n ∷ ms) m (t ∷ ss) s e = grind (arith, cut_more ms m ss s)

  -- each step that is kept is right after those that are kept before it
  pub right_kept : (done todo : List Bool) (earlier ss : List Step) → done ++ todo ≡ marks → length done ≡ length earlier
      → ((k : ℕ) → is_marked todo k ≡ true → AreMarked (hints_at (map hints_in ss) k))
      → all_right words root earlier ss ≡ true → all_right words root (cut numbers done earlier) (cut numbers todo ss) ≡ true
  right_kept done todo earlier [] both long a e = refl
  right_kept done [] earlier (s ∷ ss) both long a e = refl
  right_kept done (m ∷ todo) earlier (s ∷ ss) both long a e =
      let parts = and_parts (is_right words root earlier s) _ e in
      by_mark m (a zero) parts.0
      (subst (λ xs. all_right words root xs (cut numbers todo ss) ≡ true) (cut_more done m earlier s long)
      (right_kept (done ++ m ∷ []) todo (earlier ++ s ∷ []) ss (append_assoc done (m ∷ []) todo ∙ both)
      (omega (arith, length-append done (m ∷ []), length-append earlier (s ∷ []), long)) (λ k. a (suc k)) parts.1)) where
        by_mark : (b : Bool) → (b ≡ true → AreMarked (hints_of s.why)) → is_right words root earlier s ≡ true
            → all_right words root (cut numbers done earlier ++ (if b then step_by numbers s ∷ [] else [])) (cut numbers todo ss) ≡ true
            → all_right words root (cut numbers done earlier) (cut numbers (b ∷ todo) (s ∷ ss)) ≡ true
        by_mark true h r rest = and_from _ _ (step_kept done (m ∷ todo) both earlier long s (h refl) r) rest
        by_mark false h r rest = subst (λ xs. all_right words root xs (cut numbers todo ss) ≡ true) (append-nil (cut numbers done earlier)) rest

  more_end : (s : Step) (ss : List Step) → ends_empty ss ≡ true → ends_empty (s ∷ ss) ≡ true
  more_end s [] e = absurd (false≢true e)
  more_end s (t ∷ ss) e = e

  -- the last step is kept
  pub end_kept : (ms : List Bool) (ss : List Step) → length ms ≡ length ss → ((k : ℕ) → suc k ≡ length ss → is_marked ms k ≡ true) → ends_empty ss ≡ true → ends_empty (cut numbers ms ss) ≡ true
  end_kept ms [] long last e = absurd (false≢true e)
  end_kept [] (s ∷ ss) long last e = absurd (omega (arith, long))
  end_kept (true ∷ ms) (s ∷ []) long last e = e
  end_kept (false ∷ ms) (s ∷ []) long last e = absurd (false≢true (last zero refl))
  end_kept (true ∷ ms) (s ∷ t ∷ ss) long last e = more_end (step_by numbers s) (cut numbers ms (t ∷ ss)) (end_kept ms (t ∷ ss) (omega (arith, long)) (λ k l. last (suc k) (ap suc l)) e)
  end_kept (false ∷ ms) (s ∷ t ∷ ss) long last e = end_kept ms (t ∷ ss) (omega (arith, long)) (λ k l. last (suc k) (ap suc l)) e

  abbrev blank : Step
  blank = step [] why.Root

  -- each step but the last is a hint of a later one
  pub hint_kept : (ss : List Step) → AreNeeded (map hints_in ss) 0 marks → ((k h : ℕ) → Contains (hints_at (map hints_in ss) k) h → h < k)
      → (j : ℕ) → suc j < length (cut numbers marks ss) → IsHintOfLater (cut numbers marks ss) j
  hint_kept ss needed before j lt =
      let long : length marks ≡ length (map (step_by numbers) ss) = needed.long ∙ length-map ss hints_in ∙ sym (length-map ss (step_by numbers)) in
      let count = length_kept marks (map (step_by numbers) ss) long in
      let place = ranked marks j (omega (arith, lt, count)) in
      elim (needed.each place.0 place.1) [
        | inl last ↦ absurd (omega (arith, lt, count, place.2, needed.long, last_number place.0 (last ∙ sym needed.long)))
        | inr by ↦
            let earlier = before by.place place.0 by.hint in
            let within : by.place < length ss = omega (arith, marked_within marks by.place by.marked, needed.long, length-map ss hints_in) in
            let s = get_or ss by.place blank in
            let at : slice_get ss by.place ≡ Some s = slice_get-get_or ss by.place blank within in
            record {
              place = rank marks by.place;
              step = step_by numbers s;
              there = kept_at marks (map (step_by numbers) ss) by.place (step_by numbers s) (slice_get-map (step_by numbers) ss by.place ∙ ap (option_map (step_by numbers)) at) by.marked;
              later = omega (arith, place.2, rank_rises marks place.0 by.place earlier place.1);
              hint = subst (Contains (hints_of (why_by numbers s.why))) (number_of place.0 (marked_within marks place.0 place.1) ∙ place.2)
                  (new_hint s.why place.0 (subst (λ hs. Contains hs place.0) (get_or-map hints_in ss by.place blank [] within) by.hint));
            }
      ]
    where
      last_number : (k : ℕ) → suc k ≡ length marks → rank marks (length marks) ≤ suc (rank marks k)
      last_number k e = subst (λ n. rank marks n ≤ suc (rank marks k)) e (rank_next marks k)

      new_hint : (w : Why) (h : ℕ) → Contains (hints_of w) h → Contains (hints_of (why_by numbers w)) (slice_index_or numbers h 0)
      new_hint (why.Rup hs) h i = mapped_item (λ x. slice_index_or numbers x 0) hs h i
      new_hint _ h i = absurd (no_item h i)
