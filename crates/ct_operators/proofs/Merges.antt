-- Rows put last, or merged by their cells.
use Rattle.std.proofs.Common.{◌≡◌, ℕ, zero, suc, ◌+◌, ◌<◌, ◌≤◌, Bool, true, false, not, ◌&&◌, ◌||◌, List, [], ◌∷◌, ◌++◌, Some, None, map, length, cond, get_or, set, take, drop, refl, ap, sym, subst, ◌∙◌, arith, inl, inr}
use Rattle.std.{specs.Prelude.{◌≢◌, IsTrue, All, nat_eq, is_some, if◌then◌else◌}, specs.List.{IsDistinct, list_any, filter, position_or_len}, specs.Cmp.IsEquivalence}
use Rattle.std.{specs.Cmp.Lexicographic.pointwise, specs.Map.{lookup, keys_of}, proofs.lemmas.Bool.Decides.same_from_decides, proofs.lemmas.Map.Keys.IsDistinct-push}
use Rattle.std.{proofs.lemmas.Bool.{false≢true, eqb-true, eqb-false, not-true}, proofs.lemmas.List.Folds.list_any_at}
use Rattle.std.proofs.lemmas.List.Elements.{filter_passes, All-head, All-tail, All-cons, All-nil, All-push, All-set, All-weaker, All-get_or, All-filter, Contains-append_left, Contains-push}
use Rattle.std.proofs.lemmas.List.{map_push, map-append, take_all, take-append-drop, length-append, length_push, length-map, get_or-map}
use Rattle.indexmap.specs.IndexMap.{insert_entry, set_value_at}
use Rattle.ct_word.{specs.declared.values.Value.Value, specs.declared.values.Term.Term, specs.declared.values.CRow.CRow, specs.Sublist.IsSublist}
use Rattle.ct_word.{specs.Value.{World, same_text, same_cells, same_tuple, tuple_at}, specs.Condition.holds_at, specs.WellFormed.{IsWellFormed, is_place_of}}
use Rattle.ct_word.{specs.Stands.HasNoColumn, specs.Reading.{term_at, condition_at, plain_crow}, proofs.Alike.{text_decides, cells_decide}}
use Rattle.ct_word.{proofs.Constants.one_term, proofs.Prefixes.{prefix_of_prefix, prefix_same, condition_in_prefix, place_within}}
use Rattle.ct_query.{specs.Database.{SameSet, has_tuple}, proofs.Sublists.sublist-map, proofs.Sets.{same_set-append, has_tuple-append, same_set_itself}}
use Rattle.ct_arena.specs.Counts.{opening}
use Rattle.ct_condition.{specs.Truth.{HasTruth, or_at}, specs.Terms.{TermsFrom, BelowEither}, proofs.Reached.formed_before, proofs.Truths.false_at}
use Rattle.ct_operators.{specs.Tables.{cells_of, value_of_rows, IsRow, AreRows, firsts}, specs.Terms.{TermOfRows, RowFrom, RowsFrom}}
use Rattle.ct_operators.specs.Merging.{rows_of, Merged, put_last, into, Gathers, is_possible, known, repeats}
use Rattle.ct_operators.proofs.Reaching.{row_itself, rows_among, rows_wider, row_later, rows_later, under_from, from_two}
use Rattle.ct_operators.{proofs.Selecting.{distinct_part, value-append, one_shown}, proofs.Growing.{terms_grow, is_row_grows, cells_grow, value_grows}}
use Rattle.ct_operators.proofs.Firsts.{filtered_part, any_first, firsts_known, firsts_new, firsts_long}
use mathlib.Core.List.{IsPrefix}
use Rattle.ct_word.specs.declared.kinds.Class.TheVariants as class
use Rattle.ct_word.specs.declared.values.Term.TheVariants as term

pub cells_equiv : IsEquivalence same_cells
cells_equiv = record {
  refl = λ x. (cells_decide x x).1 refl;
  symm = λ x y. same_from_decides (same_cells x y) (same_cells y x) (cells_decide x y) (λ e. sym ((cells_decide y x).0 e), λ e. (cells_decide y x).1 (sym e));
  congr = λ x y z e. ap (λ w. same_cells w z) ((cells_decide x y).0 e);
}

-- two lists of places of terms that stand for the same terms are one list
pub same_places : (ws : List ℕ) → IsWellFormed ws → (ps qs : List ℕ) → All (λ p. IsTrue (is_place_of ws class.Term p)) ps → All (λ p. IsTrue (is_place_of ws class.Term p)) qs
    → map (term_at ws) ps ≡ map (term_at ws) qs → ps ≡ qs
same_places ws wf [] [] a b e = refl
same_places ws wf [] (q ∷ qs) a b e = cc
same_places ws wf (p ∷ ps) [] a b e = cc
same_places ws wf (p ∷ ps) (q ∷ qs) a b e =
    λ i. one_term ws wf p q (All-head (λ p. IsTrue (is_place_of ws class.Term p)) p ps a) (All-head (λ p. IsTrue (is_place_of ws class.Term p)) q qs b) (ap first e) i
    ∷ same_places ws wf ps qs (All-tail (λ p. IsTrue (is_place_of ws class.Term p)) p ps a) (All-tail (λ p. IsTrue (is_place_of ws class.Term p)) q qs b) (ap rest e) i where
      first : List Term → Term
      first [] = term_at ws p
      first (t ∷ ts) = t

      rest : List Term → List Term
      rest [] = []
      rest (t ∷ ts) = ts

-- what one row is worth
pub has_one : (ws : List ℕ) (v : World) (r : CRow) (t : List Value) → has_tuple (value_of_rows ws v (r ∷ [])) t ≡ (holds_at v (condition_at ws r.cond) && same_tuple (tuple_at v (map (term_at ws) r.cells)) t)
has_one ws v r t = ap (λ l. has_tuple l t) (one_shown v (plain_crow ws r) _ refl) ∙ by_case (holds_at v (condition_at ws r.cond)) (same_tuple (tuple_at v (map (term_at ws) r.cells)) t) refl where
  by_case : (b e : Bool) → same_tuple (tuple_at v (map (term_at ws) r.cells)) t ≡ e → has_tuple (cond b (tuple_at v (map (term_at ws) r.cells) ∷ []) []) t ≡ (b && same_tuple (tuple_at v (map (term_at ws) r.cells)) t)
  by_case true true q = ap (λ e. e || false) q ∙ sym q
  by_case true false q = ap (λ e. e || false) q ∙ sym q
  by_case false e q = refl

-- the first row, and those after it
pub has_cons : (ws : List ℕ) (v : World) (r : CRow) (rs : List CRow) (t : List Value)
    → has_tuple (value_of_rows ws v (r ∷ rs)) t ≡ ((holds_at v (condition_at ws r.cond) && same_tuple (tuple_at v (map (term_at ws) r.cells)) t) || has_tuple (value_of_rows ws v rs) t)
has_cons ws v r rs t =
    ap (λ l. has_tuple l t) (value-append ws v (r ∷ []) rs) ∙ has_tuple-append (value_of_rows ws v (r ∷ [])) (value_of_rows ws v rs) t
    ∙ ap (λ b. b || has_tuple (value_of_rows ws v rs) t) (has_one ws v r t)

-- a disjunction goes into one of the rows
spread : (a b e q : Bool) → (((a || b) && e) || q) ≡ (((a && e) || q) || (b && e))
spread true b true q = refl
spread true b false true = refl
spread true true false false = refl
spread true false false false = refl
spread false false e true = refl
spread false false e false = refl
spread false true true true = refl
spread false true true false = refl
spread false true false true = refl
spread false true false false = refl

or_later : (a q b : Bool) → (a || (q || b)) ≡ ((a || q) || b)
or_later true q b = refl
or_later false q b = refl

-- what rows are worth after a row was merged into one of them
set_has : (ws : List ℕ) (v : World) (rs : List CRow) (i : ℕ) (r : CRow) (c : ℕ) (t : List Value) → i < length rs → (get_or rs i r).cells ≡ r.cells
    → holds_at v (condition_at ws c) ≡ (holds_at v (condition_at ws (get_or rs i r).cond) || holds_at v (condition_at ws r.cond))
    → has_tuple (value_of_rows ws v (set rs i (record { cells = r.cells; cond = c }))) t
    ≡ (has_tuple (value_of_rows ws v rs) t || (holds_at v (condition_at ws r.cond) && same_tuple (tuple_at v (map (term_at ws) r.cells)) t))
set_has ws v [] i r c t lt same h = absurd (omega arith)
set_has ws v (x ∷ rs) zero r c t lt same h =
    has_cons ws v (record { cells = r.cells; cond = c }) rs t
    ∙ ap (λ b. (b && same_tuple (tuple_at v (map (term_at ws) r.cells)) t) || has_tuple (value_of_rows ws v rs) t) h
    ∙ spread (holds_at v (condition_at ws x.cond)) (holds_at v (condition_at ws r.cond)) (same_tuple (tuple_at v (map (term_at ws) r.cells)) t) (has_tuple (value_of_rows ws v rs) t)
    ∙ ap (λ cs. ((holds_at v (condition_at ws x.cond) && same_tuple (tuple_at v (map (term_at ws) cs)) t) || has_tuple (value_of_rows ws v rs) t)
    || (holds_at v (condition_at ws r.cond) && same_tuple (tuple_at v (map (term_at ws) r.cells)) t)) (sym same)
    ∙ ap (λ b. b || (holds_at v (condition_at ws r.cond) && same_tuple (tuple_at v (map (term_at ws) r.cells)) t)) (sym (has_cons ws v x rs t))
set_has ws v (x ∷ rs) (suc i) r c t lt same h =
    has_cons ws v x (set rs i (record { cells = r.cells; cond = c })) t
    ∙ ap (λ b. (holds_at v (condition_at ws x.cond) && same_tuple (tuple_at v (map (term_at ws) x.cells)) t) || b) (set_has ws v rs i r c t (omega arith) same h)
    ∙ or_later (holds_at v (condition_at ws x.cond) && same_tuple (tuple_at v (map (term_at ws) x.cells)) t) (has_tuple (value_of_rows ws v rs) t) (holds_at v (condition_at ws r.cond) && same_tuple (tuple_at v (map (term_at ws) r.cells)) t)
    ∙ ap (λ b. b || (holds_at v (condition_at ws r.cond) && same_tuple (tuple_at v (map (term_at ws) r.cells)) t)) (sym (has_cons ws v x rs t))

-- the cells stay when only a condition changes
set_cells : (ws : List ℕ) (rs : List CRow) (i : ℕ) (r : CRow) (c : ℕ) → i < length rs → (get_or rs i r).cells ≡ r.cells → cells_of ws (set rs i (record { cells = r.cells; cond = c })) ≡ cells_of ws rs
set_cells ws [] i r c lt same = absurd (omega arith)
set_cells ws (x ∷ rs) zero r c lt same = ap (λ cs. map (term_at ws) cs ∷ cells_of ws rs) (sym same)
set_cells ws (x ∷ rs) (suc i) r c lt same = ap (λ l. map (term_at ws) x.cells ∷ l) (set_cells ws rs i r c (omega arith) same)

apart_cells : (ws : List ℕ) → IsWellFormed ws → (width : ℕ) (rs : List CRow) (r : CRow) → All (IsRow ws width) rs → IsRow ws width r → All (λ x. x.cells ≢ r.cells) rs
    → list_any (same_cells (map (term_at ws) r.cells)) (cells_of ws rs) ≡ false
apart_cells ws wf width [] r each is others = refl
apart_cells ws wf width (x ∷ rs) r each is others =
    by_test (same_cells (map (term_at ws) r.cells) (map (term_at ws) x.cells)) refl
    (apart_cells ws wf width rs r (All-tail (IsRow ws width) x rs each) is (All-tail (λ x. x.cells ≢ r.cells) x rs others)) where
      by_test : (b : Bool) → same_cells (map (term_at ws) r.cells) (map (term_at ws) x.cells) ≡ b
          → list_any (same_cells (map (term_at ws) r.cells)) (cells_of ws rs) ≡ false → list_any (same_cells (map (term_at ws) r.cells)) (cells_of ws (x ∷ rs)) ≡ false
      by_test false p later = ap (λ b. b || list_any (same_cells (map (term_at ws) r.cells)) (cells_of ws rs)) p ∙ later
      by_test true p later = absurd (All-head (λ x. x.cells ≢ r.cells) x rs others
          (sym (same_places ws wf r.cells x.cells is.terms (All-head (IsRow ws width) x rs each).terms ((cells_decide (map (term_at ws) r.cells) (map (term_at ws) x.cells)).0 p))))

-- a row whose cells are those of one that is there
there_cells : (ws : List ℕ) (rs : List CRow) (i : ℕ) (r : CRow) → i < length rs → (get_or rs i r).cells ≡ r.cells
    → list_any (same_cells (map (term_at ws) r.cells)) (cells_of ws rs) ≡ true
there_cells ws rs i r lt same =
    let cells = map (term_at ws) r.cells in
    list_any_at (same_cells cells) (cells_of ws rs) i cells (subst (λ n. i < n) (sym (length-map rs (λ (x : CRow). map (term_at ws) x.cells))) lt)
    ((cells_decide cells (get_or (cells_of ws rs) i cells)).1 (sym (get_or-map (λ (x : CRow). map (term_at ws) x.cells) rs i r cells lt ∙ ap (map (term_at ws)) same)))

module _ (old now new : List ℕ) (width : ℕ) (done before : List CRow) (so_far : Gathers old now width done before) (longer : IsPrefix now new)
    (wf : IsWellFormed now) (r : CRow) (is : IsRow old width r) where
  far : IsPrefix old new
  far = prefix_of_prefix old now new so_far.grown longer

  formed_first : IsWellFormed old
  formed_first = formed_before old now so_far.grown wf

  is_now : IsRow now width r
  is_now = is_row_grows old now so_far.grown formed_first width r is

  is_later : IsRow new width r
  is_later = is_row_grows old new far formed_first width r is

  -- where the terms are from, with the row
  abbrev Source : Term → Type 0
  Source = TermOfRows old (done ++ r ∷ [])

  wider : (t : Term) → TermOfRows old done t → Source t
  wider t = rows_among old done (done ++ r ∷ []) t (λ x h. Contains-append_left done (r ∷ []) x h)

  own : RowFrom old Source r
  own = row_itself old (done ++ r ∷ []) r (Contains-push done r)

  from_before : RowsFrom new before Source
  from_before = rows_later now new longer wf width Source before so_far.each (rows_wider now (TermOfRows old done) Source wider before so_far.from)

  each_before : All (IsRow new width) before
  each_before = All-weaker (IsRow now width) (IsRow new width) (is_row_grows now new longer wf width) before so_far.each

  values_before : (v : World) → SameSet (value_of_rows new v before) (value_of_rows old v done)
  values_before v = subst (λ l. SameSet l (value_of_rows old v done)) (sym (value_grows now new longer v width before so_far.each)) (so_far.values v)

  row_stays : (v : World) → value_of_rows new v (r ∷ []) ≡ value_of_rows old v (r ∷ [])
  row_stays v = value_grows old new far v width (r ∷ []) (All-cons (IsRow old width) r [] is (All-nil (IsRow old width)))

  both_values : (v : World) → SameSet (value_of_rows new v before ++ value_of_rows new v (r ∷ [])) (value_of_rows old v (done ++ r ∷ []))
  both_values v =
      subst (λ l. SameSet (value_of_rows new v before ++ value_of_rows new v (r ∷ [])) l) (sym (value-append old v done (r ∷ [])))
      (same_set-append (value_of_rows new v before) (value_of_rows old v done) (value_of_rows new v (r ∷ [])) (value_of_rows old v (r ∷ [])) (values_before v)
      (subst (λ l. SameSet (value_of_rows new v (r ∷ [])) l) (row_stays v) (same_set_itself (value_of_rows new v (r ∷ [])))))

  order_before : cells_of new before ≡ firsts same_cells (cells_of old done)
  order_before = cells_grow now new longer width before so_far.each ∙ so_far.order

  terms_stay : map (term_at new) r.cells ≡ map (term_at old) r.cells
  terms_stay = terms_grow old new far r.cells is.terms

  distinct_before : IsDistinct same_cells (cells_of new before)
  distinct_before = subst (IsDistinct same_cells) (sym (cells_grow now new longer width before so_far.each)) so_far.distinct

  -- whether the cells stood there before, said of the cells that were done
  stood : (b : Bool) → list_any (same_cells (map (term_at now) r.cells)) (cells_of now before) ≡ b → list_any (same_cells (map (term_at old) r.cells)) (cells_of old done) ≡ b
  stood b e =
      sym (any_first same_cells cells_equiv (map (term_at old) r.cells) (cells_of old done))
      ∙ ap (λ cs. list_any (same_cells (map (term_at old) r.cells)) cs) (sym so_far.order)
      ∙ ap (λ c. list_any (same_cells c) (cells_of now before)) (sym (terms_grow old now so_far.grown r.cells is.terms)) ∙ e

  done_more : cells_of old (done ++ r ∷ []) ≡ cells_of old done ++ map (term_at old) r.cells ∷ []
  done_more = map_push (λ (r : CRow). map (term_at old) r.cells) done r

  last : (All (λ x. x.cells ≢ r.cells) before) → Gathers old new width (done ++ r ∷ []) (before ++ r ∷ [])
  last others = record {
    grown = far;
    each = All-push (IsRow new width) before r each_before is_later;
    distinct = subst (IsDistinct same_cells) (sym (cells_grow now new longer width (before ++ r ∷ []) (All-push (IsRow now width) before r so_far.each is_now)))
        (subst (IsDistinct same_cells) (sym (map_push (λ (r : CRow). map (term_at now) r.cells) before r))
        (IsDistinct-push cells_equiv (cells_of now before) (map (term_at now) r.cells) so_far.distinct
        (apart_cells now wf width before r so_far.each is_now others)));
    values = λ v. subst (λ l. SameSet l (value_of_rows old v (done ++ r ∷ []))) (sym (value-append new v before (r ∷ []))) (both_values v);
    order =
        map_push (λ (r : CRow). map (term_at new) r.cells) before r
        ∙ (λ i. order_before i ++ terms_stay i ∷ [])
        ∙ sym (firsts_new same_cells cells_equiv (cells_of old done) (map (term_at old) r.cells)
        (stood false (apart_cells now wf width before r so_far.each is_now others)))
        ∙ ap (firsts same_cells) (sym done_more);
    from = All-push (RowFrom new Source) before r from_before (row_later old new far formed_first width Source r is own);
  }

  joined : (i c : ℕ) → i < length before → (get_or before i r).cells ≡ r.cells → HasTruth new c (or_at now (get_or before i r).cond r.cond)
      → TermsFrom new c (BelowEither now (get_or before i r).cond r.cond) → Gathers old new width (done ++ r ∷ []) (set before i (record { cells = r.cells; cond = c }))
  joined i c lt same h either = record {
    grown = far;
    each = All-set (IsRow new width) before i (record { cells = r.cells; cond = c })
        (record {
          terms = is_later.terms;
          condition = h.class;
          width_is = is.width_is;
          plain = All-cons (HasNoColumn new) c r.cells none (All-tail (HasNoColumn new) r.cond r.cells is_later.plain);
        }) each_before;
    distinct = subst (IsDistinct same_cells) (sym (set_cells new before i r c lt same)) distinct_before;
    values = λ v t. set_has new v before i r c t lt same (truth v)
        ∙ ap (λ b. has_tuple (value_of_rows new v before) t || b) (sym (has_one new v r t))
        ∙ sym (has_tuple-append (value_of_rows new v before) (value_of_rows new v (r ∷ [])) t) ∙ both_values v t;
    order =
        set_cells new before i r c lt same ∙ order_before
        ∙ sym (firsts_known same_cells cells_equiv (cells_of old done) (map (term_at old) r.cells) (stood true (there_cells now before i r lt same)))
        ∙ ap (firsts same_cells) (sym done_more);
    from = All-set (RowFrom new Source) before i (record { cells = r.cells; cond = c })
        (under_from old new far formed_first width Source r c is own (from_two now new first.cond r.cond c Source
        (λ t x. wider t (All-head (λ p. TermsFrom now p (TermOfRows old done)) first.cond first.cells (All-get_or (RowFrom now (TermOfRows old done)) before i r lt so_far.from) t x))
        (All-head (λ p. TermsFrom now p Source) r.cond r.cells (row_later old now so_far.grown formed_first width Source r is own)) either)) from_before;
  } where
    first : CRow
    first = get_or before i r

    none : HasNoColumn new c
    none k x = elim (either (term.Column k) x) [
      | inl a ↦ All-head (HasNoColumn now) first.cond first.cells (All-get_or (IsRow now width) before i r lt so_far.each).plain k a
      | inr b ↦ All-head (HasNoColumn now) r.cond r.cells is_now.plain k b
    ]

    truth : (v : World) → holds_at v (condition_at new c) ≡ (holds_at v (condition_at new (get_or before i r).cond) || holds_at v (condition_at new r.cond))
    truth v =
        h.truth_is v []
        ∙ sym (λ j. holds_at v (condition_in_prefix now new (get_or before i r).cond longer (place_within now class.Cond (get_or before i r).cond (All-get_or (IsRow now width) before i r lt so_far.each).condition) j)
        || holds_at v (condition_in_prefix now new r.cond longer (place_within now class.Cond r.cond is_now.condition) j))

  pub gathers_more : (after : List CRow) → Merged now new before r after → Gathers old new width (done ++ r ∷ []) after
  gathers_more after (put_last others) = last others
  gathers_more after (into i c lt same h either) = joined i c lt same h either

pub gathers_none : (old : List ℕ) (width : ℕ) → Gathers old old width [] []
unfolding IsDistinct
gathers_none old width = record { grown = prefix_same old; each = All-nil _; distinct = tt; values = λ v t. refl; order = refl; from = All-nil _ }

-- a row under the word false is worth nothing
thin_value : (ws : List ℕ) (v : World) → holds_at v (condition_at ws 1) ≡ false → (rs : List CRow) → value_of_rows ws v (filter is_possible rs) ≡ value_of_rows ws v rs
thin_value ws v never [] = refl
thin_value ws v never (x ∷ rs) = by_test (nat_eq x.cond 1) refl (thin_value ws v never rs) where
  by_test : (b : Bool) → nat_eq x.cond 1 ≡ b → value_of_rows ws v (filter is_possible rs) ≡ value_of_rows ws v rs → value_of_rows ws v (filter is_possible (x ∷ rs)) ≡ value_of_rows ws v (x ∷ rs)
  by_test true p later =
      ap (λ b. value_of_rows ws v (cond (not b) (x ∷ filter is_possible rs) (filter is_possible rs))) p
      ∙ later
      ∙ sym (value-append ws v (x ∷ []) rs ∙ ap (λ l. l ++ value_of_rows ws v rs) (one_shown v (plain_crow ws x) false (ap (λ q. holds_at v (condition_at ws q)) (eqb-true x.cond 1 p) ∙ never)))
  by_test false p later =
      ap (λ b. value_of_rows ws v (cond (not b) (x ∷ filter is_possible rs) (filter is_possible rs))) p
      ∙ value-append ws v (x ∷ []) (filter is_possible rs) ∙ ap (λ l. value_of_rows ws v (x ∷ []) ++ l) later ∙ sym (value-append ws v (x ∷ []) rs)

thin_cells : (ws : List ℕ) (rs : List CRow) → IsSublist (cells_of ws (filter is_possible rs)) (cells_of ws rs)
thin_cells ws rs = sublist-map (λ (r : CRow). map (term_at ws) r.cells) _ _ (filtered_part is_possible rs)

thin_possible : (rs : List CRow) → All (λ r. r.cond ≢ 1) (filter is_possible rs)
thin_possible rs =
    All-weaker (λ (r : CRow). is_possible r ≡ true) (λ r. r.cond ≢ 1) (λ r p. eqb-false r.cond 1 (not-true (nat_eq r.cond 1) p)) (filter is_possible rs) (filter_passes is_possible rs)

pub gathers_all : (old now : List ℕ) (width n : ℕ) (all out : List CRow) → length all ≤ n → Gathers old now width (take n all) out → Gathers old now width all out
gathers_all old now width n all out le s = subst (λ d. Gathers old now width d out) (take_all n all le) s

-- what is left without the rows under the word false
module _ (old now : List ℕ) (width : ℕ) (done out : List CRow) (begins : IsPrefix opening now) (wf : IsWellFormed now) (s : Gathers old now width done out) where
  pub kept_rows : AreRows now width (filter is_possible out)
  kept_rows = record {
    each = All-filter is_possible (IsRow now width) out s.each;
    distinct = distinct_part same_cells _ _ (thin_cells now out) s.distinct;
    possible = thin_possible out;
  }

  pub kept_values : (v : World) → SameSet (value_of_rows now v (filter is_possible out)) (value_of_rows old v done)
  kept_values v = subst (λ l. SameSet l (value_of_rows old v done)) (sym (thin_value now v ((false_at now begins wf).truth_is v []) out)) (s.values v)

  pub kept_order : IsSublist (cells_of now (filter is_possible out)) (firsts same_cells (cells_of old done))
  kept_order = subst (IsSublist (cells_of now (filter is_possible out))) s.order (thin_cells now out)

  pub kept_from : RowsFrom now (filter is_possible out) (TermOfRows old done)
  kept_from = All-filter is_possible (RowFrom now (TermOfRows old done)) out s.from

-- a condition goes into the entry of its cells
into_entry : (cells : List ℕ) (first both : ℕ) (d : CRow) (es : List (List ℕ × ℕ)) → lookup (same_text cells) es ≡ Some first
    → (i : ℕ) × (i < length (rows_of es)) × ((get_or (rows_of es) i d).cells ≡ cells) × ((get_or (rows_of es) i d).cond ≡ first)
    × (rows_of (insert_entry (pointwise nat_eq) es cells both) ≡ set (rows_of es) i (record { cells = cells; cond = both }))
into_entry cells first both d [] e = let bad : None ≡ Some first = e in cc
into_entry cells first both d (x ∷ es) e = by_test (same_text cells x.0) refl (into_entry cells first both d es) where
  by_test : (b : Bool) → same_text cells x.0 ≡ b
      → (lookup (same_text cells) es ≡ Some first → (i : ℕ) × (i < length (rows_of es)) × ((get_or (rows_of es) i d).cells ≡ cells) × ((get_or (rows_of es) i d).cond ≡ first)
      × (rows_of (insert_entry (pointwise nat_eq) es cells both) ≡ set (rows_of es) i (record { cells = cells; cond = both })))
      → (i : ℕ) × (i < length (rows_of (x ∷ es))) × ((get_or (rows_of (x ∷ es)) i d).cells ≡ cells) × ((get_or (rows_of (x ∷ es)) i d).cond ≡ first)
      × (rows_of (insert_entry (pointwise nat_eq) (x ∷ es) cells both) ≡ set (rows_of (x ∷ es)) i (record { cells = cells; cond = both }))
  by_test true p later =
      let n : cells ≡ x.0 = (text_decides cells x.0).0 p in
      let same : Some x.1 ≡ Some first = sym (ap (λ b. cond b (Some x.1) (lookup (same_text cells) es)) p) ∙ e in
      let is : x.1 ≡ first = cc in (
        0,
        omega arith,
        sym n,
        is,
        ap (λ b. rows_of (if b then (x.0, both) ∷ es else x ∷ insert_entry (pointwise nat_eq) es cells both)) p
            ∙ (λ i. record { cells = sym n i; cond = both } ∷ rows_of es),
      )
  by_test false p later =
      let found = later (sym (ap (λ b. cond b (Some x.1) (lookup (same_text cells) es)) p) ∙ e) in (
        suc found.0,
        omega arith,
        found.2,
        found.3,
        ap (λ b. rows_of (if b then (x.0, both) ∷ es else x ∷ insert_entry (pointwise nat_eq) es cells both)) p
            ∙ ap (λ l. record { cells = x.0; cond = x.1 } ∷ l) found.4,
      )

-- the condition of an entry that was found
pub found_condition : (ws : List ℕ) (width : ℕ) (cells : List ℕ) (first : ℕ) (es : List (List ℕ × ℕ)) → All (IsRow ws width) (rows_of es) → lookup (same_text cells) es ≡ Some first
    → IsTrue (is_place_of ws class.Cond first)
found_condition ws width cells first es each e =
    let r : CRow = record { cells = cells; cond = first } in
    let found = into_entry cells first first r es e in
    subst (λ k. IsTrue (is_place_of ws class.Cond k)) found.3 (All-get_or (IsRow ws width) (rows_of es) found.0 r found.1 each).condition

pub entry_merged : (old new cells : List ℕ) (c first both : ℕ) (es : List (List ℕ × ℕ)) → lookup (same_text cells) es ≡ Some first → HasTruth new both (or_at old first c)
    → TermsFrom new both (BelowEither old first c) → Merged old new (rows_of es) (record { cells = cells; cond = c }) (rows_of (insert_entry (pointwise nat_eq) es cells both))
entry_merged old new cells c first both es e h either =
    let r : CRow = record { cells = cells; cond = c } in
    let found = into_entry cells first both r es e in
    subst (Merged old new (rows_of es) r) (sym found.4)
    (into found.0 both found.1 found.2 (subst (λ k. HasTruth new both (or_at old k c)) (sym found.3) h)
    (subst (λ k. TermsFrom new both (BelowEither old k c)) (sym found.3) either))

-- a condition put for cells, and another one in its place, is as if the other one had been put for them
put_again : (cells : List ℕ) (c both : ℕ) (es : List (List ℕ × ℕ))
    → set_value_at (insert_entry (pointwise nat_eq) es cells c) (position_or_len (pointwise nat_eq cells) (keys_of es)) both ≡ insert_entry (pointwise nat_eq) es cells both
put_again cells c both [] = refl
put_again cells c both (x ∷ es) = by_test (pointwise nat_eq cells x.0) (put_again cells c both es) where
  by_test : (b : Bool) → set_value_at (insert_entry (pointwise nat_eq) es cells c) (position_or_len (pointwise nat_eq cells) (keys_of es)) both ≡ insert_entry (pointwise nat_eq) es cells both
      → set_value_at (if b then (x.0, c) ∷ es else x ∷ insert_entry (pointwise nat_eq) es cells c) (cond (not b) (1 + position_or_len (pointwise nat_eq cells) (keys_of es)) 0) both
      ≡ (if b then (x.0, both) ∷ es else x ∷ insert_entry (pointwise nat_eq) es cells both)
  by_test true later = refl
  by_test false later =
      let next : 1 + position_or_len (pointwise nat_eq cells) (keys_of es) ≡ suc (position_or_len (pointwise nat_eq cells) (keys_of es)) = omega arith in
      ap (λ n. set_value_at (x ∷ insert_entry (pointwise nat_eq) es cells c) n both) next ∙ ap (λ l. x ∷ l) later

pub entry_again : (cells : List ℕ) (c both place : ℕ) (es put : List (List ℕ × ℕ)) → put ≡ insert_entry (pointwise nat_eq) es cells c → place ≡ position_or_len (pointwise nat_eq cells) (keys_of es)
    → set_value_at put place both ≡ insert_entry (pointwise nat_eq) es cells both
entry_again cells c both place es put is at = (λ i. set_value_at (is i) (at i) both) ∙ put_again cells c both es

-- new cells get an entry of their own
last_entry : (cells : List ℕ) (c : ℕ) (es : List (List ℕ × ℕ)) → lookup (same_text cells) es ≡ None
    → All (λ x. x.cells ≢ cells) (rows_of es) × (rows_of (insert_entry (pointwise nat_eq) es cells c) ≡ rows_of es ++ record { cells = cells; cond = c } ∷ [])
last_entry cells c [] e = (All-nil (λ x. x.cells ≢ cells), refl)
last_entry cells c (x ∷ es) e = by_test (same_text cells x.0) refl (last_entry cells c es) where
  by_test : (b : Bool) → same_text cells x.0 ≡ b
      → (lookup (same_text cells) es ≡ None → All (λ x. x.cells ≢ cells) (rows_of es) × (rows_of (insert_entry (pointwise nat_eq) es cells c) ≡ rows_of es ++ record { cells = cells; cond = c } ∷ []))
      → All (λ x. x.cells ≢ cells) (rows_of (x ∷ es)) × (rows_of (insert_entry (pointwise nat_eq) (x ∷ es) cells c) ≡ rows_of (x ∷ es) ++ record { cells = cells; cond = c } ∷ [])
  by_test true p later = let bad : Some x.1 ≡ None = sym (ap (λ b. cond b (Some x.1) (lookup (same_text cells) es)) p) ∙ e in cc
  by_test false p later =
      let rest = later (sym (ap (λ b. cond b (Some x.1) (lookup (same_text cells) es)) p) ∙ e) in (
        All-cons (λ x. x.cells ≢ cells) (record { cells = x.0; cond = x.1 }) (rows_of es) (λ q. false≢true (sym p ∙ (text_decides cells x.0).1 (sym q))) rest.0,
        ap (λ b. rows_of (if b then (x.0, c) ∷ es else x ∷ insert_entry (pointwise nat_eq) es cells c)) p
            ∙ ap (λ l. record { cells = x.0; cond = x.1 } ∷ l) rest.1,
      )

pub entry_put : (old new cells : List ℕ) (c : ℕ) (es : List (List ℕ × ℕ)) → lookup (same_text cells) es ≡ None
    → Merged old new (rows_of es) (record { cells = cells; cond = c }) (rows_of (insert_entry (pointwise nat_eq) es cells c))
entry_put old new cells c es e =
    let r : CRow = record { cells = cells; cond = c } in
    let last = last_entry cells c es e in
    subst (Merged old new (rows_of es) r) (sym last.1) (put_last last.0)

-- the cells of a row are among those of others, said of places and of the terms that they stand for
known_terms : (ws : List ℕ) → IsWellFormed ws → (width : ℕ) (rs : List CRow) (r : CRow) → All (IsRow ws width) rs → IsRow ws width r
    → list_any (λ x. same_text r.cells x.cells) rs ≡ list_any (same_cells (map (term_at ws) r.cells)) (cells_of ws rs)
known_terms ws wf width [] r each is = refl
known_terms ws wf width (x ∷ rs) r each is =
    λ i. same_from_decides (same_text r.cells x.cells) (same_cells (map (term_at ws) r.cells) (map (term_at ws) x.cells)) (text_decides r.cells x.cells) (
      λ e. same_places ws wf r.cells x.cells is.terms (All-head (IsRow ws width) x rs each).terms ((cells_decide (map (term_at ws) r.cells) (map (term_at ws) x.cells)).0 e),
      λ e. (cells_decide (map (term_at ws) r.cells) (map (term_at ws) x.cells)).1 (ap (map (term_at ws)) e),
    ) i
    || known_terms ws wf width rs r (All-tail (IsRow ws width) x rs each) is i

-- one row more: its cells are known, or there is one more first one
known_counts : (old now : List ℕ) (width : ℕ) (done rows : List CRow) → Gathers old now width done rows → IsWellFormed now → (r : CRow) → IsRow old width r
    → length (firsts same_cells (cells_of old (done ++ r ∷ []))) + known r.cells rows ≡ length (firsts same_cells (cells_of old done)) + 1
known_counts old now width done rows so_far wf r is = by_case (list_any (λ x. same_text r.cells x.cells) rows) refl where
  cells : List Term
  cells = map (term_at old) r.cells

  done_too : cells_of old (done ++ r ∷ []) ≡ cells_of old done ++ cells ∷ []
  done_too = map_push (λ (r : CRow). map (term_at old) r.cells) done r

  there : (b : Bool) → list_any (λ x. same_text r.cells x.cells) rows ≡ b → list_any (same_cells cells) (cells_of old done) ≡ b
  there b e =
      stood old now now width done rows so_far (prefix_same now) wf r is b
      (sym (known_terms now wf width rows r so_far.each (is_row_grows old now so_far.grown (formed_before old now so_far.grown wf) width r is)) ∙ e)

  by_case : (b : Bool) → list_any (λ x. same_text r.cells x.cells) rows ≡ b
      → length (firsts same_cells (cells_of old (done ++ r ∷ []))) + known r.cells rows ≡ length (firsts same_cells (cells_of old done)) + 1
  by_case true e =
      (λ i. length (firsts same_cells (done_too i)) + (if e i then 1 else 0))
      ∙ ap (λ l. length l + 1) (firsts_known same_cells cells_equiv (cells_of old done) cells (there true e))
  by_case false e =
      let long : length (firsts same_cells (cells_of old done ++ cells ∷ [])) ≡ length (firsts same_cells (cells_of old done)) + 1 =
      ap (λ l. length l) (firsts_new same_cells cells_equiv (cells_of old done) cells (there false e)) ∙ length_push (firsts same_cells (cells_of old done)) cells in
      let none : length (firsts same_cells (cells_of old done ++ cells ∷ [])) + 0 ≡ length (firsts same_cells (cells_of old done)) + 1 = omega (arith, long) in
      (λ i. length (firsts same_cells (done_too i)) + (if e i then 1 else 0)) ∙ none

-- cells have an entry where they are those of one of the rows
pub known_entry : (cells : List ℕ) (es : List (List ℕ × ℕ)) → known cells (rows_of es) ≡ (if is_some (lookup (same_text cells) es) then 1 else 0)
known_entry cells es = ap (λ b. if b then 1 else 0) (entry es) where
  entry : (es : List (List ℕ × ℕ)) → list_any (λ x. same_text cells x.cells) (rows_of es) ≡ is_some (lookup (same_text cells) es)
  entry [] = refl
  entry (x ∷ es) = by_test (same_text cells x.0) (entry es) where
    by_test : (b : Bool) → list_any (λ x. same_text cells x.cells) (rows_of es) ≡ is_some (lookup (same_text cells) es)
        → (b || list_any (λ x. same_text cells x.cells) (rows_of es)) ≡ is_some (cond b (Some x.1) (lookup (same_text cells) es))
    by_test true later = refl
    by_test false later = later

-- of all rows there are at most as many more first ones as there are more rows
first_rows : (old : List ℕ) (k : ℕ) (rows : List CRow)
    → length (firsts same_cells (cells_of old rows)) + length (take k rows) ≤ length (firsts same_cells (cells_of old (take k rows))) + length rows
first_rows old k rows =
    let split : cells_of old rows ≡ cells_of old (take k rows) ++ cells_of old (drop k rows) =
    ap (cells_of old) (sym (take-append-drop k rows)) ∙ map-append (λ (r : CRow). map (term_at old) r.cells) (take k rows) (drop k rows) in
    let long : length rows ≡ length (take k rows) + length (drop k rows) = ap (λ l. length l) (sym (take-append-drop k rows)) ∙ length-append (take k rows) (drop k rows) in
    let each : length (cells_of old (drop k rows)) ≡ length (drop k rows) = length-map (drop k rows) (λ (r : CRow). map (term_at old) r.cells) in
    let same : length (firsts same_cells (cells_of old rows)) ≡ length (firsts same_cells (cells_of old (take k rows) ++ cells_of old (drop k rows))) =
    ap (λ cs. length (firsts same_cells cs)) split in
    omega (arith, long, (firsts_long same_cells cells_equiv (cells_of old (take k rows)) (cells_of old (drop k rows))).1, each, same)

-- of the first rows there are no more that repeat an earlier one than of all
pub repeats_within : (old : List ℕ) (k : ℕ) (rows : List CRow) → repeats old (take k rows) ≤ repeats old rows
repeats_within old k rows = omega (arith, first_rows old k rows)

-- one row more: it is one of them where its cells are known
pub repeats_more : (old now : List ℕ) (width : ℕ) (done rows : List CRow) → Gathers old now width done rows → IsWellFormed now → (r : CRow) → IsRow old width r
    → repeats old done + known r.cells rows ≤ repeats old (done ++ r ∷ [])
repeats_more old now width done rows so_far wf r is = omega (arith, known_counts old now width done rows so_far wf r is, length_push done r, first_rows old 0 done)
