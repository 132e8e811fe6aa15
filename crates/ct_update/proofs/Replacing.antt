-- Rows that take the places of others.
use Rattle.std.proofs.Common.{◌≡◌, ℕ, zero, suc, ◌+◌, ◌<◌, Bool, true, false, not, List, [], ◌∷◌, ◌++◌, map, length, take, get_or, set, cond, refl, ap, sym, subst, ◌∙◌, arith}
use Rattle.std.{specs.Prelude.{◌≢◌, All, nat_eq}, specs.List.{IsDistinct, AllByRecursion, filter}, proofs.Math.Seq.set-append_seam}
use Rattle.std.proofs.lemmas.{Bool.{eqb-true, eqb-false, not-true}, List.{set-append_left, length-set, take_more, length-take-le}, Map.Keys.{IsDistinct-head, IsDistinct-tail, IsDistinct-cons}}
use Rattle.std.proofs.lemmas.List.Elements.{All-nil, All-head, All-tail, All-weaker, All-push, All-filter, filter_passes}
use Rattle.ct_word.{specs.declared.values.Term.Term, specs.declared.values.CRow.CRow, specs.Value.{same_cells}, specs.Sublist.IsSublist, specs.Reading.term_at, specs.WellFormed.{IsWellFormed}, proofs.Alike.cells_decide}
use Rattle.ct_query.specs.Updates.{with_items}
use Rattle.ct_operators.{specs.Tables.{cells_of, value_of_rows, IsRow}, specs.Merging.{IsGathered, is_possible}, proofs.Merges.{cells_equiv, same_places}, proofs.Firsts.firsts_distinct, proofs.Reaching.rows_itself}
use Rattle.ct_query.proofs.Sets.{same_set_itself}
use Rattle.ct_query.proofs.Sublists.{all_of}
use Rattle.ct_update.{specs.Updating.{halves_of, all_halves, updated_places}, specs.Revising.AreReplaced, proofs.Updates.{items_more, items_long, items_all, halves_more}}

-- items that are put before the end of a list
pub items_front : {A : Type 0} (es : List (ℕ × A)) (xs ys : List A) → All (λ e. e.0 < length xs) es → with_items es (xs ++ ys) ≡ with_items es xs ++ ys
items_front [] xs ys within = refl
items_front {A} (e ∷ es) xs ys within =
    ap (with_items es) (set-append_left xs ys e.0 e.1 (All-head (λ (e : ℕ × A). e.0 < length xs) e es within))
    ∙ items_front es (set xs e.0 e.1) ys (subst (λ n. All (λ (e : ℕ × A). e.0 < n) es) (sym (length-set xs e.0 e.1)) (All-tail (λ (e : ℕ × A). e.0 < length xs) e es within))

-- and one that is put last
pub items_last : {A : Type 0} (es : List (ℕ × A)) (xs : List A) (x y : A) (n : ℕ) → n ≡ length xs → All (λ e. e.0 < length xs) es → with_items (es ++ (n, y) ∷ []) (xs ++ x ∷ []) ≡ with_items es xs ++ y ∷ []
items_last es xs x y n e within =
    items_more es (n, y) (xs ++ x ∷ [])
    ∙ (λ i. set (items_front es xs (x ∷ []) within i) ((e ∙ sym (items_long es xs)) i) y)
    ∙ set-append_seam (with_items es xs) x [] y

-- of two rows that come of one, the first alone is possible, or the second
pub first_possible : (x y : CRow) → x.cond ≢ 1 → y.cond ≡ 1 → filter is_possible (x ∷ y ∷ []) ≡ x ∷ []
first_possible x y some none = by_tests (nat_eq x.cond 1) (nat_eq y.cond 1) refl refl where
  by_tests : (a b : Bool) → nat_eq x.cond 1 ≡ a → nat_eq y.cond 1 ≡ b → filter is_possible (x ∷ y ∷ []) ≡ x ∷ []
  by_tests true b p q = absurd (some (eqb-true x.cond 1 p))
  by_tests false true p q = λ i. cond (not (p i)) (x ∷ cond (not (q i)) (y ∷ []) []) (cond (not (q i)) (y ∷ []) [])
  by_tests false false p q = absurd (eqb-false y.cond 1 q none)

pub second_possible : (x y : CRow) → x.cond ≡ 1 → y.cond ≢ 1 → filter is_possible (x ∷ y ∷ []) ≡ y ∷ []
second_possible x y none some = by_tests (nat_eq x.cond 1) (nat_eq y.cond 1) refl refl where
  by_tests : (a b : Bool) → nat_eq x.cond 1 ≡ a → nat_eq y.cond 1 ≡ b → filter is_possible (x ∷ y ∷ []) ≡ y ∷ []
  by_tests true false p q = λ i. cond (not (p i)) (x ∷ cond (not (q i)) (y ∷ []) []) (cond (not (q i)) (y ∷ []) [])
  by_tests true true p q = absurd (some (eqb-true y.cond 1 q))
  by_tests false b p q = absurd (eqb-false x.cond 1 p none)

-- cells that differ from those of all rows, in the place of one of them
module _ (ws : List ℕ) (formed : IsWellFormed ws) (width : ℕ) (r : CRow) (is : IsRow ws width r) where
  abbrev Differ : List Term → Type 0
  Differ y = same_cells (map (term_at ws) r.cells) y ≡ false

  differ : (x : CRow) → IsRow ws width x → x.cells ≢ r.cells → Differ (map (term_at ws) x.cells)
  differ x it other = by_test (same_cells (map (term_at ws) r.cells) (map (term_at ws) x.cells)) refl where
    by_test : (b : Bool) → same_cells (map (term_at ws) r.cells) (map (term_at ws) x.cells) ≡ b → b ≡ false
    by_test false p = refl
    by_test true p = absurd (other (sym (same_places ws formed r.cells x.cells is.terms it.terms ((cells_decide (map (term_at ws) r.cells) (map (term_at ws) x.cells)).0 p))))

  all_differ : (rs : List CRow) → All (IsRow ws width) rs → All (λ x. x.cells ≢ r.cells) rs → AllByRecursion Differ (cells_of ws rs)
  all_differ [] each others = tt
  all_differ (x ∷ rs) each others = (
    differ x (All-head (IsRow ws width) x rs each) (All-head (λ (x : CRow). x.cells ≢ r.cells) x rs others),
    all_differ rs (All-tail (IsRow ws width) x rs each) (All-tail (λ (x : CRow). x.cells ≢ r.cells) x rs others),
  )

  set_apart : (x : CRow) → IsRow ws width x → x.cells ≢ r.cells → (rs : List CRow) (i : ℕ) → AllByRecursion (λ y. same_cells (map (term_at ws) x.cells) y ≡ false) (cells_of ws rs)
      → AllByRecursion (λ y. same_cells (map (term_at ws) x.cells) y ≡ false) (cells_of ws (set rs i r))
  set_apart x it other [] i a = a
  set_apart x it other (z ∷ rs) zero a = (cells_equiv.symm (map (term_at ws) x.cells) (map (term_at ws) r.cells) ∙ differ x it other, a.1)
  set_apart x it other (z ∷ rs) (suc i) a = (a.0, set_apart x it other rs i a.1)

  pub set_distinct : (rs : List CRow) (i : ℕ) → All (IsRow ws width) rs → All (λ x. x.cells ≢ r.cells) rs → IsDistinct same_cells (cells_of ws rs) → IsDistinct same_cells (cells_of ws (set rs i r))
  set_distinct [] i each others d = d
  set_distinct (x ∷ rs) zero each others d =
      IsDistinct-cons same_cells (map (term_at ws) r.cells) (cells_of ws rs)
      (all_differ rs (All-tail (IsRow ws width) x rs each) (All-tail (λ (x : CRow). x.cells ≢ r.cells) x rs others))
      (IsDistinct-tail same_cells (map (term_at ws) x.cells) (cells_of ws rs) d)
  set_distinct (x ∷ rs) (suc i) each others d =
      IsDistinct-cons same_cells (map (term_at ws) x.cells) (cells_of ws (set rs i r))
      (set_apart x (All-head (IsRow ws width) x rs each) (All-head (λ (x : CRow). x.cells ≢ r.cells) x rs others) rs i (IsDistinct-head same_cells (map (term_at ws) x.cells) (cells_of ws rs) d))
      (set_distinct rs i (All-tail (IsRow ws width) x rs each) (All-tail (λ (x : CRow). x.cells ≢ r.cells) x rs others) (IsDistinct-tail same_cells (map (term_at ws) x.cells) (cells_of ws rs) d))

-- the rows so far that take the places of others
pub record ReplacedSo (ws : List ℕ) (width : ℕ) (sets : List (ℕ × ℕ)) (n : ℕ) (rows : List CRow) (conds : List (ℕ × ℕ)) (edits : List (ℕ × CRow)) : Type 0 where
  pub within : All (λ e. e.0 < n) edits
  pub each : All (λ e. IsRow ws width e.1) edits
  pub are : with_items edits (take n rows) ≡ filter is_possible (all_halves ws sets (take n rows) (take n conds))
  pub distinct : IsDistinct same_cells (cells_of ws (with_items edits rows))

pub replaced_none : (ws : List ℕ) (width : ℕ) (sets : List (ℕ × ℕ)) (rows : List CRow) (conds : List (ℕ × ℕ)) → IsDistinct same_cells (cells_of ws rows) → ReplacedSo ws width sets 0 rows conds []
replaced_none ws width sets rows conds d = record { within = All-nil _; each = All-nil _; are = refl; distinct = d }

module _ (ws : List ℕ) (formed : IsWellFormed ws) (width : ℕ) (sets : List (ℕ × ℕ)) (n : ℕ) (rows : List CRow) (conds : List (ℕ × ℕ)) (edits : List (ℕ × CRow)) (s : ReplacedSo ws width sets n rows conds edits)
    (long : length conds ≡ length rows) (lt : n < length rows) (r : CRow) (is : r ≡ get_or rows n r) (b : ℕ × ℕ) (are_conds : b ≡ get_or conds n b) where
  so_long : length (take n rows) ≡ n
  so_long = length-take-le n rows (omega (arith, lt))

  one_more : take (n + 1) rows ≡ take n rows ++ r ∷ []
  one_more = take_more rows n r lt ∙ ap (λ x. take n rows ++ x ∷ []) (sym is)

  inside : All (λ (e : ℕ × CRow). e.0 < length (take n rows)) edits
  inside = subst (λ m. All (λ (e : ℕ × CRow). e.0 < m) edits) (sym so_long) s.within

  further : All (λ (e : ℕ × CRow). e.0 < n + 1) edits
  further = All-weaker (λ (e : ℕ × CRow). e.0 < n) (λ e. e.0 < n + 1) (λ e l. omega (arith, l)) edits s.within

  more_halves : filter is_possible (all_halves ws sets (take (n + 1) rows) (take (n + 1) conds)) ≡ filter is_possible (all_halves ws sets (take n rows) (take n conds)) ++ filter is_possible (halves_of ws sets r b)
  more_halves = halves_more ws sets n rows conds long lt r is b are_conds

  -- a row that stays
  pub replaced_same : r.cond ≢ 1 → b.0 ≡ r.cond → b.1 ≡ 1 → ReplacedSo ws width sets (n + 1) rows conds edits
  replaced_same possible stays goes = record {
    within = further;
    each = s.each;
    are = ap (with_items edits) one_more ∙ items_front edits (take n rows) (r ∷ []) inside
        ∙ (λ i. s.are i ++ record { cells = r.cells; cond = sym stays i } ∷ [])
        ∙ sym (more_halves ∙ ap (λ l. filter is_possible (all_halves ws sets (take n rows) (take n conds)) ++ l)
        (first_possible (record { cells = r.cells; cond = b.0 }) (record { cells = updated_places ws sets r.cells; cond = b.1 }) (λ e. possible (sym stays ∙ e)) goes));
    distinct = s.distinct;
  }

  -- one that the sets leave as it is
  pub replaced_unchanged : r.cond ≢ 1 → b.0 ≡ 1 → b.1 ≡ r.cond → updated_places ws sets r.cells ≡ r.cells → ReplacedSo ws width sets (n + 1) rows conds edits
  replaced_unchanged possible stays goes made = record {
    within = further;
    each = s.each;
    are = ap (with_items edits) one_more ∙ items_front edits (take n rows) (r ∷ []) inside
        ∙ (λ i. s.are i ++ record { cells = sym made i; cond = sym goes i } ∷ [])
        ∙ sym (more_halves ∙ ap (λ l. filter is_possible (all_halves ws sets (take n rows) (take n conds)) ++ l)
        (second_possible (record { cells = r.cells; cond = b.0 }) (record { cells = updated_places ws sets r.cells; cond = b.1 }) stays (λ e. possible (sym goes ∙ e))));
    distinct = s.distinct;
  }

  -- one that another takes the place of
  pub replaced_other : b.0 ≡ 1 → b.1 ≢ 1 → (cells : List ℕ) → cells ≡ updated_places ws sets r.cells → IsRow ws width (record { cells = cells; cond = b.1 }) → All (IsRow ws width) rows
      → All (λ x. x.cells ≢ cells) rows → All (λ e. e.1.cells ≢ cells) edits → ReplacedSo ws width sets (n + 1) rows conds (edits ++ (n, record { cells = cells; cond = b.1 }) ∷ [])
  replaced_other stays goes cells made new each apart others =
      let y : CRow = record { cells = cells; cond = b.1 } in
      record {
        within = All-push (λ (e : ℕ × CRow). e.0 < n + 1) edits (n, y) further (omega arith);
        each = All-push (λ (e : ℕ × CRow). IsRow ws width e.1) edits (n, y) s.each new;
        are = ap (with_items (edits ++ (n, y) ∷ [])) one_more ∙ items_last edits (take n rows) r y n (sym so_long) inside
            ∙ (λ i. s.are i ++ record { cells = made i; cond = b.1 } ∷ [])
            ∙ sym (more_halves ∙ ap (λ l. filter is_possible (all_halves ws sets (take n rows) (take n conds)) ++ l)
            (second_possible (record { cells = r.cells; cond = b.0 }) (record { cells = updated_places ws sets r.cells; cond = b.1 }) stays goes));
        distinct = subst (λ l. IsDistinct same_cells (cells_of ws l)) (sym (items_more edits (n, y) rows))
            (set_distinct ws formed width y new (with_items edits rows) n (items_all (IsRow ws width) edits rows s.each each) (items_all (λ x. x.cells ≢ cells) edits rows others apart) s.distinct);
      }

-- rows that are possible, and of which no two have the same cells, are gathered of themselves
pub gathered_itself : (ws : List ℕ) (width : ℕ) (rs : List CRow) → All (IsRow ws width) rs → IsDistinct same_cells (cells_of ws rs) → All (λ r. r.cond ≢ 1) rs → IsGathered ws width rs rs
gathered_itself ws width rs each d possible = record {
  are = record { each = each; distinct = d; possible = possible };
  values = λ v. same_set_itself (value_of_rows ws v rs);
  order = subst (IsSublist (cells_of ws rs)) (sym (firsts_distinct same_cells (cells_of ws rs) d)) (all_of (cells_of ws rs));
  from = rows_itself ws rs;
}

-- so are rows that take the places of others
pub replaced_gathers : (ws : List ℕ) (width : ℕ) (sets : List (ℕ × ℕ)) (rows : List CRow) (conds : List (ℕ × ℕ)) (edits : List (ℕ × CRow)) → All (IsRow ws width) (all_halves ws sets rows conds) → AreReplaced ws sets rows conds edits
    → IsGathered ws width (filter is_possible (all_halves ws sets rows conds)) (with_items edits rows)
replaced_gathers ws width sets rows conds edits each s =
    let all = all_halves ws sets rows conds in
    subst (λ l. IsGathered ws width l (with_items edits rows)) s.are
    (gathered_itself ws width (with_items edits rows) (subst (All (IsRow ws width)) (sym s.are) (All-filter is_possible (IsRow ws width) all each)) s.distinct
    (subst (All (λ (r : CRow). r.cond ≢ 1)) (sym s.are)
    (All-weaker (λ (r : CRow). is_possible r ≡ true) (λ r. r.cond ≢ 1) (λ r p. eqb-false r.cond 1 (not-true (nat_eq r.cond 1) p)) (filter is_possible all) (filter_passes is_possible all))))

-- of the words and the conditions that are at hand
pub replaced_over : (ws now : List ℕ) (sets : List (ℕ × ℕ)) (rows : List CRow) (slice conds : List (ℕ × ℕ)) (edits : List (ℕ × CRow)) → ws ≡ now → slice ≡ conds → AreReplaced ws sets rows slice edits → AreReplaced now sets rows conds edits
replaced_over ws now sets rows slice conds edits e f are = subst (λ x. AreReplaced x sets rows conds edits) e (subst (λ x. AreReplaced ws sets rows x edits) f are)
