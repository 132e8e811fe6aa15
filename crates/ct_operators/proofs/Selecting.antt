-- A selection, row by row.
use Rattle.std.proofs.Common.{◌≡◌, ℕ, ◌<◌, Bool, true, false, ◌&&◌, List, [], ◌∷◌, ◌++◌, ◌+◌, map, length, take, cond, get_or, refl, ap, sym, subst, ◌∙◌}
use Rattle.std.{specs.Prelude.{◌≢◌, All, slice_index_or}, specs.List.{IsDistinct, AllByRecursion, Contains, filter}}
use Rattle.std.proofs.lemmas.List.{append-nil, take_more, map_push, map-append, get_or-map, length-map}
use Rattle.std.proofs.lemmas.List.Elements.{All-cons, All-tail, All-push, All-weaker, All-get_or, All-nil, filter-append}
use Rattle.std.proofs.lemmas.Map.Keys.{IsDistinct-head, IsDistinct-tail, IsDistinct-cons}
use Rattle.ct_word.{specs.declared.values.Value.Value, specs.declared.values.Term.Term, specs.declared.values.CRow.CRow, specs.Change.PlainRow}
use Rattle.ct_word.{specs.Value.{World, at, cell_at, other_zero, same_cells, tuple_at}, specs.Sublist.{IsSublist, ended, left_out, taken}}
use Rattle.ct_word.{specs.Condition.holds_at, specs.WellFormed.IsWellFormed, specs.Stands.HasNoColumn, specs.Reading.{term_at, condition_at, plain_crow}}
use Rattle.ct_word.proofs.Prefixes.{prefix_of_prefix, prefix_same}
use Rattle.ct_query.{specs.Database.{SameSet, has_tuple}, specs.Step.shown_rows, proofs.Sublists.{sublist-append, nothing_of, all_of}}
use Rattle.ct_condition.{specs.Terms.TermsFrom, proofs.Reached.formed_before}
use Rattle.ct_operators.{specs.Tables.{cells_of, value_of_rows, IsRow, AreRows}, specs.Terms.{RowFrom, RowsFrom}, specs.Building.HoldsWhere}
use Rattle.ct_operators.{proofs.Reaching.{none_from, rows_later, under_from}, proofs.Growing.{terms_grow, is_row_grows, cells_grow, value_grows}}
use mathlib.Core.List.{IsPrefix}
use Rattle.ct_word.specs.declared.values.Term.TheVariants as term

-- the cell of the tuple that a row stands for
pub cell_of_tuple : (ws : List ℕ) (v : World) (cells : List ℕ) (column : ℕ) → column < length cells
    → cell_at (tuple_at v (map (term_at ws) cells)) column ≡ at v [] (term_at ws (slice_index_or cells column 0))
cell_of_tuple ws v cells column lt =
    get_or-map (at v []) (map (term_at ws) cells) column (term_at ws 0) other_zero (subst (λ n. column < n) (sym (length-map cells (term_at ws))) lt)
    ∙ ap (at v []) (get_or-map (term_at ws) cells column 0 (term_at ws 0) lt)

shown-append : (v : World) (rs ss : List PlainRow) → shown_rows v (rs ++ ss) ≡ shown_rows v rs ++ shown_rows v ss
shown-append v rs ss =
    ap (map (λ (r : PlainRow). tuple_at v r.cells)) (filter-append (λ (r : PlainRow). holds_at v r.condition) rs ss)
    ∙ map-append (λ (r : PlainRow). tuple_at v r.cells) (filter (λ r. holds_at v r.condition) rs) (filter (λ r. holds_at v r.condition) ss)

pub value-append : (ws : List ℕ) (v : World) (rs ss : List CRow) → value_of_rows ws v (rs ++ ss) ≡ value_of_rows ws v rs ++ value_of_rows ws v ss
value-append ws v rs ss = ap (shown_rows v) (map-append (plain_crow ws) rs ss) ∙ shown-append v (map (plain_crow ws) rs) (map (plain_crow ws) ss)

-- the tuple of one row
pub one_shown : (v : World) (x : PlainRow) (b : Bool) → holds_at v x.condition ≡ b → shown_rows v (x ∷ []) ≡ cond b (tuple_at v x.cells ∷ []) []
one_shown v x b e = ap (λ a. map (λ (r : PlainRow). tuple_at v r.cells) (cond a (x ∷ []) [])) e ∙ by_case b where
  by_case : (a : Bool) → map (λ (r : PlainRow). tuple_at v r.cells) (cond a (x ∷ []) []) ≡ cond a (tuple_at v x.cells ∷ []) []
  by_case true = refl
  by_case false = refl

picked : (a e : Bool) (t : List Value) (h : List Value → Bool) → h t ≡ e → cond (a && e) (t ∷ []) [] ≡ filter h (cond a (t ∷ []) [])
picked true e t h q = sym (ap (λ b. cond b (t ∷ []) []) q)
picked false e t h q = refl

-- one row that is under a further test of its tuple
pub one_picked : (v : World) (x y : PlainRow) (h : List Value → Bool) → tuple_at v x.cells ≡ tuple_at v y.cells
    → holds_at v x.condition ≡ (holds_at v y.condition && h (tuple_at v y.cells)) → shown_rows v (x ∷ []) ≡ filter h (shown_rows v (y ∷ []))
one_picked v x y h t e =
    one_shown v x _ e ∙ ap (λ u. cond (holds_at v y.condition && h (tuple_at v y.cells)) (u ∷ []) []) t
    ∙ picked (holds_at v y.condition) (h (tuple_at v y.cells)) (tuple_at v y.cells) h refl
    ∙ ap (filter h) (sym (one_shown v y _ refl))

none_picked : (v : World) (y : PlainRow) (h : List Value → Bool) → (holds_at v y.condition && h (tuple_at v y.cells)) ≡ false → [] ≡ filter h (shown_rows v (y ∷ []))
none_picked v y h e =
    sym (ap (λ b. cond b (tuple_at v y.cells ∷ []) []) e)
    ∙ picked (holds_at v y.condition) (h (tuple_at v y.cells)) (tuple_at v y.cells) h refl
    ∙ ap (filter h) (sym (one_shown v y _ refl))

-- what was selected of the rows so far, by a test of their tuples
pub record Selects (old now : List ℕ) (width : ℕ) (test : World → List Value → Bool) (source : Term → Type 0) (done out : List CRow) : Type 0 where
  pub grown : IsPrefix old now
  pub each : All (IsRow now width) out
  pub possible : All (λ r. r.cond ≢ 1) out
  pub values : (v : World) → value_of_rows now v out ≡ filter (test v) (value_of_rows old v done)
  pub part : IsSublist (cells_of now out) (cells_of old done)
  pub from : RowsFrom now out source

pub selects_none : (old : List ℕ) (width : ℕ) (test : World → List Value → Bool) (source : Term → Type 0) → Selects old old width test source [] []
selects_none old width test source = record { grown = prefix_same old; each = All-nil _; possible = All-nil _; values = λ v. refl; part = ended; from = All-nil _ }

module _ (old now new : List ℕ) (width : ℕ) (test : World → List Value → Bool) (source : Term → Type 0) (plain : (k : ℕ) → source (term.Column k) → ⊥)
    (done out : List CRow) (so_far : Selects old now width test source done out) (longer : IsPrefix now new) (formed : IsWellFormed now) (r : CRow) (is : IsRow old width r) (origin : RowFrom old source r)
    (place : ℕ) (chosen : HoldsWhere new place (λ v. holds_at v (condition_at old r.cond) && test v (tuple_at v (map (term_at old) r.cells)))) (from : TermsFrom new place source) where
  far : IsPrefix old new
  far = prefix_of_prefix old now new so_far.grown longer

  formed_first : IsWellFormed old
  formed_first = formed_before old now so_far.grown formed

  is_later : IsRow new width r
  is_later = is_row_grows old new far formed_first width r is

  rows_later_too : RowsFrom new out source
  rows_later_too = rows_later now new longer formed width source out so_far.each so_far.from

  values_before : (v : World) → value_of_rows new v out ≡ filter (test v) (value_of_rows old v done)
  values_before v = value_grows now new longer v width out so_far.each ∙ so_far.values v

  more_values : (v : World) (last : List (List Value)) → last ≡ filter (test v) (value_of_rows old v (r ∷ []))
      → value_of_rows new v out ++ last ≡ filter (test v) (value_of_rows old v (done ++ r ∷ []))
  more_values v last e =
      (λ i. values_before v i ++ e i)
      ∙ sym (filter-append (test v) (value_of_rows old v done) (value_of_rows old v (r ∷ [])))
      ∙ ap (filter (test v)) (sym (value-append old v done (r ∷ [])))

  part_before : IsSublist (cells_of new out) (cells_of old done)
  part_before = subst (λ cs. IsSublist cs (cells_of old done)) (sym (cells_grow now new longer width out so_far.each)) so_far.part

  abbrev pub under : CRow
  under = record { cells = r.cells; cond = place }

  terms_stay : map (term_at new) r.cells ≡ map (term_at old) r.cells
  terms_stay = terms_grow old new (prefix_of_prefix old now new so_far.grown longer) r.cells is.terms

  pub selects_more : place ≢ 1 → Selects old new width test source (done ++ r ∷ []) (out ++ under ∷ [])
  selects_more ne = record {
    grown = prefix_of_prefix old now new so_far.grown longer;
    each = All-push (IsRow new width) out under (All-weaker (IsRow now width) (IsRow new width) (is_row_grows now new longer formed width) out so_far.each)
        (record {
          terms = is_later.terms;
          condition = chosen.class;
          width_is = is.width_is;
          plain = All-cons (HasNoColumn new) place r.cells (none_from new place source plain from) (All-tail (HasNoColumn new) r.cond r.cells is_later.plain);
        });
    possible = All-push (λ r. r.cond ≢ 1) out under so_far.possible ne;
    values = λ v. value-append new v out (under ∷ [])
        ∙ more_values v (value_of_rows new v (under ∷ []))
        (one_picked v (plain_crow new under) (plain_crow old r) (test v) (ap (tuple_at v) terms_stay) (chosen.holds v));
    part = subst (λ cs. IsSublist cs (cells_of old (done ++ r ∷ []))) (sym (map_push (λ (r : CRow). map (term_at new) r.cells) out under))
        (subst (λ cs. IsSublist (cells_of new out ++ map (term_at new) r.cells ∷ []) cs) (sym (map_push (λ (r : CRow). map (term_at old) r.cells) done r))
        (sublist-append (cells_of new out) (cells_of old done) (map (term_at new) r.cells ∷ []) (map (term_at old) r.cells ∷ []) part_before
        (subst (λ c. IsSublist (map (term_at new) r.cells ∷ []) (c ∷ [])) terms_stay (all_of (map (term_at new) r.cells ∷ [])))));
    from = All-push (RowFrom new source) out under rows_later_too (under_from old new far formed_first width source r place is origin from);
  }

  pub selects_as_many : ((v : World) → holds_at v (condition_at new place) ≡ false) → Selects old new width test source (done ++ r ∷ []) out
  selects_as_many never = record {
    grown = prefix_of_prefix old now new so_far.grown longer;
    each = All-weaker (IsRow now width) (IsRow new width) (is_row_grows now new longer formed width) out so_far.each;
    possible = so_far.possible;
    values = λ v. sym (append-nil (value_of_rows new v out))
        ∙ more_values v [] (none_picked v (plain_crow old r) (test v) (sym (chosen.holds v) ∙ never v));
    part = subst (λ cs. IsSublist cs (cells_of old (done ++ r ∷ []))) (append-nil (cells_of new out))
        (subst (λ cs. IsSublist (cells_of new out ++ []) cs) (sym (map_push (λ (r : CRow). map (term_at old) r.cells) done r))
        (sublist-append (cells_of new out) (cells_of old done) [] (map (term_at old) r.cells ∷ []) part_before (nothing_of _)));
    from = rows_later_too;
  }

apart : {K : Type 0} (P : K → Type 0) (xs ys : List K) → IsSublist xs ys → AllByRecursion P ys → AllByRecursion P xs
apart P xs ys ended a = a
apart P xs (y ∷ ys) (left_out p) a = apart P xs ys p a.1
apart P (x ∷ xs) (x' ∷ ys) (taken p) a = (a.0, apart P xs ys p a.1)

-- a part of a list without doubles has none
pub distinct_part : {K : Type 0} (same : K → K → Bool) (xs ys : List K) → IsSublist xs ys → IsDistinct same ys → IsDistinct same xs
distinct_part same xs ys ended d = d
distinct_part same xs (y ∷ ys) (left_out p) d = distinct_part same xs ys p (IsDistinct-tail same y ys d)
distinct_part same (x ∷ xs) (x' ∷ ys) (taken p) d =
    IsDistinct-cons same x xs (apart (λ y. same x y ≡ false) xs ys p (IsDistinct-head same x ys d)) (distinct_part same xs ys p (IsDistinct-tail same x ys d))

-- what was selected of all rows
pub selected_rows : (old new : List ℕ) (width : ℕ) (test : World → List Value → Bool) (source : Term → Type 0) (rows out : List CRow) → AreRows old width rows → Selects old new width test source rows out → AreRows new width out
selected_rows old new width test source rows out are s =
    record { each = s.each; distinct = distinct_part same_cells _ _ s.part are.distinct; possible = s.possible }

pub selected_values : (old new : List ℕ) (width : ℕ) (test : World → List Value → Bool) (source : Term → Type 0) (rows out : List CRow) → Selects old new width test source rows out
    → (v : World) → SameSet (value_of_rows new v out) (filter (test v) (value_of_rows old v rows))
selected_values old new width test source rows out s v tuple = ap (λ ts. has_tuple ts tuple) (s.values v)

-- a row in a turn over rows
pub record Turn (old now : List ℕ) (width : ℕ) (rows : List CRow) (i : ℕ) (r : CRow) : Type 0 where
  pub within : i < length rows
  pub among : Contains rows r
  pub was : IsRow old width r
  pub is : IsRow now width r
  pub itself : IsRow now (length r.cells) r
  pub done : take i rows ++ r ∷ [] ≡ take (i + 1) rows

pub turn : (old now : List ℕ) (width : ℕ) (rows : List CRow) (i : ℕ) (r : CRow) → IsPrefix old now → IsWellFormed old → All (IsRow old width) rows
    → (items : List CRow) → items ≡ rows → i < length items → r ≡ get_or items i r → Turn old now width rows i r
turn old now width rows i r grown formed each items same lt e =
    let within : i < length rows = subst (λ l. i < length l) same lt in
    let found : r ≡ get_or rows i r = e ∙ ap (λ l. get_or l i r) same in
    let was : IsRow old width r = subst (IsRow old width) (sym found) (All-get_or (IsRow old width) rows i r within each) in
    let is = is_row_grows old now grown formed width r was in
    record {
      within = within;
      among = (i, within, sym found);
      was = was;
      is = is;
      itself = record { terms = is.terms; condition = is.condition; width_is = refl; plain = is.plain };
      done = ap (λ x. take i rows ++ x ∷ []) found ∙ sym (take_more rows i r within);
    }
