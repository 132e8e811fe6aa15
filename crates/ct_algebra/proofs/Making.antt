-- Rows made of pairs of rows, pair by pair and row by row.
use Rattle.std.proofs.Common.{◌≡◌, ◌≢◌, ℕ, ◌+◌, ◌<◌, ◌≤◌, Bool, true, false, ◌&&◌, cond, List, [], ◌∷◌, ◌++◌, map, length, take, get_or, refl, ap, sym, subst, ◌∙◌, arith, inl, inr}
use Rattle.std.{specs.Prelude.{All, IsTrue, filter, slice_index_or, nat_eq, if◌then◌else◌}, specs.List.{range_with_len}}
use Rattle.std.proofs.lemmas.List.{append-nil, map-append, length-append, map_more, get_or_default}
use Rattle.std.proofs.lemmas.List.Elements.{All-cons, All-head, All-tail, All-append, All-nil, All-weaker, All-contains, All-filter, filter-append}
use Rattle.std.proofs.lemmas.Bool.{eqb-true, eq-eqb, false≢true}
use Rattle.std.proofs.lemmas.List.Concat.{flat_map-append}
use Rattle.std.proofs.lemmas.List.FromFn.{fill_by_all, length-range_with_len, get_or-range_with_len}
use Rattle.ct_word.{specs.declared.values.Value.Value, specs.declared.values.Term.Term, specs.declared.values.CRow.CRow, specs.Stands.HasNoColumn}
use Rattle.ct_word.{specs.Value.{World, at, tuple_at, same_cells}, specs.Sublist.{IsSublist, ended, left_out, taken}, specs.Condition.{Condition, holds, holds_at}}
use Rattle.ct_word.{specs.WellFormed.{IsWellFormed, is_place_of}, specs.Reading.{term_at, condition_at, plain_crow}}
use Rattle.ct_word.proofs.Prefixes.{prefix_of_prefix, prefix_same, condition_in_prefix, place_within}
use Rattle.ct_query.{specs.Rows.joins, specs.Database.{SameSet, has_tuple}, proofs.Sublists.{sublist-append, nothing_of, all_of, sublist_of_sublist, sublist-map, sublist_joins}}
use Rattle.ct_condition.{specs.Terms.{TermsFrom, IsNamed}, proofs.Truths.false_at}
use Rattle.ct_arena.specs.Counts.{opening}
use Rattle.ct_operators.{specs.Tables.{cells_of, value_of_rows, IsRow, AreRows}, specs.Terms.{RowFrom, IsNoColumn}, specs.Building.HoldsWhere}
use Rattle.ct_operators.{proofs.Reaching.{none_from, rows_later, row_later, rows_wider}, proofs.Growing.{terms_grow, is_row_grows, cells_grow, value_grows}}
use Rattle.ct_operators.proofs.Selecting.{value-append, one_shown, distinct_part}
use Rattle.ct_operators.proofs.Pairing.{joined_apart}
use Rattle.ct_algebra.{specs.Joining.{Makes, MakesPairs, TermOfPair, rows_at, row_under, pair_tuple, pair_holds}, proofs.Counted.part_length}
use mathlib.Core.List.{IsPrefix}
use Rattle.ct_word.specs.declared.kinds.Class.TheVariants as class
use Rattle.ct_word.specs.declared.values.Term.TheVariants as term

pub makes_none : (old : List ℕ) (width : ℕ) (cells : List (List Term)) (worth : World → List (List Value)) (source : Term → Type 0) → ((v : World) → [] ≡ worth v) → Makes old old width cells worth source []
makes_none old width cells worth source e =
    record { grown = prefix_same old; each = All-nil _; possible = All-nil _; worth_is = e; part = nothing_of cells; from = All-nil _ }

-- the same rows, said in other words
pub makes_as : (old now : List ℕ) (width : ℕ) (cells cells' : List (List Term)) (worth worth' : World → List (List Value)) (source source' : Term → Type 0) (out : List CRow)
    → IsSublist cells cells' → ((v : World) → worth v ≡ worth' v) → ((t : Term) → source t → source' t) → Makes old now width cells worth source out → Makes old now width cells' worth' source' out
makes_as old now width cells cells' worth worth' source source' out c w u s = record {
  grown = s.grown;
  each = s.each;
  possible = s.possible;
  worth_is = λ v. s.worth_is v ∙ w v;
  part = sublist_of_sublist (cells_of now out) cells cells' s.part c;
  from = rows_wider now source source' u out s.from;
}

-- rows, and more of them
pub makes_append : (old now new : List ℕ) (formed : IsWellFormed now) (width : ℕ) (cells more : List (List Term)) (worth gain : World → List (List Value)) (source : Term → Type 0) (out added : List CRow)
    → Makes old now width cells worth source out → Makes now new width more gain source added → Makes old new width (cells ++ more) (λ v. worth v ++ gain v) source (out ++ added)
makes_append old now new formed width cells more worth gain source out added s t = record {
  grown = prefix_of_prefix old now new s.grown t.grown;
  each = All-append (IsRow new width) out added (All-weaker (IsRow now width) (IsRow new width) (is_row_grows now new t.grown formed width) out s.each) t.each;
  possible = All-append (λ r. r.cond ≢ 1) out added s.possible t.possible;
  worth_is = λ v. value-append new v out added ∙ (λ i. (value_grows now new t.grown v width out s.each ∙ s.worth_is v) i ++ t.worth_is v i);
  part = subst (λ cs. IsSublist cs (cells ++ more)) (sym (map-append (λ (r : CRow). map (term_at new) r.cells) out added))
      (sublist-append (cells_of new out) cells (cells_of new added) more (subst (λ cs. IsSublist cs cells) (sym (cells_grow now new t.grown width out s.each)) s.part) t.part);
  from = All-append (RowFrom new source) out added (rows_later now new t.grown formed width source out s.each s.from) t.from;
}

-- one tuple or none joined with one or none, filtered
filtered : (a b : Bool) (h : List Value → Bool) (l r : List Value) → cond ((a && b) && h (l ++ r)) ((l ++ r) ∷ []) [] ≡ filter h (joins (cond a (l ∷ []) []) (cond b (r ∷ []) []))
filtered true true h l r = refl
filtered true false h l r = refl
filtered false b h l r = refl

-- one tuple or none, joined with more
more_joins : (a : Bool) (l : List Value) (rs ss : List (List Value)) → joins (cond a (l ∷ []) []) (rs ++ ss) ≡ joins (cond a (l ∷ []) []) rs ++ joins (cond a (l ∷ []) []) ss
more_joins true l rs ss =
    append-nil (map (λ r. l ++ r) (rs ++ ss)) ∙ map-append (λ r. l ++ r) rs ss
    ∙ sym (λ i. append-nil (map (λ r. l ++ r) rs) i ++ append-nil (map (λ r. l ++ r) ss) i)
more_joins false l rs ss = refl

more_cells : (l : List Term) (rs ss : List (List Term)) → joins (l ∷ []) (rs ++ ss) ≡ joins (l ∷ []) rs ++ joins (l ∷ []) ss
more_cells l rs ss =
    append-nil (map (λ r. l ++ r) (rs ++ ss)) ∙ map-append (λ r. l ++ r) rs ss
    ∙ sym (λ i. append-nil (map (λ r. l ++ r) rs) i ++ append-nil (map (λ r. l ++ r) ss) i)

same_part : {A : Type 0} (xs ys : List A) → xs ≡ ys → IsSublist xs ys
same_part xs ys e = subst (IsSublist xs) e (all_of xs)

-- what a filter leaves
filter_part : (f : ℕ → Bool) (js : List ℕ) → IsSublist (filter f js) js
filter_part f [] = ended
filter_part f (j ∷ js) = by_test (f j) (filter_part f js) where
  by_test : (b : Bool) → IsSublist (filter f js) js → IsSublist (cond b (j ∷ filter f js) (filter f js)) (j ∷ js)
  by_test true rest = taken rest
  by_test false rest = left_out rest

module _ (old : List ℕ) (c : Condition) where
  -- the tuples of pairs for which the condition holds
  abbrev pub worth_of : List CRow → List CRow → World → List (List Value)
  worth_of ls rs v = filter (λ t. holds v t c) (joins (value_of_rows old v ls) (value_of_rows old v rs))

  abbrev pub cells_joined : List CRow → List CRow → List (List Term)
  cells_joined ls rs = joins (cells_of old ls) (cells_of old rs)

  pub worth_one : (l r : CRow) (v : World) → cond (pair_holds old c l r v) (pair_tuple old v l.cells r.cells ∷ []) [] ≡ worth_of (l ∷ []) (r ∷ []) v
  worth_one l r v =
      filtered (holds_at v (condition_at old l.cond)) (holds_at v (condition_at old r.cond)) (λ t. holds v t c) (tuple_at v (map (term_at old) l.cells)) (tuple_at v (map (term_at old) r.cells))
      ∙ ap (filter (λ t. holds v t c)) (sym (λ i. joins (one_shown v (plain_crow old l) _ refl i) (one_shown v (plain_crow old r) _ refl i)))

  -- a row joined with rows, and with more of them
  pub worth_right : (l : CRow) (rs ss : List CRow) (v : World) → worth_of (l ∷ []) (rs ++ ss) v ≡ worth_of (l ∷ []) rs v ++ worth_of (l ∷ []) ss v
  worth_right l rs ss v =
      ap (filter (λ t. holds v t c))
      ((λ i. joins (one_shown v (plain_crow old l) _ refl i) (value-append old v rs ss i))
      ∙ more_joins (holds_at v (condition_at old l.cond)) (tuple_at v (map (term_at old) l.cells)) (value_of_rows old v rs) (value_of_rows old v ss)
      ∙ sym (λ i. joins (one_shown v (plain_crow old l) _ refl i) (value_of_rows old v rs) ++ joins (one_shown v (plain_crow old l) _ refl i) (value_of_rows old v ss)))
      ∙ filter-append (λ t. holds v t c) (joins (value_of_rows old v (l ∷ [])) (value_of_rows old v rs)) (joins (value_of_rows old v (l ∷ [])) (value_of_rows old v ss))

  pub cells_right : (l : CRow) (rs ss : List CRow) → cells_joined (l ∷ []) (rs ++ ss) ≡ cells_joined (l ∷ []) rs ++ cells_joined (l ∷ []) ss
  cells_right l rs ss =
      ap (joins (map (term_at old) l.cells ∷ [])) (map-append (λ (r : CRow). map (term_at old) r.cells) rs ss)
      ∙ more_cells (map (term_at old) l.cells) (cells_of old rs) (cells_of old ss)

  -- rows joined with rows, and more of the first
  pub worth_left : (ls ks rs : List CRow) (v : World) → worth_of (ls ++ ks) rs v ≡ worth_of ls rs v ++ worth_of ks rs v
  worth_left ls ks rs v =
      ap (filter (λ t. holds v t c))
      (ap (λ ts. joins ts (value_of_rows old v rs)) (value-append old v ls ks)
      ∙ flat_map-append (λ k. map (λ d. k ++ d) (value_of_rows old v rs)) (value_of_rows old v ls) (value_of_rows old v ks))
      ∙ filter-append (λ t. holds v t c) (joins (value_of_rows old v ls) (value_of_rows old v rs)) (joins (value_of_rows old v ks) (value_of_rows old v rs))

  pub cells_left : (ls ks rs : List CRow) → cells_joined (ls ++ ks) rs ≡ cells_joined ls rs ++ cells_joined ks rs
  cells_left ls ks rs =
      ap (λ ts. joins ts (cells_of old rs)) (map-append (λ (r : CRow). map (term_at old) r.cells) ls ks)
      ∙ flat_map-append (λ k. map (λ d. k ++ d) (cells_of old rs)) (cells_of old ls) (cells_of old ks)

  -- no row is joined with no rows
  pub worth_none : (l : CRow) (v : World) → [] ≡ worth_of (l ∷ []) [] v
  worth_none l v = ap (filter (λ t. holds v t c)) (by_shown (value_of_rows old v (l ∷ []))) where
    by_shown : (ls : List (List Value)) → [] ≡ joins ls []
    by_shown [] = refl
    by_shown (x ∷ ls) = by_shown ls

  -- one pair
  module _ (now new : List ℕ) (grown : IsPrefix old now) (longer : IsPrefix now new) (formed : IsWellFormed old) (m n : ℕ) (source : Term → Type 0) (plain : (k : ℕ) → source (term.Column k) → ⊥)
      (named : (t : Term) → IsNamed c t × IsNoColumn t → source t) (l r : CRow) (left : IsRow old m l) (right : IsRow old n r) (left_from : RowFrom old source l) (right_from : RowFrom old source r)
      (place : ℕ) (shown : HoldsWhere new place (pair_holds now c l r)) (from : TermsFrom new place (TermOfPair now c l r)) where
    abbrev pub pair : CRow
    pair = record { cells = l.cells ++ r.cells; cond = place }

    far : IsPrefix old new
    far = prefix_of_prefix old now new grown longer

    holds_before : (v : World) → holds_at v (condition_at new place) ≡ pair_holds old c l r v
    holds_before v =
        shown.holds v
        ∙ (λ i. (holds_at v (condition_in_prefix old now l.cond grown (place_within old class.Cond l.cond left.condition) i)
        && holds_at v (condition_in_prefix old now r.cond grown (place_within old class.Cond r.cond right.condition) i))
        && holds v (tuple_at v (terms_grow old now grown l.cells left.terms i) ++ tuple_at v (terms_grow old now grown r.cells right.terms i)) c)

    pair_cells : map (term_at new) (l.cells ++ r.cells) ≡ map (term_at old) l.cells ++ map (term_at old) r.cells
    pair_cells = map-append (term_at new) l.cells r.cells ∙ (λ i. terms_grow old new far l.cells left.terms i ++ terms_grow old new far r.cells right.terms i)

    places_from : All (λ p. TermsFrom now p source) (l.cond ∷ r.cond ∷ (l.cells ++ r.cells))
    places_from =
        let of_left = row_later old now grown formed m source l left left_from in
        let of_right = row_later old now grown formed n source r right right_from in
        All-cons (λ p. TermsFrom now p source) l.cond (r.cond ∷ (l.cells ++ r.cells)) (All-head (λ p. TermsFrom now p source) l.cond l.cells of_left)
        (All-cons (λ p. TermsFrom now p source) r.cond (l.cells ++ r.cells) (All-head (λ p. TermsFrom now p source) r.cond r.cells of_right)
        (All-append (λ p. TermsFrom now p source) l.cells r.cells (All-tail (λ p. TermsFrom now p source) l.cond l.cells of_left) (All-tail (λ p. TermsFrom now p source) r.cond r.cells of_right)))

    place_from : TermsFrom new place source
    place_from t h = elim (from t h) [
      | inl b ↦ All-contains (λ p. TermsFrom now p source) (l.cond ∷ r.cond ∷ (l.cells ++ r.cells)) b.place places_from b.among t b.below
      | inr y ↦ named t y
    ]

    left_later : IsRow new m l
    left_later = is_row_grows old new far formed m l left

    right_later : IsRow new n r
    right_later = is_row_grows old new far formed n r right

    pub pair_made : place ≢ 1 → Makes now new (m + n) (cells_joined (l ∷ []) (r ∷ [])) (worth_of (l ∷ []) (r ∷ [])) source (pair ∷ [])
    pair_made ne = record {
      grown = longer;
      each = All-cons (IsRow new (m + n)) pair [] (record {
        terms = All-append (λ p. IsTrue (is_place_of new class.Term p)) l.cells r.cells left_later.terms right_later.terms;
        condition = shown.class;
        width_is = length-append l.cells r.cells ∙ (λ i. left.width_is i + right.width_is i);
        plain = All-cons (HasNoColumn new) place (l.cells ++ r.cells) (none_from new place source plain place_from)
            (All-append (HasNoColumn new) l.cells r.cells (All-tail (HasNoColumn new) l.cond l.cells left_later.plain) (All-tail (HasNoColumn new) r.cond r.cells right_later.plain));
      }) (All-nil _);
      possible = All-cons (λ r. r.cond ≢ 1) pair [] ne (All-nil _);
      worth_is = λ v. one_shown v (plain_crow new pair) _ (holds_before v)
          ∙ ap (λ t. cond (pair_holds old c l r v) (t ∷ []) []) (ap (tuple_at v) pair_cells ∙ map-append (at v []) (map (term_at old) l.cells) (map (term_at old) r.cells))
          ∙ worth_one l r v;
      part = subst (λ k. IsSublist (k ∷ []) ((map (term_at old) l.cells ++ map (term_at old) r.cells) ∷ [])) (sym pair_cells) (all_of _);
      from = All-cons (RowFrom new source) pair [] (All-cons (λ p. TermsFrom new p source) place (l.cells ++ r.cells) place_from
          (All-append (λ p. TermsFrom new p source) l.cells r.cells (All-tail (λ p. TermsFrom new p source) l.cond l.cells (row_later old new far formed m source l left left_from))
          (All-tail (λ p. TermsFrom new p source) r.cond r.cells (row_later old new far formed n source r right right_from)))) (All-nil _);
    }

    pub pair_left_out : ((v : World) → holds_at v (condition_at new place) ≡ false) → Makes now new (m + n) (cells_joined (l ∷ []) (r ∷ [])) (worth_of (l ∷ []) (r ∷ [])) source []
    pair_left_out never = record {
      grown = longer;
      each = All-nil _;
      possible = All-nil _;
      worth_is = λ v. sym (ap (λ b. cond b (pair_tuple old v l.cells r.cells ∷ []) []) (sym (holds_before v) ∙ never v)) ∙ worth_one l r v;
      part = nothing_of (cells_joined (l ∷ []) (r ∷ []));
      from = All-nil _;
    }

    -- the row that is put for the pair
    pub pair_put : IsPrefix opening new → IsWellFormed new → Makes now new (m + n) (cells_joined (l ∷ []) (r ∷ [])) (worth_of (l ∷ []) (r ∷ [])) source (row_under (l.cells ++ r.cells) place)
    pair_put begins new_formed = by_test (nat_eq place 1) refl where
      by_test : (b : Bool) → nat_eq place 1 ≡ b → Makes now new (m + n) (cells_joined (l ∷ []) (r ∷ [])) (worth_of (l ∷ []) (r ∷ [])) source (if b then [] else pair ∷ [])
      by_test true e = pair_left_out (λ v. ap (λ p. holds_at v (condition_at new p)) (eqb-true place 1 e) ∙ (false_at new begins new_formed).truth_is v [])
      by_test false e = pair_made (λ is. false≢true (sym e ∙ eq-eqb place 1 is))

  -- the pairs of a row, and one more
  pub row_more : (now new : List ℕ) (formed : IsWellFormed now) (width : ℕ) (source : Term → Type 0) (l r : CRow) (done out added : List CRow)
      → MakesPairs old now width c (l ∷ []) done source out → Makes now new width (cells_joined (l ∷ []) (r ∷ [])) (worth_of (l ∷ []) (r ∷ [])) source added
      → MakesPairs old new width c (l ∷ []) (done ++ r ∷ []) source (out ++ added)
  row_more now new formed width source l r done out added s t =
      makes_as old new width _ _ _ (worth_of (l ∷ []) (done ++ r ∷ [])) source source (out ++ added) (same_part _ _ (sym (cells_right l done (r ∷ [])))) (λ v. sym (worth_right l done (r ∷ []) v)) (λ t h. h)
      (makes_append old now new formed width (cells_joined (l ∷ []) done) (cells_joined (l ∷ []) (r ∷ [])) (worth_of (l ∷ []) done) (worth_of (l ∷ []) (r ∷ [])) source out added s t)

  -- the pairs of rows, and of one more
  pub rows_more : (now new : List ℕ) (formed : IsWellFormed now) (width : ℕ) (source : Term → Type 0) (l : CRow) (rs done out added : List CRow)
      → MakesPairs old now width c done rs source out → Makes now new width (cells_joined (l ∷ []) rs) (worth_of (l ∷ []) rs) source added → MakesPairs old new width c (done ++ l ∷ []) rs source (out ++ added)
  rows_more now new formed width source l rs done out added s t =
      makes_as old new width _ _ _ (worth_of (done ++ l ∷ []) rs) source source (out ++ added) (same_part _ _ (sym (cells_left done (l ∷ []) rs))) (λ v. sym (worth_left done (l ∷ []) rs v)) (λ t h. h)
      (makes_append old now new formed width (cells_joined done rs) (cells_joined (l ∷ []) rs) (worth_of done rs) (worth_of (l ∷ []) rs) source out added s t)

  -- the pairs of a row, said of the words before
  pub row_before : (now new : List ℕ) (m n : ℕ) (source source' : Term → Type 0) (l : CRow) (rs added : List CRow) → ((t : Term) → source t → source' t) → IsPrefix old now → IsRow old m l → All (IsRow old n) rs
      → MakesPairs now new (m + n) c (l ∷ []) rs source added → Makes now new (m + n) (cells_joined (l ∷ []) rs) (worth_of (l ∷ []) rs) source' added
  row_before now new m n source source' l rs added wider grown left right s =
      makes_as now new (m + n) _ _ _ (worth_of (l ∷ []) rs) source source' added
      (same_part _ _ (λ i. joins (terms_grow old now grown l.cells left.terms i ∷ []) (cells_grow old now grown n rs right i)))
      (λ v i. filter (λ t. holds v t c) (joins (value_grows old now grown v m (l ∷ []) (All-cons (IsRow old m) l [] left (All-nil (IsRow old m))) i) (value_grows old now grown v n rs right i))) wider s

  -- rows that are left out since no pair with them holds
  module _ (l : CRow) (rs : List CRow) (f : ℕ → Bool) (never : (j : ℕ) → f j ≡ false → (v : World) → [] ≡ worth_of (l ∷ []) (slice_index_or rs j l ∷ []) v) where
    worth_partners : (js : List ℕ) (v : World) → worth_of (l ∷ []) (rows_at rs l (filter f js)) v ≡ worth_of (l ∷ []) (rows_at rs l js) v
    worth_partners [] v = refl
    worth_partners (j ∷ js) v = by_test (f j) refl (worth_partners js v) ∙ sym (worth_right l (slice_index_or rs j l ∷ []) (rows_at rs l js) v) where
      by_test : (b : Bool) → f j ≡ b → worth_of (l ∷ []) (rows_at rs l (filter f js)) v ≡ worth_of (l ∷ []) (rows_at rs l js) v
          → worth_of (l ∷ []) (rows_at rs l (cond b (j ∷ filter f js) (filter f js))) v ≡ worth_of (l ∷ []) (slice_index_or rs j l ∷ []) v ++ worth_of (l ∷ []) (rows_at rs l js) v
      by_test true e rest = worth_right l (slice_index_or rs j l ∷ []) (rows_at rs l (filter f js)) v ∙ ap (λ ts. worth_of (l ∷ []) (slice_index_or rs j l ∷ []) v ++ ts) rest
      by_test false e rest = rest ∙ ap (λ ts. ts ++ worth_of (l ∷ []) (rows_at rs l js) v) (never j e v)

    all_rows : rows_at rs l (range_with_len 0 (length rs)) ≡ rs
    all_rows = sym (fill_by_all (λ j. slice_index_or rs j l) rs (length rs) l refl (λ k lt. refl))

    pub row_whole : (now new : List ℕ) (width : ℕ) (source : Term → Type 0) (out : List CRow)
        → Makes now new width (cells_joined (l ∷ []) (rows_at rs l (filter f (range_with_len 0 (length rs))))) (worth_of (l ∷ []) (rows_at rs l (filter f (range_with_len 0 (length rs))))) source out
        → Makes now new width (cells_joined (l ∷ []) rs) (worth_of (l ∷ []) rs) source out
    row_whole now new width source out =
        makes_as now new width _ (cells_joined (l ∷ []) rs) _ (worth_of (l ∷ []) rs) source source out
        (subst (λ k. IsSublist (cells_joined (l ∷ []) (rows_at rs l (filter f (range_with_len 0 (length rs))))) (cells_joined (l ∷ []) k)) all_rows
        (sublist_joins (cells_of old (l ∷ [])) (cells_of old (l ∷ [])) _ _ (all_of (cells_of old (l ∷ [])))
        (sublist-map (λ (r : CRow). map (term_at old) r.cells) _ _ (sublist-map (λ j. slice_index_or rs j l) _ _ (filter_part f (range_with_len 0 (length rs)))))))
        (λ v. worth_partners (range_with_len 0 (length rs)) v ∙ ap (λ k. worth_of (l ∷ []) k v) all_rows)
        (λ t h. h)

  -- no pair of a row with one for which the condition never holds
  pub worth_never : (l r : CRow) (v : World) → holds v (pair_tuple old v l.cells r.cells) c ≡ false → [] ≡ worth_of (l ∷ []) (r ∷ []) v
  worth_never l r v e = none_shown (holds_at v (condition_at old l.cond) && holds_at v (condition_at old r.cond)) (holds v (pair_tuple old v l.cells r.cells) c) e ∙ worth_one l r v where
    none_shown : (a b : Bool) → b ≡ false → [] ≡ cond (a && b) (pair_tuple old v l.cells r.cells ∷ []) []
    none_shown true b e = sym (ap (λ x. cond x (pair_tuple old v l.cells r.cells ∷ []) []) e)
    none_shown false b e = refl

-- the pairs of all rows
module _ (old new : List ℕ) (m n : ℕ) (c : Condition) (ls rs : List CRow) (source : Term → Type 0) (out : List CRow) (s : MakesPairs old new (m + n) c ls rs source out) where
  pub joined_rows : AreRows old m ls → AreRows old n rs → AreRows new (m + n) out
  joined_rows left right = record { each = s.each; distinct = distinct_part same_cells _ _ s.part (joined_apart old m n ls rs left right); possible = s.possible }

  pub joined_values : (v : World) → SameSet (value_of_rows new v out) (worth_of old c ls rs v)
  joined_values v tuple = ap (λ ts. has_tuple ts tuple) (s.worth_is v)

-- the rows at one more place
pub placed_more : (rows : List CRow) (l r : CRow) (places : List ℕ) (i j : ℕ) → i < length places → j ≡ get_or places i j → j < length rows → r ≡ get_or rows j r
    → rows_at rows l (take i places) ++ r ∷ [] ≡ rows_at rows l (take (i + 1) places)
placed_more rows l r places i j lt at within is =
    ap (λ x. rows_at rows l (take i places) ++ x ∷ [])
    (is ∙ get_or_default rows j r l within ∙ ap (λ k. slice_index_or rows k l) (at ∙ get_or_default places i j 0 lt))
    ∙ sym (map_more (λ k. slice_index_or rows k l) places i 0 lt)

-- the places that a filter leaves of those below a number
pub partners_below : (f : ℕ → Bool) (n : ℕ) → All (λ j. j < n) (filter f (range_with_len 0 n))
partners_below f n = All-filter f (λ j. j < n) (range_with_len 0 n) (λ k d lt.
    let within : k < n = omega (arith, length-range_with_len 0 n, lt) in
    let is : get_or (range_with_len 0 n) k d ≡ 0 + k = get_or-range_with_len 0 n k d within in
    omega (arith, is, within))

pub few_partners : (f : ℕ → Bool) (n : ℕ) → length (filter f (range_with_len 0 n)) ≤ n
few_partners f n = omega (arith, part_length (filter_part f (range_with_len 0 n)), length-range_with_len 0 n)
