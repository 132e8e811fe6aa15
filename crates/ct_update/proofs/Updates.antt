-- Rows updated: their cells, and what they are worth.
use Rattle.std.proofs.Common.{◌≡◌, ℕ, zero, suc, ◌+◌, ◌*◌, ◌<◌, Bool, true, false, not, ◌&&◌, List, [], ◌∷◌, ◌++◌, Option, Some, None, map, length, take, cond, get_or, set, refl, ap, sym, subst, ◌∙◌, arith, inl, inr}
use Rattle.std.{specs.Prelude.{◌⊎◌, IsTrue, All, nat_eq, unwrap_or, if◌then◌else◌}, specs.List.{Contains, filter}, proofs.Math.ListN.get_or-map, proofs.Math.Nat.mul-add}
use Rattle.std.{proofs.lemmas.Option.{unwrap_or-slice_get, slice_get_within, get_or_from_slice_get}, proofs.lemmas.Bool.eqb-true}
use Rattle.std.{proofs.lemmas.List.{map-set, map_push, take_more, length-set, length_push, length-take-le, map-append, append_assoc}, proofs.lemmas.Grind.flat_map-append}
use Rattle.std.proofs.lemmas.List.Elements.{All-nil, All-cons, All-head, All-tail, All-map, All-set, All-weaker, All-filter, All-contains, All-contains_itself, Contains-get_or, Contains-append_left, Contains-append_right, filter-append}
use Rattle.ct_word.{specs.declared.values.Value.Value, specs.declared.values.Term.Term, specs.declared.values.CRow.CRow, specs.Change.PlainRow}
use Rattle.ct_word.{specs.Value.{World, at, tuple_at, same_cells}, specs.Sublist.IsSublist, specs.Condition.{holds, holds_at}, specs.WellFormed.{IsWellFormed, is_place_of}, specs.Stands.{TermBelow, HasNoColumn}}
use Rattle.ct_word.{specs.Reading.{term_at, condition_at, plain_crow}, proofs.Prefixes.{prefix_of_prefix, place_within, place_in_prefix, condition_in_prefix, term_in_prefix}, proofs.Items.mapped_item}
use Rattle.ct_query.{specs.Database.SameSet, proofs.Sublists.{sublist_of_sublist, sublist-map}}
use Rattle.ct_arena.specs.Counts.{opening}
use Rattle.ct_condition.{specs.Rows.cell_for, specs.Terms.{TermsFrom, BelowSome, BelowEither}, specs.Truth.{HasTruth, not_at, and_at}, proofs.OnRows.places_in_prefix, proofs.Truths.false_at}
use Rattle.ct_operators.{specs.Tables.{cells_of, value_of_rows, IsRow}, specs.Building.{Builds, HoldsWhere}, specs.Merging.{AreGathered, IsGathered, is_possible}, specs.Placing.{place_on, holds_for}}
use Rattle.ct_operators.{specs.Terms.{TermOfRow, TermOfRows, RowFrom, RowsFrom, IsPlaced}, proofs.Firsts.{filtered_part, part_of_firsts}}
use Rattle.ct_query.specs.Updates.{with_items, Sets, updated_tuple, updated, cell_on, updated_cells, with_updated}
use Rattle.ct_update.specs.Updating.{sets_at, updated_places, halves_of, all_halves, places_named, IsSetOn, FitsUpdate, TermOfUpdate, Updates, AreSplit, PutsIn}
use Rattle.ct_operators.{proofs.Building.{builds_none, builds_as, builds_append}, proofs.Growing.{terms_grow, is_row_grows, cells_grow, value_grows}, proofs.Selecting.{value-append, one_shown}, proofs.Holding.{holds_itself, holds_later, holds_not, holds_and}}
use Rattle.ct_operators.proofs.Reaching.{row_itself, row_wider, rows_wider, rows_later, rows_before, from_rows, rows_among, under_from, none_from, none_of_rows, plain_rows, from_two, from_later, all_from_later, below_before, some_below_before, some_among, foremost, behind, no_cell_no_column, term_alone}
use mathlib.Core.List.{IsPrefix}
use Rattle.ct_word.specs.declared.kinds.Class.TheVariants as class
use Rattle.ct_word.specs.declared.values.Term.TheVariants as term

-- one more item
pub items_more : {A : Type 0} (ss : List (ℕ × A)) (s : ℕ × A) (xs : List A) → with_items (ss ++ s ∷ []) xs ≡ set (with_items ss xs) s.0 s.1
items_more [] s xs = refl
items_more (r ∷ ss) s xs = items_more ss s (set xs r.0 r.1)

pub items_long : {A : Type 0} (ss : List (ℕ × A)) (xs : List A) → length (with_items ss xs) ≡ length xs
items_long [] xs = refl
items_long (s ∷ ss) xs = items_long ss (set xs s.0 s.1) ∙ length-set xs s.0 s.1

-- item by item
items_map : {A B : Type 0} (f : A → B) (ss : List (ℕ × A)) (xs : List A) → map f (with_items ss xs) ≡ with_items (map (λ s. (s.0, f s.1)) ss) (map f xs)
items_map f [] xs = refl
items_map f (s ∷ ss) xs = items_map f ss (set xs s.0 s.1) ∙ ap (with_items (map (λ r. (r.0, f r.1)) ss)) (map-set f xs s.0 s.1)

-- the cells of a row with sets, given by their places
module _ (ws cells : List ℕ) where
  on_term : (p : ℕ) (t : Term) → term_at ws p ≡ t → term_at ws (unwrap_or (cell_for cells t) p) ≡ cell_on (map (term_at ws) cells) t
  on_term p (term.Column k) e =
      ap (term_at ws) (unwrap_or-slice_get cells k p) ∙ sym (get_or-map (term_at ws) cells k p) ∙ ap (get_or (map (term_at ws) cells) k) e
  on_term p (term.Null n) e = e
  on_term p (term.Value x) e = e

  each_set : (sets : List (ℕ × ℕ)) → map {A = ℕ × ℕ} {B = ℕ × Term} (λ s. (s.0, term_at ws s.1)) (map {A = ℕ × ℕ} {B = ℕ × ℕ} (λ s. (s.0, place_on ws cells s.1)) sets) ≡ map {A = ℕ × Term} {B = ℕ × Term} (λ s. (s.0, cell_on (map (term_at ws) cells) s.1)) (sets_at ws sets)
  each_set [] = refl
  each_set (s ∷ sets) = λ i. (s.0, on_term s.1 (term_at ws s.1) refl i) ∷ each_set sets i

  pub cells_updated : (sets : List (ℕ × ℕ)) → map (term_at ws) (updated_places ws sets cells) ≡ updated_cells (sets_at ws sets) (map (term_at ws) cells)
  cells_updated sets =
      items_map (term_at ws) (map (λ s. (s.0, place_on ws cells s.1)) sets) cells ∙ ap (λ ss. with_items ss (map (term_at ws) cells)) (each_set sets)

pub places_long : (ws : List ℕ) (sets : List (ℕ × ℕ)) (cells : List ℕ) → length (updated_places ws sets cells) ≡ length cells
places_long ws sets cells = items_long (map (λ s. (s.0, place_on ws cells s.1)) sets) cells

-- one more set
pub sets_more : (ws : List ℕ) (sets : List (ℕ × ℕ)) (i : ℕ) (s : ℕ × ℕ) (cells out : List ℕ) (place : ℕ) → i < length sets → s ≡ get_or sets i s → out ≡ updated_places ws (take i sets) cells
    → place ≡ place_on ws cells s.1 → set out s.0 place ≡ updated_places ws (take (i + 1) sets) cells
sets_more ws sets i s cells out place lt at so_far is =
    (λ j. set (so_far j) s.0 (is j))
    ∙ sym (items_more (map {A = ℕ × ℕ} {B = ℕ × ℕ} (λ r. (r.0, place_on ws cells r.1)) (take i sets)) (s.0, place_on ws cells s.1) cells)
    ∙ ap (λ ss. with_items ss cells) (sym (map_push {X = ℕ × ℕ} {Y = ℕ × ℕ} (λ r. (r.0, place_on ws cells r.1)) (take i sets) s))
    ∙ ap (λ ss. updated_places ws ss cells) (ap (λ x. take i sets ++ x ∷ []) at ∙ sym (take_more sets i s lt))

-- what holds of all items that are put and of those of the list holds of all after it
pub items_all : {A : Type 0} (P : A → Type 0) (ss : List (ℕ × A)) (xs : List A) → All (λ s. P s.1) ss → All P xs → All P (with_items ss xs)
items_all P [] xs puts each = each
items_all P (s ∷ ss) xs puts each = items_all P ss (set xs s.0 s.1) (All-tail (λ s. P s.1) s ss puts) (All-set P xs s.0 s.1 (All-head (λ s. P s.1) s ss puts) each)

-- the cells with sets are places of terms, and these terms are of the cells or of the sets
module _ (ws : List ℕ) (formed : IsWellFormed ws) (cells : List ℕ) (sets : List (ℕ × ℕ)) (terms : All (λ s. IsTrue (is_place_of ws class.Term s.1)) sets) (each : All (λ p. IsTrue (is_place_of ws class.Term p)) cells) where
  among_cells : (t : Term) (q : ℕ) → cell_for cells t ≡ Some q → Contains cells q
  among_cells (term.Column k) q e = subst (Contains cells) (get_or_from_slice_get cells k q 0 e) (Contains-get_or cells k 0 (slice_get_within cells k q e))
  among_cells (term.Null n) q e = let bad : None ≡ Some q = e in cc
  among_cells (term.Value x) q e = let bad : None ≡ Some q = e in cc

  -- what is put is a cell, or the term itself
  each_put : (P : ℕ → Type 0) → All P cells → ((p : ℕ) → Contains (map (λ s. s.1) sets) p → IsTrue (is_place_of ws class.Term p) → cell_for cells (term_at ws p) ≡ None → P p) → All P (updated_places ws sets cells)
  each_put P of_cells of_set =
      items_all P (map (λ s. (s.0, place_on ws cells s.1)) sets) cells
      (All-map (λ s. P s.1) (λ (s : ℕ × ℕ). (s.0, place_on ws cells s.1)) sets
      (All-weaker (Contains sets) (λ s. P (place_on ws cells s.1)) (λ s at. by_cell s at (cell_for cells (term_at ws s.1)) refl) sets (All-contains_itself sets))) of_cells where
        by_cell : (s : ℕ × ℕ) → Contains sets s → (o : Option ℕ) → cell_for cells (term_at ws s.1) ≡ o → P (unwrap_or o s.1)
        by_cell s at None e = of_set s.1 (mapped_item (λ r. r.1) sets s at) (All-contains (λ s. IsTrue (is_place_of ws class.Term s.1)) sets s terms at) e
        by_cell s at (Some q) e = All-contains P cells q of_cells (among_cells (term_at ws s.1) q e)

  pub places_terms : All (λ p. IsTrue (is_place_of ws class.Term p)) (updated_places ws sets cells)
  places_terms = each_put (λ p. IsTrue (is_place_of ws class.Term p)) each (λ p at is none. is)

  pub places_from : All (λ p. TermsFrom ws p (IsSetOn ws sets cells)) (updated_places ws sets cells)
  places_from =
      each_put (λ p. TermsFrom ws p (IsSetOn ws sets cells))
      (All-weaker (Contains cells) (λ p. TermsFrom ws p (IsSetOn ws sets cells)) (λ p among t h. inl (record { place = p; among = among; below = h })) cells (All-contains_itself cells))
      (λ p at is none t h. inr (record { place = p; among = at; below = h }, ap (cell_for cells) (term_alone ws formed p t is h) ∙ none))

-- what cells with sets are worth
module _ (v : World) (cells : List Term) where
  on_value : (t : Term) → at v [] (cell_on cells t) ≡ at v (tuple_at v cells) t
  on_value (term.Column k) = sym (get_or-map (at v []) cells k (term.Column k))
  on_value (term.Null n) = refl
  on_value (term.Value x) = refl

  each_value : (sets : Sets) → map {A = ℕ × Term} {B = ℕ × Value} (λ s. (s.0, at v [] s.1)) (map {A = ℕ × Term} {B = ℕ × Term} (λ s. (s.0, cell_on cells s.1)) sets) ≡ map {A = ℕ × Term} {B = ℕ × Value} (λ s. (s.0, at v (tuple_at v cells) s.1)) sets
  each_value [] = refl
  each_value (s ∷ sets) = λ i. (s.0, on_value s.1 i) ∷ each_value sets i

  pub value_updated : (sets : Sets) → tuple_at v (updated_cells sets cells) ≡ updated_tuple v sets (tuple_at v cells)
  value_updated sets = items_map (at v []) (map (λ s. (s.0, cell_on cells s.1)) sets) cells ∙ ap (λ ss. with_items ss (tuple_at v cells)) (each_value sets)

-- one of two rows is shown where their row is
one_of_two : (a h : Bool) (t u : List Value) → cond (a && not h) (t ∷ []) [] ++ cond (a && h) (u ∷ []) [] ≡ cond a ((if h then u else t) ∷ []) []
one_of_two true true t u = refl
one_of_two true false t u = refl
one_of_two false h t u = refl

mapped_one : (f : List Value → List Value) (a : Bool) (t : List Value) → map f (cond a (t ∷ []) []) ≡ cond a (f t ∷ []) []
mapped_one f true t = refl
mapped_one f false t = refl

-- no column is among the terms of an update
no_column : (ws : List ℕ) (width : ℕ) (rows : List CRow) (sets : List (ℕ × ℕ)) (c : ℕ) → All (IsRow ws width) rows → (k : ℕ) → TermOfUpdate ws rows sets c (term.Column k) → ⊥
no_column ws width rows sets c each k (inl h) = none_of_rows ws rows (plain_rows ws width rows each) k h
no_column ws width rows sets c each k (inr h) = h.1 k refl

-- the two conditions that a row's is split into, over words that are added one call after another
module _ (old w1 w2 w3 w4 : List ℕ) (l1 : IsPrefix old w1) (l2 : IsPrefix w1 w2) (l3 : IsPrefix w2 w3) (l4 : IsPrefix w3 w4) (formed : IsWellFormed old) (formed1 : IsWellFormed w1) (formed3 : IsWellFormed w3)
    (c : ℕ) (r : CRow) (is : IsTrue (is_place_of old class.Cond r.cond)) (met missed stays goes : ℕ) (m : HoldsWhere w1 met (holds_for old c r.cells)) (m_from : TermsFrom w1 met (IsPlaced old c r.cells))
    (n : HasTruth w2 missed (not_at w1 met)) (n_from : TermsFrom w2 missed (TermBelow w1 met)) (s : HasTruth w3 stays (and_at w2 r.cond missed)) (s_from : TermsFrom w3 stays (BelowEither w2 r.cond missed))
    (t : HasTruth w4 goes (and_at w3 r.cond met)) (t_from : TermsFrom w4 goes (BelowEither w3 r.cond met)) where
  to_w2 : IsPrefix old w2
  to_w2 = prefix_of_prefix old w1 w2 l1 l2

  to_w3 : IsPrefix old w3
  to_w3 = prefix_of_prefix old w2 w3 to_w2 l3

  met_to_w3 : IsPrefix w1 w3
  met_to_w3 = prefix_of_prefix w1 w2 w3 l2 l3

  abbrev SplitSource : Term → Type 0
  SplitSource u = TermOfRow old r u ⊎ IsPlaced old c r.cells u

  pub split_stays : HoldsWhere w4 stays (λ v. holds_at v (condition_at old r.cond) && not (holds_for old c r.cells v))
  split_stays =
      holds_later w3 w4 stays _ l4
      (holds_and w2 w3 r.cond missed stays (λ v. holds_at v (condition_at old r.cond)) (λ v. not (holds_for old c r.cells v)) (holds_later old w2 r.cond _ to_w2 (holds_itself old r.cond is)) (holds_not w1 w2 met missed (holds_for old c r.cells) m n) s)

  pub split_goes : HoldsWhere w4 goes (λ v. holds_at v (condition_at old r.cond) && holds_for old c r.cells v)
  split_goes =
      holds_and w3 w4 r.cond met goes (λ v. holds_at v (condition_at old r.cond)) (holds_for old c r.cells) (holds_later old w3 r.cond _ to_w3 (holds_itself old r.cond is)) (holds_later w1 w3 met _ met_to_w3 m) t

  own_from : TermsFrom old r.cond SplitSource
  own_from u h = inl (record { place = r.cond; among = foremost r.cond r.cells; below = h })

  pub split_terms : All (λ place. TermsFrom w4 place (λ u. TermOfRow old r u ⊎ IsPlaced old c r.cells u)) (stays ∷ goes ∷ [])
  split_terms =
      All-cons (λ place. TermsFrom w4 place SplitSource) stays (goes ∷ [])
      (from_later w3 w4 l4 formed3 stays SplitSource (place_within w3 class.Cond stays s.class)
      (from_two w2 w3 r.cond missed stays SplitSource (from_later old w2 to_w2 formed r.cond SplitSource (place_within old class.Cond r.cond is) own_from) (λ u h. inr (m_from u (n_from u h))) s_from))
      (All-cons (λ place. TermsFrom w4 place SplitSource) goes []
      (from_two w3 w4 r.cond met goes SplitSource (from_later old w3 to_w3 formed r.cond SplitSource (place_within old class.Cond r.cond is) own_from)
      (λ u h. inr (m_from u (below_before w1 w3 met_to_w3 formed1 met u (place_within w1 class.Cond met m.class) h))) t_from)
      (All-nil (λ place. TermsFrom w4 place SplitSource)))

-- the two rows that come of one
module _ (old new : List ℕ) (longer : IsPrefix old new) (formed : IsWellFormed old) (width : ℕ) (sets : List (ℕ × ℕ)) (c : ℕ) (fits : FitsUpdate old width sets c) (r : CRow) (is : IsRow old width r)
    (cells : List ℕ) (made : cells ≡ updated_places old sets r.cells) (places : All (λ p. IsTrue (is_place_of old class.Term p)) cells) (froms : All (λ p. TermsFrom old p (IsSetOn old sets r.cells)) cells)
    (stays goes : ℕ) (one : HoldsWhere new stays (λ v. holds_at v (condition_at old r.cond) && not (holds_for old c r.cells v)))
    (other : HoldsWhere new goes (λ v. holds_at v (condition_at old r.cond) && holds_for old c r.cells v))
    (conds : All (λ place. TermsFrom new place (λ t. TermOfRow old r t ⊎ IsPlaced old c r.cells t)) (stays ∷ goes ∷ [])) where
  abbrev Source : Term → Type 0
  Source = TermOfUpdate old (r ∷ []) sets c

  of_row : (t : Term) → TermOfRow old r t → Source t
  of_row t h = inl (record { row = r; among = foremost r []; below = h })

  of_cells : (t : Term) → BelowSome old r.cells t → Source t
  of_cells t b = of_row t (some_among old r.cells (r.cond ∷ r.cells) t (behind r.cond r.cells) b)

  -- a term for which no cell is put
  of_update : (t : Term) → BelowSome old (places_named sets c) t → cell_for r.cells t ≡ None → Source t
  of_update t b none =
      inr (b, no_cell_no_column r.cells t none (λ k e. subst (λ n. k < n) (sym is.width_is) (fits.columns k (subst (BelowSome old (places_named sets c)) e b))))

  of_placed : (t : Term) → TermOfRow old r t ⊎ IsPlaced old c r.cells t → Source t
  of_placed t (inl h) = of_row t h
  of_placed t (inr (inl b)) = of_cells t b
  of_placed t (inr (inr x)) = of_update t (record { place = c; among = foremost c (map (λ s. s.1) sets); below = x.0 }) x.1

  of_set : (t : Term) → IsSetOn old sets r.cells t → Source t
  of_set t (inl b) = of_cells t b
  of_set t (inr x) = of_update t (some_among old (map (λ s. s.1) sets) (places_named sets c) t (behind c (map (λ s. s.1) sets)) x.0) x.1

  conds_from : All (λ place. TermsFrom new place Source) (stays ∷ goes ∷ [])
  conds_from = All-weaker (λ place. TermsFrom new place (λ t. TermOfRow old r t ⊎ IsPlaced old c r.cells t)) (λ place. TermsFrom new place Source) (λ place from t h. of_placed t (from t h)) (stays ∷ goes ∷ []) conds

  stays_from : RowFrom new Source (record { cells = r.cells; cond = stays })
  stays_from =
      under_from old new longer formed width Source r stays is (row_wider old (TermOfRows old (r ∷ [])) Source (λ t h. inl h) r (row_itself old (r ∷ []) r (foremost r [])))
      (All-head (λ place. TermsFrom new place Source) stays (goes ∷ []) conds_from)

  goes_from : RowFrom new Source (record { cells = cells; cond = goes })
  goes_from =
      All-cons (λ p. TermsFrom new p Source) goes cells (All-head (λ place. TermsFrom new place Source) goes [] (All-tail (λ place. TermsFrom new place Source) stays (goes ∷ []) conds_from))
      (all_from_later old new longer formed cells Source (All-weaker (λ p. IsTrue (is_place_of old class.Term p)) (λ p. p < length old) (λ p. place_within old class.Term p) cells places)
      (All-weaker (λ p. TermsFrom old p (IsSetOn old sets r.cells)) (λ p. TermsFrom old p Source) (λ p from t h. of_set t (from t h)) cells froms))

  -- a row whose terms are of the update
  is_row : (ps : List ℕ) (place : ℕ) → All (λ p. IsTrue (is_place_of new class.Term p)) ps → IsTrue (is_place_of new class.Cond place) → length ps ≡ width
      → RowFrom new Source (record { cells = ps; cond = place }) → IsRow new width (record { cells = ps; cond = place })
  is_row ps place terms condition long from = record {
    terms = terms;
    condition = condition;
    width_is = long;
    plain = All-weaker (λ p. TermsFrom new p Source) (HasNoColumn new) (λ p. none_from new p Source (no_column old width (r ∷ []) sets c (All-cons (IsRow old width) r [] is (All-nil (IsRow old width))))) (place ∷ ps) from;
  }

  worth : (v : World) → value_of_rows new v (record { cells = r.cells; cond = stays } ∷ record { cells = cells; cond = goes } ∷ []) ≡ updated v (condition_at old c) (sets_at old sets) (value_of_rows old v (r ∷ []))
  worth v =
      let x : PlainRow = plain_crow old r in
      let y : PlainRow = plain_crow new (record { cells = r.cells; cond = stays }) in
      let z : PlainRow = plain_crow new (record { cells = cells; cond = goes }) in
      let t = tuple_at v x.cells in
      let a = holds_at v x.condition in
      let h = holds v t (condition_at old c) in
      let ss = sets_at old sets in
      let as_was : tuple_at v y.cells ≡ t = ap (tuple_at v) (terms_grow old new longer r.cells is.terms) in
      let changed : tuple_at v z.cells ≡ updated_tuple v ss t =
      ap (tuple_at v) (terms_grow old new longer cells places ∙ ap (map (term_at old)) made ∙ cells_updated old r.cells sets) ∙ value_updated v x.cells ss in
      value-append new v (record { cells = r.cells; cond = stays } ∷ []) (record { cells = cells; cond = goes } ∷ [])
      ∙ (λ i. one_shown v y (a && not h) (one.holds v) i ++ one_shown v z (a && h) (other.holds v) i)
      ∙ (λ i. cond (a && not h) (as_was i ∷ []) [] ++ cond (a && h) (changed i ∷ []) [])
      ∙ one_of_two a h t (updated_tuple v ss t)
      ∙ sym (ap (updated v (condition_at old c) ss) (one_shown v x a refl) ∙ mapped_one (λ u. if holds v u (condition_at old c) then updated_tuple v ss u else u) a t)

  pub halves_update : Updates old new width sets c (r ∷ []) (record { cells = r.cells; cond = stays } ∷ record { cells = cells; cond = goes } ∷ [])
  halves_update = record {
    grown = longer;
    each = All-cons (IsRow new width) (record { cells = r.cells; cond = stays }) (record { cells = cells; cond = goes } ∷ [])
        (is_row r.cells stays (places_in_prefix old new r.cells longer is.terms) one.class is.width_is stays_from)
        (All-cons (IsRow new width) (record { cells = cells; cond = goes }) []
        (is_row cells goes (places_in_prefix old new cells longer places) other.class (ap (λ (l : List ℕ). length l) made ∙ items_long (map (λ s. (s.0, place_on old r.cells s.1)) sets) r.cells ∙ is.width_is) goes_from)
        (All-nil (IsRow new width)));
    cells_are = λ i. terms_grow old new longer r.cells is.terms i ∷ (terms_grow old new longer cells places ∙ ap (map (term_at old)) made ∙ cells_updated old r.cells sets) i ∷ [];
    worth_is = worth;
    from = All-cons (RowFrom new Source) (record { cells = r.cells; cond = stays }) (record { cells = cells; cond = goes } ∷ []) stays_from
        (All-cons (RowFrom new Source) (record { cells = cells; cond = goes }) [] goes_from (All-nil (RowFrom new Source)));
  }

-- rows put in, over more words
pub builds_later : (old now new : List ℕ) → IsPrefix now new → IsWellFormed now → (width : ℕ) (cells : List (List Term)) (values : World → List (List Value)) (source : Term → Type 0) (out : List CRow)
    → Builds old now width cells values source out → Builds old new width cells values source out
builds_later old now new longer formed width cells values source out s = record {
  grown = prefix_of_prefix old now new s.grown longer;
  each = All-weaker (IsRow now width) (IsRow new width) (is_row_grows now new longer formed width) out s.each;
  cells_are = cells_grow now new longer width out s.each ∙ s.cells_are;
  worth_is = λ v. value_grows now new longer v width out s.each ∙ s.worth_is v;
  from = rows_later now new longer formed width source out s.each s.from;
}

-- an update, as words are added
module _ (old now : List ℕ) (grown : IsPrefix old now) (formed : IsWellFormed old) (width : ℕ) (sets : List (ℕ × ℕ)) (c : ℕ) (fits : FitsUpdate old width sets c) where
  sets_stay : (ss : List (ℕ × ℕ)) → All (λ s. IsTrue (is_place_of old class.Term s.1)) ss → sets_at now ss ≡ sets_at old ss
  sets_stay [] terms = refl
  sets_stay (s ∷ ss) terms =
      λ i. (s.0, term_in_prefix old now s.1 grown (place_within old class.Term s.1 (All-head (λ s. IsTrue (is_place_of old class.Term s.1)) s ss terms)) i)
      ∷ sets_stay ss (All-tail (λ s. IsTrue (is_place_of old class.Term s.1)) s ss terms) i

  pub condition_stays : condition_at now c ≡ condition_at old c
  condition_stays = condition_in_prefix old now c grown (place_within old class.Cond c fits.condition)

  within : All (λ p. p < length old) (places_named sets c)
  within =
      All-cons (λ p. p < length old) c (map (λ s. s.1) sets) (place_within old class.Cond c fits.condition)
      (All-map (λ p. p < length old) (λ (s : ℕ × ℕ). s.1) sets
      (All-weaker (λ s. IsTrue (is_place_of old class.Term s.1)) (λ s. s.1 < length old) (λ s. place_within old class.Term s.1) sets fits.terms))

  pub update_later : FitsUpdate now width sets c
  update_later = record {
    positions = fits.positions;
    terms = All-weaker (λ s. IsTrue (is_place_of old class.Term s.1)) (λ s. IsTrue (is_place_of now class.Term s.1)) (λ s. place_in_prefix old now class.Term s.1 grown) sets fits.terms;
    condition = place_in_prefix old now class.Cond c grown fits.condition;
    columns = λ k b. fits.columns k (some_below_before old now grown formed (places_named sets c) (term.Column k) within b);
  }

  -- the rows of one more row
  module _ (new : List ℕ) (formed_now : IsWellFormed now) (rows done added : List CRow) (r : CRow) (is : IsRow old width r) where
    abbrev All_from : Term → Type 0
    All_from = TermOfUpdate old (rows ++ r ∷ []) sets c

    wider : (t : Term) → TermOfUpdate old rows sets c t → All_from t
    wider t (inl h) = inl (rows_among old rows (rows ++ r ∷ []) t (λ x. Contains-append_left rows (r ∷ []) x) h)
    wider t (inr x) = inr x

    own : All (IsRow old width) (r ∷ [])
    own = All-cons (IsRow old width) r [] is (All-nil (IsRow old width))

    back : (t : Term) → TermOfUpdate now (r ∷ []) sets c t → All_from t
    back t (inl h) = inl (rows_among old (r ∷ []) (rows ++ r ∷ []) t (λ x. Contains-append_right rows (r ∷ []) x) (rows_before old now grown formed width (r ∷ []) t own h))
    back t (inr x) = inr (some_below_before old now grown formed (places_named sets c) t within x.0, x.1)

    cells_all : with_updated (sets_at old sets) (cells_of old rows) ++ with_updated (sets_at old sets) (cells_of old (r ∷ [])) ≡ with_updated (sets_at old sets) (cells_of old (rows ++ r ∷ []))
    cells_all =
        sym (flat_map-append (λ cells. cells ∷ updated_cells (sets_at old sets) cells ∷ []) (cells_of old rows) (cells_of old (r ∷ [])))
        ∙ ap (with_updated (sets_at old sets)) (sym (map-append (λ (x : CRow). map (term_at old) x.cells) rows (r ∷ [])))

    worth_all : (v : World) → updated v (condition_at old c) (sets_at old sets) (value_of_rows old v rows) ++ updated v (condition_at old c) (sets_at old sets) (value_of_rows old v (r ∷ []))
        ≡ updated v (condition_at old c) (sets_at old sets) (value_of_rows old v (rows ++ r ∷ []))
    worth_all v =
        sym (map-append (λ t. if holds v t (condition_at old c) then updated_tuple v (sets_at old sets) t else t) (value_of_rows old v rows) (value_of_rows old v (r ∷ [])))
        ∙ ap (updated v (condition_at old c) (sets_at old sets)) (sym (value-append old v rows (r ∷ [])))

    pub updates_more : Updates old now width sets c rows done → Updates now new width sets c (r ∷ []) added → Updates old new width sets c (rows ++ r ∷ []) (done ++ added)
    updates_more so_far one =
        builds_as old new width _ _ _ _ All_from All_from (done ++ added) cells_all worth_all (λ t h. h)
        (builds_append old now new formed_now width _ _ _ _ All_from done added
        (builds_as old now width (with_updated (sets_at old sets) (cells_of old rows)) _ (λ v. updated v (condition_at old c) (sets_at old sets) (value_of_rows old v rows)) _ (TermOfUpdate old rows sets c) All_from done refl (λ v. refl) wider so_far)
        (builds_as now new width (with_updated (sets_at now sets) (cells_of now (r ∷ []))) (with_updated (sets_at old sets) (cells_of old (r ∷ [])))
        (λ v. updated v (condition_at now c) (sets_at now sets) (value_of_rows now v (r ∷ []))) (λ v. updated v (condition_at old c) (sets_at old sets) (value_of_rows old v (r ∷ [])))
        (TermOfUpdate now (r ∷ []) sets c) All_from added
        (λ i. with_updated (sets_stay sets fits.terms i) (cells_grow old now grown width (r ∷ []) own i))
        (λ v i. updated v (condition_stays i) (sets_stay sets fits.terms i) (value_grows old now grown v width (r ∷ []) own i))
        back one))

-- the places that are put stay as words are added
pub places_stay : (old now : List ℕ) → IsPrefix old now → (sets : List (ℕ × ℕ)) (cells : List ℕ) → All (λ s. IsTrue (is_place_of old class.Term s.1)) sets → updated_places now sets cells ≡ updated_places old sets cells
places_stay old now grown sets cells terms = ap (λ ss. with_items ss cells) (each_stays sets terms) where
  each_stays : (ss : List (ℕ × ℕ)) → All (λ s. IsTrue (is_place_of old class.Term s.1)) ss
      → map {A = ℕ × ℕ} {B = ℕ × ℕ} (λ s. (s.0, place_on now cells s.1)) ss ≡ map {A = ℕ × ℕ} {B = ℕ × ℕ} (λ s. (s.0, place_on old cells s.1)) ss
  each_stays [] terms = refl
  each_stays (s ∷ ss) terms =
      λ i. (s.0, unwrap_or (cell_for cells (term_in_prefix old now s.1 grown (place_within old class.Term s.1 (All-head (λ s. IsTrue (is_place_of old class.Term s.1)) s ss terms)) i)) s.1)
      ∷ each_stays ss (All-tail (λ s. IsTrue (is_place_of old class.Term s.1)) s ss terms) i

-- the two of each stay as words are added
pub halves_stay : (old now : List ℕ) → IsPrefix old now → (sets : List (ℕ × ℕ)) → All (λ s. IsTrue (is_place_of old class.Term s.1)) sets → (rows : List CRow) (conds : List (ℕ × ℕ)) → all_halves now sets rows conds ≡ all_halves old sets rows conds
halves_stay old now grown sets terms [] conds = refl
halves_stay old now grown sets terms (r ∷ rows) [] = refl
halves_stay old now grown sets terms (r ∷ rows) (b ∷ conds) =
    λ i. record { cells = r.cells; cond = b.0 } ∷ record { cells = places_stay old now grown sets r.cells terms i; cond = b.1 } ∷ halves_stay old now grown sets terms rows conds i

-- the two of one more row
pub halves_push : (ws : List ℕ) (sets : List (ℕ × ℕ)) (rows : List CRow) (conds : List (ℕ × ℕ)) → length conds ≡ length rows → (r : CRow) (b : ℕ × ℕ)
    → all_halves ws sets (rows ++ r ∷ []) (conds ++ b ∷ []) ≡ all_halves ws sets rows conds ++ halves_of ws sets r b
halves_push ws sets [] [] e r b = refl
halves_push ws sets [] (c ∷ conds) e r b = absurd (omega (arith, e))
halves_push ws sets (x ∷ rows) [] e r b = absurd (omega (arith, e))
halves_push ws sets (x ∷ rows) (c ∷ conds) e r b = ap (λ l. halves_of ws sets x c ++ l) (halves_push ws sets rows conds (omega (arith, e)) r b)

-- the rows that are left of the two of one more row
pub halves_more : (ws : List ℕ) (sets : List (ℕ × ℕ)) (n : ℕ) (rows : List CRow) (conds : List (ℕ × ℕ)) → length conds ≡ length rows → n < length rows → (r : CRow) → r ≡ get_or rows n r → (b : ℕ × ℕ) → b ≡ get_or conds n b
    → filter is_possible (all_halves ws sets (take (n + 1) rows) (take (n + 1) conds)) ≡ filter is_possible (all_halves ws sets (take n rows) (take n conds)) ++ filter is_possible (halves_of ws sets r b)
halves_more ws sets n rows conds long lt r is b it =
    (λ i. filter is_possible (all_halves ws sets ((take_more rows n r lt ∙ ap (λ x. take n rows ++ x ∷ []) (sym is)) i) ((take_more conds n b (omega (arith, lt, long)) ∙ ap (λ x. take n conds ++ x ∷ []) (sym it)) i)))
    ∙ ap (filter is_possible) (halves_push ws sets (take n rows) (take n conds) (length-take-le n conds (omega (arith, lt, long)) ∙ sym (length-take-le n rows (omega (arith, lt)))) r b)
    ∙ filter-append is_possible (all_halves ws sets (take n rows) (take n conds)) (halves_of ws sets r b)

-- the two at a place
pub halves_at : (P : CRow → Type 0) (ws : List ℕ) (sets : List (ℕ × ℕ)) (rows : List CRow) (conds : List (ℕ × ℕ)) → length conds ≡ length rows → (n : ℕ) → n < length rows → (r : CRow) (b : ℕ × ℕ)
    → r ≡ get_or rows n r → b ≡ get_or conds n b → All P (all_halves ws sets rows conds) → All P (halves_of ws sets r b)
halves_at P ws sets [] conds e n lt r b is it all = absurd (omega (arith, lt))
halves_at P ws sets (x ∷ rows) [] e n lt r b is it all = absurd (omega (arith, e))
halves_at P ws sets (x ∷ rows) (c ∷ conds) e zero lt r b is it all =
    let one : CRow = record { cells = x.cells; cond = c.0 } in
    let other : CRow = record { cells = updated_places ws sets x.cells; cond = c.1 } in
    let rest = all_halves ws sets rows conds in
    subst (λ y. All P (halves_of ws sets y b)) (sym is)
    (subst (λ y. All P (halves_of ws sets x y)) (sym it)
    (All-cons P one (other ∷ []) (All-head P one (other ∷ rest) all) (All-cons P other [] (All-head P other rest (All-tail P one (other ∷ rest) all)) (All-nil P))))
halves_at P ws sets (x ∷ rows) (c ∷ conds) e (suc n) lt r b is it all =
    let one : CRow = record { cells = x.cells; cond = c.0 } in
    let other : CRow = record { cells = updated_places ws sets x.cells; cond = c.1 } in
    let rest = all_halves ws sets rows conds in
    halves_at P ws sets rows conds (omega (arith, e)) n (omega (arith, lt)) r b is it (All-tail P other rest (All-tail P one (other ∷ rest) all))

-- the row of a turn with its two conditions
pub record Turned (old now : List ℕ) (width : ℕ) (sets : List (ℕ × ℕ)) (rows : List CRow) (conds : List (ℕ × ℕ)) (n : ℕ) (r : CRow) (b : ℕ × ℕ) : Type 0 where
  pub within : n < length rows
  pub width_is : length r.cells ≡ width
  pub own : All (IsRow now (length r.cells)) (halves_of now sets r b)
  pub over : halves_of now sets r b ≡ halves_of old sets r b
  pub more : filter is_possible (all_halves old sets (take (n + 1) rows) (take (n + 1) conds)) ≡ filter is_possible (all_halves old sets (take n rows) (take n conds)) ++ filter is_possible (halves_of old sets r b)

pub turned : (old now : List ℕ) → IsPrefix old now → IsWellFormed old → (width : ℕ) (sets : List (ℕ × ℕ)) → All (λ s. IsTrue (is_place_of old class.Term s.1)) sets → (rows : List CRow) (conds : List (ℕ × ℕ)) → length conds ≡ length rows
    → All (IsRow old width) (all_halves old sets rows conds) → (n : ℕ) → n < length rows → (r : CRow) → r ≡ get_or rows n r → (b : ℕ × ℕ) → b ≡ get_or conds n b → Turned old now width sets rows conds n r b
turned old now grown formed width sets terms rows conds long all n lt r is b it =
    let both = halves_at (IsRow old width) old sets rows conds long n lt r b is it all in
    let other : CRow = record { cells = updated_places old sets r.cells; cond = b.1 } in
    let wide = (All-head (IsRow old width) (record { cells = r.cells; cond = b.0 }) (other ∷ []) both).width_is in
    let same : halves_of now sets r b ≡ halves_of old sets r b = halves_stay old now grown sets terms (r ∷ []) (b ∷ []) in
    record {
      within = lt;
      width_is = wide;
      own = subst (λ w. All (IsRow now w) (halves_of now sets r b)) (sym wide) (subst (All (IsRow now width)) (sym same) (All-weaker (IsRow old width) (IsRow now width) (is_row_grows old now grown formed width) (halves_of old sets r b) both));
      over = same;
      more = halves_more old sets n rows conds long lt r is b it;
    }

-- no rows, and the two conditions of one more
pub split_none : (old : List ℕ) (width : ℕ) (sets : List (ℕ × ℕ)) (c : ℕ) → AreSplit old old width sets c [] []
split_none old width sets c = record { long = refl; updates = builds_none old width (TermOfUpdate old [] sets c) }

pub split_more : (old now new : List ℕ) → IsPrefix now new → IsWellFormed old → IsWellFormed now → (width : ℕ) (sets : List (ℕ × ℕ)) (c : ℕ) → FitsUpdate old width sets c → (rows : List CRow) (conds : List (ℕ × ℕ))
    → AreSplit old now width sets c rows conds → (r : CRow) → IsRow old width r → (b : ℕ × ℕ)
    → HoldsWhere new b.0 (λ v. holds_at v (condition_at now r.cond) && not (holds_for now c r.cells v)) → HoldsWhere new b.1 (λ v. holds_at v (condition_at now r.cond) && holds_for now c r.cells v)
    → All (λ place. TermsFrom new place (λ t. TermOfRow now r t ⊎ IsPlaced now c r.cells t)) (b.0 ∷ b.1 ∷ []) → AreSplit old new width sets c (rows ++ r ∷ []) (conds ++ b ∷ [])
split_more old now new longer formed formed_now width sets c fits rows conds so_far r is b one other from =
    let grown = so_far.updates.grown in
    let later = update_later old now grown formed width sets c fits in
    let is_now = is_row_grows old now grown formed width r is in
    let cells = updated_places now sets r.cells in
    let own = halves_update now new longer formed_now width sets c later r is_now cells refl (places_terms now formed_now r.cells sets later.terms is_now.terms) (places_from now formed_now r.cells sets later.terms is_now.terms)
    b.0 b.1 one other from in
    record {
      long = length_push conds b ∙ ap (λ n. n + 1) so_far.long ∙ sym (length_push rows r);
      updates = subst (Updates old new width sets c (rows ++ r ∷ [])) (sym (halves_push old sets rows conds so_far.long r b))
          (updates_more old now grown formed width sets c fits new formed_now rows (all_halves old sets rows conds) (halves_of old sets r b) r is so_far.updates
          (subst (λ l. Updates now new width sets c (r ∷ []) (record { cells = r.cells; cond = b.0 } ∷ record { cells = l; cond = b.1 } ∷ [])) (places_stay old now grown sets r.cells fits.terms) own));
    }

-- rows put in, and further ones
pub puts_both : (old mid new : List ℕ) (width : ℕ) (xs ys : List CRow) (before between after : List CRow) → PutsIn old mid width xs before between → PutsIn mid new width ys between after → PutsIn old new width (xs ++ ys) before after
puts_both old mid new width xs ys before between after first second done so_far =
    subst (λ d. AreGathered new width d after)
    (append_assoc done (filter is_possible xs) (filter is_possible ys) ∙ ap (λ d. done ++ d) (sym (filter-append is_possible xs ys)))
    (second (done ++ filter is_possible xs) (first done so_far))

-- a row under the word false is worth nothing
worth_without : (ws : List ℕ) (v : World) → holds_at v (condition_at ws 1) ≡ false → (rs : List CRow) → value_of_rows ws v (filter is_possible rs) ≡ value_of_rows ws v rs
worth_without ws v never [] = refl
worth_without ws v never (x ∷ rs) = by_test (nat_eq x.cond 1) refl (worth_without ws v never rs) where
  by_test : (b : Bool) → nat_eq x.cond 1 ≡ b → value_of_rows ws v (filter is_possible rs) ≡ value_of_rows ws v rs → value_of_rows ws v (filter is_possible (x ∷ rs)) ≡ value_of_rows ws v (x ∷ rs)
  by_test true p later =
      ap (λ b. value_of_rows ws v (cond (not b) (x ∷ filter is_possible rs) (filter is_possible rs))) p
      ∙ later
      ∙ sym (value-append ws v (x ∷ []) rs ∙ ap (λ l. l ++ value_of_rows ws v rs) (one_shown v (plain_crow ws x) false (ap (λ q. holds_at v (condition_at ws q)) (eqb-true x.cond 1 p) ∙ never)))
  by_test false p later =
      ap (λ b. value_of_rows ws v (cond (not b) (x ∷ filter is_possible rs) (filter is_possible rs))) p
      ∙ value-append ws v (x ∷ []) (filter is_possible rs) ∙ ap (λ l. value_of_rows ws v (x ∷ []) ++ l) later ∙ sym (value-append ws v (x ∷ []) rs)

-- what is gathered of the two of each row
module _ (old now : List ℕ) (width : ℕ) (sets : List (ℕ × ℕ)) (c : ℕ) (rows done out : List CRow) (updates : Updates old now width sets c rows done) (is : IsGathered now width (filter is_possible done) out) where
  pub updated_values : IsPrefix opening now → IsWellFormed now → (v : World) → SameSet (value_of_rows now v out) (updated v (condition_at old c) (sets_at old sets) (value_of_rows old v rows))
  updated_values begins formed v =
      subst (SameSet (value_of_rows now v out)) (worth_without now v ((false_at now begins formed).truth_is v []) done ∙ updates.worth_is v) (is.values v)

  pub updated_part : IsSublist (cells_of now out) (with_updated (sets_at old sets) (cells_of old rows))
  updated_part =
      subst (IsSublist (cells_of now out)) updates.cells_are
      (sublist_of_sublist (cells_of now out) (cells_of now (filter is_possible done)) (cells_of now done)
      (part_of_firsts same_cells (cells_of now out) (cells_of now (filter is_possible done)) is.order)
      (sublist-map (λ (x : CRow). map (term_at now) x.cells) (filter is_possible done) done (filtered_part is_possible done)))

  pub updated_from : RowsFrom now out (TermOfUpdate old rows sets c)
  updated_from =
      rows_wider now (TermOfRows now (filter is_possible done)) (TermOfUpdate old rows sets c)
      (from_rows now (filter is_possible done) (TermOfUpdate old rows sets c) (All-filter is_possible (RowFrom now (TermOfUpdate old rows sets c)) done updates.from)) out is.from

-- the words of both steps
pub words_of_both : (n k : ℕ) → n * (k + 5) ≡ n * (k + 3) + n * 2
words_of_both n k = ap (λ m. n * m) five ∙ mul-add n (k + 3) 2 where
  five : k + 5 ≡ (k + 3) + 2
  five = omega arith
