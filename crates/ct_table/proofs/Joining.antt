-- Conditions joined to those that rows have already.
use Rattle.std.proofs.Common.{◌≡◌, ℕ, Bool, true, false, ◌||◌, ◌<◌, List, [], ◌∷◌, ◌++◌, map, Option, None, Some, Ok, Err, length, refl, ap, sym, subst, ◌∙◌, arith}
use Rattle.std.{specs.Prelude.{◌≢◌, IsTrue, ◌^◌, All, Result, IfOk}, proofs.lemmas.List.Elements.{All-head, All-tail}, proofs.lemmas.Bool.{false≢true, ne_eqb}}
use Rattle.std.{specs.List.{filter, IsDistinct, AllByRecursion}, proofs.lemmas.Map.Keys.{IsDistinct-head, IsDistinct-tail}, proofs.lemmas.List.map-append}
use Rattle.ct_word.{specs.Condition.holds, specs.WellFormed.{IsWellFormed, is_place_of}, specs.declared.values.CRow.CRow, specs.Sublist.IsSublist}
use Rattle.ct_word.{proofs.Prefixes.{place_in_prefix, place_within, condition_in_prefix, prefix_same}, proofs.Alike.{text_decides, cells_decide}}
use Rattle.ct_word.{specs.Value.{World, same_text, same_cells}, specs.Reading.term_at}
use Rattle.ct_arena.specs.Counts.{opening}
use Rattle.ct_condition.{specs.Truth.{HasTruth, or_at, truth_at}, proofs.Truths.false_at}
use Rattle.ct_query.{specs.Database.SameSet, proofs.Sets.same_set_itself}
use Rattle.ct_operators.{specs.Tables.{AreRows, cells_of, value_of_rows, firsts}, specs.Terms.{TermOfRows, RowsFrom}, proofs.Reaching.rows_itself}
use Rattle.ct_operators.{proofs.Firsts.{firsts_distinct, part_of_firsts}, proofs.Selecting.value-append, specs.Merging.{rows_of, Merged, Gathers, is_possible}}
use Rattle.ct_operators.proofs.Merges.{entry_merged, entry_put, kept_rows, kept_values, kept_order, kept_from}
use Rattle.ct_table.specs.Growing.{find, put, put_each, grown, entries_of, Apart, Fits, Joins, alone, with_first, AreInserted}
use Rattle.ct_table.proofs.Entries.{cases, find_hit, find_miss, none_some}
use Rattle.ct_table.proofs.Putting.{find_among, find_after, put_more, fits_more, kept_of, keep, rows_grown}
use mathlib.Core.List.{IsPrefix}
use Rattle.ct_word.specs.declared.kinds.Class.TheVariants as class

or_false : (a b : Bool) → (a || b) ≡ false → a ≡ (a || b)
or_false true b e = e ∙ sym e
or_false false b e = sym e

-- where a disjunction is the word false, the first of the two conditions is false as well
pub first_false : (old new : List ℕ) (p q : ℕ) → IsPrefix old new → IsWellFormed new → IsPrefix opening new → length new < 2 ^ 28 → IsTrue (is_place_of old class.Cond p)
    → HasTruth new 1 (or_at old p q) → HasTruth new p (or_at old p q)
first_false old new p q longer wf begins small is h = record {
  class = there;
  small = let within = place_within new class.Cond p there in omega (arith, within, small);
  truth_is = λ v row.
      ap (holds v row) (condition_in_prefix old new p longer (place_within old class.Cond p is))
      ∙ or_false (truth_at old p v row) (truth_at old q v row) (sym (h.truth_is v row) ∙ (false_at new begins wf).truth_is v row);
} where
  there : IsTrue (is_place_of new class.Cond p)
  there = place_in_prefix old new class.Cond p longer is

pub if_ok_all : {T E : Type 0} (P Q R S : T → Type 0) (r : Result T E) → IfOk r P → IfOk r Q → IfOk r R → ((x : T) → P x → Q x → R x → S x) → IfOk r S
if_ok_all P Q R S (Ok x) p q s f = f x p q s
if_ok_all P Q R S (Err e) p q s f = tt

-- the condition of a row that was found is not the word false
found_possible : (k : List ℕ) (d : ℕ) (es : List (List ℕ × ℕ)) → find k es ≡ Some d → All (λ r. r.cond ≢ 1) (rows_of es) → d ≢ 1
found_possible k d [] found all = none_some d (find k []) refl found
found_possible k d (e ∷ es) found all = cases (same_text k e.0)
    (λ p.
    let same : Some e.1 ≡ Some d = sym (find_hit k e es p) ∙ found in
    let is : e.1 ≡ d = cc in
    λ one. All-head (λ r. r.cond ≢ 1) (record { cells = e.0; cond = e.1 }) (rows_of es) all (is ∙ one))
    (λ p. found_possible k d es (sym (find_miss k e es p) ∙ found) (All-tail (λ r. r.cond ≢ 1) (record { cells = e.0; cond = e.1 }) (rows_of es) all))

-- no row is under the word false
pub all_kept : (es : List (List ℕ × ℕ)) → All (λ r. r.cond ≢ 1) (rows_of es) → kept_of es ≡ es
all_kept [] all = refl
all_kept (e ∷ es) all =
    keep e es false (ne_eqb e.1 1 (All-head (λ r. r.cond ≢ 1) (record { cells = e.0; cond = e.1 }) (rows_of es) all))
    ∙ ap (λ l. e ∷ l) (all_kept es (All-tail (λ r. r.cond ≢ 1) (record { cells = e.0; cond = e.1 }) (rows_of es) all))

-- a row that is there has a condition after others were put, which is not the word false
still_there : (k : List ℕ) (d : ℕ) (es ps : List (List ℕ × ℕ)) → Apart ps → Fits es ps → find k es ≡ Some d → d ≢ 1 → (f : ℕ) × (find k (put_each es ps) ≡ Some f) × (f ≢ 1)
still_there k d es ps a fits there ne = by_case (find k ps) refl where
  by_case : (o : Option ℕ) → find k ps ≡ o → (f : ℕ) × (find k (put_each es ps) ≡ Some f) × (f ≢ 1)
  by_case (Some x) e = (x, find_among k x ps es a e, (fits k x d e there).1)
  by_case None e = (d, find_after k ps es e ∙ there, ne)

module _ (old new : List ℕ) (es ps : List (List ℕ × ℕ)) (r : CRow) (c : ℕ) (a : Apart ps) where
  pub joins_merged : Joins old new (put_each es ps) r c → Merged old new (rows_of (put_each es ps)) r (rows_of (put_each es (put ps r.cells c)))
  joins_merged (alone none is) = subst (λ l. Merged old new (rows_of (put_each es ps)) r (rows_of l)) (ap (put (put_each es ps) r.cells) (sym is) ∙ sym (put_more r.cells c ps es a))
      (entry_put old new r.cells r.cond (put_each es ps) none)
  joins_merged (with_first first found truth terms possible) = subst (λ l. Merged old new (rows_of (put_each es ps)) r (rows_of l)) (sym (put_more r.cells c ps es a))
      (entry_merged old new r.cells r.cond first c (put_each es ps) found truth terms)

  pub joins_fits : All (λ r. r.cond ≢ 1) (rows_of es) → Fits es ps → Joins old new (put_each es ps) r c → Fits es (put ps r.cells c)
  joins_fits all fits joins = fits_more r.cells c es ps fits (λ d there. let ne = found_possible r.cells d es there all in (ne, by_join joins (still_there r.cells d es ps a fits there ne))) where
    by_join : Joins old new (put_each es ps) r c → (f : ℕ) × (find r.cells (put_each es ps) ≡ Some f) × (f ≢ 1) → c ≢ 1
    by_join (alone none is) f = none_some f.0 (find r.cells (put_each es ps)) none f.1
    by_join (with_first first found truth terms possible) f =
        let same : Some first ≡ Some f.0 = sym found ∙ f.1 in
        let is : first ≡ f.0 = cc in
        possible (λ one. f.2 (sym is ∙ one))

-- a table is what its own rows gather to
pub gathers_rows : (ws : List ℕ) (width : ℕ) (rows : List CRow) → AreRows ws width rows → Gathers ws ws width rows rows
gathers_rows ws width rows are = record {
  grown = prefix_same ws;
  each = are.each;
  distinct = are.distinct;
  values = λ v. same_set_itself (value_of_rows ws v rows);
  order = sym (firsts_distinct same_cells (cells_of ws rows) are.distinct);
  from = rows_itself ws rows;
}

-- what a table grows to, when all rows were put
module _ (old now : List ℕ) (width : ℕ) (es ps : List (List ℕ × ℕ)) (more : List CRow) (begins : IsPrefix opening now) (wf : IsWellFormed now) (a : Apart ps) (fits : Fits es ps)
    (all : All (λ r. r.cond ≢ 1) (rows_of es)) (s : Gathers old now width (rows_of es ++ more) (rows_of (put_each es ps))) where
  left : filter is_possible (rows_of (put_each es ps)) ≡ rows_of (grown es ps)
  left = rows_grown ps es a fits (all_kept es all)

  grown_rows : AreRows now width (rows_of (grown es ps))
  grown_rows = subst (AreRows now width) left (kept_rows old now width (rows_of es ++ more) (rows_of (put_each es ps)) begins wf s)

  grown_values : (v : World) → SameSet (value_of_rows now v (rows_of (grown es ps))) (value_of_rows old v (rows_of es) ++ value_of_rows old v more)
  grown_values v =
      subst (λ l. SameSet (value_of_rows now v l) (value_of_rows old v (rows_of es) ++ value_of_rows old v more)) left
      (subst (SameSet (value_of_rows now v (filter is_possible (rows_of (put_each es ps))))) (value-append old v (rows_of es) more)
      (kept_values old now width (rows_of es ++ more) (rows_of (put_each es ps)) begins wf s v))

  grown_order : IsSublist (cells_of now (rows_of (grown es ps))) (firsts same_cells (cells_of old (rows_of es) ++ cells_of old more))
  grown_order =
      subst (λ l. IsSublist (cells_of now l) (firsts same_cells (cells_of old (rows_of es) ++ cells_of old more))) left
      (subst (λ l. IsSublist (cells_of now (filter is_possible (rows_of (put_each es ps)))) (firsts same_cells l)) (map-append (λ (r : CRow). map (term_at old) r.cells) (rows_of es) more)
      (kept_order old now width (rows_of es ++ more) (rows_of (put_each es ps)) begins wf s))

  grown_part : IsSublist (cells_of now (rows_of (grown es ps))) (cells_of old (rows_of es) ++ cells_of old more)
  grown_part = part_of_firsts same_cells _ _ grown_order

  grown_from : RowsFrom now (rows_of (grown es ps)) (TermOfRows old (rows_of es ++ more))
  grown_from = subst (λ l. RowsFrom now l (TermOfRows old (rows_of es ++ more))) left (kept_from old now width (rows_of es ++ more) (rows_of (put_each es ps)) begins wf s)

  pub grown_inserted : AreInserted old now width (rows_of es) more (rows_of (grown es ps))
  grown_inserted = record { are = grown_rows; tuples = grown_values; order = grown_order; part = grown_part; terms = grown_from }

-- the rows of a table differ in their cells
pub rows_apart : (ws : List ℕ) (rows : List CRow) → IsDistinct same_cells (cells_of ws rows) → Apart (entries_of rows)
rows_apart ws [] d = tt
rows_apart ws (r ∷ rows) d = (none rows (IsDistinct-head same_cells (map (term_at ws) r.cells) (cells_of ws rows) d), rows_apart ws rows (IsDistinct-tail same_cells (map (term_at ws) r.cells) (cells_of ws rows) d)) where
  none : (rs : List CRow) → AllByRecursion (λ y. same_cells (map (term_at ws) r.cells) y ≡ false) (cells_of ws rs) → find r.cells (entries_of rs) ≡ None
  none [] a = refl
  none (x ∷ rs) a = cases (same_text r.cells x.cells)
      (λ p.
      let same : map (term_at ws) r.cells ≡ map (term_at ws) x.cells = ap (map (term_at ws)) ((text_decides r.cells x.cells).0 p) in
      absurd (false≢true (sym a.0 ∙ (cells_decide (map (term_at ws) r.cells) (map (term_at ws) x.cells)).1 same)))
      (λ p. find_miss r.cells (x.cells, x.cond) (entries_of rs) p ∙ none rs a.1)
