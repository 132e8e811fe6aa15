-- Tests of rows, as words are added.
use Rattle.std.proofs.Common.{◌≡◌, ℕ, ◌+◌, ◌*◌, ◌<◌, ◌≤◌, not, ◌&&◌, List, ◌++◌, length, map, refl, ap, sym, subst, ◌∙◌, arith, inl, inr}
use Rattle.std.{specs.Prelude.{◌⊎◌, All, Result, IfOk}, proofs.lemmas.Result.IfOk-weaker}
use Rattle.std.proofs.lemmas.List.Elements.{All-weaker, Contains-append_left, Contains-append_right}
use Rattle.ct_word.{specs.declared.values.Value.Value, specs.declared.values.Term.Term, specs.declared.values.CRow.CRow, specs.Value.{World, tuple_at}}
use Rattle.ct_word.{specs.Condition.{holds, holds_at}, specs.WellFormed.IsWellFormed, specs.Stands.TermBelow, specs.Reading.{term_at, condition_at}}
use Rattle.ct_word.proofs.Prefixes.{place_in_prefix, place_within, condition_in_prefix}
use Rattle.ct_query.{specs.Bounds.ops, specs.Database.has_tuple, specs.Pred.condition_of}
use Rattle.ct_condition.{specs.Terms.IsNamed, proofs.Placed.terms_fewer}
use Rattle.ct_operators.{specs.Others.others_of, specs.Tables.IsRow, specs.Terms.{TermOfRows, RowsFrom}, specs.declared.table.CTable.CTable, proofs.Adding.in_all_and_one}
use Rattle.ct_operators.{specs.Building.HoldsWhere, specs.Placing.tuple_of, specs.Judging.{passes, FitsTest, Beside, Further, first_words, test_words}}
use Rattle.ct_operators.{specs.declared.judging.Test.Test, proofs.Choosing.named_below, proofs.Growing.{terms_grow, is_row_grows, value_grows}}
use Rattle.ct_operators.{proofs.Holding.holds_as, proofs.Putting.parts_later}
use Rattle.ct_operators.proofs.Reaching.{below_before, rows_before, rows_among, rows_wider, none_of_rows, plain_rows, no_cell_no_column}
use mathlib.Core.List.{IsPrefix}
use Rattle.ct_word.specs.declared.kinds.Class.TheVariants as class
use Rattle.ct_word.specs.declared.values.Term.TheVariants as term
use Rattle.ct_operators.specs.declared.judging.Test.TheVariants as test

-- what a test takes once does not become more
pub first_fewer : (old new : List ℕ) → IsPrefix old new → (x : Test) → first_words new x ≤ first_words old x
first_fewer old new longer (test.Holds p) = terms_fewer old new longer (condition_of p.now)
first_fewer old new longer _ = omega arith

-- no column comes below a row that is judged
pub no_column : (ws : List ℕ) (width : ℕ) (rows : List CRow) → All (IsRow ws width) rows → (x : Test) → FitsTest ws width x
    → (k : ℕ) → TermOfRows ws rows (term.Column k) ⊎ Further ws x (term.Column k) → ⊥
no_column ws width rows each x f k (inl h) = none_of_rows ws rows (plain_rows ws width rows each) k h
no_column ws width rows each (test.Holds p) f k (inr h) = h.1 k refl
no_column ws width rows each (test.Fails c ps) f k (inr h) = h.1 k refl
no_column ws width rows each (test.Among os) f k (inr h) = none_of_rows ws (others_of os) (plain_rows ws width (others_of os) f.0) k h
no_column ws width rows each (test.Apart os) f k (inr h) = none_of_rows ws (others_of os) (plain_rows ws width (others_of os) f.0) k h

module _ (old now : List ℕ) (grown : IsPrefix old now) (formed : IsWellFormed old) (width : ℕ) where
  rows_later : (rs : List CRow) → All (IsRow old width) rs → All (IsRow now width) rs
  rows_later rs = All-weaker (IsRow old width) (IsRow now width) (is_row_grows old now grown formed width) rs

  -- a test is still one for such rows
  pub fits_later : (x : Test) → FitsTest old width x → FitsTest now width x
  fits_later (test.Holds p) f = f
  fits_later (test.Fails c ps) f = (
    place_in_prefix old now class.Cond c grown f.0,
    λ k h. f.1 k (below_before old now grown formed c (term.Column k) (place_within old class.Cond c f.0) h),
    parts_later old now c ps.now grown f.0 f.2,
  )
  fits_later (test.Among os) f = (rows_later (others_of os) f.0, f.1)
  fits_later (test.Apart os) f = (rows_later (others_of os) f.0, f.1)

  -- it takes as many words
  pub words_later : (x : Test) → FitsTest old width x → test_words now width x ≡ test_words old width x
  words_later (test.Fails c ps) f = ap (λ d. ops d + 1) (condition_in_prefix old now c grown (place_within old class.Cond c f.0))
  words_later _ f = refl

  -- and the same tuples pass it
  passes_later : (x : Test) → FitsTest old width x → (v : World) (t : List Value) → passes now x v t ≡ passes old x v t
  passes_later (test.Holds p) f v t = refl
  passes_later (test.Fails c ps) f v t = ap (λ d. not (holds v t d)) (condition_in_prefix old now c grown (place_within old class.Cond c f.0))
  passes_later (test.Among os) f v t = ap (λ l. has_tuple l t) (value_grows old now grown v width (others_of os) f.0)
  passes_later (test.Apart os) f v t = ap (λ l. not (has_tuple l t)) (value_grows old now grown v width (others_of os) f.0)

  -- what a row is judged by, over the words before
  pub judged_before : (new : List ℕ) (x : Test) → FitsTest old width x → (r : CRow) (p : ℕ) → IsRow old width r
      → HoldsWhere new p (λ v. holds_at v (condition_at now r.cond) && passes now x v (tuple_of now r.cells v))
      → HoldsWhere new p (λ v. holds_at v (condition_at old r.cond) && passes old x v (tuple_at v (map (term_at old) r.cells)))
  judged_before new x f r p is h =
      holds_as new p _ _
      (λ v.
      let same : passes now x v (tuple_of now r.cells v) ≡ passes old x v (tuple_of old r.cells v) =
      passes_later x f v (tuple_of now r.cells v) ∙ ap (λ ts. passes old x v (tuple_at v ts)) (terms_grow old now grown r.cells is.terms) in
      λ i. holds_at v (condition_in_prefix old now r.cond grown (place_within old class.Cond r.cond is.condition) i) && same i)
      h

  -- and the terms that the test puts below it
  pub further_before : (x : Test) → FitsTest old width x → (cells : List ℕ) → length cells ≡ width → (t : Term) → Beside now cells x t → Further old x t
  further_before (test.Holds p) f cells e t b =
      (b.0, no_cell_no_column cells t b.1 (λ k q. subst (λ n. k < n) (sym e) (named_below width (condition_of p.now) k f.columns (subst (IsNamed (condition_of p.now)) q b.0))))
  further_before (test.Fails c ps) f cells e t b =
      let was = below_before old now grown formed c t (place_within old class.Cond c f.0) b.0 in
      (was, no_cell_no_column cells t b.1 (λ k q. subst (λ n. k < n) (sym e) (f.1 k (subst (TermBelow old c) q was))))
  further_before (test.Among os) f cells e t b = rows_before old now grown formed width (others_of os) t f.0 b
  further_before (test.Apart os) f cells e t b = rows_before old now grown formed width (others_of os) t f.0 b

-- rows of another table, read off it
pub each_as : (ws : List ℕ) (n width : ℕ) (rows items : List CRow) → items ≡ rows → n ≡ width → All (IsRow ws n) rows → All (IsRow ws width) items
each_as ws n width rows items same e each = subst (All (IsRow ws width)) (sym same) (subst (λ k. All (IsRow ws k) rows) e each)

-- a term below rows or below those of another table stands below all of them
pub from_both : (old new : List ℕ) {E : Type 0} (r : Result CTable E) (ls rs items : List CRow) → items ≡ rs
    → IfOk r (λ out. RowsFrom new out.rows (λ t. TermOfRows old ls t ⊎ TermOfRows old items t)) → IfOk r (λ out. RowsFrom new out.rows (TermOfRows old (ls ++ rs)))
from_both old new r ls rs items same =
    IfOk-weaker r (λ out. RowsFrom new out.rows (λ t. TermOfRows old ls t ⊎ TermOfRows old items t)) (λ out. RowsFrom new out.rows (TermOfRows old (ls ++ rs)))
    (λ out. rows_wider new (λ t. TermOfRows old ls t ⊎ TermOfRows old items t) (TermOfRows old (ls ++ rs)) each out.rows) where
      each : (t : Term) → TermOfRows old ls t ⊎ TermOfRows old items t → TermOfRows old (ls ++ rs) t
      each t (inl h) = rows_among old ls (ls ++ rs) t (Contains-append_left ls rs) h
      each t (inr h) = rows_among old rs (ls ++ rs) t (Contains-append_right ls rs) (subst (λ l. TermOfRows old l t) same h)

-- the words of all rows, each beside all rows of another table
pub all_words : (l w : ℕ) (rows items : List CRow) → items ≡ rows → l * (length items * w + 1) ≡ l * length rows * w + l
all_words l w rows items same = ap (λ xs. l * (length xs * w + 1)) same ∙ in_all_and_one l (length rows) w
