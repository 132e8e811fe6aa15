-- Rows gathered one by one, as words are added.
use Rattle.std.proofs.Common.{ℕ, ◌≤◌, ◌<◌, Bool, true, false, List, [], ◌∷◌, ◌++◌, length, ap, sym, subst, ◌∙◌, arith}
use Rattle.std.{specs.Prelude.{All, if◌then◌else◌}, specs.List.{IsDistinct, list_any, filter}}
use Rattle.std.proofs.lemmas.List.Elements.{All-nil, All-weaker, All-push, All-contains}
use Rattle.ct_word.{specs.declared.values.Term.Term, specs.declared.values.CRow.CRow, specs.Value.{same_text, same_cells}, specs.WellFormed.IsWellFormed}
use Rattle.ct_word.proofs.Prefixes.{prefix_same}
use Rattle.ct_query.specs.Database.{SameSet}
use Rattle.ct_arena.specs.Counts.{opening}
use Rattle.ct_condition.proofs.Reached.{terms_after}
use Rattle.ct_operators.{specs.Tables.{value_of_rows, IsRow, firsts}, specs.Terms.{TermOfRows}}
use Rattle.ct_operators.specs.Merging.{Merged, Gathers, AreGathered, IsGathered, is_possible, known}
use Rattle.ct_operators.{proofs.Growing.{is_row_grows, cells_grow, value_grows}, proofs.Reaching.{rows_later, rows_wider, row_within}}
use Rattle.ct_operators.proofs.Merges.{gathers_none, gathers_more, kept_rows, kept_values, kept_order, kept_from}
use mathlib.Core.List.{IsPrefix}

-- one word at most
pub known_once : (cells : List ℕ) (rows : List CRow) → known cells rows ≤ 1
known_once cells rows = by_case (list_any (λ x. same_text cells x.cells) rows) where
  by_case : (b : Bool) → (if b then 1 else 0) ≤ 1
  by_case true = omega arith
  by_case false = omega arith

pub gathered_none : (ws : List ℕ) (width : ℕ) → AreGathered ws width [] []
gathered_none ws width = record { rows = All-nil _; gathers = gathers_none ws width }

module _ (old now : List ℕ) (longer : IsPrefix old now) (formed : IsWellFormed old) (width : ℕ) where
  -- a term below rows stands below them with more words
  below_later : (rows : List CRow) → All (IsRow old width) rows → (t : Term) → TermOfRows old rows t → TermOfRows now rows t
  below_later rows each t h =
      let is = All-contains (IsRow old width) rows h.row each h.among in
      record {
        row = h.row;
        among = h.among;
        below = record {
          place = h.below.place;
          among = h.below.among;
          below = terms_after old now longer formed h.below.place t (All-contains (λ p. p < length old) (h.row.cond ∷ h.row.cells) h.below.place (row_within old width h.row is.terms is.condition) h.below.among) h.below.below;
        };
      }

  rows_grown : (rows : List CRow) → All (IsRow old width) rows → All (IsRow now width) rows
  rows_grown rows = All-weaker (IsRow old width) (IsRow now width) (is_row_grows old now longer formed width) rows

  -- what was gathered of rows of the first words is that of rows of the words now
  pub gathered_now : (done out : List CRow) → All (IsRow old width) done → Gathers old now width done out → AreGathered now width done out
  gathered_now done out each s = record {
    rows = rows_grown done each;
    gathers = record {
      grown = prefix_same now;
      each = s.each;
      distinct = s.distinct;
      values = λ v. subst (SameSet (value_of_rows now v out)) (sym (value_grows old now longer v width done each)) (s.values v);
      order = s.order ∙ ap (firsts same_cells) (sym (cells_grow old now longer width done each));
      from = rows_wider now (TermOfRows old done) (TermOfRows now done) (below_later done each) out s.from;
    };
  }

  -- rows stay gathered as words are added
  pub gathered_later : (done out : List CRow) → AreGathered old width done out → AreGathered now width done out
  gathered_later done out s = gathered_now done out s.rows (record {
    grown = longer;
    each = rows_grown out s.gathers.each;
    distinct = subst (IsDistinct same_cells) (sym (cells_grow old now longer width out s.gathers.each)) s.gathers.distinct;
    values = λ v. subst (λ l. SameSet l (value_of_rows old v done)) (sym (value_grows old now longer v width out s.gathers.each)) (s.gathers.values v);
    order = cells_grow old now longer width out s.gathers.each ∙ s.gathers.order;
    from = rows_later old now longer formed width (TermOfRows old done) out s.gathers.each s.gathers.from;
  })

  -- one more row
  pub gathered_more : (done before after : List CRow) (r : CRow) → IsRow old width r → AreGathered old width done before → Merged old now before r after → AreGathered now width (done ++ r ∷ []) after
  gathered_more done before after r is s merged =
      gathered_now (done ++ r ∷ []) after (All-push (IsRow old width) done r s.rows is) (gathers_more old old now width done before s.gathers longer formed r is after merged)

-- the rows that are left of all
pub gathered_all : (ws : List ℕ) (width : ℕ) (done out : List CRow) → IsPrefix opening ws → IsWellFormed ws → AreGathered ws width done out → IsGathered ws width done (filter is_possible out)
gathered_all ws width done out begins formed s = record {
  are = kept_rows ws ws width done out begins formed s.gathers;
  values = kept_values ws ws width done out begins formed s.gathers;
  order = kept_order ws ws width done out begins formed s.gathers;
  from = kept_from ws ws width done out begins formed s.gathers;
}
