-- The rows of a table with the printed forms of their conditions can be written.
use Rattle.std.proofs.Common.{◌≡◌, ℕ, zero, suc, ◌<◌, ◌≤◌, Bool, true, false, ◌||◌, List, [], ◌∷◌, ◌++◌, map, length, replicate, refl, sym, ◌∙◌, subst, arith, inl, inr, decimal}
use Rattle.std.{specs.Prelude.{IsTrue, All}, specs.List.{AllZip, Contains, list_all}, proofs.lemmas.Bool.and_parts}
use Rattle.std.proofs.lemmas.List.{Elements.{All-contains, All-head, All-tail, Contains-append_left, Contains-append_right}, Folds.list_all-append}
use Rattle.std.proofs.lemmas.Fmt.{decimal_is_IsNumeral}
use Rattle.ct_word.{specs.declared.values.CRow.CRow, specs.declared.values.Term.Term, specs.Names.{is_letter, is_digit, is_word}}
use Rattle.ct_word.specs.declared.kinds.Class.TheVariants as class
use Rattle.ct_word.specs.declared.values.Value.TheVariants as val
use Rattle.ct_word.specs.declared.values.Null.TheVariants as null
use Rattle.ct_word.specs.declared.values.Term.TheVariants as term
use Rattle.ct_word.specs.Condition.{Condition, Conditions, True, False, Same, Not, And, Or, none, also}
use Rattle.ct_word.{specs.Named.{IsNamed, IsNamedInSome}, specs.Writable.is_writable_term}
use Rattle.ct_word.{specs.WellFormed.{IsWellFormed, is_place_of}, specs.Stands.{TermBelow, HasNoColumn, itself}, specs.Reading.{term_at, condition_at}}
use Rattle.ct_word.proofs.{Places.stands_term, Items.{first_item, later_item}}
use Rattle.ct_query.specs.Terms.{condition_terms, all_terms}
use Rattle.ct_rewrite.{specs.declared.answer.Node.Node, specs.Nodes.node_condition, specs.Rules.are_children_within, specs.Sizes.{NoneIsEmpty, nest_of, text_of, wide}}
use Rattle.ct_condition.specs.Terms.{TermsFrom}
use Rattle.ct_operators.specs.{Tables.{IsRow}, Terms.{TermOfRow, TermOfRows, RowFrom, RowsFrom}}
use Rattle.ct_history.proofs.Named.{term_reached}
use Rattle.ct_reread.{specs.Printed.IsPlain, specs.Reread.KeepsWithin, proofs.Terms.digits_all, proofs.Forms.{form_named, form_reread}}
use Rattle.ct_csv.specs.{Renaming.{mark, between, renamed}, Exported.{printed_rows, is_narrow}}
use Rattle.ct_csv.proofs.{ExportRanges.{InRange, term_in_range}, ExportRows.{ArePlain, CanBeWritten, AllCan, AreAmong, RowAmong, RowsAmong}, Widths.low_nest}

-- the new name of a fresh null is a word
underscores_go_on : (j : ℕ) → list_all (λ b. is_letter b || is_digit b) (replicate j 95) ≡ true
underscores_go_on zero = refl
underscores_go_on (suc j) = underscores_go_on j

right : (a b : Bool) → b ≡ true → (a || b) ≡ true
right true b e = refl
right false b e = e

digits_go_on : (ds : List ℕ) → list_all is_digit ds ≡ true → list_all (λ b. is_letter b || is_digit b) ds ≡ true
digits_go_on [] h = refl
digits_go_on (d ∷ ds) h =
    let parts = and_parts (is_digit d) (list_all is_digit ds) h in
    let one : (is_letter d || is_digit d) ≡ true = right (is_letter d) (is_digit d) parts.0 in
    let others = digits_go_on ds parts.1 in
    rw (one, others)

decimal_goes_on : (n : ℕ) → n < 268435456 → list_all (λ b. is_letter b || is_digit b) (decimal n) ≡ true
decimal_goes_on n h = digits_go_on (decimal n) (digits_all (decimal n) (decimal_is_IsNumeral n (omega (arith, h))).0.1)

fresh_name : (j s n : ℕ) → s < 268435456 → n < 268435456 → is_word (mark j ++ decimal s ++ between ++ decimal n) ≡ true
fresh_name j s n hs hn =
    let ok : ℕ → Bool = λ b. is_letter b || is_digit b in
    let us = replicate j 95 in
    list_all-append ok (us ++ decimal s ++ between) (decimal n)
    ∙ rw (list_all-append ok (us ++ decimal s) between, list_all-append ok us (decimal s), underscores_go_on j, decimal_goes_on s hs, decimal_goes_on n hn) refl

plain_term : (j : ℕ) (t : Term) → IsTrue (is_writable_term t) → ((k : ℕ) → t ≡ term.Column k → ⊥) → InRange t → IsPlain (renamed j t)
plain_term j (term.Column k) w h r = absurd (h k refl)
plain_term j (term.Null (null.Named t)) w h r = w
plain_term j (term.Null (null.Fresh s n)) w h r = fresh_name j s n r.0 r.1
plain_term j (term.Value (val.Int i)) w h r = r
plain_term j (term.Value (val.Text t)) w h r = tt
plain_term j (term.Value (val.Other k)) w h r = absurd (let f = w in cc)

-- a term that is named is one of the terms
mutual
  named_in : (c : Condition) (t : Term) → IsNamed c t → Contains (condition_terms c) t
  named_in True t h = absurd h
  named_in False t h = absurd h
  named_in (Same s u) t (inl e) = subst (Contains (s ∷ u ∷ [])) (sym e) (first_item (u ∷ []) s)
  named_in (Same s u) t (inr e) = subst (Contains (s ∷ u ∷ [])) (sym e) (later_item (u ∷ []) s u (first_item [] u))
  named_in (Not c) t h = named_in c t h
  named_in (And cs) t h = named_in_some cs t h
  named_in (Or cs) t h = named_in_some cs t h

  named_in_some : (cs : Conditions) (t : Term) → IsNamedInSome cs t → Contains (all_terms cs) t
  named_in_some none t h = absurd h
  named_in_some (also c cs) t (inl h) = Contains-append_left (condition_terms c) (all_terms cs) t (named_in c t h)
  named_in_some (also c cs) t (inr h) = Contains-append_right (condition_terms c) (all_terms cs) t (named_in_some cs t h)

module _ (words : List ℕ) (wf : IsWellFormed words) (width : ℕ) where
  -- the terms below the cells of a row, and those that its condition names, stand below the row
  cell_below : (r : CRow) (p : ℕ) → Contains r.cells p → IsTrue (is_place_of words class.Term p) → TermOfRow words r (term_at words p)
  cell_below r p among is = record { place = p; among = later_item r.cells r.cond p among; below = (p, itself, stands_term words p is) }

  named_below : (r : CRow) (t : Term) → IsTrue (is_place_of words class.Cond r.cond) → IsNamed (condition_at words r.cond) t → TermOfRow words r t
  named_below r t is named = record {
    place = r.cond;
    among = first_item r.cells r.cond;
    below = term_reached words wf r.cond t is (named_in (condition_at words r.cond) t named);
  }

  -- one row
  module _ (j : ℕ) (r : CRow) (is : IsRow words width r) (source : RowFrom words (λ t. IsTrue (is_writable_term t)) r) where
    below_plain : (t : Term) → TermOfRow words r t → IsPlain (renamed j t)
    below_plain t b =
        plain_term j t (All-contains (λ p. TermsFrom words p (λ t. IsTrue (is_writable_term t))) (r.cond ∷ r.cells) b.place source b.among t b.below)
        (λ k e. All-contains (HasNoColumn words) (r.cond ∷ r.cells) b.place is.plain b.among k (subst (TermBelow words b.place) e b.below))
        (term_in_range words wf b.below.0 t b.below.2)

    cells_plain : (ps : List ℕ) → ((p : ℕ) → Contains ps p → Contains r.cells p) → All (λ p. IsTrue (is_place_of words class.Term p)) ps → ArePlain j (map (term_at words) ps)
    cells_plain [] inside are = tt
    cells_plain (p ∷ ps) inside are = (
      below_plain (term_at words p) (cell_below r p (inside p (first_item ps p)) (All-head (λ p. IsTrue (is_place_of words class.Term p)) p ps are)),
      cells_plain ps (λ q h. inside q (later_item ps p q h)) (All-tail (λ p. IsTrue (is_place_of words class.Term p)) p ps are),
    )

    module _ (nodes : List Node) (k : ℕ) (within : IsTrue (list_all are_children_within nodes)) (short : KeepsWithin (node_condition nodes k) (condition_at words r.cond)) where
      row_can : nest_of (node_condition nodes k) ≤ 64 → CanBeWritten j (record { cells = map (term_at words) r.cells; condition = node_condition nodes k })
      row_can shallow = record {
        plain = cells_plain r.cells (λ p h. h) is.terms;
        shallow = shallow;
        reads = form_reread nodes k (condition_at words r.cond) (renamed j) within short (λ t n. below_plain t (named_below r t is.condition n));
      }

      module _ (all : List CRow) (member : Contains all r) where
        of_rows : (t : Term) → TermOfRow words r t → TermOfRows words all t
        of_rows t b = record { row = r; among = member; below = b }

        cells_among : (ps : List ℕ) → ((p : ℕ) → Contains ps p → Contains r.cells p) → All (λ p. IsTrue (is_place_of words class.Term p)) ps → AreAmong (TermOfRows words all) (map (term_at words) ps)
        cells_among [] inside are = tt
        cells_among (p ∷ ps) inside are = (
          of_rows (term_at words p) (cell_below r p (inside p (first_item ps p)) (All-head (λ p. IsTrue (is_place_of words class.Term p)) p ps are)),
          cells_among ps (λ q h. inside q (later_item ps p q h)) (All-tail (λ p. IsTrue (is_place_of words class.Term p)) p ps are),
        )

        row_among : RowAmong (TermOfRows words all) (record { cells = map (term_at words) r.cells; condition = node_condition nodes k })
        row_among = record {
          cells = cells_among r.cells (λ p h. h) is.terms;
          condition = λ t n. of_rows t (named_below r t is.condition (form_named nodes k (condition_at words r.cond) (renamed j) within short t n));
        }

  module _ (j : ℕ) (nodes : List Node) (within : IsTrue (list_all are_children_within nodes)) where
    pub rows_can : (rs : List CRow) (ks : List ℕ) → All (IsRow words width) rs → RowsFrom words rs (λ t. IsTrue (is_writable_term t))
        → AllZip (λ k place. KeepsWithin (node_condition nodes k) (condition_at words place)) ks (map (λ r. r.cond) rs) → IsTrue (list_all (is_narrow nodes) ks) → AllCan j (printed_rows words nodes rs ks)
    rows_can [] [] are from short narrow = tt
    rows_can [] (k ∷ ks) are from short narrow = absurd short
    rows_can (r ∷ rs) [] are from short narrow = absurd short
    rows_can (r ∷ rs) (k ∷ ks) are from short narrow =
        let parts = and_parts (is_narrow nodes k) (list_all (is_narrow nodes) ks) narrow in (
          row_can j r (All-head (IsRow words width) r rs are) (All-head (RowFrom words (λ t. IsTrue (is_writable_term t))) r rs from) nodes k within short.0 (low_nest nodes k parts.0),
          rows_can rs ks (All-tail (IsRow words width) r rs are) (All-tail (RowFrom words (λ t. IsTrue (is_writable_term t))) r rs from) short.1 parts.1,
        )

    pub rows_among : (all rs : List CRow) (ks : List ℕ) → ((r : CRow) → Contains rs r → Contains all r) → All (IsRow words width) rs → RowsFrom words rs (λ t. IsTrue (is_writable_term t))
        → AllZip (λ k place. KeepsWithin (node_condition nodes k) (condition_at words place)) ks (map (λ r. r.cond) rs) → RowsAmong (TermOfRows words all) (printed_rows words nodes rs ks)
    rows_among all [] [] inside are from short = tt
    rows_among all [] (k ∷ ks) inside are from short = absurd short
    rows_among all (r ∷ rs) [] inside are from short = absurd short
    rows_among all (r ∷ rs) (k ∷ ks) inside are from short = (
      row_among j r (All-head (IsRow words width) r rs are) (All-head (RowFrom words (λ t. IsTrue (is_writable_term t))) r rs from) nodes k within short.0 all (inside r (first_item rs r)),
      rows_among all rs ks (λ q h. inside q (later_item rs r q h)) (All-tail (IsRow words width) r rs are) (All-tail (RowFrom words (λ t. IsTrue (is_writable_term t))) r rs from) short.1,
    )

-- what is said of all texts at once is said of each position
pub each_keeps : (words : List ℕ) (nodes : List Node) (ks ps : List ℕ)
    → ((texts : Term → List ℕ) → NoneIsEmpty texts → AllZip (λ k place. length (text_of texts (node_condition nodes k)) ≤ wide (λ t. length (texts t)) (condition_at words place)) ks ps)
    → AllZip (λ k place. KeepsWithin (node_condition nodes k) (condition_at words place)) ks ps
each_keeps words nodes [] [] h = tt
each_keeps words nodes [] (p ∷ ps) h = absurd (h (λ t. 0 ∷ []) (λ t. omega arith))
each_keeps words nodes (k ∷ ks) [] h = absurd (h (λ t. 0 ∷ []) (λ t. omega arith))
each_keeps words nodes (k ∷ ks) (p ∷ ps) h = (λ texts some. (h texts some).0, each_keeps words nodes ks ps (λ texts some. (h texts some).1))
