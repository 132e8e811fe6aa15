-- The records of rows say these rows, with new nulls for old ones.
use Rattle.std.proofs.Common.{◌≡◌, ℕ, ◌≤◌, ◌-◌, Bool, true, false, List, [], ◌∷◌, ◌++◌, length, length-append, map, take, refl, ap, sym, ◌∙◌, subst, arith, Some, slice_index_or}
use Rattle.std.{specs.List.AllZip}
use Rattle.ct_word.{specs.declared.values.CRow.CRow, specs.declared.values.Term.Term}
use Rattle.ct_word.specs.declared.values.Term.TheVariants as term
use Rattle.ct_word.specs.Value.{World, at, tuple_at}
use Rattle.ct_word.specs.Condition.{Condition, True, False, Same, Not, And, Or, holds_at, SameTruth}
use Rattle.ct_word.{specs.Change.PlainRow, specs.Named.IsNamed, specs.Reading.{term_at, condition_at, plain_crow}}
use Rattle.ct_query.specs.Step.{shown_rows}
use Rattle.ct_rewrite.{specs.declared.answer.Node.Node, specs.Nodes.node_condition, specs.Sizes.{text_of, nest_of}}
use Rattle.ct_reread.{specs.Mapped.mapped, specs.Printed.IsPlain, specs.Reread.IsReadAs, proofs.Mapped.{mapped_holds, nest_mapped}}
use Rattle.ct_csv.specs.Fields.{cell_fields, condition_field, cell_of, HasCondition, no_condition}
use Rattle.ct_csv.specs.{File.{SaysRow, SayRows}, Renaming.{renamed}}
use Rattle.ct_csv.specs.Exported.{renamed_text, is_false, condition_text, row_fields, printed_rows, written_rows, Renames}
use Rattle.ct_csv.proofs.{ExportCells.cell_back, ExportConditions.{SaysCondition, condition_back}}

-- the last field, and the fields before it
pub but_last : (xs : List (List ℕ)) (c : List ℕ) → cell_fields (xs ++ c ∷ []) ≡ xs
but_last xs c = ap (λ n. take n (xs ++ c ∷ [])) (long xs) ∙ front xs where
  long : (ys : List (List ℕ)) → length (ys ++ c ∷ []) - 1 ≡ length ys
  long [] = refl
  long (y ∷ ys) = omega (arith, length-append ys (c ∷ []))

  front : (ys : List (List ℕ)) → take (length ys) (ys ++ c ∷ []) ≡ ys
  front [] = refl
  front (y ∷ ys) = ap (λ zs. y ∷ zs) (front ys)

pub last_is : (xs : List (List ℕ)) (c : List ℕ) → condition_field (xs ++ c ∷ []) ≡ c
last_is xs c = ap (λ n. slice_index_or (xs ++ c ∷ []) n []) (long xs) ∙ end xs where
  long : (ys : List (List ℕ)) → length (ys ++ c ∷ []) - 1 ≡ length ys
  long [] = refl
  long (y ∷ ys) = omega (arith, length-append ys (c ∷ []))

  end : (ys : List (List ℕ)) → slice_index_or (ys ++ c ∷ []) (length ys) [] ≡ c
  end [] = refl
  end (y ∷ ys) = end ys

-- each of these terms is printed as one token, with its new null
abbrev pub ArePlain : ℕ → List Term → Type 0
ArePlain j [] = Unit {0}
ArePlain j (t ∷ ts) = IsPlain (renamed j t) × ArePlain j ts

cells_back : (j : ℕ) (cells : List Term) → ArePlain j cells → map cell_of (map (renamed_text j) cells) ≡ map Some (map (renamed j) cells)
cells_back j [] p = refl
cells_back j (t ∷ ts) p = λ i. cell_back (renamed j t) p.0 i ∷ cells_back j ts p.1 i

-- what is known of a row that is written
pub record CanBeWritten (j : ℕ) (row : PlainRow) : Type 0 where
  pub plain : ArePlain j row.cells
  pub shallow : nest_of row.condition ≤ 64
  pub reads : IsReadAs (text_of (renamed_text j) row.condition) (mapped (renamed j) row.condition)

-- a record says a row with new nulls
pub record IsWrittenAs (j : ℕ) (form row : PlainRow) : Type 0 where
  pub says : SaysRow (row_fields j form) row
  pub cells : row.cells ≡ map (renamed j) form.cells
  pub same : SameTruth row.condition (mapped (renamed j) form.condition)

condition_written : (j : ℕ) (c : Condition) → nest_of c ≤ 64 → IsReadAs (text_of (renamed_text j) c) (mapped (renamed j) c) → SaysCondition (condition_text j c) (mapped (renamed j) c)
condition_written j True h is = record { tokens = []; condition = True; has = no_condition; same = λ v row. refl }
condition_written j False h is = condition_back (text_of (renamed_text j) False) False h is
condition_written j (Same s t) h is = condition_back (text_of (renamed_text j) (Same s t)) (mapped (renamed j) (Same s t)) h is
condition_written j (Not c) h is = condition_back (text_of (renamed_text j) (Not c)) (mapped (renamed j) (Not c)) (omega (arith, h, nest_mapped (renamed j) (Not c))) is
condition_written j (And cs) h is = condition_back (text_of (renamed_text j) (And cs)) (mapped (renamed j) (And cs)) (omega (arith, h, nest_mapped (renamed j) (And cs))) is
condition_written j (Or cs) h is = condition_back (text_of (renamed_text j) (Or cs)) (mapped (renamed j) (Or cs)) (omega (arith, h, nest_mapped (renamed j) (Or cs))) is

pub row_written : (j : ℕ) (form : PlainRow) → CanBeWritten j form → (row : PlainRow) × IsWrittenAs j form row
row_written j form can =
    let texts : List (List ℕ) = map (renamed_text j) form.cells in
    let field : List ℕ = condition_text j form.condition in
    let said = condition_written j form.condition can.shallow can.reads in (
      record { cells = map (renamed j) form.cells; condition = said.condition },
      record {
        says = record {
          cells = ap (map cell_of) (but_last texts field) ∙ cells_back j form.cells can.plain;
          tokens = said.tokens;
          condition = subst (λ f. HasCondition f said.tokens said.condition) (sym (last_is texts field)) said.has;
        };
        cells = refl;
        same = said.same;
      },
    )

-- each of these rows can be written
abbrev pub AllCan : ℕ → List PlainRow → Type 0
AllCan j [] = Unit {0}
AllCan j (r ∷ rs) = CanBeWritten j r × AllCan j rs

abbrev pub AreWrittenAs : ℕ → List PlainRow → List PlainRow → Type 0
AreWrittenAs j [] [] = Unit {0}
AreWrittenAs j (f ∷ fs) (r ∷ rs) = IsWrittenAs j f r × AreWrittenAs j fs rs
AreWrittenAs j _ _ = ⊥

pub rows_written : (j : ℕ) (forms : List PlainRow) → AllCan j forms → (rows : List PlainRow) × AreWrittenAs j forms rows
rows_written j [] can = ([], tt)
rows_written j (f ∷ fs) can =
    let one = row_written j f can.0 in
    let others = rows_written j fs can.1 in
    (one.0 ∷ others.0, (one.1, others.1))

pub records_say : (j : ℕ) (forms rows : List PlainRow) → AreWrittenAs j forms rows → SayRows (map (row_fields j) forms) rows
records_say j [] [] h = tt
records_say j [] (r ∷ rs) h = absurd h
records_say j (f ∷ fs) [] h = absurd h
records_say j (f ∷ fs) (r ∷ rs) h = (h.0.says, records_say j fs rs h.1)

-- each of these terms is among those
abbrev pub AreAmong : (Term → Type 0) → List Term → Type 0
AreAmong among [] = Unit {0}
AreAmong among (t ∷ ts) = among t × AreAmong among ts

-- the terms of a row are among those
pub record RowAmong (among : Term → Type 0) (form : PlainRow) : Type 0 where
  pub cells : AreAmong among form.cells
  pub condition : (t : Term) → IsNamed form.condition t → among t

abbrev pub RowsAmong : (Term → Type 0) → List PlainRow → Type 0
RowsAmong among [] = Unit {0}
RowsAmong among (f ∷ fs) = RowAmong among f × RowsAmong among fs

-- shown at a valuation where each new null has the value of the old one
module _ (j : ℕ) (among : Term → Type 0) (v u : World) (renames : Renames j among v u) where
  term_same : (t : Term) → among t → at u [] (renamed j t) ≡ at v [] t
  term_same (term.Column k) a = refl
  term_same (term.Null n) a = renames n a
  term_same (term.Value x) a = refl

  tuple_same : (cells : List Term) → AreAmong among cells → tuple_at u (map (renamed j) cells) ≡ tuple_at v cells
  tuple_same [] a = refl
  tuple_same (t ∷ ts) a = λ i. term_same t a.0 i ∷ tuple_same ts a.1 i

  holds_same : (form row : PlainRow) → RowAmong among form → IsWrittenAs j form row → holds_at u row.condition ≡ holds_at v form.condition
  holds_same form row a w = w.same u [] ∙ mapped_holds (renamed j) v u [] form.condition (λ t n. term_same t (a.condition t n))

  cells_same : (form row : PlainRow) → RowAmong among form → IsWrittenAs j form row → tuple_at u row.cells ≡ tuple_at v form.cells
  cells_same form row a w = ap (tuple_at u) w.cells ∙ tuple_same form.cells a.cells

  pub shown_same : (forms rows : List PlainRow) → RowsAmong among forms → AreWrittenAs j forms rows → shown_rows u rows ≡ shown_rows v forms
  shown_same [] [] a w = refl
  shown_same [] (r ∷ rs) a w = absurd w
  shown_same (f ∷ fs) [] a w = absurd w
  shown_same (f ∷ fs) (r ∷ rs) a w = step (holds_at v f.condition) refl (shown_same fs rs a.1 w.1) where
    step : (b : Bool) → holds_at v f.condition ≡ b → shown_rows u rs ≡ shown_rows v fs → shown_rows u (r ∷ rs) ≡ shown_rows v (f ∷ fs)
    step true e rest = rw (holds_same f r a.0 w.0 ∙ e, e) (λ i. cells_same f r a.0 w.0 i ∷ rest i)
    step false e rest = rw (holds_same f r a.0 w.0 ∙ e, e) rest

-- rows under False are never shown
never : (v : World) (c : Condition) → is_false c ≡ true → holds_at v c ≡ false
never v False e = refl
never v True e = absurd (let f = e in cc)
never v (Same s t) e = absurd (let f = e in cc)
never v (Not c) e = absurd (let f = e in cc)
never v (And cs) e = absurd (let f = e in cc)
never v (Or cs) e = absurd (let f = e in cc)

pub shown_without : (v : World) (forms : List PlainRow) → shown_rows v (written_rows forms) ≡ shown_rows v forms
shown_without v [] = refl
shown_without v (f ∷ fs) = by (is_false f.condition) (holds_at v f.condition) refl refl (shown_without v fs) where
  by : (a b : Bool) → is_false f.condition ≡ a → holds_at v f.condition ≡ b → shown_rows v (written_rows fs) ≡ shown_rows v fs → shown_rows v (written_rows (f ∷ fs)) ≡ shown_rows v (f ∷ fs)
  by true b e h rest = rw (e, never v f.condition e) rest
  by false true e h rest = rw (e, h) (λ i. tuple_at v f.cells ∷ rest i)
  by false false e h rest = rw (e, h) rest

-- with the conditions of the words
pub shown_printed : (v : World) (words : List ℕ) (nodes : List Node) (rs : List CRow) (ks : List ℕ)
    → AllZip (λ k place. SameTruth (node_condition nodes k) (condition_at words place)) ks (map (λ r. r.cond) rs) → shown_rows v (printed_rows words nodes rs ks) ≡ shown_rows v (map (plain_crow words) rs)
shown_printed v words nodes [] [] h = refl
shown_printed v words nodes [] (k ∷ ks) h = absurd h
shown_printed v words nodes (r ∷ rs) [] h = absurd h
shown_printed v words nodes (r ∷ rs) (k ∷ ks) h = by (holds_at v (condition_at words r.cond)) refl (shown_printed v words nodes rs ks h.1) where
  same : holds_at v (node_condition nodes k) ≡ holds_at v (condition_at words r.cond)
  same = h.0 v []

  by : (b : Bool) → holds_at v (condition_at words r.cond) ≡ b → shown_rows v (printed_rows words nodes rs ks) ≡ shown_rows v (map (plain_crow words) rs)
      → shown_rows v (printed_rows words nodes (r ∷ rs) (k ∷ ks)) ≡ shown_rows v (map (plain_crow words) (r ∷ rs))
  by true e rest = rw (same ∙ e, e) (λ i. tuple_at v (map (term_at words) r.cells) ∷ rest i)
  by false e rest = rw (same ∙ e, e) rest

-- the rows that are written can be, and have terms among those, where all do
pub filtered_can : (j : ℕ) (forms : List PlainRow) → AllCan j forms → AllCan j (written_rows forms)
filtered_can j [] can = tt
filtered_can j (f ∷ fs) can = by (is_false f.condition) refl (filtered_can j fs can.1) where
  by : (b : Bool) → is_false f.condition ≡ b → AllCan j (written_rows fs) → AllCan j (written_rows (f ∷ fs))
  by true e rest = rw e rest
  by false e rest = rw e (can.0, rest)

pub filtered_among : (among : Term → Type 0) (forms : List PlainRow) → RowsAmong among forms → RowsAmong among (written_rows forms)
filtered_among among [] a = tt
filtered_among among (f ∷ fs) a = by (is_false f.condition) refl (filtered_among among fs a.1) where
  by : (b : Bool) → is_false f.condition ≡ b → RowsAmong among (written_rows fs) → RowsAmong among (written_rows (f ∷ fs))
  by true e rest = rw e rest
  by false e rest = rw e (a.0, rest)
