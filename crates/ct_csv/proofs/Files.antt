-- A table's file, by its parts.
use Rattle.std.proofs.Common.{◌≡◌, ℕ, ◌<◌, ◌≤◌, false, List, [], ◌∷◌, length, map, take, get_or, refl, ap, sym, ◌∙◌, subst, arith, inl, inr}
use Rattle.std.{specs.Prelude.{All, nat_lt, IsTrue, IsFalse}, specs.List.{list_all}, proofs.lemmas.Bool.and_from}
use Rattle.std.proofs.lemmas.List.{length-map, Elements.{All-head, All-tail, All-weaker}}
use Rattle.ct_word.specs.declared.kinds.Class.TheVariants as class
use Rattle.ct_word.{specs.declared.values.CRow.CRow, specs.Condition.SameTruth, specs.WellFormed.is_place_of, specs.Reading.condition_at}
use Rattle.ct_rewrite.{specs.declared.answer.Node.Node, specs.Nodes.{is_position, node_condition, read_nodes}}
use Rattle.ct_rewrite.specs.Sizes.{text_of, nest_of, wide, deep}
use Rattle.ct_print.specs.TermText.{term_text}
use Rattle.ct_operators.specs.{Tables.IsRow, Terms.TermOfRows}
use Rattle.ct_csv.specs.declared.measuring.Size.{Size}
use Rattle.ct_csv.specs.{Csv.AreTexts, Measured.{size_of, fits_at, IsFirstPast}, Renaming.IsLeastFree}
use Rattle.ct_csv.specs.Exported.{ArePrinted, CanBeExported, AreForms, IsExported, IsTooWide, is_narrow, file_records, printed_rows, records_text}
use Rattle.ct_csv.proofs.{ExportFile.exported, ExportForms.each_keeps, Widths.{none_empty, narrow_at, all_narrow, past_cases, zipped, as_long, long_read}}

module _ (words : List ℕ) (columns : List (List ℕ)) (rows : List CRow) (can : CanBeExported words columns rows) where
  pub conditions_of : All (λ r. IsTrue (is_place_of words class.Cond r.cond)) rows
  conditions_of = All-weaker (IsRow words (length columns)) (λ r. IsTrue (is_place_of words class.Cond r.cond)) (λ r is. is.condition) rows can.are.each

  pub cells_of : All (λ r. All (λ p. IsTrue (is_place_of words class.Term p)) r.cells) rows
  cells_of = All-weaker (IsRow words (length columns)) (λ r. All (λ p. IsTrue (is_place_of words class.Term p)) r.cells) (λ r is. is.terms) rows can.are.each

-- the places of their conditions
pub roots_of : (words : List ℕ) (rows : List CRow) → All (λ r. IsTrue (is_place_of words class.Cond r.cond)) rows → IsTrue (list_all (is_place_of words class.Cond) (map (λ r. r.cond) rows))
roots_of words [] h = refl
roots_of words (r ∷ rs) h =
    and_from _ _ (All-head (λ r. IsTrue (is_place_of words class.Cond r.cond)) r rs h) (roots_of words rs (All-tail (λ r. IsTrue (is_place_of words class.Cond r.cond)) r rs h))

-- each position has a size
pub sizes_placed : (nodes : List Node) (ks : List ℕ) (sizes : List Size) → sizes ≡ map size_of (read_nodes [] nodes) → IsTrue (list_all (is_position nodes) ks) → IsTrue (list_all (λ k. nat_lt k (length sizes)) ks)
sizes_placed nodes ks sizes are placed =
    let long : length sizes ≡ length nodes = omega (arith, ap length are, length-map (read_nodes [] nodes) size_of, long_read [] nodes) in
    subst (λ n. IsTrue (list_all (λ k. nat_lt k n) ks)) (sym long) placed

-- the same forms under other names of the lists
pub moved_forms : {words : List ℕ} {rows : List CRow} {nodes more : List Node} {ks ls : List ℕ} → more ≡ nodes → ls ≡ ks → ArePrinted words rows nodes ks → ArePrinted words rows more ls
moved_forms {words} {rows} {nodes} {more} {ks} {ls} p q are = subst (λ ns. ArePrinted words rows ns ls) (sym p) (subst (ArePrinted words rows nodes) (sym q) are)

-- with forms of the conditions
module _ (words : List ℕ) (columns : List (List ℕ)) (rows : List CRow) (can : CanBeExported words columns rows) (nodes : List Node) (ks : List ℕ) (are_printed : ArePrinted words rows nodes ks) where
  pub as_many : length ks ≡ length rows
  as_many = as_long (λ k place. SameTruth (node_condition nodes k) (condition_at words place)) ks (map (λ r. r.cond) rows) are_printed.truth ∙ length-map rows (λ r. r.cond)

  pub too_wide : (sizes : List Size) → sizes ≡ map size_of (read_nodes [] nodes) → (number : ℕ) → IsFirstPast sizes ks number → IsTooWide words rows number
  too_wide sizes are number first =
      let k = get_or ks first.index 0 in
      let place = get_or (map (λ r. r.cond) rows) first.index 0 in
      let long : first.index < length (map (λ r. r.cond) rows) = omega (arith, first.within, as_many, length-map rows (λ r. r.cond)) in
      let narrow : is_narrow nodes k ≡ false = sym (narrow_at nodes k) ∙ subst (λ s. IsFalse (fits_at s k)) are first.past in
      let short = zipped (λ k place. length (text_of term_text (node_condition nodes k)) ≤ wide (λ t. length (term_text t)) (condition_at words place)) ks (map (λ r. r.cond) rows) first.index (are_printed.bytes term_text none_empty) long in
      let low = zipped (λ k place. nest_of (node_condition nodes k) ≤ deep (condition_at words place)) ks (map (λ r. r.cond) rows) first.index are_printed.nests long in
      record {
        index = first.index;
        number_is = first.number_is;
        below = omega (arith, first.within, as_many);
        nodes = nodes;
        positions = ks;
        forms = are_printed;
        before = sym (all_narrow nodes (take first.index ks)) ∙ subst (λ s. IsTrue (list_all (fits_at s) (take first.index ks))) are first.before;
        past = narrow;
        wide = elim (past_cases (length (text_of term_text (node_condition nodes k))) (nest_of (node_condition nodes k)) narrow) [
          | inl long_text ↦ inl (omega (arith, long_text, short))
          | inr deep_nest ↦ inr (omega (arith, deep_nest, low))
        ];
      }

  pub is_exported : (sizes : List Size) → sizes ≡ map size_of (read_nodes [] nodes) → IsTrue (list_all (fits_at sizes) ks)
      → (j : ℕ) → IsLeastFree j (TermOfRows words rows) → (file : List ℕ) → file ≡ records_text (file_records j columns (printed_rows words nodes rows ks))
      → AreTexts (file_records j columns (printed_rows words nodes rows ks)) → IsExported words columns rows file
  is_exported sizes are fit j least file is texts =
      let narrow : IsTrue (list_all (is_narrow nodes) ks) = sym (all_narrow nodes ks) ∙ subst (λ s. IsTrue (list_all (fits_at s) ks)) are fit in
      let forms : AreForms words rows nodes ks = record { within = are_printed.within; truth = are_printed.truth; short = each_keeps words nodes ks (map (λ r. r.cond) rows) are_printed.bytes; narrow = narrow } in
      subst (IsExported words columns rows) (sym is) (exported words columns rows nodes ks j can forms least texts)
