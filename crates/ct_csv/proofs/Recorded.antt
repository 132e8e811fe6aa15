-- The records of rows, one more at a time.
use Rattle.std.proofs.Common.{◌≡◌, ℕ, Bool, zero, suc, ◌+◌, ◌<◌, true, false, not, List, [], ◌∷◌, ◌++◌, length, map, take, get_or, refl, ap, sym, ◌∙◌, subst, arith, append-nil, append_assoc}
use Rattle.std.{specs.Prelude.{IsTrue, String, string_bytes}, specs.List.list_all, proofs.lemmas.Bool.{Decides.nat_tests, false≢true}, proofs.lemmas.List.Folds.list_all_at, proofs.lemmas.List.{map-append}, proofs.lemmas.Grind.flat_map-append, proofs.lemmas.List.Elements.filter-append, proofs.lemmas.Str.IsUtf8-string_bytes}
use Rattle.csv.specs.Records.{AllText}
use Rattle.csv.specs.Writing.{default_writer, row_text}
use Rattle.ct_word.{specs.declared.values.CRow.CRow, specs.Condition.Condition, specs.Change.PlainRow, specs.Reading.term_at}
use Rattle.ct_rewrite.{specs.declared.answer.Node.Node, specs.Nodes.{is_position, condition_of_node, node_condition}}
use Rattle.ct_rewrite.specs.declared.answer.Node.TheVariants as node
use Rattle.ct_csv.specs.{Csv.AreTexts, Exported.{is_false, is_false_node, row_fields, printed_rows, written_rows, row_records, records_text}}

-- a row with the condition at a position
abbrev pub form_of : List ℕ → List Node → List ℕ → ℕ → PlainRow
form_of words nodes cells k = record { cells = map (term_at words) cells; condition = node_condition nodes k }

pub position_within : (nodes : List Node) (ks : List ℕ) (i : ℕ) → i < length ks → IsTrue (list_all (is_position nodes) ks) → get_or ks i 0 < length nodes
position_within nodes ks i lt h = by (is_position nodes (get_or ks i 0)) refl where
  by : (b : Bool) → is_position nodes (get_or ks i 0) ≡ b → get_or ks i 0 < length nodes
  by true e = grind (arith, nat_tests, e)
  by false e = absurd (false≢true (sym (list_all_at (is_position nodes) ks i 0 lt e) ∙ h))

pub printed_more : (words : List ℕ) (nodes : List Node) (rows : List CRow) (ks : List ℕ) (i : ℕ) (d : CRow) → i < length rows → i < length ks
    → printed_rows words nodes (take (suc i) rows) (take (suc i) ks) ≡ printed_rows words nodes (take i rows) (take i ks) ++ form_of words nodes (get_or rows i d).cells (get_or ks i 0) ∷ []
printed_more words nodes [] ks i d lt le = absurd (omega (arith, lt))
printed_more words nodes (r ∷ rows) [] i d lt le = absurd (omega (arith, le))
printed_more words nodes (r ∷ rows) (k ∷ ks) zero d lt le = refl
printed_more words nodes (r ∷ rows) (k ∷ ks) (suc i) d lt le = ap (λ fs. form_of words nodes r.cells k ∷ fs) (printed_more words nodes rows ks i d (omega (arith, lt)) (omega (arith, le)))

pub records_more : (j : ℕ) (fs gs : List PlainRow) → row_records j (fs ++ gs) ≡ row_records j fs ++ row_records j gs
records_more j fs gs = ap (map (row_fields j)) (filter-append (λ r. not (is_false r.condition)) fs gs) ∙ map-append (row_fields j) (written_rows fs) (written_rows gs)

pub text_more : (rs ss : List (List (List ℕ))) → records_text (rs ++ ss) ≡ records_text rs ++ records_text ss
text_more rs ss = flat_map-append (row_text default_writer) rs ss

pub texts_joined : (rs ss : List (List (List ℕ))) → AreTexts rs → AreTexts ss → AreTexts (rs ++ ss)
texts_joined [] ss h g = g
texts_joined (r ∷ rs) ss h g = (h.0, texts_joined rs ss h.1 g)

-- the bytes and the texts of the records in front, and of one more
pub record AreWritten (j : ℕ) (words : List ℕ) (nodes : List Node) (rows : List CRow) (ks : List ℕ) (start written : List ℕ) : Type 0 where
  pub bytes : written ≡ start ++ records_text (row_records j (printed_rows words nodes rows ks))
  pub texts : AreTexts (row_records j (printed_rows words nodes rows ks))

pub one_row : (j : ℕ) (words : List ℕ) (nodes : List Node) (rows : List CRow) (ks : List ℕ) (i : ℕ) (r d : CRow) (cells : List ℕ) (start old new : List ℕ) → i < length rows → i < length ks → r ≡ get_or rows i d → cells ≡ r.cells
    → AreWritten j words nodes (take i rows) (take i ks) start old → new ≡ old ++ records_text (row_records j (form_of words nodes cells (get_or ks i 0) ∷ [])) → AreTexts (row_records j (form_of words nodes cells (get_or ks i 0) ∷ []))
    → AreWritten j words nodes (take (i + 1) rows) (take (i + 1) ks) start new
one_row j words nodes rows ks i r d cells start old new lt le re ce so_far bytes texts =
    let before = printed_rows words nodes (take i rows) (take i ks) in
    let one = form_of words nodes cells (get_or ks i 0) in
    let same : (get_or rows i d).cells ≡ cells = sym (ce ∙ ap (λ x. x.cells) re) in
    let next : i + 1 ≡ suc i = omega arith in
    let all : printed_rows words nodes (take (i + 1) rows) (take (i + 1) ks) ≡ before ++ one ∷ [] =
    ap (λ n. printed_rows words nodes (take n rows) (take n ks)) next ∙ printed_more words nodes rows ks i d lt le ∙ ap (λ xs. before ++ form_of words nodes xs (get_or ks i 0) ∷ []) same in
    let records : row_records j (printed_rows words nodes (take (i + 1) rows) (take (i + 1) ks)) ≡ row_records j before ++ row_records j (one ∷ []) = ap (row_records j) all ∙ records_more j before (one ∷ []) in
    record {
      bytes =
          bytes ∙ ap (λ b. b ++ records_text (row_records j (one ∷ []))) so_far.bytes
          ∙ append_assoc start (records_text (row_records j before)) (records_text (row_records j (one ∷ [])))
          ∙ ap (λ b. start ++ b) (sym (ap records_text records ∙ text_more (row_records j before) (row_records j (one ∷ []))));
      texts = subst AreTexts (sym records) (texts_joined (row_records j before) (row_records j (one ∷ [])) so_far.texts texts);
    }

-- a row that is written, and one that is left out
pub kept_row : (j : ℕ) (f : PlainRow) → is_false f.condition ≡ false → row_records j (f ∷ []) ≡ row_fields j f ∷ []
kept_row j f e = rw e refl

pub left_row : (j : ℕ) (f : PlainRow) → is_false f.condition ≡ true → row_records j (f ∷ []) ≡ []
left_row j f e = rw e refl

pub row_written : (j : ℕ) (f : PlainRow) (fields : List (List ℕ)) → is_false f.condition ≡ false → fields ≡ row_fields j f → row_text default_writer fields ≡ records_text (row_records j (f ∷ []))
row_written j f fields h e = ap (row_text default_writer) e ∙ sym (append-nil (row_text default_writer (row_fields j f))) ∙ sym (ap records_text (kept_row j f h))

pub none_written : (j : ℕ) (f : PlainRow) (old : List ℕ) → is_false f.condition ≡ true → old ≡ old ++ records_text (row_records j (f ∷ []))
none_written j f old h = sym (ap (λ rs. old ++ records_text rs) (left_row j f h) ∙ append-nil old)

pub false_is : (cs : List Condition) (n : Node) → is_false (condition_of_node cs n) ≡ is_false_node n
false_is cs node.True = refl
false_is cs node.False = refl
false_is cs (node.Eq s t) = refl
false_is cs (node.Ne s t) = refl
false_is cs (node.And ks) = refl
false_is cs (node.Or ks) = refl

-- strings are texts
pub are_texts : {Z : Type 0} (fields : List (String Z)) → AllText (map (string_bytes {Z = Z}) fields)
unfolding AllText
are_texts [] = tt
are_texts (f ∷ fields) = (IsUtf8-string_bytes f, are_texts fields)
