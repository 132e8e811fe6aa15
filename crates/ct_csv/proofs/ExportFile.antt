-- The records of a table are a file, which shows the table.
use Rattle.std.proofs.Common.{◌≡◌, ℕ, ◌<◌, ◌≤◌, ◌+◌, Bool, true, false, List, [], ◌∷◌, ◌++◌, length, length-append, map, refl, ap, sym, ◌∙◌, subst, arith, Some, None, codes, if◌then◌else◌}
use Rattle.std.{specs.Prelude.{IsTrue, All}, specs.List.list_all, proofs.lemmas.Bool.and_parts, proofs.lemmas.Bool.Decides.nat_tests}
use Rattle.std.proofs.lemmas.List.{length-map, Elements.{All-head, All-tail}}
use Rattle.ct_word.{specs.declared.values.CRow.CRow, specs.Names.{is_letter, is_word, is_name}, specs.Value.same_text}
use Rattle.ct_word.{specs.Change.PlainRow, specs.Reading.term_at}
use Rattle.ct_lex.specs.Spelling.{lowered}
use Rattle.ct_query.specs.Database.{has_tuple}
use Rattle.ct_rewrite.specs.declared.answer.Node.{Node}
use Rattle.ct_operators.specs.{Tables.IsRow, Terms.TermOfRows}
use Rattle.ct_reread.proofs.Terms.{word_kept}
use Rattle.csv.specs.Reading.{strip_bom, AreRecords, default_config}
use Rattle.csv.specs.declared.parser.State.TheVariants as state
use Rattle.ct_csv.specs.{Csv.{IsCsv, AreTexts, HaveFields}, Fields.{field_name, before_names, names_of, some_of, header}}
use Rattle.ct_csv.specs.Exported.{renamed_text, is_false, condition_text, row_fields, first_fields, printed_rows, written_rows, file_records, records_text, FormsAreExported}
use Rattle.ct_csv.proofs.ExportBytes.{HaveFirst, are_records, records_written, no_mark}
use Rattle.ct_csv.proofs.ExportRows.{but_last, last_is, rows_written, records_say, shown_same, shown_without, shown_printed, filtered_can, filtered_among}
use Rattle.ct_csv.proofs.Apart.{apart, each_old, each_new}
use Rattle.ct_csv.proofs.ExportForms.{rows_can, rows_among}

-- the first record names the columns
name_back : (n : List ℕ) → is_name n ≡ true → field_name n ≡ Some n
name_back n h =
    let word : is_word n ≡ true = grind arith in
    let same = word_kept n word in
    let named : is_name (lowered n) ≡ true = ap is_name same ∙ h in
    rw named (ap (λ m. Some m) same)

names_back : (ns : List (List ℕ)) → IsTrue (list_all is_name ns) → names_of ns ≡ Some ns
names_back [] h = refl
names_back (n ∷ ns) h =
    let parts = and_parts (is_name n) (list_all is_name ns) h in
    λ i. before_names (name_back n parts.0 i) (names_back ns parts.1 i)

header_back : (c : List ℕ) (cs : List (List ℕ)) (rs : List (List (List ℕ))) → IsTrue (list_all is_name (c ∷ cs)) → header (first_fields (c ∷ cs) ∷ rs) ≡ Some (c ∷ cs)
header_back c cs rs h =
    (λ i. if same_text (last_is (c ∷ cs) (codes "if") i) (codes "if") then some_of (names_of (but_last (c ∷ cs) (codes "if") i)) else None) ∙ ap some_of (names_back (c ∷ cs) h)

-- the first column's name begins with a letter
record LetterFirst (n : List ℕ) : Type 0 where
  first : ℕ
  rest : List ℕ
  is : n ≡ first ∷ rest
  low : first < 128

letter_first : (n : List ℕ) → is_name n ≡ true → LetterFirst n
letter_first [] h = absurd (grind arith)
letter_first (b ∷ w) h =
    let letter : is_letter b ≡ true = grind arith in
    let low : b < 128 = grind (arith, nat_tests) in
    record { first = b; rest = w; is = refl; low = low }

some_first : (xs : List (List ℕ)) (c : List ℕ) (rs : List (List (List ℕ))) → HaveFirst rs → HaveFirst ((xs ++ c ∷ []) ∷ rs)
some_first [] c rs h = h
some_first (x ∷ xs) c rs h = h

have_first : (j : ℕ) (forms : List PlainRow) → HaveFirst (map (row_fields j) forms)
have_first j [] = tt
have_first j (f ∷ fs) = some_first (map (renamed_text j) f.cells) (condition_text j f.condition) (map (row_fields j) fs) (have_first j fs)

-- the records are as long as the first
abbrev AreWide : ℕ → List PlainRow → Type 0
AreWide n [] = Unit {0}
AreWide n (f ∷ fs) = (length f.cells ≡ n) × AreWide n fs

even_rows : (j n : ℕ) (forms : List PlainRow) → AreWide n forms → HaveFields (n + 1) (map (row_fields j) forms)
even_rows j n [] h = tt
even_rows j n (f ∷ fs) h =
    (omega (arith, h.0, length-map f.cells (renamed_text j), length-append (map (renamed_text j) f.cells) (condition_text j f.condition ∷ [])), even_rows j n fs h.1)

filtered_wide : (n : ℕ) (forms : List PlainRow) → AreWide n forms → AreWide n (written_rows forms)
filtered_wide n [] h = tt
filtered_wide n (f ∷ fs) h = by (is_false f.condition) refl (filtered_wide n fs h.1) where
  by : (b : Bool) → is_false f.condition ≡ b → AreWide n (written_rows fs) → AreWide n (written_rows (f ∷ fs))
  by true e rest = rw e rest
  by false e rest = rw e (h.0, rest)

printed_wide : (words : List ℕ) (width : ℕ) (nodes : List Node) (rs : List CRow) (ks : List ℕ) → All (IsRow words width) rs → AreWide width (printed_rows words nodes rs ks)
printed_wide words width nodes [] ks are = tt
printed_wide words width nodes (r ∷ rs) [] are = tt
printed_wide words width nodes (r ∷ rs) (k ∷ ks) are =
    let row = All-head (IsRow words width) r rs are in
    (length-map r.cells (term_at words) ∙ row.width_is, printed_wide words width nodes rs ks (All-tail (IsRow words width) r rs are))

-- the bytes have these records
csv_back : (columns : List (List ℕ)) → 1 ≤ length columns → IsTrue (list_all is_name columns) → (j : ℕ) (forms : List PlainRow) → AreWide (length columns) (written_rows forms)
    → AreTexts (file_records j columns forms) → IsCsv (records_text (file_records j columns forms)) (file_records j columns forms)
csv_back [] some named j forms wide texts = absurd (omega (arith, some))
csv_back (c ∷ cs) some named j forms wide texts =
    let rs : List (List (List ℕ)) = map (row_fields j) (written_rows forms) in
    let all : List (List (List ℕ)) = first_fields (c ∷ cs) ∷ rs in
    let letter = letter_first c (and_parts (is_name c) (list_all is_name cs) named).0 in
    let whole : strip_bom (records_text all) ≡ records_text all =
    subst (λ n. strip_bom (records_text (first_fields (n ∷ cs) ∷ rs)) ≡ records_text (first_fields (n ∷ cs) ∷ rs)) (sym letter.is)
    (no_mark letter.first letter.rest (cs ++ codes "if" ∷ []) rs letter.low) in
    let long : length (c ∷ cs) + 1 ≡ length (first_fields (c ∷ cs)) = sym (length-append (c ∷ cs) (codes "if" ∷ [])) in
    record {
      utf8 = records_written all texts;
      all = subst (λ bs. AreRecords default_config state.StartRecord bs all) (sym whole) (are_records all (have_first j (written_rows forms)));
      texts = texts;
      even = subst (λ n. HaveFields n rs) long (even_rows j (length (c ∷ cs)) (written_rows forms) wide);
    }

names_first : (columns : List (List ℕ)) → 1 ≤ length columns → IsTrue (list_all is_name columns) → (rs : List (List (List ℕ))) → header (first_fields columns ∷ rs) ≡ Some columns
names_first [] some named rs = absurd (omega (arith, some))
names_first (c ∷ cs) some named rs = header_back c cs rs named

-- all together
pub exported : FormsAreExported
exported words columns rows nodes ks j can forms least texts =
    let width = length columns in
    let printed : List PlainRow = printed_rows words nodes rows ks in
    let writes = filtered_can j printed (rows_can words can.formed width j nodes forms.within rows ks can.are.each can.writable forms.short forms.narrow) in
    let among = filtered_among (TermOfRows words rows) printed (rows_among words can.formed width j nodes forms.within rows rows ks (λ r h. h) can.are.each can.writable forms.short) in
    let found = rows_written j (written_rows printed) writes in
    record {
      underscores = j;
      least = least;
      nodes = nodes;
      positions = ks;
      forms = forms;
      bytes_are = refl;
      written = found.0;
      file = record {
        records = file_records j columns printed;
        csv = csv_back columns can.some can.names j printed (filtered_wide width printed (printed_wide words width nodes rows ks can.are.each)) texts;
        names = names_first columns can.some can.names (map (row_fields j) (written_rows printed));
        says = records_say j (written_rows printed) found.0 found.1;
      };
      apart = apart words can.formed rows j least;
      each_old = each_old words can.formed rows j least;
      each_new = each_new words can.formed rows j least;
      shown = λ v u renames tuple.
          ap (λ ts. has_tuple ts tuple) (shown_same j (TermOfRows words rows) v u renames (written_rows printed) found.0 among found.1
          ∙ shown_without v printed ∙ shown_printed v words nodes rows ks forms.truth);
    }
