-- The texts of an imported script are its lines.
use Rattle.std.proofs.Common.{◌≡◌, ℕ, ◌<◌, ◌≤◌, Bool, true, false, List, [], ◌∷◌, ◌++◌, length, map, flat_map, drop, refl, ap, sym, ◌∙◌, subst, append_assoc, arith, Option, Some, None, if◌then◌else◌, codes}
use Rattle.std.specs.List.{list_all, AllZip}
use Rattle.ct_word.{specs.Names.is_name, specs.Value.same_text, specs.Change.PlainRow}
use Rattle.ct_lex.{specs.declared.token.Token.Token, specs.Spelling.{blank, lowered}, specs.Tokens.{Lexes, ended as no_bytes, skipped as passed}}
use Rattle.ct_lex.{specs.Splitting.{ended, other, kept, skipped, Splits, last, cut}, proofs.Readings.{read_tokens, same_tokens}, proofs.Scripts.splits_only}
use Rattle.ct_parse.specs.declared.tree.Statement.{Statement}
use Rattle.ct_parse.specs.declared.tree.Statement.TheVariants as statement
use Rattle.ct_parse.specs.Grammar.{said}
use Rattle.ct_csv.specs.{Csv.{HaveFields, AreEven}, Fields.{cell_fields, condition_field, field_name, before_names, names_of, some_of, header}, File.SayRows, Script.{ending, insert_line, script_of}}
use Rattle.ct_csv.proofs.Rows.{two_fields}
use Rattle.ct_imports.specs.Statements.{Inserts, MakesTable, MakesTables}
use Rattle.ct_imports.proofs.{Spelled.{placed, pieced}, Lines.{IsLine, line_read, create_text, created, insert_text, row_text, row_inserted}}

-- the columns that a first record names are names, and there is one
chosen_name : (q : Bool) (w n : List ℕ) → is_name w ≡ q → (if q then Some w else None) ≡ Some n → is_name n ≡ true
chosen_name true w n h e = let is : w ≡ n = cc e in subst (λ m. is_name m ≡ true) is h
chosen_name false w n h e = absurd (cc e)

one_more : (m : Option (List ℕ)) (o : Option (List (List ℕ))) (ns : List (List ℕ)) → ((n : List ℕ) → m ≡ Some n → is_name n ≡ true)
    → ((bs : List (List ℕ)) → o ≡ Some bs → list_all is_name bs ≡ true) → before_names m o ≡ Some ns → list_all is_name ns ≡ true
one_more None o ns first rest e = absurd (cc e)
one_more (Some a) None ns first rest e = absurd (cc e)
one_more (Some a) (Some bs) ns first rest e =
    let is : a ∷ bs ≡ ns = cc e in
    let one = first a refl in
    let others = rest bs refl in
    subst (λ xs. list_all is_name xs ≡ true) is (rw (one, others))

all_names : (fields ns : List (List ℕ)) → names_of fields ≡ Some ns → list_all is_name ns ≡ true
all_names [] ns e = let is : [] ≡ ns = cc e in subst (λ xs. list_all is_name xs ≡ true) is refl
all_names (f ∷ fs) ns e = one_more (field_name f) (names_of fs) ns (λ n. chosen_name (is_name (lowered f)) (lowered f) n refl) (all_names fs) e

some_names : (q : Bool) (o : Option (List (List ℕ))) (cs : List (List ℕ)) → (if q then some_of o else None) ≡ Some cs → (o ≡ Some cs) × (0 < length cs)
some_names true None cs e = absurd (cc e)
some_names true (Some []) cs e = absurd (cc e)
some_names true (Some (n ∷ ns)) cs e = let is : n ∷ ns ≡ cs = cc e in (ap Some is, subst (λ xs. 0 < length xs) is (omega arith))
some_names false o cs e = absurd (cc e)

-- a text with a token is kept
not_empty : (x : List ℕ) (tree : Statement) → IsLine x tree → Lexes x [] → ⊥
not_empty x tree line none =
    let at : (ts : List Token) × Lexes x ts × (said ts ≡ line.lexemes) = placed 0 line.given in
    let same : at.0 ≡ [] = same_tokens (read_tokens at.1) (read_tokens none) in
    let gone : line.lexemes ≡ [] = sym at.2 ∙ ap said same in
    omega (arith, line.some, ap length gone)

-- a line, and the texts behind it
line_cut : (script x r : List ℕ) (tree : Statement) (ts : List (List ℕ)) → IsLine x tree → script ≡ x ++ 59 ∷ r → Splits r ts → Splits script (x ∷ ts)
line_cut script x r tree ts line is more = cut x r is (pieced (59 ∷ r) line.given) more (kept (not_empty x tree line))

-- the texts that insert rows
abbrev row_texts : List ℕ → List (List (List ℕ)) → List (List ℕ)
row_texts table records = map (λ fields. 10 ∷ insert_text table fields) records

record AreInserted (table : List ℕ) (records : List (List (List ℕ))) (rows : List PlainRow) : Type 0 where
  splits : Splits (10 ∷ flat_map (insert_line table) records) (row_texts table records)
  insert_rows : AllZip (Inserts table) (row_texts table records) rows

are_inserted : (table : List ℕ) (n : ℕ) (records : List (List (List ℕ))) (rows : List PlainRow) → is_name table ≡ true → 2 ≤ n → HaveFields n records → SayRows records rows → AreInserted table records rows
are_inserted table n [] [] named wide even says = record {
  splits = last (other refl ended) (skipped (passed (10 ∷ []) [] refl (blank refl) no_bytes));
  insert_rows = tt;
}
are_inserted table n [] (r ∷ rows) named wide even says = absurd says
are_inserted table n (f ∷ records) [] named wide even says = absurd says
are_inserted table n (f ∷ records) (r ∷ rows) named wide even says =
    let one = row_text table f r named (omega (arith, even.0)) says.0 in
    let rest = are_inserted table n records rows named wide even.1 says.1 in
    let behind = flat_map (insert_line table) records in
    record {
      splits =
          line_cut (10 ∷ flat_map (insert_line table) (f ∷ records)) (10 ∷ insert_text table f) (10 ∷ behind) (statement.InsertRows table one.cells [] one.condition) (row_texts table records) one.line
          (ap (λ y. 10 ∷ y) (append_assoc (insert_text table f) ending behind)) rest.splits;
      insert_rows = (row_inserted table (10 ∷ insert_text table f) r one, rest.insert_rows);
    }

-- the script of records
made : (script table : List ℕ) (columns : List (List ℕ)) (records : List (List (List ℕ))) (rows : List PlainRow) → is_name table ≡ true → list_all is_name columns ≡ true → 0 < length columns
    → AreInserted table records rows → script ≡ script_of table columns records → MakesTable script table columns rows
made script table [] records rows named all some inserted is = absurd (omega arith)
made script table (c ∷ cs) records rows named all some inserted is =
    let line = created table c cs named all in
    let behind = flat_map (insert_line table) records in
    let text = create_text table (c ∷ cs) in
    let splits : Splits script (text ∷ row_texts table records) =
    line_cut script text (10 ∷ behind) (statement.Create table c cs) (row_texts table records) line (is ∙ append_assoc text ending behind) inserted.splits in
    record {
      create = text;
      inserts = row_texts table records;
      texts_are = sym (splits_only splits);
      creates = record { first = c; rest = cs; columns_are = refl; read = line_read text (statement.Create table c cs) line };
      insert_rows = inserted.insert_rows;
    }

made_of : (script table : List ℕ) (columns : List (List ℕ)) (records : List (List (List ℕ))) (rows : List PlainRow) → is_name table ≡ true → AreEven records → header records ≡ Some columns
    → SayRows (drop 1 records) rows → script ≡ script_of table columns (drop 1 records) → MakesTable script table columns rows
made_of script table columns [] rows named even head says is = absurd (cc head)
made_of script table columns (fields ∷ records) rows named even head says is =
    let names = some_names (same_text (condition_field fields) (codes "if")) (names_of (cell_fields fields)) columns head in
    let inserted = are_inserted table (length fields) records rows named (two_fields fields columns head) even says in
    made script table columns records rows named (all_names (cell_fields fields) columns names.0) names.1 inserted is

pub makes_tables : MakesTables
makes_tables name bytes script named i = made_of script name i.columns i.file.records i.rows named i.file.csv.even i.file.names i.file.says i.script
