-- The lines of an imported script, without their ends.
use Rattle.std.proofs.Common.{◌≡◌, ℕ, ◌-◌, ◌<◌, ◌≤◌, true, List, [], ◌∷◌, ◌++◌, length, refl, sym, ◌∙◌, subst, append_assoc, append-nil, arith, Option, Ok, codes, length-take}
use Rattle.std.{specs.List.{list_all, AllZip}, proofs.lemmas.Bool.and_parts}
use Rattle.ct_word.{specs.declared.values.Term.Term, specs.Names.is_name, specs.Change.PlainRow, specs.Condition.Condition}
use Rattle.ct_lex.{specs.declared.token.Lexeme.Lexeme, specs.declared.token.Token.Token, specs.Spelling.word, specs.Tokens.Lexes}
use Rattle.ct_lex.specs.declared.token.Lexeme.TheVariants as lexeme
use Rattle.ct_parse.specs.declared.tree.Cell.{Cell}
use Rattle.ct_parse.specs.declared.tree.Condition as parsed
use Rattle.ct_parse.specs.declared.tree.Row.{Row}
use Rattle.ct_parse.specs.declared.tree.Statement.{Statement}
use Rattle.ct_parse.specs.declared.tree.Statement.TheVariants as statement
use Rattle.ct_parse.specs.Grammar.{said, IsName, name, IsCell, row, create, insert_rows, no_more}
use Rattle.ct_parse.specs.Parses.{Spells}
use Rattle.ct_print.specs.TermText.{in_parentheses, with_commas}
use Rattle.ct_resolve.specs.{Conditions.condition_or_true, Statements.{cells_of, cell_terms}}
use Rattle.ct_csv.specs.{Fields.{cell_fields, condition_field}, File.SaysRow, Script.{cell_text, condition_text}}
use Rattle.ct_imports.specs.Statements.{ReadsAs, Inserts}
use Rattle.ct_imports.proofs.Spelled.{AreSpelled, blank_first, one_first, joined, placed, free_blank}
use Rattle.ct_imports.proofs.{Calm.{name_calm, IsShallow, calm_before, word_calm, not_deep}, Lists.{IsOne, IsList, list, list_shallow}, Cells.{name_given, one_name, AreCells, are_cells}, Conditions.{IsBehind, condition_behind}}

-- a text that spells a statement
pub record IsLine (text : List ℕ) (tree : Statement) : Type 0 where
  pub lexemes : List Lexeme
  pub some : 0 < length lexemes
  pub given : AreSpelled text lexemes []
  pub spells : Spells lexemes tree
  pub shallow : IsShallow lexemes

-- it is read as the statement, and so is it behind a line's end
pub line_read : (text : List ℕ) (tree : Statement) → IsLine text tree → ReadsAs text tree
line_read text tree line =
    let at : (ts : List Token) × Lexes text ts × (said ts ≡ line.lexemes) = placed 0 line.given in
    record {
      tokens = at.0;
      lexes = at.1;
      shallow = not_deep (said at.0) (subst IsShallow (sym at.2) line.shallow);
      spells = subst (λ ls. Spells ls tree) (sym at.2) line.spells;
    }

line_below : (text : List ℕ) (tree : Statement) → IsLine text tree → IsLine (10 ∷ text) tree
line_below text tree line = record { lexemes = line.lexemes; some = line.some; given = blank_first refl line.given; spells = line.spells; shallow = line.shallow }

-- the line that makes the table, without its end
abbrev pub create_text : List ℕ → List (List ℕ) → List ℕ
create_text table columns = codes "create table " ++ table ++ codes " " ++ in_parentheses (with_commas (λ n. n) columns)

names_each : (ns : List (List ℕ)) → list_all is_name ns ≡ true → AllZip (λ n m. IsOne IsName n m) ns ns
names_each [] h = tt
names_each (n ∷ ns) h = let parts = and_parts (is_name n) (list_all is_name ns) h in (one_name n parts.0, names_each ns parts.1)

create_is : (table text n : List ℕ) (ns : List (List ℕ)) → is_name table ≡ true → IsList IsName text (n, ns)
    → IsLine (codes "create table " ++ table ++ codes " " ++ text) (statement.Create table n ns)
create_is table text n ns named whole =
    record {
      lexemes = lexeme.Word (codes "create") ∷ lexeme.Word (codes "table") ∷ lexeme.Word table ∷ (whole.lexemes ++ []);
      some = omega arith;
      given =
          one_first (codes "create") (codes " table " ++ table ++ codes " " ++ text) (lexeme.Word (codes "create")) refl (word refl refl) (blank_first refl
          (one_first (codes "table") (codes " " ++ table ++ codes " " ++ text) (lexeme.Word (codes "table")) refl (word refl refl) (blank_first refl
          (one_first table (32 ∷ text) (lexeme.Word table) (append_assoc table (codes " ") text) (name_given table named ((32 ∷ text) ++ []) free_blank) (blank_first refl
          (subst (λ ls. AreSpelled text ls []) (sym (append-nil whole.lexemes)) (whole.given [])))))));
      spells = create (name named) (whole.is_list []);
      shallow =
          calm_before (lexeme.Word (codes "create")) (lexeme.Word (codes "table") ∷ lexeme.Word table ∷ (whole.lexemes ++ [])) (word_calm (codes "create") refl refl)
          (calm_before (lexeme.Word (codes "table")) (lexeme.Word table ∷ (whole.lexemes ++ [])) (word_calm (codes "table") refl refl)
          (calm_before (lexeme.Word table) (whole.lexemes ++ []) (name_calm table named) (list_shallow IsName text (n, ns) [] whole (record { nests = omega arith; operators = omega arith }))));
    }

pub created : (table n : List ℕ) (ns : List (List ℕ)) → is_name table ≡ true → list_all is_name (n ∷ ns) ≡ true → IsLine (create_text table (n ∷ ns)) (statement.Create table n ns)
created table n ns named all =
    let each = names_each (n ∷ ns) all in
    create_is table (in_parentheses (with_commas (λ m. m) (n ∷ ns))) n ns named (list (λ m. m) IsName n ns n ns each.0 each.1)

-- the line that inserts the row of a record, without its end
abbrev pub insert_text : List ℕ → List (List ℕ) → List ℕ
insert_text table fields = codes "insert into " ++ table ++ codes " values " ++ in_parentheses (with_commas cell_text (cell_fields fields)) ++ condition_text (condition_field fields)

insert_is : (table cells text : List ℕ) (c : Cell) (cs : List Cell) (d : Condition) → is_name table ≡ true → IsList IsCell cells (c, cs) → (b : IsBehind text d)
    → IsLine (codes "insert into " ++ table ++ codes " values " ++ cells ++ text) (statement.InsertRows table (record { first = c; rest = cs }) [] b.tree)
insert_is table cells text c cs d named whole b =
    let apart : table ++ codes " values " ++ cells ++ text ≡ table ++ (codes " values " ++ (cells ++ text)) =
    append_assoc (table ++ codes " values ") cells text ∙ append_assoc table (codes " values ") (cells ++ text) in
    record {
      lexemes = lexeme.Word (codes "insert") ∷ lexeme.Word (codes "into") ∷ lexeme.Word table ∷ lexeme.Word (codes "values") ∷ (whole.lexemes ++ b.lexemes);
      some = omega arith;
      given =
          one_first (codes "insert") (codes " into " ++ table ++ codes " values " ++ cells ++ text) (lexeme.Word (codes "insert")) refl (word refl refl) (blank_first refl
          (one_first (codes "into") (codes " " ++ table ++ codes " values " ++ cells ++ text) (lexeme.Word (codes "into")) refl (word refl refl) (blank_first refl
          (one_first table (codes " values " ++ (cells ++ text)) (lexeme.Word table) apart (name_given table named ((codes " values " ++ (cells ++ text)) ++ []) free_blank) (blank_first refl
          (one_first (codes "values") (32 ∷ (cells ++ text)) (lexeme.Word (codes "values")) refl (word refl refl) (blank_first refl
          (joined (whole.given (text ++ [])) refl b.given))))))));
      spells = insert_rows (name named) (row (whole.is_list b.lexemes)) no_more b.spells;
      shallow =
          let rest = whole.lexemes ++ b.lexemes in
          calm_before (lexeme.Word (codes "insert")) (lexeme.Word (codes "into") ∷ lexeme.Word table ∷ lexeme.Word (codes "values") ∷ rest) (word_calm (codes "insert") refl refl)
          (calm_before (lexeme.Word (codes "into")) (lexeme.Word table ∷ lexeme.Word (codes "values") ∷ rest) (word_calm (codes "into") refl refl)
          (calm_before (lexeme.Word table) (lexeme.Word (codes "values") ∷ rest) (name_calm table named)
          (calm_before (lexeme.Word (codes "values")) rest (word_calm (codes "values") refl refl) (list_shallow IsCell cells (c, cs) b.lexemes whole b.shallow))));
    }

-- the cells of a record in parentheses
cells_list : (xs : List (List ℕ)) (ts : List Term) → 0 < length xs → AreCells xs ts
    → (c : Cell) × (cs : List Cell) × IsList IsCell (in_parentheses (with_commas cell_text xs)) (c, cs) × ((session next : ℕ) → cell_terms session next (c ∷ cs) ≡ ts)
cells_list [] ts some are = absurd (omega arith)
cells_list (x ∷ xs) ts some are = go are.cells are.each are.terms where
  go : (cells : List Cell) → AllZip (λ field c. IsOne IsCell (cell_text field) c) (x ∷ xs) cells → ((session next : ℕ) → cell_terms session next cells ≡ ts)
      → (c : Cell) × (cs : List Cell) × IsList IsCell (in_parentheses (with_commas cell_text (x ∷ xs))) (c, cs) × ((session next : ℕ) → cell_terms session next (c ∷ cs) ≡ ts)
  go [] each terms = absurd each
  go (c ∷ cs) each terms = (c, cs, list cell_text IsCell x xs c cs each.0 each.1, terms)

-- a row's text in a script, behind the end of the line before
pub record IsRowText (table text : List ℕ) (r : PlainRow) : Type 0 where
  pub cells : Row
  pub condition : Option parsed.Condition
  pub line : IsLine text (statement.InsertRows table cells [] condition)
  pub terms : (session next : ℕ) → cell_terms session next (cells_of cells) ≡ r.cells
  pub means : condition_or_true [] condition ≡ Ok r.condition

pub row_text : (table : List ℕ) (fields : List (List ℕ)) (r : PlainRow) → is_name table ≡ true → 2 ≤ length fields → SaysRow fields r → IsRowText table (10 ∷ insert_text table fields) r
row_text table fields r named some says =
    let size : length (cell_fields fields) ≡ length fields - 1 = omega (arith, length-take (length fields - 1) fields) in
    let whole = cells_list (cell_fields fields) r.cells (omega (arith, size)) (are_cells (cell_fields fields) r.cells says.cells) in
    let b = condition_behind says.condition in
    let cells = in_parentheses (with_commas cell_text (cell_fields fields)) in
    record {
      cells = record { first = whole.0; rest = whole.1 };
      condition = b.tree;
      line =
          line_below (insert_text table fields) (statement.InsertRows table (record { first = whole.0; rest = whole.1 }) [] b.tree)
          (insert_is table cells (condition_text (condition_field fields)) whole.0 whole.1 r.condition named whole.2 b);
      terms = whole.3;
      means = b.means;
    }

pub row_inserted : (table text : List ℕ) (r : PlainRow) → IsRowText table text r → Inserts table text r
row_inserted table text r is =
    record { cells = is.cells; condition = is.condition; read = line_read text (statement.InsertRows table is.cells [] is.condition) is.line; terms = is.terms; means = is.means }
