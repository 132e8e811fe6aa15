-- Names and cells as a script has them.
use Rattle.std.proofs.Common.{◌≡◌, ℕ, suc, zero, ◌≤◌, Bool, true, false, ◌||◌, List, [], ◌∷◌, map, drop, refl, ap, sym, ◌∙◌, subst, arith, Option, Some, None, Ok, Err, FitsSigned}
use Rattle.std.{specs.List.{list_all, AllZip}, proofs.lemmas.Bool.Decides.nat_tests}
use Rattle.ct_word.{specs.declared.values.Term.Term, specs.Names.{is_letter, is_digit, is_word, is_name}}
use Rattle.ct_lex.{specs.declared.token.Lexeme.Lexeme, specs.declared.token.Token.Token, specs.Reading.{Read, read}, specs.Tokens.{Lexes, LexesFrom, ended, skipped, taken}}
use Rattle.ct_lex.{specs.Spelling.{Spells, word, number, null, is_spelling, is_word_byte, begins_word, greatest, signed}, proofs.Written.lowered_is_word}
use Rattle.ct_parse.specs.declared.tree.Cell.{Cell}
use Rattle.ct_parse.specs.Grammar.{IsName, name, IsCell, number_cell, text_cell, null_cell}
use Rattle.ct_print.specs.TermText.{term_text}
use Rattle.ct_resolve.specs.Statements.{cell_term, next_after, cell_terms}
use Rattle.ct_reread.proofs.{Lexemes.at_blank, Terms.{number_given, text_given, null_given, word_kept}}
use Rattle.ct_csv.specs.{Fields.{term_of, found, term_alone, cell_of}, Script.{printed, cell_text}}
use Rattle.ct_imports.proofs.{Read.lexed, Spelled.{IsFree, respelled}, Calm.name_calm, Lists.IsOne}
use mir.Syntax.{w64}
use Rattle.ct_word.specs.declared.values.Value.TheVariants as val
use Rattle.ct_word.specs.declared.values.Null.TheVariants as null_of
use Rattle.ct_word.specs.declared.values.Term.TheVariants as term
use Rattle.ct_lex.specs.declared.token.Lexeme.TheVariants as lexeme
use Rattle.ct_parse.specs.declared.tree.Cell.TheVariants as cell

-- a word in lower case is its own spelling
byte_of_word : (b : ℕ) → (is_letter b || is_digit b) ≡ true → is_word_byte b ≡ true
byte_of_word b h = grind (arith, nat_tests)

letter_begins : (b : ℕ) → is_letter b ≡ true → begins_word b ≡ true
letter_begins b h = grind (arith, nat_tests)

bytes_of_word : (w : List ℕ) → list_all (λ c. is_letter c || is_digit c) w ≡ true → list_all is_word_byte w ≡ true
bytes_of_word [] h = refl
bytes_of_word (b ∷ w) h =
    let first : (is_letter b || is_digit b) ≡ true = grind arith in
    let rest : list_all (λ c. is_letter c || is_digit c) w ≡ true = grind arith in
    let one = byte_of_word b first in
    let others = bytes_of_word w rest in
    rw (one, others)

word_spelled : (w : List ℕ) → is_word w ≡ true → is_spelling w ≡ true
word_spelled [] h = absurd (grind arith)
word_spelled (b ∷ w) h =
    let letter : is_letter b ≡ true = grind arith in
    let rest : list_all (λ c. is_letter c || is_digit c) w ≡ true = grind arith in
    let first = letter_begins b letter in
    let others = bytes_of_word w rest in
    rw (first, others)

-- a name
pub name_given : (n : List ℕ) → is_name n ≡ true → (r : List ℕ) → IsFree r → Spells n (Some (lexeme.Word n)) r
name_given n h r free =
    let is : is_word n ≡ true = grind arith in
    subst (λ m. Spells n (Some (lexeme.Word m)) r) (word_kept n is) (word (word_spelled n is) free.no_word)

pub one_name : (n : List ℕ) → is_name n ≡ true → IsOne IsName n n
one_name n h = record { word = lexeme.Word n; given = name_given n h; is_item = λ r. name h; calm = name_calm n h }

-- a number of a text is one of 64 bits, and a null is named by a word
abbrev IsGood : Lexeme → Type 0
IsGood (lexeme.Number i) = FitsSigned w64 i
IsGood (lexeme.Null n) = is_word n ≡ true
IsGood _ = Unit {0}

abbrev IsGoodFound : Option Lexeme → Type 0
IsGoodFound None = Unit {0}
IsGoodFound (Some l) = IsGood l

fits : (minus : Bool) (n : ℕ) → n ≤ greatest minus → FitsSigned w64 (signed minus n)
fits true zero h = record { sfits = omega arith }
fits true (suc n) h = record { sfits = omega arith }
fits false n h = record { sfits = omega arith }

good_spelled : {w r : List ℕ} {o : Option Lexeme} → Spells w o r → IsGoodFound o
good_spelled (number minus ds whole h stops within) = fits minus _ within
good_spelled (null {w} h stops) = lowered_is_word w h
good_spelled _ = tt

abbrev AreGood : List Token → Type 0
AreGood [] = Unit {0}
AreGood (t ∷ ts) = IsGood t.word × AreGood ts

good : {n : ℕ} {x : List ℕ} {ts : List Token} → LexesFrom n x ts → AreGood ts
good ended = tt
good (skipped w r is spells more) = good more
good (taken w r t is spells more) = (good_spelled spells, good more)

-- a text is read as a cell of this term
record IsCellOf (text : List ℕ) (t : Term) : Type 0 where
  cell : Cell
  one : IsOne IsCell text cell
  means : (session next : ℕ) → cell_term session next cell ≡ t
  draws_none : (next : ℕ) → next_after next cell ≡ next

lexeme_cell : (l : Lexeme) (t : Term) → IsGood l → term_of l ≡ Some t → IsCellOf (term_text t) t
lexeme_cell (lexeme.Number i) t fit e =
    let is : term.Value (val.Int i) ≡ t = cc e in
    subst (λ u. IsCellOf (term_text u) u) is (record {
      cell = cell.Number i;
      one = record { word = lexeme.Number i; given = λ r free. respelled r free (number_given i fit (32 ∷ []) at_blank) refl; is_item = λ r. number_cell; calm = record { stays = refl; joins_nothing = refl } };
      means = λ session next. refl;
      draws_none = λ next. refl;
    })
lexeme_cell (lexeme.Text s) t fit e =
    let is : term.Value (val.Text s) ≡ t = cc e in
    subst (λ u. IsCellOf (term_text u) u) is (record {
      cell = cell.Text s;
      one = record { word = lexeme.Text s; given = λ r free. respelled r free (text_given s (32 ∷ []) at_blank) refl; is_item = λ r. text_cell; calm = record { stays = refl; joins_nothing = refl } };
      means = λ session next. refl;
      draws_none = λ next. refl;
    })
lexeme_cell (lexeme.Null n) t fit e =
    let is : term.Null (null_of.Named n) ≡ t = cc e in
    subst (λ u. IsCellOf (term_text u) u) is (record {
      cell = cell.Null n;
      one = record { word = lexeme.Null n; given = λ r free. respelled r free (null_given n fit (32 ∷ []) at_blank) refl; is_item = λ r. null_cell; calm = record { stays = refl; joins_nothing = refl } };
      means = λ session next. refl;
      draws_none = λ next. refl;
    })
lexeme_cell (lexeme.Word n) t fit e = absurd (cc e)
lexeme_cell (lexeme.Symbol s) t fit e = absurd (cc e)

-- the one token of a cell's field
alone : (r : Read) (t : Term) → term_alone (found r) ≡ Some t → (k : Token) × (r ≡ Ok (k ∷ [])) × (term_of k.word ≡ Some t)
alone (Ok []) t e = absurd (cc e)
alone (Ok (k ∷ [])) t e = (k, refl, e)
alone (Ok (k ∷ j ∷ ks)) t e = absurd (cc e)
alone (Err x) t e = absurd (cc e)

field_cell : (field : List ℕ) (t : Term) → cell_of field ≡ Some t → IsCellOf (cell_text field) t
field_cell field t e =
    let is : (k : Token) × (read field ≡ Ok (k ∷ [])) × (term_of k.word ≡ Some t) = alone (read field) t e in
    let lexes : Lexes field (is.0 ∷ []) = lexed field (is.0 ∷ []) is.1 in
    subst (λ o. IsCellOf (printed o) t) (sym e) (lexeme_cell is.0.word t (good lexes).0 is.2)

-- the cells of a record
pub record AreCells (fields : List (List ℕ)) (ts : List Term) : Type 0 where
  pub cells : List Cell
  pub each : AllZip (λ field c. IsOne IsCell (cell_text field) c) fields cells
  pub terms : (session next : ℕ) → cell_terms session next cells ≡ ts

pub are_cells : (fields : List (List ℕ)) (ts : List Term) → map cell_of fields ≡ map Some ts → AreCells fields ts
are_cells [] [] e = record { cells = []; each = tt; terms = λ session next. refl }
are_cells [] (t ∷ ts) e = absurd (cc e)
are_cells (x ∷ xs) [] e = absurd (cc e)
are_cells (x ∷ xs) (t ∷ ts) e =
    let here : cell_of x ≡ Some t = cc in
    let behind : map cell_of xs ≡ map Some ts = ap (drop 1) e in
    let first = field_cell x t here in
    let rest = are_cells xs ts behind in
    record {
      cells = first.cell ∷ rest.cells;
      each = (first.one, rest.each);
      terms = λ session next i. first.means session next i ∷ (ap (λ n. cell_terms session n rest.cells) (first.draws_none next) ∙ rest.terms session next) i;
    }
