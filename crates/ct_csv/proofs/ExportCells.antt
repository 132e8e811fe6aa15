-- The text of a cell is read as the cell.
use Rattle.std.proofs.Common.{◌≡◌, ℕ, List, refl, ap, ◌∙◌, Some}
use Rattle.ct_word.specs.declared.values.Value.TheVariants as val
use Rattle.ct_word.specs.declared.values.Null.TheVariants as null
use Rattle.ct_word.specs.declared.values.Term.TheVariants as term
use Rattle.ct_word.specs.declared.values.Term.{Term}
use Rattle.ct_lex.{specs.declared.token.Lexeme.Lexeme, proofs.Readings.read_tokens}
use Rattle.ct_lex.specs.declared.token.Lexeme.TheVariants as lexeme
use Rattle.ct_print.specs.TermText.{term_text}
use Rattle.ct_reread.{specs.Printed.IsPlain, proofs.Lexemes.GivesOne, proofs.Terms.{one_placed, number_given, text_given, null_given}}
use Rattle.ct_csv.specs.Fields.{term_of, found, term_alone, cell_of}

alone_back : (w : List ℕ) (l : Lexeme) (t : Term) → GivesOne w l → term_of l ≡ Some t → cell_of w ≡ Some t
alone_back w l t given e =
    let at = one_placed w l given in
    ap (λ r. term_alone (found r)) (read_tokens at.1) ∙ ap term_of at.2 ∙ e

pub cell_back : (t : Term) → IsPlain t → cell_of (term_text t) ≡ Some t
cell_back (term.Column k) p = absurd p
cell_back (term.Null (null.Named t)) p = alone_back (term_text (term.Null (null.Named t))) (lexeme.Null t) (term.Null (null.Named t)) (null_given t p) refl
cell_back (term.Null (null.Fresh s n)) p = absurd p
cell_back (term.Value (val.Int i)) p = alone_back (term_text (term.Value (val.Int i))) (lexeme.Number i) (term.Value (val.Int i)) (number_given i p) refl
cell_back (term.Value (val.Text t)) p = alone_back (term_text (term.Value (val.Text t))) (lexeme.Text t) (term.Value (val.Text t)) (text_given t) refl
cell_back (term.Value (val.Other k)) p = absurd p
