-- What the steps of the readers of rows show.
use Rattle.std.{proofs.Common.{◌≡◌, ℕ, List, ◌∷◌, refl, ap, ◌∙◌, arith}, specs.Prelude.codes}
use Rattle.ct_lex.specs.declared.token.Lexeme.{Lexeme}
use Rattle.ct_parse.{specs.declared.tree.Cell.Cell, specs.declared.tree.Row.Row, specs.Ends.{EndsAnyhow, EndsItem, EndsItems}, specs.Reads.{Reads, Never}}
use Rattle.ct_parse.{specs.Grammar.{AreMore, IsClosed, IsCell, number_cell, text_cell, null_cell, new_null, IsRow, row}, proofs.Fronts.Same}
use Rattle.ct_parse.{proofs.TermSteps.reads_at, proofs.Listed.{behind_reads, behind_never, both_read, no_first, no_second}}
use Rattle.ct_parse.proofs.Combined.{Then, then_read, no_then, not_then, Both, listed_pair, list_ends_at_close, closed_is, Image, image, Renames, renamed, no_renamed}
use Rattle.ct_lex.specs.declared.token.Lexeme.TheVariants as lexeme
use Rattle.ct_lex.specs.declared.token.Symbol.TheVariants as symbol
use Rattle.ct_parse.specs.declared.tree.Cell.TheVariants as cell

module _ {T : Type 0} (X : List Lexeme → T → List Lexeme → Type 0) {ws : List Lexeme} where
  pub closed_read : {rest m l r : List Lexeme} {x : T} {xs : List T} → ws ≡ lexeme.Symbol symbol.LeftParen ∷ rest → Reads X EndsItem rest x m → Reads (AreMore X) EndsItems m xs l
      → l ≡ lexeme.Symbol symbol.RightParen ∷ r → Reads (IsClosed X) EndsAnyhow ws (x, xs) r
  closed_read e h i f = renamed (closed_is X ws) (behind_reads e (then_read (lexeme.Symbol symbol.RightParen) list_ends_at_close (both_read (listed_pair X) h i) f))

  pub no_open : ((r : List Lexeme) → ws ≡ lexeme.Symbol symbol.LeftParen ∷ r → ⊥) → Never (IsClosed X) EndsAnyhow ws
  no_open never = no_renamed (closed_is X ws) (λ t r e b. never _ b.1)

  inside : {rest : List Lexeme} → ws ≡ lexeme.Symbol symbol.LeftParen ∷ rest → Never (Then (Both X (AreMore X)) (lexeme.Symbol symbol.RightParen)) EndsAnyhow rest → Never (IsClosed X) EndsAnyhow ws
  inside e never = no_renamed (closed_is X ws) (behind_never (Then (Both X (AreMore X)) (lexeme.Symbol symbol.RightParen)) e never)

  pub no_first_inside : {rest : List Lexeme} → ws ≡ lexeme.Symbol symbol.LeftParen ∷ rest → Never X EndsItem rest → Never (IsClosed X) EndsAnyhow ws
  no_first_inside e never = inside e (no_then (Both X (AreMore X)) {E = EndsItems} (lexeme.Symbol symbol.RightParen) list_ends_at_close (no_first (listed_pair X) never))

  pub no_more_inside : {rest m : List Lexeme} {x : T} → ws ≡ lexeme.Symbol symbol.LeftParen ∷ rest → Reads X EndsItem rest x m → Never (AreMore X) EndsItems m → Never (IsClosed X) EndsAnyhow ws
  no_more_inside e h never = inside e (no_then (Both X (AreMore X)) {E = EndsItems} (lexeme.Symbol symbol.RightParen) list_ends_at_close (no_second (listed_pair X) h never))

  pub not_closed : {rest m l : List Lexeme} {x : T} {xs : List T} → ws ≡ lexeme.Symbol symbol.LeftParen ∷ rest → Reads X EndsItem rest x m → Reads (AreMore X) EndsItems m xs l
      → ((r : List Lexeme) → l ≡ lexeme.Symbol symbol.RightParen ∷ r → ⊥) → Never (IsClosed X) EndsAnyhow ws
  not_closed e h i never = inside e (not_then {X = Both X (AreMore X)} {E = EndsItems} (lexeme.Symbol symbol.RightParen) list_ends_at_close (both_read (listed_pair X) h i) never)

-- cells
one_cell : {ws r r' : List Lexeme} {c c' : Cell} → IsCell ws c r → IsCell ws c' r' → Same c c' r r'
one_cell number_cell number_cell = (refl, refl)
one_cell text_cell text_cell = (refl, refl)
one_cell null_cell null_cell = (refl, refl)
one_cell new_null new_null = (refl, refl)

cell_reads : {w : Lexeme} {ws r : List Lexeme} {c : Cell} → ws ≡ w ∷ r → IsCell (w ∷ r) c r → Reads IsCell EndsItem ws c r
cell_reads e k = reads_at e (record { is = k; only = λ t r e x. one_cell x k; within = omega arith })

pub number_reads : {w : Lexeme} {ws r : List Lexeme} {i : _} → ws ≡ w ∷ r → w ≡ lexeme.Number i → Reads IsCell EndsItem ws (cell.Number i) r
number_reads {r = r} e f = cell_reads (e ∙ ap (λ x. x ∷ r) f) number_cell

pub text_reads : {w : Lexeme} {ws r : List Lexeme} {n : List ℕ} → ws ≡ w ∷ r → w ≡ lexeme.Text n → Reads IsCell EndsItem ws (cell.Text n) r
text_reads {r = r} e f = cell_reads (e ∙ ap (λ x. x ∷ r) f) text_cell

pub null_reads : {w : Lexeme} {ws r : List Lexeme} {n : List ℕ} → ws ≡ w ∷ r → w ≡ lexeme.Null n → Reads IsCell EndsItem ws (cell.Null n) r
null_reads {r = r} e f = cell_reads (e ∙ ap (λ x. x ∷ r) f) null_cell

pub new_null_reads : {ws r : List Lexeme} → ws ≡ lexeme.Word (codes "null") ∷ r → Reads IsCell EndsItem ws cell.NewNull r
new_null_reads e = cell_reads e new_null

-- rows
abbrev pub row_of : Cell × List Cell → Row
row_of p = record { first = p.0; rest = p.1 }

back_row : {ws r : List Lexeme} {w : Row} → IsRow ws w r → Image (IsClosed IsCell) row_of ws w r
back_row (row c) = image c

pub row_is : (ws : List Lexeme) → Renames (IsClosed IsCell) row_of IsRow ws
row_is ws = record { into = λ c. row c; back = λ w. back_row w }
