-- What stands at the front of lexemes that spell a part, and what may stand behind it.
use Rattle.std.{proofs.Common.{◌≡◌, ℕ, List, [], ◌∷◌, refl, ap, ap₂, subst, ◌∙◌}, specs.Prelude.IsTrue}
use Rattle.ct_word.specs.Writable.{is_name}
use Rattle.ct_lex.{specs.declared.token.Lexeme.Lexeme, specs.declared.token.Symbol.Symbol}
use Rattle.ct_parse.{specs.declared.tree.Column.Column, specs.declared.tree.Term.Term, specs.declared.tree.Comparison.Comparison}
use Rattle.ct_parse.{specs.declared.tree.Factor.Factor, specs.declared.tree.Conjunction.Conjunction, specs.Ends.{EndsColumn, EndsConjunction, EndsCondition}}
use Rattle.ct_parse.specs.Grammar.{IsName, name, IsColumn, plain, qualified, IsTerm, column_term, IsComparison, equal, unequal, AreFactors, no_factor, and_factor, AreConjunctions, no_conjunction, or_conjunction}
use Rattle.ct_lex.specs.declared.token.Lexeme.TheVariants as lexeme

-- two readings give the same, and leave the same
abbrev pub Same : {T : Type 0} → T → T → List Lexeme → List Lexeme → Type 0
Same t t' r r' = (t ≡ t') × (r ≡ r')

abbrev pub tail : List Lexeme → List Lexeme
tail [] = []
tail (w ∷ ws) = ws

-- a reading of lexemes is one of the same lexemes
pub moved : {T : Type 0} (R : List Lexeme → T → List Lexeme → Type 0) {ws ws' r : List Lexeme} {t : T} → ws' ≡ ws → R ws' t r → R ws t r
moved R {r = r} {t = t} e x = subst (λ ws. R ws t r) e x

pub ap₃ : {A B C D : Type 0} (f : A → B → C → D) {a a' : A} {b b' : B} {c c' : C} → a ≡ a' → b ≡ b' → c ≡ c' → f a b c ≡ f a' b' c'
ap₃ f {a' = a'} {b = b} {c = c} p q r = ap (λ x. f x b c) p ∙ ap₂ (λ y z. f a' y z) q r

pub one_name : {ws r r' : List Lexeme} {n n' : List ℕ} → IsName ws n r → IsName ws n' r' → Same n n' r r'
one_name (name p) (name q) = (refl, refl)

pub symbol_name : {ws r : List Lexeme} {s : Symbol} {n : List ℕ} → IsName (lexeme.Symbol s ∷ ws) n r → ⊥
symbol_name n = elim n [ ]

pub word_name : {n n' : List ℕ} {ws r : List Lexeme} → IsName (lexeme.Word n ∷ ws) n' r → IsTrue (is_name n)
word_name (name p) = p

pub word_column : {n : List ℕ} {ws r : List Lexeme} {c : Column} → IsColumn (lexeme.Word n ∷ ws) c r → IsTrue (is_name n)
word_column (plain n) = word_name n
word_column (qualified n m) = word_name n

-- a term stands at a lexeme that is no symbol, and no keyword
pub symbol_term : {s : Symbol} {ws r : List Lexeme} {t : Term} → IsTerm (lexeme.Symbol s ∷ ws) t r → ⊥
symbol_term (column_term (plain n)) = symbol_name n
symbol_term (column_term (qualified n m)) = symbol_name n

pub word_term : {n : List ℕ} {ws r : List Lexeme} {t : Term} → IsTerm (lexeme.Word n ∷ ws) t r → IsTrue (is_name n)
word_term (column_term c) = word_column c

pub number_column : {i : _} {ws r : List Lexeme} {c : Column} → IsColumn (lexeme.Number i ∷ ws) c r → ⊥
number_column (plain n) = elim n [ ]
number_column (qualified n m) = elim n [ ]

pub text_column : {t : List ℕ} {ws r : List Lexeme} {c : Column} → IsColumn (lexeme.Text t ∷ ws) c r → ⊥
text_column (plain n) = elim n [ ]
text_column (qualified n m) = elim n [ ]

pub null_column : {t : List ℕ} {ws r : List Lexeme} {c : Column} → IsColumn (lexeme.Null t ∷ ws) c r → ⊥
null_column (plain n) = elim n [ ]
null_column (qualified n m) = elim n [ ]

pub one_comparison : {ws r r' : List Lexeme} {o o' : Comparison} → IsComparison ws o r → IsComparison ws o' r' → Same o o' r r'
one_comparison equal equal = (refl, refl)
one_comparison unequal unequal = (refl, refl)

-- no term goes on at a comparison
pub before_comparison : {ws r : List Lexeme} {o : Comparison} → IsComparison ws o r → EndsColumn ws
before_comparison equal = tt
before_comparison unequal = tt

-- a factor ends before another, and before the end of its conjunction
pub before_factors : {ws r : List Lexeme} {fs : List Factor} → AreFactors ws fs r → EndsConjunction r → EndsColumn ws
before_factors no_factor e = e.1
before_factors (and_factor f g) e = tt

pub before_conjunctions : {ws r : List Lexeme} {cs : List Conjunction} → AreConjunctions ws cs r → EndsCondition r → EndsConjunction ws
before_conjunctions no_conjunction e = e.1
before_conjunctions (or_conjunction c g) e = (tt, tt)
