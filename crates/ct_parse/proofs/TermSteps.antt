-- What the steps of the readers of names, columns and terms show.
use Rattle.std.{proofs.Common.{◌≡◌, ℕ, Bool, true, false, List, [], ◌∷◌, Option, Some, None, refl, ap, ap₂, sym, subst, ◌∙◌, arith}, specs.Prelude.{◌≢◌, IsTrue, is_some, IfSome, IfNone, Result, Ok, Err, IfErr, IsErrAnd}}
use Rattle.ct_word.specs.Writable.{is_name}
use Rattle.ct_lex.specs.declared.token.Lexeme.{Lexeme}
use Rattle.ct_parse.{specs.declared.tree.Column.Column, specs.declared.tree.Term.Term, specs.declared.error.Unread.Unread, specs.Reads.{Reads, Never}}
use Rattle.ct_parse.specs.Grammar.{IsName, name, IsColumn, plain, qualified, IsTerm, number_term, text_term, null_term, column_term, IsComparison, equal, unequal}
use Rattle.ct_parse.specs.Ends.{Fails, at_dot, at_name, EndsAnyhow, EndsColumn}
use Rattle.ct_parse.proofs.Fronts.{Same, tail, moved, one_name, number_column, text_column, null_column, one_comparison}
use Rattle.ct_lex.specs.declared.token.Lexeme.TheVariants as lexeme
use Rattle.ct_lex.specs.declared.token.Symbol.TheVariants as symbol
use Rattle.ct_parse.specs.declared.tree.Column.TheVariants as column
use Rattle.ct_parse.specs.declared.tree.Term.TheVariants as term
use Rattle.ct_parse.specs.declared.tree.Comparison.TheVariants as comparison
use Rattle.ct_parse.specs.declared.error.Unread.TheVariants as unread

-- what reads the same lexemes
pub reads_at : {T : Type 0} {R : List Lexeme → T → List Lexeme → Type 0} {E : List Lexeme → Type 0} {ws ws' r : List Lexeme} {t : T} → ws ≡ ws' → Reads R E ws' t r → Reads R E ws t r
reads_at {R = R} {E = E} {r = r} {t = t} e x = subst (λ ws. Reads R E ws t r) (sym e) x

pub never_at : {T : Type 0} (R : List Lexeme → T → List Lexeme → Type 0) (E : List Lexeme → Type 0) {ws ws' : List Lexeme} → ws ≡ ws' → Never R E ws' → Never R E ws
never_at R E e never = λ t r ends x. never t r ends (moved R e x)

-- what reads where more may not go on reads where less may not
pub narrow : {T : Type 0} {R : List Lexeme → T → List Lexeme → Type 0} {E F : List Lexeme → Type 0} → ((r : List Lexeme) → F r → E r) → {ws r : List Lexeme} {t : T} → Reads R E ws t r
    → Reads R F ws t r
narrow sub h = record { is = h.is; only = λ t r f x. h.only t r (sub r f) x; within = h.within }

pub narrow_never : {T : Type 0} (R : List Lexeme → T → List Lexeme → Type 0) (E F : List Lexeme → Type 0) → ((r : List Lexeme) → F r → E r) → {ws : List Lexeme} → Never R E ws → Never R F ws
narrow_never R E F sub never = λ t r f x. never t r (sub r f) x

pub no_dot : (ws : List Lexeme) → ((r : List Lexeme) → ws ≡ lexeme.Symbol symbol.Dot ∷ r → ⊥) → Fails (at_dot ws)
no_dot (lexeme.Symbol symbol.Dot ∷ r) no_r = absurd (no_r r refl)
no_dot _ no_r = tt

pub name_reads : {w : Lexeme} {ws r : List Lexeme} {n : List ℕ} → IsTrue (is_name n) → ws ≡ w ∷ r → w ≡ lexeme.Word n → Reads IsName EndsAnyhow ws n r
name_reads {r = r} {n = n} p e f = reads_at (e ∙ ap (λ x. x ∷ r) f) (record {
  is = name p;
  only = λ t' r' ends x. one_name x (name p);
  within = omega arith;
})

-- whether a name stands in front
no_name_at : (w : Lexeme) (r : List Lexeme) → ((t : List ℕ) → IsTrue (is_name t) → w ≡ lexeme.Word t → ⊥) → at_name (w ∷ r) ≡ false
no_name_at (lexeme.Word n) r never = by_test (is_name n) refl where
  by_test : (b : Bool) → is_name n ≡ b → is_name n ≡ false
  by_test true e = absurd (never n e refl)
  by_test false e = e
no_name_at (lexeme.Number n) r never = refl
no_name_at (lexeme.Text n) r never = refl
no_name_at (lexeme.Null n) r never = refl
no_name_at (lexeme.Symbol n) r never = refl

pub at_name_is : {B : Type 0} (of : B → List ℕ) (o : Option B) {w : Lexeme} {ws r : List Lexeme} → ws ≡ w ∷ r → IfSome o (λ t. w ≡ lexeme.Word (of t)) → IfSome o (λ t. IsTrue (is_name (of t)))
    → IfNone o ((t : List ℕ) → IsTrue (is_name t) → w ≡ lexeme.Word t → ⊥) → is_some o ≡ at_name ws
at_name_is of (Some t) {r = r} e word p none = sym (ap at_name (e ∙ ap (λ x. x ∷ r) word) ∙ p)
at_name_is of None {w = w} e word p none = sym (ap at_name e ∙ no_name_at w _ none)

-- a column without a table
plain_only : {ws m r : List Lexeme} {n : List ℕ} {c : Column} → Reads IsName EndsAnyhow ws n m → Fails (at_dot m) → IsColumn ws c r → Same c (column.Plain n) r m
plain_only h dot (plain n) = let s = h.only _ _ tt n in (ap column.Plain s.0, s.1)
plain_only h dot (qualified n m) = absurd (subst EndsColumn (sym (h.only _ _ tt n).1) dot)

pub plain_reads : {ws m : List Lexeme} {n : List ℕ} → Reads IsName EndsAnyhow ws n m → ((r : List Lexeme) → m ≡ lexeme.Symbol symbol.Dot ∷ r → ⊥)
    → Reads IsColumn EndsColumn ws (column.Plain n) m
plain_reads {m = m} h dot = record { is = plain h.is; only = λ t' r' ends x. plain_only h (no_dot m dot) x; within = h.within }

-- a column with its table
qualified_only : {ws m l r : List Lexeme} {t n : List ℕ} {c : Column} → Reads IsName EndsAnyhow ws t (lexeme.Symbol symbol.Dot ∷ m) → Reads IsName EndsAnyhow m n l → EndsColumn r
    → IsColumn ws c r → Same c (column.Qualified t n) r l
qualified_only h k e (plain n) = absurd (subst EndsColumn (h.only _ _ tt n).1 e)
qualified_only h k e (qualified n m) =
    let s = h.only _ _ tt n in
    let t = k.only _ _ tt (moved IsName (ap tail s.1) m) in
    (ap₂ column.Qualified s.0 t.0, t.1)

pub qualified_reads : {ws m l r : List Lexeme} {t n : List ℕ} → Reads IsName EndsAnyhow ws t m → m ≡ lexeme.Symbol symbol.Dot ∷ l → Reads IsName EndsAnyhow l n r
    → Reads IsColumn EndsColumn ws (column.Qualified t n) r
qualified_reads {ws = ws} {t = t} h e k =
    let h' = subst (λ x. Reads IsName EndsAnyhow ws t x) e h in
    record { is = qualified h'.is k.is; only = λ t' r' ends x. qualified_only h' k ends x; within = omega (arith, h'.within, k.within) }

pub no_column : {ws : List Lexeme} → Never IsName EndsAnyhow ws → Never IsColumn EndsColumn ws
no_column never c r e (plain n) = never _ _ tt n
no_column never c r e (qualified n m) = never _ _ tt n

pub no_column_behind : {ws m l : List Lexeme} {t : List ℕ} → Reads IsName EndsAnyhow ws t m → m ≡ lexeme.Symbol symbol.Dot ∷ l → Never IsName EndsAnyhow l → Never IsColumn EndsColumn ws
no_column_behind h f never c r e (plain n) = subst EndsColumn ((h.only _ _ tt n).1 ∙ f) e
no_column_behind h f never c r e (qualified n m) = never _ _ tt (moved IsName (ap tail ((h.only _ _ tt n).1 ∙ f)) m)

-- terms
number_only : {i : _} {r r' : List Lexeme} {t : Term} → IsTerm (lexeme.Number i ∷ r) t r' → Same t (term.Number i) r' r
number_only number_term = (refl, refl)
number_only (column_term c) = absurd (number_column c)

pub number_reads : {w : Lexeme} {ws r : List Lexeme} {i : _} → ws ≡ w ∷ r → w ≡ lexeme.Number i → Reads IsTerm EndsColumn ws (term.Number i) r
number_reads {r = r} e f = reads_at (e ∙ ap (λ x. x ∷ r) f) (record { is = number_term; only = λ t' r' ends x. number_only x; within = omega arith })

text_only : {n : List ℕ} {r r' : List Lexeme} {t : Term} → IsTerm (lexeme.Text n ∷ r) t r' → Same t (term.Text n) r' r
text_only text_term = (refl, refl)
text_only (column_term c) = absurd (text_column c)

pub text_reads : {w : Lexeme} {ws r : List Lexeme} {n : List ℕ} → ws ≡ w ∷ r → w ≡ lexeme.Text n → Reads IsTerm EndsColumn ws (term.Text n) r
text_reads {r = r} e f = reads_at (e ∙ ap (λ x. x ∷ r) f) (record { is = text_term; only = λ t' r' ends x. text_only x; within = omega arith })

null_only : {n : List ℕ} {r r' : List Lexeme} {t : Term} → IsTerm (lexeme.Null n ∷ r) t r' → Same t (term.Null n) r' r
null_only null_term = (refl, refl)
null_only (column_term c) = absurd (null_column c)

pub null_reads : {w : Lexeme} {ws r : List Lexeme} {n : List ℕ} → ws ≡ w ∷ r → w ≡ lexeme.Null n → Reads IsTerm EndsColumn ws (term.Null n) r
null_reads {r = r} e f = reads_at (e ∙ ap (λ x. x ∷ r) f) (record { is = null_term; only = λ t' r' ends x. null_only x; within = omega arith })

column_only : {ws r r' : List Lexeme} {c : Column} {t : Term} → Reads IsColumn EndsColumn ws c r → EndsColumn r' → IsTerm ws t r' → Same t (term.Column c) r' r
column_only h e number_term = absurd (number_column h.is)
column_only h e text_term = absurd (text_column h.is)
column_only h e null_term = absurd (null_column h.is)
column_only h e (column_term c) = let s = h.only _ _ e c in (ap term.Column s.0, s.1)

pub column_reads : {ws r : List Lexeme} {c : Column} → Reads IsColumn EndsColumn ws c r → Reads IsTerm EndsColumn ws (term.Column c) r
column_reads h = record { is = column_term h.is; only = λ t' r' ends x. column_only h ends x; within = h.within }

-- the lexeme in front is no number, text or marked null
abbrev pub IsPlain : Lexeme → Type 0
IsPlain (lexeme.Number i) = ⊥
IsPlain (lexeme.Text n) = ⊥
IsPlain (lexeme.Null n) = ⊥
IsPlain _ = Unit {0}

no_plain_term : {w : Lexeme} {ws : List Lexeme} → IsPlain w → Never IsColumn EndsColumn (w ∷ ws) → Never IsTerm EndsColumn (w ∷ ws)
no_plain_term p never t r e number_term = p
no_plain_term p never t r e text_term = p
no_plain_term p never t r e null_term = p
no_plain_term p never t r e (column_term c) = never _ _ e c

no_term_at : (w : Lexeme) (r : List Lexeme) → ((n : List ℕ) → w ≡ lexeme.Text n → ⊥) → ((n : List ℕ) → w ≡ lexeme.Null n → ⊥) → ((i : _) → w ≡ lexeme.Number i → ⊥)
    → Never IsColumn EndsColumn (w ∷ r) → Never IsTerm EndsColumn (w ∷ r)
no_term_at (lexeme.Word n) r text null number never = no_plain_term tt never
no_term_at (lexeme.Number n) r text null number never = absurd (number n refl)
no_term_at (lexeme.Text n) r text null number never = absurd (text n refl)
no_term_at (lexeme.Null n) r text null number never = absurd (null n refl)
no_term_at (lexeme.Symbol n) r text null number never = no_plain_term tt never

pub no_term : {w : Lexeme} {ws r : List Lexeme} → ws ≡ w ∷ r → ((n : List ℕ) → w ≡ lexeme.Text n → ⊥) → ((n : List ℕ) → w ≡ lexeme.Null n → ⊥) → ((i : _) → w ≡ lexeme.Number i → ⊥)
    → Never IsColumn EndsColumn ws → Never IsTerm EndsColumn ws
no_term {w = w} {r = r} e text null number never = never_at IsTerm EndsColumn e (no_term_at w r text null number (never_at IsColumn EndsColumn (sym e) never))

nothing_column : {r : List Lexeme} {c : Column} → IsColumn [] c r → ⊥
nothing_column (plain n) = elim n [ ]
nothing_column (qualified n m) = elim n [ ]

nothing_term : {r : List Lexeme} {t : Term} → IsTerm [] t r → ⊥
nothing_term (column_term c) = nothing_column c

pub no_term_left : {ws : List Lexeme} → ws ≡ [] → Never IsTerm EndsColumn ws
no_term_left e = never_at IsTerm EndsColumn e (λ t r ends x. nothing_term x)

-- comparisons
pub equal_reads : {w : Lexeme} {ws r : List Lexeme} → ws ≡ w ∷ r → w ≡ lexeme.Symbol symbol.Equal → Reads IsComparison EndsAnyhow ws comparison.Equal r
equal_reads {r = r} e f = reads_at (e ∙ ap (λ x. x ∷ r) f) (record { is = equal; only = λ t' r' ends x. one_comparison x equal; within = omega arith })

pub unequal_reads : {w : Lexeme} {ws r : List Lexeme} → ws ≡ w ∷ r → w ≡ lexeme.Symbol symbol.Unequal → Reads IsComparison EndsAnyhow ws comparison.Unequal r
unequal_reads {r = r} e f = reads_at (e ∙ ap (λ x. x ∷ r) f) (record { is = unequal; only = λ t' r' ends x. one_comparison x unequal; within = omega arith })

-- the error that a `?` passes on
pub passed : {X Q : Type 0} {x : Unread} (r : Result X Unread) → IsErrAnd r (λ e. e ≡ x) → (x ≢ unread.Memory → Q) → IfErr r (λ e. e ≢ unread.Memory → Q)
passed (Ok y) is q = absurd is
passed {Q = Q} (Err e) is q = subst (λ x. x ≢ unread.Memory → Q) (sym is) q
