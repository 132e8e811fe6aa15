-- What the steps of the readers of conditions show.
use Rattle.std.{proofs.Common.{◌≡◌, List, ◌∷◌, refl, sym, subst, arith}, specs.Prelude.codes, proofs.lemmas.Bool.false≢true}
use Rattle.ct_lex.specs.declared.token.Lexeme.{Lexeme}
use Rattle.ct_parse.{specs.declared.tree.Term.Term, specs.declared.tree.Comparison.Comparison, specs.declared.tree.Factor.Factor, specs.Reads.{Reads, Never}}
use Rattle.ct_parse.{specs.declared.tree.Conjunction.Conjunction, specs.declared.tree.Condition.Condition, proofs.TermSteps.reads_at}
use Rattle.ct_parse.specs.Grammar.{condition_of, IsTerm, IsComparison, IsFactor, negated, nested, true_factor, false_factor, compared, AreFactors, no_factor, and_factor, IsConjunction, conjunction, AreConjunctions, no_conjunction, or_conjunction, IsCondition, condition}
use Rattle.ct_parse.{specs.Ends.{Fails, at_word, EndsAnyhow, EndsColumn, EndsConjunction, EndsCondition}, proofs.Combined.{CLOSE, Then, Image, image, Led}}
use Rattle.ct_parse.proofs.Fronts.{Same, moved, ap₃, symbol_term, word_term, before_comparison, before_factors, before_conjunctions}
use Rattle.ct_parse.proofs.Listed.{Behind, Cases, ended, split, Lists, Parts, parts, Pairs}
use Rattle.ct_lex.specs.declared.token.Lexeme.TheVariants as lexeme
use Rattle.ct_lex.specs.declared.token.Symbol.TheVariants as symbol
use Rattle.ct_parse.specs.declared.tree.Factor.TheVariants as factor

-- NOT
back_negated : {ws r : List Lexeme} {f : Factor} → IsFactor (lexeme.Word (codes "not") ∷ ws) f r → Image IsFactor factor.Not ws f r
back_negated (negated f) = image f
back_negated (compared s o t) = absurd (false≢true (word_term s))

pub negation : Led (lexeme.Word (codes "not")) IsFactor EndsColumn factor.Not IsFactor EndsColumn
negation = record { into = λ f. negated f; back = λ f e. back_negated f; ends = λ r e. e }

-- parentheses
back_nested : {ws r : List Lexeme} {f : Factor} → IsFactor (lexeme.Symbol symbol.LeftParen ∷ ws) f r → Image (Then IsCondition CLOSE) factor.Nested ws f r
back_nested (nested c) = image c
back_nested (compared s o t) = absurd (symbol_term s)

pub nesting : Led (lexeme.Symbol symbol.LeftParen) (Then IsCondition CLOSE) EndsAnyhow factor.Nested IsFactor EndsColumn
nesting = record { into = λ c. nested c; back = λ f e. back_nested f; ends = λ r e. tt }

pub ends_at_close : (r : List Lexeme) → EndsCondition (CLOSE ∷ r)
ends_at_close r = (tt, (tt, tt))

-- TRUE and FALSE
true_only : {r r' : List Lexeme} {f : Factor} → IsFactor (lexeme.Word (codes "true") ∷ r) f r' → Same f factor.True r' r
true_only true_factor = (refl, refl)
true_only (compared s o t) = absurd (false≢true (word_term s))

pub true_read : {ws r : List Lexeme} → ws ≡ lexeme.Word (codes "true") ∷ r → Reads IsFactor EndsColumn ws factor.True r
true_read e = reads_at e (record { is = true_factor; only = λ t r ends x. true_only x; within = omega arith })

false_only : {r r' : List Lexeme} {f : Factor} → IsFactor (lexeme.Word (codes "false") ∷ r) f r' → Same f factor.False r' r
false_only false_factor = (refl, refl)
false_only (compared s o t) = absurd (false≢true (word_term s))

pub false_read : {ws r : List Lexeme} → ws ≡ lexeme.Word (codes "false") ∷ r → Reads IsFactor EndsColumn ws factor.False r
false_read e = reads_at e (record { is = false_factor; only = λ t r ends x. false_only x; within = omega arith })

-- comparisons
compared_only : {ws m l r r' : List Lexeme} {s t : Term} {o : Comparison} {f : Factor} → Reads IsTerm EndsColumn ws s m → Reads IsComparison EndsAnyhow m o l → Reads IsTerm EndsColumn l t r
    → EndsColumn r' → IsFactor ws f r' → Same f (factor.Compare s o t) r' r
compared_only h i j e (negated f) = absurd (false≢true (word_term h.is))
compared_only h i j e (nested c) = absurd (symbol_term h.is)
compared_only h i j e true_factor = absurd (false≢true (word_term h.is))
compared_only h i j e false_factor = absurd (false≢true (word_term h.is))
compared_only h i j e (compared s o t) =
    let a = h.only _ _ (before_comparison o) s in
    let b = i.only _ _ tt (moved IsComparison a.1 o) in
    let c = j.only _ _ e (moved IsTerm b.1 t) in
    (ap₃ factor.Compare a.0 b.0 c.0, c.1)

pub compared_read : {ws m l r : List Lexeme} {s t : Term} {o : Comparison} → Reads IsTerm EndsColumn ws s m → Reads IsComparison EndsAnyhow m o l → Reads IsTerm EndsColumn l t r
    → Reads IsFactor EndsColumn ws (factor.Compare s o t) r
compared_read h i j = record { is = compared h.is i.is j.is; only = λ t r ends x. compared_only h i j ends x; within = omega (arith, h.within, i.within, j.within) }

-- no NOT, parenthesis, TRUE or FALSE stands in front
pub record OnlyTerm (ws : List Lexeme) : Type 0 where
  pub not : Fails (at_word (codes "not") ws)
  pub paren : (r : List Lexeme) → ws ≡ lexeme.Symbol symbol.LeftParen ∷ r → ⊥
  pub true : Fails (at_word (codes "true") ws)
  pub false : Fails (at_word (codes "false") ws)

pub no_left : {ws : List Lexeme} → OnlyTerm ws → Never IsTerm EndsColumn ws → Never IsFactor EndsColumn ws
no_left p never t r e (negated f) = p.not
no_left p never t r e (nested c) = p.paren _ refl
no_left p never t r e true_factor = p.true
no_left p never t r e false_factor = p.false
no_left p never t r e (compared s o u) = never _ _ (before_comparison o) s

pub no_sign : {ws m : List Lexeme} {s : Term} → Reads IsTerm EndsColumn ws s m → Never IsComparison EndsAnyhow m → Never IsFactor EndsColumn ws
no_sign h never t r e (negated f) = false≢true (word_term h.is)
no_sign h never t r e (nested c) = symbol_term h.is
no_sign h never t r e true_factor = false≢true (word_term h.is)
no_sign h never t r e false_factor = false≢true (word_term h.is)
no_sign h never t r e (compared s o u) = never _ _ tt (moved IsComparison (h.only _ _ (before_comparison o) s).1 o)

pub no_right : {ws m l : List Lexeme} {s : Term} {o : Comparison} → Reads IsTerm EndsColumn ws s m → Reads IsComparison EndsAnyhow m o l → Never IsTerm EndsColumn l → Never IsFactor EndsColumn ws
no_right h i never t r e (negated f) = false≢true (word_term h.is)
no_right h i never t r e (nested c) = symbol_term h.is
no_right h i never t r e true_factor = false≢true (word_term h.is)
no_right h i never t r e false_factor = false≢true (word_term h.is)
no_right h i never t r e (compared s o u) =
    let a = h.only _ _ (before_comparison o) s in
    never _ _ e (moved IsTerm (i.only _ _ tt (moved IsComparison a.1 o)).1 u)

-- factors behind AND
more_factors : {ws m r : List Lexeme} {f : Factor} {fs : List Factor} → Behind (lexeme.Word (codes "and")) IsFactor ws f m → AreFactors m fs r → AreFactors ws (f ∷ fs) r
more_factors b l = moved AreFactors (sym b.1) (and_factor b.2 l)

cases_of_factors : {ws r : List Lexeme} {fs : List Factor} → AreFactors ws fs r → Cases (Behind (lexeme.Word (codes "and")) IsFactor) AreFactors ws fs r
cases_of_factors no_factor = ended
cases_of_factors (and_factor f l) = split (_, refl, f) l

no_factors_end : {ws r : List Lexeme} {f : Factor} → Behind (lexeme.Word (codes "and")) IsFactor ws f r → EndsConjunction ws → ⊥
no_factors_end b e = (subst EndsConjunction b.1 e).0

pub factors : Lists (Behind (lexeme.Word (codes "and")) IsFactor) EndsColumn EndsConjunction AreFactors
factors = record { none = no_factor; more = λ x l. more_factors x l; cases = λ l. cases_of_factors l; before = λ l e. before_factors l e; apart = λ x e. no_factors_end x e }

pub no_and : {ws : List Lexeme} → Fails (at_word (codes "and") ws) → (f : Factor) (m : List Lexeme) → Behind (lexeme.Word (codes "and")) IsFactor ws f m → ⊥
no_and fails f m b = subst (λ x. Fails (at_word (codes "and") x)) b.1 fails

-- conjunctions behind OR
more_conjunctions : {ws m r : List Lexeme} {c : Conjunction} {cs : List Conjunction} → Behind (lexeme.Word (codes "or")) IsConjunction ws c m → AreConjunctions m cs r → AreConjunctions ws (c ∷ cs) r
more_conjunctions b l = moved AreConjunctions (sym b.1) (or_conjunction b.2 l)

cases_of_conjunctions : {ws r : List Lexeme} {cs : List Conjunction} → AreConjunctions ws cs r → Cases (Behind (lexeme.Word (codes "or")) IsConjunction) AreConjunctions ws cs r
cases_of_conjunctions no_conjunction = ended
cases_of_conjunctions (or_conjunction c l) = split (_, refl, c) l

no_conjunctions_end : {ws r : List Lexeme} {c : Conjunction} → Behind (lexeme.Word (codes "or")) IsConjunction ws c r → EndsCondition ws → ⊥
no_conjunctions_end b e = (subst EndsCondition b.1 e).0

pub conjunctions : Lists (Behind (lexeme.Word (codes "or")) IsConjunction) EndsConjunction EndsCondition AreConjunctions
conjunctions = record {
  none = no_conjunction;
  more = λ x l. more_conjunctions x l;
  cases = λ l. cases_of_conjunctions l;
  before = λ l e. before_conjunctions l e;
  apart = λ x e. no_conjunctions_end x e;
}

pub no_or : {ws : List Lexeme} → Fails (at_word (codes "or") ws) → (c : Conjunction) (m : List Lexeme) → Behind (lexeme.Word (codes "or")) IsConjunction ws c m → ⊥
no_or fails c m b = subst (λ x. Fails (at_word (codes "or") x)) b.1 fails

abbrev pub conjunction_of : Factor → List Factor → Conjunction
conjunction_of f fs = record { first = f; rest = fs }

parts_of_conjunction : {ws r : List Lexeme} {c : Conjunction} → IsConjunction ws c r → Parts IsFactor AreFactors conjunction_of ws c r
parts_of_conjunction (conjunction f l) = parts f l

pub conjunction_pair : Pairs IsFactor EndsColumn AreFactors EndsConjunction conjunction_of IsConjunction
conjunction_pair = record { both = λ f l. conjunction f l; cases = λ c. parts_of_conjunction c; before = λ l e. before_factors l e }

parts_of_condition : {ws r : List Lexeme} {c : Condition} → IsCondition ws c r → Parts IsConjunction AreConjunctions condition_of ws c r
parts_of_condition (condition c l) = parts c l

pub condition_pair : Pairs IsConjunction EndsConjunction AreConjunctions EndsCondition condition_of IsCondition
condition_pair = record { both = λ c l. condition c l; cases = λ c. parts_of_condition c; before = λ l e. before_conjunctions l e }
