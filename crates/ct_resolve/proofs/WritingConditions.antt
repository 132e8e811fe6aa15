-- What a condition that is spelled by lexemes as a text writes them is resolved to can be written.
use Rattle.std.{proofs.Common.{◌≡◌, ℕ, Bool, true, ◌&&◌, List, [], ◌∷◌, refl, ap, sym, subst, ◌∙◌}, proofs.lemmas.List.Elements.{All-nil, All-head, All-tail}}
use Rattle.std.specs.Prelude.{All, Ok, Err, IfOk}
use Rattle.ct_word.{specs.declared.values.Term.Term, specs.Condition.{Condition, listed}}
use Rattle.ct_word.specs.Writable.{is_writable_term, is_writable_condition, are_writable_conditions}
use Rattle.ct_query.specs.declared.schema.Heading.{Heading}
use Rattle.ct_lex.{specs.declared.token.Lexeme.Lexeme, specs.Written.AreWritten}
use Rattle.ct_parse.{specs.declared.tree.Column.Column, specs.declared.tree.Comparison.Comparison, specs.declared.tree.Conjunction.Conjunction}
use Rattle.ct_parse.{specs.declared.tree.Condition.out-roll-Condition, specs.declared.tree.Factor.Factor}
use Rattle.ct_parse.specs.Grammar.{IsName, name, IsColumn, plain as plain_column, qualified, IsTerm, number_term, text_term, null_term, column_term, IsComparison, equal, unequal, condition_of, IsFactor, negated as not_factor, nested, true_factor, false_factor, compared as compared_terms, AreFactors, no_factor, and_factor, IsConjunction, conjunction, AreConjunctions, no_conjunction, or_conjunction, IsCondition, condition}
use Rattle.ct_resolve.{specs.Found.{Found, and_then, in_front, each}, specs.Names.{own_name, column_at}, specs.Writing.{IsNamed, WritesTerm, Writes}}
use Rattle.ct_resolve.specs.Conditions.{term_at, compared, comparison_of, and_of, or_of, all_found, any_found, factor_at, conjunction_at, condition_at}
use Rattle.ct_resolve.{proofs.FoundParts.{and_then_has, in_front_has}, proofs.Trees.{not_is, nested_is, condition_is}}
use Rattle.ct_word.specs.declared.values.Term.TheVariants as term
use Rattle.ct_word.specs.Condition as plain
use Rattle.ct_parse.specs.declared.tree.Comparison.TheVariants as comparison
use Rattle.ct_parse.specs.declared.tree.Condition as tree
use Rattle.ct_parse.specs.declared.tree.Term as parsed

both : (a b : Bool) → a ≡ true → b ≡ true → (a && b) ≡ true
both a b p q = rw (p, q)

pub any_found_at_all : {A : Type 0} (r : Found A) → IfOk r (λ _. Unit {0})
any_found_at_all (Ok a) = tt
any_found_at_all (Err e) = tt

-- a name, and the lexemes behind it
pub name_writes : {ws r : List Lexeme} {n : List ℕ} → IsName ws n r → AreWritten ws → IsNamed n × AreWritten r
name_writes (name p) h = (p, h.1)

pub column_writes : {ws r : List Lexeme} {c : Column} → IsColumn ws c r → AreWritten ws → IsNamed (own_name c) × AreWritten r
column_writes (plain_column n) h = name_writes n h
column_writes (qualified n m) h = name_writes m (name_writes n h).1.1

comparison_rest : {ws r : List Lexeme} {o : Comparison} → IsComparison ws o r → AreWritten ws → AreWritten r
comparison_rest equal h = h.1
comparison_rest unequal h = h.1

-- runs of AND and OR, comparisons and NOT
listed_writes : (cs : List Condition) → All Writes cs → are_writable_conditions (listed cs) ≡ true
listed_writes [] all = refl
listed_writes (c ∷ cs) all = both (is_writable_condition c) (are_writable_conditions (listed cs)) (All-head Writes c cs all) (listed_writes cs (All-tail Writes c cs all))

and_writes : (cs : List Condition) → All Writes cs → Writes (and_of cs)
and_writes [] all = refl
and_writes (c ∷ []) all = All-head Writes c [] all
and_writes (c ∷ d ∷ cs) all = listed_writes (c ∷ d ∷ cs) all

or_writes : (cs : List Condition) → All Writes cs → Writes (or_of cs)
or_writes [] all = refl
or_writes (c ∷ []) all = All-head Writes c [] all
or_writes (c ∷ d ∷ cs) all = listed_writes (c ∷ d ∷ cs) all

compared_writes : (o : Comparison) (s t : Term) → WritesTerm s → WritesTerm t → Writes (compared o s t)
compared_writes comparison.Equal s t f g = both (is_writable_term s) (is_writable_term t) f g
compared_writes comparison.Unequal s t f g = both (is_writable_term s) (is_writable_term t) f g

comparison_writes : (o : Comparison) (s t : Found Term) → IfOk s WritesTerm → IfOk t WritesTerm → IfOk (comparison_of o s t) Writes
comparison_writes o s t f g =
    and_then_has WritesTerm Writes s (λ a. and_then t (λ b. Ok (compared o a b))) f
    (λ a fa. and_then_has WritesTerm Writes t (λ b. Ok (compared o a b)) g (λ b fb. compared_writes o a b fa fb))

pub all_found_writes : (m : Found (List Condition)) → IfOk m (All Writes) → IfOk (all_found m) Writes
all_found_writes m f = and_then_has (All Writes) Writes m (λ ds. Ok (and_of ds)) f and_writes

any_found_writes : (m : Found (List Condition)) → IfOk m (All Writes) → IfOk (any_found m) Writes
any_found_writes m f = and_then_has (All Writes) Writes m (λ ds. Ok (or_of ds)) f or_writes

module _ (scope : List Heading) where
  pub term_writes : {ws r : List Lexeme} {t : parsed.Term} → IsTerm ws t r → AreWritten ws → IfOk (term_at scope t) WritesTerm × AreWritten r
  term_writes number_term h = (refl, h.1)
  term_writes text_term h = (refl, h.1)
  term_writes null_term h = (h.0, h.1)
  term_writes (column_term {c = c} d) h =
      (and_then_has (λ _. Unit {0}) WritesTerm (column_at scope c) (λ k. Ok (term.Column k)) (any_found_at_all (column_at scope c)) (λ k _. refl), (column_writes d h).1)

  mutual
    factor_writes : {ws r : List Lexeme} {f : Factor} → IsFactor ws f r → AreWritten ws → IfOk (factor_at scope f) Writes × AreWritten r
    factor_writes (not_factor {f = f} d) h =
        let inner = factor_writes d h.1 in
        (subst (λ m. IfOk m Writes) (sym (not_is scope f)) (and_then_has Writes Writes (factor_at scope f) (λ e. Ok (plain.Not e)) inner.0 (λ e w. w)), inner.1)
    factor_writes (nested {c = c} d) h = let inner = condition_writes d h.1 in (subst (λ m. IfOk m Writes) (sym (nested_is scope c)) inner.0, inner.1.1)
    factor_writes true_factor h = (refl, h.1)
    factor_writes false_factor h = (refl, h.1)
    factor_writes (compared_terms {s = s} {t = t} {o = o} a sign b) h =
        let left = term_writes a h in
        let right = term_writes b (comparison_rest sign left.1) in
        (comparison_writes o (term_at scope s) (term_at scope t) left.0 right.0, right.1)

    factors_write : {ws r : List Lexeme} {fs : List Factor} → AreFactors ws fs r → AreWritten ws → IfOk (each (factor_at scope) fs) (All Writes) × AreWritten r
    factors_write no_factor h = (All-nil Writes, h)
    factors_write (and_factor {f = f} {fs = fs} d ds) h =
        let first = factor_writes d h.1 in
        let others = factors_write ds first.1 in
        (in_front_has Writes (factor_at scope f) (each (factor_at scope) fs) first.0 others.0, others.1)

    conjunction_writes : {ws r : List Lexeme} {c : Conjunction} → IsConjunction ws c r → AreWritten ws → IfOk (conjunction_at scope c) Writes × AreWritten r
    conjunction_writes (conjunction {f = f} {fs = fs} d ds) h =
        let first = factor_writes d h in
        let others = factors_write ds first.1 in
        (all_found_writes (in_front (factor_at scope f) (each (factor_at scope) fs)) (in_front_has Writes (factor_at scope f) (each (factor_at scope) fs) first.0 others.0), others.1)

    conjunctions_write : {ws r : List Lexeme} {cs : List Conjunction} → AreConjunctions ws cs r → AreWritten ws → IfOk (each (conjunction_at scope) cs) (All Writes) × AreWritten r
    conjunctions_write no_conjunction h = (All-nil Writes, h)
    conjunctions_write (or_conjunction {c = c} {cs = cs} d ds) h =
        let first = conjunction_writes d h.1 in
        let others = conjunctions_write ds first.1 in
        (in_front_has Writes (conjunction_at scope c) (each (conjunction_at scope) cs) first.0 others.0, others.1)

    pub condition_writes : {ws r : List Lexeme} {c : tree.Condition} → IsCondition ws c r → AreWritten ws → IfOk (condition_at scope c) Writes × AreWritten r
    condition_writes (condition {c = c} {cs = cs} d ds) h =
        let first = conjunction_writes d h in
        let others = conjunctions_write ds first.1 in
        let parts = ap (λ l. any_found (in_front (conjunction_at scope l.first) (each (conjunction_at scope) l.rest))) (out-roll-Condition (record { first = c; rest = cs })) in (
          subst (λ m. IfOk m Writes) (sym (condition_is scope (condition_of c cs) ∙ parts))
              (any_found_writes (in_front (conjunction_at scope c) (each (conjunction_at scope) cs)) (in_front_has Writes (conjunction_at scope c) (each (conjunction_at scope) cs) first.0 others.0)),
          others.1,
        )

-- a condition that can be written in every scope
abbrev pub Good : tree.Condition → Type 0
Good c = (scope : List Heading) → IfOk (condition_at scope c) Writes

pub good : {ws r : List Lexeme} {c : tree.Condition} → IsCondition ws c r → AreWritten ws → Good c × AreWritten r
good d h = (λ scope. (condition_writes scope d h).0, (condition_writes [] d h).1)

pub each_good : (scope : List Heading) (cs : List tree.Condition) → All Good cs → IfOk (each (condition_at scope) cs) (All Writes)
each_good scope [] all = All-nil Writes
each_good scope (c ∷ cs) all =
    in_front_has Writes (condition_at scope c) (each (condition_at scope) cs) (All-head Good c cs all scope) (each_good scope cs (All-tail Good c cs all))
