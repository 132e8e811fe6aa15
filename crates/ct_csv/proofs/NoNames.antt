-- A condition in which no name stands means something where no table is in scope.
use Rattle.std.{proofs.Common.{◌≡◌, ℕ, false, List, [], ◌∷◌, refl, ap, sym, subst, ◌∙◌, arith}, specs.List.list_any, proofs.lemmas.Bool.true≢false}
use Rattle.std.specs.Prelude.{Ok, Err}
use Rattle.ct_word.{specs.declared.values.Term.Term, specs.Condition.Condition}
use Rattle.ct_lex.specs.declared.token.Lexeme.{Lexeme}
use Rattle.ct_parse.{specs.declared.tree.Column.Column, specs.declared.tree.Comparison.Comparison, specs.declared.tree.Conjunction.Conjunction}
use Rattle.ct_parse.{specs.declared.tree.Condition.out-roll-Condition, specs.declared.tree.Factor.Factor}
use Rattle.ct_parse.specs.Grammar.{IsName, name, IsColumn, plain as plain_column, qualified, IsTerm, number_term, text_term, null_term, column_term, IsComparison, equal, unequal, condition_of, IsFactor, negated as not_factor, nested, true_factor, false_factor, compared as compared_terms, AreFactors, no_factor, and_factor, IsConjunction, conjunction, AreConjunctions, no_conjunction, or_conjunction, IsCondition, condition}
use Rattle.ct_resolve.specs.Found.{Found, in_front, each}
use Rattle.ct_resolve.specs.Conditions.{term_at, negated, comparison_of, all_found, any_found, factor_at, conjunction_at, condition_at}
use Rattle.ct_resolve.proofs.Trees.{not_is, nested_is, condition_is}
use Rattle.ct_csv.specs.Fields.{is_name_word}
use Rattle.ct_parse.specs.declared.tree.Condition as tree
use Rattle.ct_parse.specs.declared.tree.Term as parsed

-- none of these is a name
abbrev pub AreFree : List Lexeme → Type 0
AreFree [] = Unit {0}
AreFree (w ∷ ws) = (is_name_word w ≡ false) × AreFree ws

pub are_free : (ws : List Lexeme) → list_any is_name_word ws ≡ false → AreFree ws
are_free [] h = tt
are_free (w ∷ ws) h =
    let first : is_name_word w ≡ false = grind arith in
    let rest : list_any is_name_word ws ≡ false = grind arith in
    (first, are_free ws rest)

-- it is there, and no refusal
abbrev IsThere : {A : Type 0} → Found A → Type 0
IsThere (Ok a) = Unit {0}
IsThere (Err e) = ⊥

in_front_there : {A : Type 0} (m : Found A) (r : Found (List A)) → IsThere m → IsThere r → IsThere (in_front m r)
in_front_there (Ok a) (Ok xs) p q = tt
in_front_there (Ok a) (Err e) p q = absurd q
in_front_there (Err e) r p q = absurd p

all_there : (m : Found (List Condition)) → IsThere m → IsThere (all_found m)
all_there (Ok cs) p = tt
all_there (Err e) p = absurd p

any_there : (m : Found (List Condition)) → IsThere m → IsThere (any_found m)
any_there (Ok cs) p = tt
any_there (Err e) p = absurd p

negated_there : (m : Found Condition) → IsThere m → IsThere (negated m)
negated_there (Ok c) p = tt
negated_there (Err e) p = absurd p

comparison_there : (o : Comparison) (s t : Found Term) → IsThere s → IsThere t → IsThere (comparison_of o s t)
comparison_there o (Ok s) (Ok t) p q = tt
comparison_there o (Ok s) (Err e) p q = absurd q
comparison_there o (Err e) t p q = absurd p

no_name : {ws r : List Lexeme} {n : List ℕ} → IsName ws n r → AreFree ws → ⊥
no_name (name p) h = true≢false (sym p ∙ h.0)

no_column : {ws r : List Lexeme} {c : Column} → IsColumn ws c r → AreFree ws → ⊥
no_column (plain_column n) h = no_name n h
no_column (qualified n m) h = no_name n h

comparison_rest : {ws r : List Lexeme} {o : Comparison} → IsComparison ws o r → AreFree ws → AreFree r
comparison_rest equal h = h.1
comparison_rest unequal h = h.1

term_there : {ws r : List Lexeme} {t : parsed.Term} → IsTerm ws t r → AreFree ws → IsThere (term_at [] t) × AreFree r
term_there number_term h = (tt, h.1)
term_there text_term h = (tt, h.1)
term_there null_term h = (tt, h.1)
term_there (column_term d) h = absurd (no_column d h)

mutual
  factor_there : {ws r : List Lexeme} {f : Factor} → IsFactor ws f r → AreFree ws → IsThere (factor_at [] f) × AreFree r
  factor_there (not_factor {f = f} d) h =
      let inner = factor_there d h.1 in
      (subst IsThere (sym (not_is [] f)) (negated_there (factor_at [] f) inner.0), inner.1)
  factor_there (nested {c = c} d) h = let inner = condition_there d h.1 in (subst IsThere (sym (nested_is [] c)) inner.0, inner.1.1)
  factor_there true_factor h = (tt, h.1)
  factor_there false_factor h = (tt, h.1)
  factor_there (compared_terms {s = s} {t = t} {o = o} a sign b) h =
      let left = term_there a h in
      let right = term_there b (comparison_rest sign left.1) in
      (comparison_there o (term_at [] s) (term_at [] t) left.0 right.0, right.1)

  factors_there : {ws r : List Lexeme} {fs : List Factor} → AreFactors ws fs r → AreFree ws → IsThere (each (factor_at []) fs) × AreFree r
  factors_there no_factor h = (tt, h)
  factors_there (and_factor {f = f} {fs = fs} d ds) h =
      let first = factor_there d h.1 in
      let others = factors_there ds first.1 in
      (in_front_there (factor_at [] f) (each (factor_at []) fs) first.0 others.0, others.1)

  conjunction_there : {ws r : List Lexeme} {c : Conjunction} → IsConjunction ws c r → AreFree ws → IsThere (conjunction_at [] c) × AreFree r
  conjunction_there (conjunction {f = f} {fs = fs} d ds) h =
      let first = factor_there d h in
      let others = factors_there ds first.1 in
      (all_there (in_front (factor_at [] f) (each (factor_at []) fs)) (in_front_there (factor_at [] f) (each (factor_at []) fs) first.0 others.0), others.1)

  conjunctions_there : {ws r : List Lexeme} {cs : List Conjunction} → AreConjunctions ws cs r → AreFree ws → IsThere (each (conjunction_at []) cs) × AreFree r
  conjunctions_there no_conjunction h = (tt, h)
  conjunctions_there (or_conjunction {c = c} {cs = cs} d ds) h =
      let first = conjunction_there d h.1 in
      let others = conjunctions_there ds first.1 in
      (in_front_there (conjunction_at [] c) (each (conjunction_at []) cs) first.0 others.0, others.1)

  condition_there : {ws r : List Lexeme} {c : tree.Condition} → IsCondition ws c r → AreFree ws → IsThere (condition_at [] c) × AreFree r
  condition_there (condition {c = c} {cs = cs} d ds) h =
      let first = conjunction_there d h in
      let others = conjunctions_there ds first.1 in
      let parts = ap (λ l. any_found (in_front (conjunction_at [] l.first) (each (conjunction_at []) l.rest))) (out-roll-Condition (record { first = c; rest = cs })) in (
        subst IsThere (sym (condition_is [] (condition_of c cs) ∙ parts))
            (any_there (in_front (conjunction_at [] c) (each (conjunction_at []) cs)) (in_front_there (conjunction_at [] c) (each (conjunction_at []) cs) first.0 others.0)),
        others.1,
      )

there_is : (m : Found Condition) → IsThere m → (c : Condition) × (m ≡ Ok c)
there_is (Ok c) h = (c, refl)
there_is (Err e) h = absurd h

-- what lexemes without names spell means a condition
pub means_one : {ws r : List Lexeme} {c : tree.Condition} → IsCondition ws c r → list_any is_name_word ws ≡ false → (d : Condition) × (condition_at [] c ≡ Ok d)
means_one {ws} {c = c} d h = there_is (condition_at [] c) (condition_there d (are_free ws h)).0
