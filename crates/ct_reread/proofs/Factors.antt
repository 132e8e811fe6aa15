-- The text of a condition, and of each of its parts, is read as a condition of the same truth.
use Rattle.std.proofs.Common.{◌≡◌, ℕ, ◌+◌, ◌≤◌, max, Bool, true, false, ◌&&◌, ◌||◌, List, [], ◌∷◌, ◌++◌, refl, ap, sym, ◌∙◌, subst, append_assoc, append-nil, Ok, codes, arith}
use Rattle.ct_word.{specs.declared.values.Value.Value, specs.declared.values.Term.Term, specs.Value.World}
use Rattle.ct_word.specs.Condition.{Condition, Conditions, True, False, Same, Not, And, Or, none, also, holds, all_hold, any_holds, listed, SameTruth}
use Rattle.ct_lex.{specs.declared.token.Lexeme.Lexeme, specs.declared.token.Token.Token, specs.Tokens.LexesFrom}
use Rattle.ct_parse.specs.Nest.{nest}
use Rattle.std.specs.{Prelude.IsTrue, List.list_all}
use Rattle.ct_parse.{specs.declared.tree.Conjunction.Conjunction, specs.declared.tree.Factor.Factor, specs.declared.tree.Condition.out-roll-Condition}
use Rattle.ct_parse.specs.Grammar.{said, IsTerm, equal, unequal, IsComparison, condition_of, IsFactor, nested, true_factor, false_factor, compared, AreFactors, no_factor, and_factor, conjunction, AreConjunctions, no_conjunction, or_conjunction, IsCondition, condition}
use Rattle.ct_rewrite.specs.Sizes.{as_part, text_of, text_of_parts, text_of_others, nest_as_part, nest_of, nest_of_parts}
use Rattle.ct_resolve.{specs.Found.{in_front, each}, proofs.Trees.{nested_is, condition_is}}
use Rattle.ct_resolve.specs.Conditions.{term_at, comparison_of, and_of, or_of, all_found, any_found, factor_at, conjunction_at, condition_at}
use Rattle.ct_reread.specs.{Printed.{IsPrinted, ArePrinted}, Reread.{IsReadAs, is_inner}}
use Rattle.ct_reread.proofs.Lexemes.{AreLexemes, none_left, placed, moved, at_end, at_blank, Gives, GivesOne, gives_one, true_given, false_given, Joins, joins_and, joins_or, joins_equal, joins_unequal, gives_compared, Begins, gives_both, gives_next, gives_nested}
use Rattle.ct_reread.proofs.Orderly.{AreOrderly, IsCalm, orderly_word, orderly_compared, orderly_nothing, orderly_both, orderly_and, orderly_or, orderly_nested}
use Rattle.ct_lex.specs.declared.token.Lexeme.TheVariants as lexeme
use Rattle.ct_lex.specs.declared.token.Symbol.TheVariants as symbol
use Rattle.ct_parse.specs.declared.tree.Comparison.{Comparison}
use Rattle.ct_parse.specs.declared.tree.Comparison.TheVariants as comparison
use Rattle.ct_parse.specs.declared.tree.Condition as written
use Rattle.ct_parse.specs.declared.tree.Factor.TheVariants as factor
use Rattle.ct_parse.specs.declared.tree.Term as parsed

-- a text is one token, which is read as this term
pub record IsTokenOf (w : List ℕ) (t : Term) : Type 0 where
  pub word : Lexeme
  pub tree : parsed.Term
  pub given : GivesOne w word
  pub is_term : (r : List Lexeme) → IsTerm (word ∷ r) tree r
  pub means : term_at [] tree ≡ Ok t
  pub calm : IsCalm word

-- a text is read as a factor of this condition's truth
pub record IsFactorOf (w : List ℕ) (c : Condition) (k : ℕ) : Type 0 where
  pub lexemes : List Lexeme
  pub tree : Factor
  pub found : Condition
  pub given : Gives w lexemes
  pub spelled : (r : List Lexeme) → IsFactor (lexemes ++ r) tree r
  pub means : factor_at [] tree ≡ Ok found
  pub same : SameTruth found c
  pub orderly : AreOrderly lexemes k

-- a text is read as factors behind ANDs, with the truth of these conditions
record AreFactorsOf (w : List ℕ) (cs : Conditions) (k : ℕ) : Type 0 where
  lexemes : List Lexeme
  trees : List Factor
  found : List Condition
  begins : Begins w
  given : Gives w lexemes
  spelled : (r : List Lexeme) → AreFactors (lexemes ++ r) trees r
  means : each (factor_at []) trees ≡ Ok found
  same : (v : World) (row : List Value) → all_hold v row (listed found) ≡ all_hold v row cs
  orderly : AreOrderly lexemes k

-- a text is read as conjunctions behind ORs, with the truth of these conditions
record AreConjunctionsOf (w : List ℕ) (cs : Conditions) (k : ℕ) : Type 0 where
  lexemes : List Lexeme
  trees : List Conjunction
  found : List Condition
  begins : Begins w
  given : Gives w lexemes
  spelled : (r : List Lexeme) → AreConjunctions (lexemes ++ r) trees r
  means : each (conjunction_at []) trees ≡ Ok found
  same : (v : World) (row : List Value) → any_holds v row (listed found) ≡ any_holds v row cs
  orderly : AreOrderly lexemes k

-- a text is read as a condition of this one's truth
pub record IsWholeOf (w : List ℕ) (c : Condition) (k : ℕ) : Type 0 where
  pub lexemes : List Lexeme
  pub tree : written.Condition
  pub found : Condition
  pub given : Gives w lexemes
  pub spelled : (r : List Lexeme) → IsCondition (lexemes ++ r) tree r
  pub means : condition_at [] tree ≡ Ok found
  pub same : SameTruth found c
  pub orderly : AreOrderly lexemes k

condition_means : (c : Conjunction) (cs : List Conjunction) → condition_at [] (condition_of c cs) ≡ any_found (in_front (conjunction_at [] c) (each (conjunction_at []) cs))
condition_means c cs =
    condition_is [] (condition_of c cs) ∙ ap (λ l. any_found (in_front (conjunction_at [] l.first) (each (conjunction_at []) l.rest))) (out-roll-Condition (record { first = c; rest = cs }))

-- a run of AND, and one of OR
and_same : (v : World) (row : List Value) (d : Condition) (ds : List Condition) → holds v row (and_of (d ∷ ds)) ≡ (holds v row d && all_hold v row (listed ds))
and_same v row d [] = alone (holds v row d) where
  alone : (b : Bool) → b ≡ (b && true)
  alone true = refl
  alone false = refl
and_same v row d (e ∷ es) = refl

or_same : (v : World) (row : List Value) (d : Condition) (ds : List Condition) → holds v row (or_of (d ∷ ds)) ≡ (holds v row d || any_holds v row (listed ds))
or_same v row d [] = alone (holds v row d) where
  alone : (b : Bool) → b ≡ (b || false)
  alone true = refl
  alone false = refl
or_same v row d (e ∷ es) = refl

-- a literal
literal : (w : List ℕ) (l : Lexeme) (f : Factor) (c : Condition) → GivesOne w l → IsCalm l → ((r : List Lexeme) → IsFactor (l ∷ r) f r) → factor_at [] f ≡ Ok c → IsFactorOf w c 0
literal w l f c given calm spelled means = record {
  lexemes = l ∷ [];
  tree = f;
  found = c;
  given = gives_one w l given;
  spelled = spelled;
  means = means;
  same = λ v row. refl;
  orderly = orderly_word l calm;
}

-- a comparison
comparison_read : (a b w : List ℕ) (k : Lexeme) (o : Comparison) (s t : Term) (c : Condition) → IsTokenOf a s → Joins b k → IsCalm k → ((r : List Lexeme) → IsComparison (k ∷ r) o r) → IsTokenOf w t
    → comparison_of o (Ok s) (Ok t) ≡ Ok c → IsFactorOf (a ++ (32 ∷ b) ++ w) c 0
comparison_read a b w k o s t c left sign calm is right means = record {
  lexemes = left.word ∷ k ∷ right.word ∷ [];
  tree = factor.Compare left.tree o right.tree;
  found = c;
  given = gives_compared a b w left.word right.word k left.given sign right.given;
  spelled = λ r. compared (left.is_term (k ∷ right.word ∷ r)) (is (right.word ∷ r)) (right.is_term r);
  means = (λ i. comparison_of o (left.means i) (right.means i)) ∙ means;
  same = λ v row. refl;
  orderly = orderly_compared left.word k right.word left.calm calm right.calm;
}

-- a condition in parentheses
nested_read : (w : List ℕ) (c : Condition) (k : ℕ) → IsWholeOf w c k → IsFactorOf (codes "(" ++ w ++ codes ")") c (k + 1)
nested_read w c k whole = record {
  lexemes = lexeme.Symbol symbol.LeftParen ∷ (whole.lexemes ++ lexeme.Symbol symbol.RightParen ∷ []);
  tree = factor.Nested whole.tree;
  found = whole.found;
  given = gives_nested w whole.lexemes whole.given;
  spelled = λ r.
      nested (subst (λ ls. IsCondition ls whole.tree (lexeme.Symbol symbol.RightParen ∷ r)) (sym (append_assoc whole.lexemes (lexeme.Symbol symbol.RightParen ∷ []) r)) (whole.spelled (lexeme.Symbol symbol.RightParen ∷ r)));
  means = nested_is [] whole.tree ∙ whole.means;
  same = whole.same;
  orderly = orderly_nested whole.lexemes k whole.orderly;
}

-- a factor alone
factor_read : (w : List ℕ) (c : Condition) (k : ℕ) → IsFactorOf w c k → IsWholeOf w c k
factor_read w c k f =
    let one : Conjunction = record { first = f.tree; rest = [] } in
    record {
      lexemes = f.lexemes;
      tree = condition_of one [];
      found = f.found;
      given = f.given;
      spelled = λ r. condition (conjunction (f.spelled r) no_factor) no_conjunction;
      means = condition_means one [] ∙ ap (λ m. any_found (in_front (all_found (in_front m (Ok []))) (Ok []))) f.means;
      same = f.same;
      orderly = f.orderly;
    }

-- behind AND
no_factors : AreFactorsOf [] none 0
no_factors = record {
  lexemes = [];
  trees = [];
  found = [];
  begins = λ r stops. stops;
  given = λ r ks stops more. more;
  spelled = λ r. no_factor;
  means = refl;
  same = λ v row. refl;
  orderly = orderly_nothing;
}

next_factor : (p o : List ℕ) (c : Condition) (cs : Conditions) (j k : ℕ) → IsFactorOf p c j → AreFactorsOf o cs k → AreFactorsOf (codes " and " ++ p ++ o) (also c cs) (max j k)
next_factor p o c cs j k f fs = record {
  lexemes = lexeme.Word (codes "and") ∷ (f.lexemes ++ fs.lexemes);
  trees = f.tree ∷ fs.trees;
  found = f.found ∷ fs.found;
  begins = λ r stops. at_blank;
  given = gives_next (codes "and ") p o (lexeme.Word (codes "and")) f.lexemes fs.lexemes joins_and f.given fs.begins fs.given;
  spelled = λ r. and_factor (subst (λ ls. IsFactor ls f.tree (fs.lexemes ++ r)) (sym (append_assoc f.lexemes fs.lexemes r)) (f.spelled (fs.lexemes ++ r))) (fs.spelled r);
  means = λ i. in_front (f.means i) (fs.means i);
  same = λ v row i. f.same v row i && fs.same v row i;
  orderly = orderly_and f.lexemes fs.lexemes j k f.orderly fs.orderly;
}

and_read : (p o : List ℕ) (c : Condition) (cs : Conditions) (j k : ℕ) → IsFactorOf p c j → AreFactorsOf o cs k → IsWholeOf (p ++ o) (And (also c cs)) (max j k)
and_read p o c cs j k f fs =
    let one : Conjunction = record { first = f.tree; rest = fs.trees } in
    record {
      lexemes = f.lexemes ++ fs.lexemes;
      tree = condition_of one [];
      found = and_of (f.found ∷ fs.found);
      given = gives_both p o f.lexemes fs.lexemes f.given fs.begins fs.given;
      spelled = λ r.
          condition (conjunction (subst (λ ls. IsFactor ls f.tree (fs.lexemes ++ r)) (sym (append_assoc f.lexemes fs.lexemes r)) (f.spelled (fs.lexemes ++ r))) (fs.spelled r)) no_conjunction;
      means = condition_means one [] ∙ (λ i. any_found (in_front (all_found (in_front (f.means i) (fs.means i))) (Ok [])));
      same = λ v row. and_same v row f.found fs.found ∙ (λ i. f.same v row i && fs.same v row i);
      orderly = orderly_both f.lexemes fs.lexemes j k f.orderly fs.orderly;
    }

-- behind OR
no_conjunctions : AreConjunctionsOf [] none 0
no_conjunctions = record {
  lexemes = [];
  trees = [];
  found = [];
  begins = λ r stops. stops;
  given = λ r ks stops more. more;
  spelled = λ r. no_conjunction;
  means = refl;
  same = λ v row. refl;
  orderly = orderly_nothing;
}

-- a conjunction of one factor
alone_means : (f : Factor) (c : Condition) → factor_at [] f ≡ Ok c → conjunction_at [] (record { first = f; rest = [] }) ≡ Ok c
alone_means f c means = ap (λ m. all_found (in_front m (Ok []))) means

next_conjunction : (p o : List ℕ) (c : Condition) (cs : Conditions) (j k : ℕ) → IsFactorOf p c j → AreConjunctionsOf o cs k → AreConjunctionsOf (codes " or " ++ p ++ o) (also c cs) (max j k)
next_conjunction p o c cs j k f fs = record {
  lexemes = lexeme.Word (codes "or") ∷ (f.lexemes ++ fs.lexemes);
  trees = record { first = f.tree; rest = [] } ∷ fs.trees;
  found = f.found ∷ fs.found;
  begins = λ r stops. at_blank;
  given = gives_next (codes "or ") p o (lexeme.Word (codes "or")) f.lexemes fs.lexemes joins_or f.given fs.begins fs.given;
  spelled = λ r.
      or_conjunction (conjunction (subst (λ ls. IsFactor ls f.tree (fs.lexemes ++ r)) (sym (append_assoc f.lexemes fs.lexemes r)) (f.spelled (fs.lexemes ++ r))) no_factor) (fs.spelled r);
  means = λ i. in_front (alone_means f.tree f.found f.means i) (fs.means i);
  same = λ v row i. f.same v row i || fs.same v row i;
  orderly = orderly_or f.lexemes fs.lexemes j k f.orderly fs.orderly;
}

or_read : (p o : List ℕ) (c : Condition) (cs : Conditions) (j k : ℕ) → IsFactorOf p c j → AreConjunctionsOf o cs k → IsWholeOf (p ++ o) (Or (also c cs)) (max j k)
or_read p o c cs j k f fs =
    let one : Conjunction = record { first = f.tree; rest = [] } in
    record {
      lexemes = f.lexemes ++ fs.lexemes;
      tree = condition_of one fs.trees;
      found = or_of (f.found ∷ fs.found);
      given = gives_both p o f.lexemes fs.lexemes f.given fs.begins fs.given;
      spelled = λ r.
          condition (conjunction (subst (λ ls. IsFactor ls f.tree (fs.lexemes ++ r)) (sym (append_assoc f.lexemes fs.lexemes r)) (f.spelled (fs.lexemes ++ r))) no_factor) (fs.spelled r);
      means = condition_means one fs.trees ∙ (λ i. any_found (in_front (alone_means f.tree f.found f.means i) (fs.means i)));
      same = λ v row. or_same v row f.found fs.found ∙ (λ i. f.same v row i || fs.same v row i);
      orderly = orderly_both f.lexemes fs.lexemes j k f.orderly fs.orderly;
    }

-- all of a text, with the places of its tokens
whole_read : (w : List ℕ) (c : Condition) → IsWholeOf w c (nest_of c) → IsReadAs w c
whole_read w c h =
    let plain : AreLexemes w h.lexemes = moved (sym (append-nil w)) (sym (append-nil h.lexemes)) (h.given [] [] at_end none_left) in
    let at : (ts : List Token) × LexesFrom 0 w ts × (said ts ≡ h.lexemes) = placed 0 plain in
    let words : said at.0 ≡ h.lexemes ++ [] = at.2 ∙ sym (append-nil h.lexemes) in
    record {
      tokens = at.0;
      tree = h.tree;
      found = h.found;
      lexes = at.1;
      spells = subst (λ ls. IsCondition ls h.tree []) (sym words) (h.spelled []);
      means = h.means;
      same = h.same;
      shallow = subst (λ ls. nest ls ≤ nest_of c) (sym words) (omega (arith, h.orderly.within [] []));
      inner = subst (λ ls. IsTrue (list_all is_inner ls)) (sym words) (h.orderly.inner [] refl);
    }

-- by recursion over the text of a condition
module _ (texts : Term → List ℕ) (P : Term → Type 0) (token : (t : Term) → P t → IsTokenOf (texts t) t) where
  mutual
    part : (c : Condition) → IsPrinted P c → IsFactorOf (as_part c (text_of texts c)) c (nest_as_part c (nest_of c))
    part True p = literal (codes "true") (lexeme.Word (codes "true")) factor.True True true_given (record { stays = refl; inner = refl }) (λ r. true_factor) refl
    part False p = literal (codes "false") (lexeme.Word (codes "false")) factor.False False false_given (record { stays = refl; inner = refl }) (λ r. false_factor) refl
    part (Same s t) p =
        comparison_read (texts s) (codes "= ") (texts t) (lexeme.Symbol symbol.Equal) comparison.Equal s t (Same s t) (token s p.0) joins_equal (record { stays = refl; inner = refl }) (λ r. equal) (token t p.1) refl
    part (Not (Same s t)) p =
        comparison_read (texts s) (codes "<> ") (texts t) (lexeme.Symbol symbol.Unequal) comparison.Unequal s t (Not (Same s t)) (token s p.0) joins_unequal (record { stays = refl; inner = refl }) (λ r. unequal) (token t p.1) refl
    part (Not True) p = absurd p
    part (Not False) p = absurd p
    part (Not (Not c)) p = absurd p
    part (Not (And cs)) p = absurd p
    part (Not (Or cs)) p = absurd p
    part (And cs) p = nested_read (text_of_parts texts (codes " and ") cs) (And cs) (nest_of_parts cs) (and_run cs p)
    part (Or cs) p = nested_read (text_of_parts texts (codes " or ") cs) (Or cs) (nest_of_parts cs) (or_run cs p)

    and_run : (cs : Conditions) → IsPrinted P (And cs) → IsWholeOf (text_of_parts texts (codes " and ") cs) (And cs) (nest_of_parts cs)
    and_run none p = absurd p.0
    and_run (also c cs) p =
        and_read (as_part c (text_of texts c)) (text_of_others texts (codes " and ") cs) c cs (nest_as_part c (nest_of c)) (nest_of_parts cs) (part c p.1.0) (factors cs p.1.1)

    or_run : (cs : Conditions) → IsPrinted P (Or cs) → IsWholeOf (text_of_parts texts (codes " or ") cs) (Or cs) (nest_of_parts cs)
    or_run none p = absurd p.0
    or_run (also c cs) p =
        or_read (as_part c (text_of texts c)) (text_of_others texts (codes " or ") cs) c cs (nest_as_part c (nest_of c)) (nest_of_parts cs) (part c p.1.0) (conjunctions cs p.1.1)

    factors : (cs : Conditions) → ArePrinted P cs → AreFactorsOf (text_of_others texts (codes " and ") cs) cs (nest_of_parts cs)
    factors none p = no_factors
    factors (also c cs) p =
        next_factor (as_part c (text_of texts c)) (text_of_others texts (codes " and ") cs) c cs (nest_as_part c (nest_of c)) (nest_of_parts cs) (part c p.0) (factors cs p.1)

    conjunctions : (cs : Conditions) → ArePrinted P cs → AreConjunctionsOf (text_of_others texts (codes " or ") cs) cs (nest_of_parts cs)
    conjunctions none p = no_conjunctions
    conjunctions (also c cs) p =
        next_conjunction (as_part c (text_of texts c)) (text_of_others texts (codes " or ") cs) c cs (nest_as_part c (nest_of c)) (nest_of_parts cs) (part c p.0) (conjunctions cs p.1)

  whole : (c : Condition) → IsPrinted P c → IsWholeOf (text_of texts c) c (nest_of c)
  whole True p = factor_read (codes "true") True 0 (part True p)
  whole False p = factor_read (codes "false") False 0 (part False p)
  whole (Same s t) p = factor_read (text_of texts (Same s t)) (Same s t) 0 (part (Same s t) p)
  whole (Not (Same s t)) p = factor_read (text_of texts (Not (Same s t))) (Not (Same s t)) 0 (part (Not (Same s t)) p)
  whole (Not True) p = absurd p
  whole (Not False) p = absurd p
  whole (Not (Not c)) p = absurd p
  whole (Not (And cs)) p = absurd p
  whole (Not (Or cs)) p = absurd p
  whole (And cs) p = and_run cs p
  whole (Or cs) p = or_run cs p

  -- the text of a condition is read as a condition of its truth
  pub reread : (c : Condition) → IsPrinted P c → IsReadAs (text_of texts c) c
  reread c p = whole_read (text_of texts c) c (whole c p)
