-- The condition of a record as its line has it.
use Rattle.std.proofs.Common.{◌≡◌, ℕ, false, List, [], ◌∷◌, ◌++◌, flat_map, refl, sym, subst, arith, Option, Some, None, Ok, codes}
use Rattle.ct_word.specs.Condition.{Condition}
use Rattle.ct_lex.{specs.declared.token.Lexeme.Lexeme, specs.declared.token.Token.Token, specs.Spelling.word, specs.Tokens.{LexesFrom, AreSlicesFrom}, proofs.Steps.slices}
use Rattle.ct_lex.specs.declared.token.Lexeme.TheVariants as lexeme
use Rattle.ct_parse.specs.declared.tree.Column.{Column}
use Rattle.ct_parse.specs.declared.tree.Factor.{Factor}
use Rattle.ct_parse.specs.declared.tree.Conjunction.{Conjunction}
use Rattle.ct_parse.specs.declared.tree.Condition as parsed
use Rattle.ct_parse.specs.declared.tree.Term as parsed_term
use Rattle.ct_parse.specs.Grammar.{said, IsName, name, IsColumn, plain, qualified, IsTerm, number_term, text_term, null_term, column_term, IsFactor, negated, nested, true_factor, false_factor, compared, IsConjunction, conjunction, IsCondition, condition, HasCondition, no_condition, a_condition}
use Rattle.ct_parse.specs.{Parses.SpellsCondition, Nest.is_too_deep}
use Rattle.ct_resolve.specs.Conditions.{condition_at, condition_or_true}
use Rattle.ct_csv.specs.Fields as field
use Rattle.ct_csv.specs.Script.{slice_of, if_text, if_found, condition_text}
use Rattle.ct_imports.proofs.{Read.lexed, Spelled.{AreSpelled, nothing, blank_first, one_first, IsFree, free_end, free_blank, respelled}, Calm.{IsShallow, shallow, calm_before, word_calm}}

-- the slices of tokens with blanks between spell the tokens
module _ (text : List ℕ) where
  abbrev behind : List Token → List ℕ
  behind ts = flat_map (λ t. codes " " ++ slice_of text t) ts

  free_behind : (ts : List Token) → IsFree (behind ts ++ [])
  free_behind [] = free_end
  free_behind (t ∷ ts) = free_blank

  slice_first : (t : Token) (ts : List Token) (n : ℕ) → AreSlicesFrom n text (t ∷ ts) → AreSpelled (behind ts) (said ts) [] → AreSpelled (slice_of text t ++ behind ts) (said (t ∷ ts)) []
  slice_first t ts n h rest = one_first (slice_of text t) (behind ts) t.word refl (respelled (behind ts ++ []) (free_behind ts) h.3 refl) rest

  slices_behind : (n : ℕ) (ts : List Token) → AreSlicesFrom n text ts → AreSpelled (behind ts) (said ts) []
  slices_behind n [] h = nothing
  slices_behind n (t ∷ ts) h = blank_first refl (slice_first t ts n h (slices_behind t.end ts h.4))

  slices_spelled : (t : Token) (ts : List Token) → AreSlicesFrom 0 text (t ∷ ts) → AreSpelled (slice_of text t ++ behind ts) (said (t ∷ ts)) []
  slices_spelled t ts h = slice_first t ts 0 h (slices_behind t.end ts h.4)

-- what a record's last field puts behind the cells
pub record IsBehind (text : List ℕ) (c : Condition) : Type 0 where
  pub lexemes : List Lexeme
  pub tree : Option parsed.Condition
  pub given : AreSpelled text lexemes []
  pub spells : HasCondition (codes "if") lexemes tree []
  pub means : condition_or_true [] tree ≡ Ok c
  pub shallow : IsShallow lexemes

nothing_behind : IsBehind [] Condition.True
nothing_behind = record {
  lexemes = [];
  tree = None;
  given = nothing;
  spells = no_condition;
  means = refl;
  shallow = record { nests = omega arith; operators = omega arith };
}

-- no tokens spell no condition
no_name : {ws r : List Lexeme} {n : List ℕ} → IsName ws n r → ws ≡ [] → ⊥
no_name (name p) e = cc e

no_column : {ws r : List Lexeme} {c : Column} → IsColumn ws c r → ws ≡ [] → ⊥
no_column (plain n) e = no_name n e
no_column (qualified n m) e = no_name n e

no_term : {ws r : List Lexeme} {t : parsed_term.Term} → IsTerm ws t r → ws ≡ [] → ⊥
no_term number_term e = cc e
no_term text_term e = cc e
no_term null_term e = cc e
no_term (column_term c) e = no_column c e

no_factor : {ws r : List Lexeme} {f : Factor} → IsFactor ws f r → ws ≡ [] → ⊥
no_factor (negated d) e = cc e
no_factor (nested d) e = cc e
no_factor true_factor e = cc e
no_factor false_factor e = cc e
no_factor (compared s o t) e = no_term s e

no_conjunction : {ws r : List Lexeme} {c : Conjunction} → IsConjunction ws c r → ws ≡ [] → ⊥
no_conjunction (conjunction f fs) e = no_factor f e

none_spelled : {ws r : List Lexeme} {c : parsed.Condition} → IsCondition ws c r → ws ≡ [] → ⊥
none_spelled (condition c cs) e = no_conjunction c e

-- IF and the condition's tokens
tokens_behind : (text : List ℕ) (ts : List Token) (tree : parsed.Condition) (c : Condition) → LexesFrom 0 text ts → is_too_deep (said ts) ≡ false → SpellsCondition (said ts) tree → condition_at [] tree ≡ Ok c
    → IsBehind (if_text text ts) c
tokens_behind text [] tree c lexes calm spells means = absurd (none_spelled spells refl)
tokens_behind text (t ∷ ts) tree c lexes calm spells means =
    record {
      lexemes = lexeme.Word (codes "if") ∷ said (t ∷ ts);
      tree = Some tree;
      given =
          blank_first refl (one_first (codes "if") (32 ∷ slice_of text t ++ behind text ts) (lexeme.Word (codes "if")) refl (word refl refl)
          (blank_first refl (slices_spelled text t ts (slices [] 0 refl (omega arith) lexes))));
      spells = a_condition spells;
      means = means;
      shallow = calm_before (lexeme.Word (codes "if")) (said (t ∷ ts)) (word_calm (codes "if") refl refl) (shallow (said (t ∷ ts)) calm);
    }

pub condition_behind : {text : List ℕ} {ts : List Token} {c : Condition} → field.HasCondition text ts c → IsBehind (condition_text text) c
condition_behind field.no_condition = nothing_behind
condition_behind (field.spelled_condition {field = text} {tokens = ts} {c = c} tree reads calm spells none means) =
    subst (λ r. IsBehind (if_found text (field.found r)) c) (sym reads) (tokens_behind text ts tree c (lexed text ts reads) calm spells means)
