-- A file says one thing.
use Rattle.std.proofs.Common.{◌≡◌, ℕ, ◌⊎◌, List, [], ◌∷◌, map, drop, refl, ap, sym, subst, ◌∙◌, inl, inr}
use Rattle.std.specs.Prelude.{Some, Ok, Err}
use Rattle.ct_word.{specs.Condition.{Condition, True}, specs.Change.PlainRow}
use Rattle.ct_lex.{specs.declared.token.Lexeme.Lexeme, specs.declared.token.Token.Token, specs.Reading.{Read, read}}
use Rattle.ct_parse.{specs.Grammar.{said, IsName, name, IsColumn, plain, qualified, IsTerm, number_term, text_term, null_term, column_term, IsFactor, negated, nested, true_factor, false_factor, compared, IsConjunction, IsCondition, conjunction, condition}, specs.Parses.SpellsCondition, proofs.Readings.one_condition}
use Rattle.ct_parse.{specs.declared.tree.Column.Column, specs.declared.tree.Factor.Factor, specs.declared.tree.Conjunction.Conjunction}
use Rattle.ct_parse.specs.declared.tree.Condition as parsed
use Rattle.ct_parse.specs.declared.tree.Term as parsed_term
use Rattle.ct_resolve.specs.Conditions.{condition_at}
use Rattle.ct_csv.specs.{Fields.{header, HasCondition, no_condition, spelled_condition}, File.{SaysRow, SayRows}}
use Rattle.ct_csv.specs.{Importing.{SaysOneTable, TakesExports}}
use Rattle.ct_csv.proofs.Exact.{have_one_list, refuses_no_file}

-- what a condition's field says
record IsSpelled (field : List ℕ) (c : Condition) : Type 0 where
  tokens : List Token
  tree : parsed.Condition
  reads : read field ≡ Ok tokens
  spells : SpellsCondition (said tokens) tree
  means : condition_at [] tree ≡ Ok c

said_by : {field : List ℕ} {ts : List Token} {c : Condition} → HasCondition field ts c → ((field ≡ []) × (c ≡ True)) ⊎ IsSpelled field c
said_by no_condition = inl (refl, refl)
said_by (spelled_condition tree reads deep spells names means) = inr (record { tokens = _; tree = tree; reads = reads; spells = spells; means = means })

-- no tokens spell no condition
no_name : {ws r : List Lexeme} {n : List ℕ} → IsName ws n r → ws ≡ [] → ⊥
no_name (name p) e = absurd (let f = e in cc)

no_column : {ws r : List Lexeme} {c : Column} → IsColumn ws c r → ws ≡ [] → ⊥
no_column (plain n) e = no_name n e
no_column (qualified n m) e = no_name n e

no_term : {ws r : List Lexeme} {t : parsed_term.Term} → IsTerm ws t r → ws ≡ [] → ⊥
no_term number_term e = absurd (let f = e in cc)
no_term text_term e = absurd (let f = e in cc)
no_term null_term e = absurd (let f = e in cc)
no_term (column_term c) e = no_column c e

no_factor : {ws r : List Lexeme} {f : Factor} → IsFactor ws f r → ws ≡ [] → ⊥
no_factor (negated d) e = absurd (let f = e in cc)
no_factor (nested d) e = absurd (let f = e in cc)
no_factor true_factor e = absurd (let f = e in cc)
no_factor false_factor e = absurd (let f = e in cc)
no_factor (compared s o t) e = no_term s e

no_conjunction : {ws r : List Lexeme} {c : Conjunction} → IsConjunction ws c r → ws ≡ [] → ⊥
no_conjunction (conjunction f fs) e = no_factor f e

no_condition_spelled : {ws r : List Lexeme} {c : parsed.Condition} → IsCondition ws c r → ws ≡ [] → ⊥
no_condition_spelled (condition c cs) e = no_conjunction c e

-- the tokens that are read
abbrev tokens_in : Read → List Token
tokens_in (Ok ts) = ts
tokens_in (Err e) = []

empty_spells : (field : List ℕ) (c : Condition) → field ≡ [] → IsSpelled field c → ⊥
empty_spells field c e s =
    let reads : read [] ≡ Ok s.tokens = subst (λ f. read f ≡ Ok s.tokens) e s.reads in
    let none : s.tokens ≡ [] = ap tokens_in (sym reads) in
    no_condition_spelled s.spells (ap said none)

condition_once : {field : List ℕ} {ts us : List Token} {c d : Condition} → HasCondition field ts c → HasCondition field us d → c ≡ d
condition_once h k = both (said_by h) (said_by k) where
  spelled_once : {field : List ℕ} {c d : Condition} → IsSpelled field c → IsSpelled field d → c ≡ d
  spelled_once a b =
      let tokens : a.tokens ≡ b.tokens = ap tokens_in (sym a.reads ∙ b.reads) in
      let tree : a.tree ≡ b.tree = one_condition (subst (λ ts. SpellsCondition (said ts) a.tree) tokens a.spells) b.spells in
      cc (sym a.means ∙ ap (condition_at []) tree ∙ b.means)

  both : {field : List ℕ} {c d : Condition} → ((field ≡ []) × (c ≡ True)) ⊎ IsSpelled field c → ((field ≡ []) × (d ≡ True)) ⊎ IsSpelled field d → c ≡ d
  both (inl a) (inl b) = a.1 ∙ sym b.1
  both (inl a) (inr b) = absurd (empty_spells _ _ a.0 b)
  both (inr a) (inl b) = absurd (empty_spells _ _ b.0 a)
  both (inr a) (inr b) = spelled_once a b

-- rows
somes : {A : Type 0} (xs ys : List A) → map Some xs ≡ map Some ys → xs ≡ ys
somes [] [] e = refl
somes [] (y ∷ ys) e = absurd (let f = e in cc)
somes (x ∷ xs) [] e = absurd (let f = e in cc)
somes (x ∷ xs) (y ∷ ys) e =
    let first : x ≡ y = cc e in
    let rest : map Some xs ≡ map Some ys = ap (drop 1) e in
    λ i. first i ∷ somes xs ys rest i

row_once : (fields : List (List ℕ)) (r s : PlainRow) → SaysRow fields r → SaysRow fields s → r ≡ s
row_once fields r s a b =
    let cells = somes r.cells s.cells (sym a.cells ∙ b.cells) in
    let condition = condition_once a.condition b.condition in
    λ i. record { cells = cells i; condition = condition i }

rows_once : (records : List (List (List ℕ))) (rs ss : List PlainRow) → SayRows records rs → SayRows records ss → rs ≡ ss
rows_once [] [] [] a b = refl
rows_once [] [] (s ∷ ss) a b = absurd b
rows_once [] (r ∷ rs) ss a b = absurd a
rows_once (f ∷ fs) [] ss a b = absurd a
rows_once (f ∷ fs) (r ∷ rs) [] a b = absurd b
rows_once (f ∷ fs) (r ∷ rs) (s ∷ ss) a b = λ i. row_once f r s a.0 b.0 i ∷ rows_once fs rs ss a.1 b.1 i

pub says_one : SaysOneTable
says_one bytes cs ds rs ss a b =
    let records = have_one_list bytes a.records b.records a.csv b.csv in
    let columns : cs ≡ ds = cc (sym a.names ∙ ap header records ∙ b.names) in
    (columns, rows_once (drop 1 b.records) rs ss (subst (λ x. SayRows (drop 1 x) rs) records a.says) b.says)

-- what was exported is imported
pub takes_exports : TakesExports
takes_exports words columns rows bytes is = (
  λ e r. refuses_no_file bytes columns is.written e is.file r,
  λ name text i. says_one bytes i.columns columns i.rows is.written i.file is.file,
)
