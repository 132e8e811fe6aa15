-- What the steps of the readers of assertions show.
use Rattle.std.{proofs.Common.{◌≡◌, ℕ, Bool, true, false, List, ◌∷◌, refl, ap, sym, subst, ◌∙◌, arith}, specs.Prelude.{IsTrue, codes}, proofs.lemmas.Bool.false≢true}
use Rattle.ct_lex.specs.declared.token.Lexeme.{Lexeme}
use Rattle.ct_parse.{specs.declared.tree.Term.Term, specs.declared.tree.Comparison.Comparison, specs.declared.tree.Factor.Factor, specs.declared.tree.Condition.Condition}
use Rattle.ct_parse.{specs.declared.tree.Query.Query, specs.declared.tree.Statement.Statement}
use Rattle.ct_parse.specs.Grammar.{IsName, name, plain, qualified, IsTerm, column_term, IsComparison, equal, unequal, IsFactor, negated, compared, conjunction, IsCondition, condition, IsClosed, IsEnclosed, IsStatement, assert, assert_exists, assert_not_exists, assert_key, rows}
use Rattle.ct_parse.{specs.Ends.{Fails, at_name, at_word, EndsAnyhow, EndsCondition, EndsStatement}, specs.Reads.{Reads, Never}}
use Rattle.ct_parse.{proofs.Fronts.{tail, moved, word_term}, proofs.TermSteps.{reads_at, never_at}, proofs.TableSteps.alias_stands}
use Rattle.ct_parse.{proofs.Listed.{parts, both_read, no_first, no_second}, proofs.Combined.{not_word, Image, image, Renames, renamed, no_renamed}}
use Rattle.ct_parse.proofs.StatementSteps.{narrowed, narrowed_never, condition_at_end, word_query, Names, Created, created_pair}
use Rattle.ct_lex.specs.declared.token.Lexeme.TheVariants as lexeme
use Rattle.ct_parse.specs.declared.tree.Statement.TheVariants as statement

abbrev ASSERT : Lexeme
ASSERT = lexeme.Word (codes "assert")

abbrev NOT : Lexeme
NOT = lexeme.Word (codes "not")

abbrev EXISTS : Lexeme
EXISTS = lexeme.Word (codes "exists")

abbrev KEY : Lexeme
KEY = lexeme.Word (codes "key")

-- what is read behind ASSERT, with one and with two lexemes between, is read from ASSERT on
behind_assert : {ws r : List Lexeme} {st : Statement} → Reads (λ ws st r. IsStatement (ASSERT ∷ ws) st r) EndsStatement ws st r → Reads IsStatement EndsStatement (ASSERT ∷ ws) st r
behind_assert h = record { is = h.is; only = h.only; within = omega (arith, h.within) }

behind_word : {w : Lexeme} {ws r : List Lexeme} {st : Statement} → Reads (λ ws st r. IsStatement (ASSERT ∷ w ∷ ws) st r) EndsStatement ws st r
    → Reads IsStatement EndsStatement (ASSERT ∷ w ∷ ws) st r
behind_word h = record { is = h.is; only = h.only; within = omega (arith, h.within) }

behind_words : {v w : Lexeme} {ws r : List Lexeme} {st : Statement} → Reads (λ ws st r. IsStatement (ASSERT ∷ v ∷ w ∷ ws) st r) EndsStatement ws st r
    → Reads IsStatement EndsStatement (ASSERT ∷ v ∷ w ∷ ws) st r
behind_words h = record { is = h.is; only = h.only; within = omega (arith, h.within) }

-- no condition stands at EXISTS, at NOT EXISTS, or at the word `key` with a name behind it
exists_factor : {ws r : List Lexeme} {f : Factor} → IsFactor (EXISTS ∷ ws) f r → ⊥
exists_factor (compared s o t) = false≢true (word_term s)

exists_condition : {ws r : List Lexeme} {c : Condition} → IsCondition (EXISTS ∷ ws) c r → ⊥
exists_condition (condition (conjunction f l) m) = exists_factor f

not_exists_factor : {ws r : List Lexeme} {f : Factor} → IsFactor (NOT ∷ EXISTS ∷ ws) f r → ⊥
not_exists_factor (negated f) = exists_factor f
not_exists_factor (compared s o t) = false≢true (word_term s)

not_exists_condition : {ws r : List Lexeme} {c : Condition} → IsCondition (NOT ∷ EXISTS ∷ ws) c r → ⊥
not_exists_condition (condition (conjunction f l) m) = not_exists_factor f

key_compared : {ws m r : List Lexeme} {s : Term} {o : Comparison} → IsTerm (KEY ∷ ws) s m → IsComparison m o r → Fails (at_name ws)
key_compared (column_term (plain (name p))) equal = tt
key_compared (column_term (plain (name p))) unequal = tt
key_compared (column_term (qualified (name p) n)) o = tt

key_factor : {ws r : List Lexeme} {f : Factor} → IsFactor (KEY ∷ ws) f r → Fails (at_name ws)
key_factor (compared s o t) = key_compared s o

key_condition : {ws r : List Lexeme} {c : Condition} → IsCondition (KEY ∷ ws) c r → Fails (at_name ws)
key_condition (condition (conjunction f l) m) = key_factor f

-- EXISTS "(" query ")"
abbrev exists_of : Bool → Query → Statement
exists_of b q = statement.AssertExists b q

back_exists : {ws r : List Lexeme} {st : Statement} → IsStatement (ASSERT ∷ EXISTS ∷ ws) st r → Image IsEnclosed (exists_of false) ws st r
back_exists (assert c) = absurd (exists_condition c)
back_exists (assert_exists q) = image q
back_exists (rows q) = absurd (false≢true (word_query q))

exists_is : (ws : List Lexeme) → Renames IsEnclosed (exists_of false) (λ ws st r. IsStatement (ASSERT ∷ EXISTS ∷ ws) st r) ws
exists_is ws = record { into = λ q. assert_exists q; back = λ s. back_exists s }

pub exists_read : {m rest r : List Lexeme} {q : Query} → m ≡ EXISTS ∷ rest → Reads IsEnclosed EndsAnyhow rest q r → Reads IsStatement EndsStatement (ASSERT ∷ m) (statement.AssertExists false q) r
exists_read {rest = rest} f h =
    reads_at (ap (λ x. ASSERT ∷ x) f) (behind_word (renamed (exists_is rest) (narrowed {E = EndsAnyhow} tt h)))

pub no_exists : {m rest : List Lexeme} → m ≡ EXISTS ∷ rest → Never IsEnclosed EndsAnyhow rest → Never IsStatement EndsStatement (ASSERT ∷ m)
no_exists {rest = rest} f never =
    never_at IsStatement EndsStatement (ap (λ x. ASSERT ∷ x) f) (no_renamed (exists_is rest) (narrowed_never IsEnclosed EndsAnyhow tt never))

-- NOT EXISTS "(" query ")"
back_not_exists : {ws r : List Lexeme} {st : Statement} → IsStatement (ASSERT ∷ NOT ∷ EXISTS ∷ ws) st r → Image IsEnclosed (exists_of true) ws st r
back_not_exists (assert c) = absurd (not_exists_condition c)
back_not_exists (assert_not_exists q) = image q
back_not_exists (rows q) = absurd (false≢true (word_query q))

not_exists_is : (ws : List Lexeme) → Renames IsEnclosed (exists_of true) (λ ws st r. IsStatement (ASSERT ∷ NOT ∷ EXISTS ∷ ws) st r) ws
not_exists_is ws = record { into = λ q. assert_not_exists q; back = λ s. back_not_exists s }

pub not_exists_read : {m rest r : List Lexeme} {q : Query} → m ≡ NOT ∷ EXISTS ∷ rest → Reads IsEnclosed EndsAnyhow rest q r
    → Reads IsStatement EndsStatement (ASSERT ∷ m) (statement.AssertExists true q) r
not_exists_read {rest = rest} f h =
    reads_at (ap (λ x. ASSERT ∷ x) f) (behind_words (renamed (not_exists_is rest) (narrowed {E = EndsAnyhow} tt h)))

pub no_not_exists : {m rest : List Lexeme} → m ≡ NOT ∷ EXISTS ∷ rest → Never IsEnclosed EndsAnyhow rest → Never IsStatement EndsStatement (ASSERT ∷ m)
no_not_exists {rest = rest} f never =
    never_at IsStatement EndsStatement (ap (λ x. ASSERT ∷ x) f) (no_renamed (not_exists_is rest) (narrowed_never IsEnclosed EndsAnyhow tt never))

-- KEY name "(" name {"," name} ")"
abbrev key_of : List ℕ × Names → Statement
key_of p = statement.AssertKey p.0 p.1.0 p.1.1

into_key : {ws r : List Lexeme} {p : List ℕ × Names} → Created ws p r → IsStatement (ASSERT ∷ KEY ∷ ws) (key_of p) r
into_key (parts n c) = assert_key n c

back_key : {ws r : List Lexeme} {st : Statement} → IsTrue (at_name ws) → IsStatement (ASSERT ∷ KEY ∷ ws) st r → Image Created key_of ws st r
back_key named (assert c) = absurd (subst Fails named (key_condition c))
back_key named (assert_key n c) = image (parts n c)
back_key named (rows q) = absurd (false≢true (word_query q))

key_is : {ws : List Lexeme} → IsTrue (at_name ws) → Renames Created key_of (λ ws st r. IsStatement (ASSERT ∷ KEY ∷ ws) st r) ws
key_is named = record { into = λ p. into_key p; back = λ s. back_key named s }

pub key_read : {ws m r : List Lexeme} {n : List ℕ} {p : Names} → IsTrue (at_name ws) → Reads IsName EndsAnyhow ws n m → Reads (IsClosed IsName) EndsAnyhow m p r
    → Reads IsStatement EndsStatement (ASSERT ∷ KEY ∷ ws) (key_of (n, p)) r
key_read named h i = behind_word (renamed (key_is named) (both_read created_pair h (narrowed {E = EndsAnyhow} tt i)))

pub no_key_name : {ws : List Lexeme} → IsTrue (at_name ws) → Never IsName EndsAnyhow ws → Never IsStatement EndsStatement (ASSERT ∷ KEY ∷ ws)
no_key_name named never = no_renamed (key_is named) (no_first created_pair never)

pub no_key_columns : {ws m : List Lexeme} {n : List ℕ} → IsTrue (at_name ws) → Reads IsName EndsAnyhow ws n m → Never (IsClosed IsName) EndsAnyhow m
    → Never IsStatement EndsStatement (ASSERT ∷ KEY ∷ ws)
no_key_columns named h never = no_renamed (key_is named) (no_second created_pair h (narrowed_never (IsClosed IsName) EndsAnyhow tt never))

-- the word `key` does not stand in front, or no name stands behind it
pub no_key : {ws rest : List Lexeme} → ws ≡ KEY ∷ rest → at_name rest ≡ false → (r : List Lexeme) → ws ≡ KEY ∷ r → Fails (at_name r)
no_key e fails r f = subst Fails (sym (ap at_name (ap tail (sym f ∙ e)) ∙ fails)) tt

pub no_key_word : {ws : List Lexeme} → Fails (at_word (codes "key") ws) → (r : List Lexeme) → ws ≡ KEY ∷ r → Fails (at_name r)
no_key_word fails r f = absurd (not_word (codes "key") fails r f)

-- ASSERT cond: no other assertion's words stand in front
pub record OnlyCondition (ws : List Lexeme) : Type 0 where
  pub exists : (r : List Lexeme) → ws ≡ EXISTS ∷ r → ⊥
  pub not_exists : (r : List Lexeme) → ws ≡ NOT ∷ EXISTS ∷ r → ⊥
  pub key : (r : List Lexeme) → ws ≡ KEY ∷ r → Fails (at_name r)

back_assert : {ws r : List Lexeme} {st : Statement} → OnlyCondition ws → IsStatement (ASSERT ∷ ws) st r → Image IsCondition statement.Assert ws st r
back_assert p (assert c) = image c
back_assert p (assert_exists q) = absurd (p.exists _ refl)
back_assert p (assert_not_exists q) = absurd (p.not_exists _ refl)
back_assert p (assert_key n c) = absurd (alias_stands n (p.key _ refl))
back_assert p (rows q) = absurd (false≢true (word_query q))

condition_is : {ws : List Lexeme} → OnlyCondition ws → Renames IsCondition statement.Assert (λ ws st r. IsStatement (ASSERT ∷ ws) st r) ws
condition_is p = record { into = λ c. assert c; back = λ s. back_assert p s }

pub condition_read : {ws r : List Lexeme} {c : Condition} → OnlyCondition ws → Reads IsCondition EndsCondition ws c r → Reads IsStatement EndsStatement (ASSERT ∷ ws) (statement.Assert c) r
condition_read p h = behind_assert (renamed (condition_is p) (narrowed {E = EndsCondition} condition_at_end h))

pub no_condition_read : {ws : List Lexeme} → OnlyCondition ws → Never IsCondition EndsCondition ws → Never IsStatement EndsStatement (ASSERT ∷ ws)
no_condition_read p never = no_renamed (condition_is p) (narrowed_never IsCondition EndsCondition condition_at_end never)

-- a condition is none of the others
pub only_condition : {ws r : List Lexeme} {c : Condition} → IsCondition ws c r → OnlyCondition ws
only_condition c = record {
  exists = λ r e. exists_condition (moved IsCondition e c);
  not_exists = λ r e. not_exists_condition (moved IsCondition e c);
  key = λ r e. key_condition (moved IsCondition e c);
}
