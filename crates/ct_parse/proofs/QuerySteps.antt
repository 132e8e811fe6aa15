-- What the steps of the readers of queries show.
use Rattle.std.{proofs.Common.{◌≡◌, Bool, true, false, List, ◌∷◌, Option, refl, sym, subst, arith}, specs.Prelude.codes}
use Rattle.ct_lex.specs.declared.token.Lexeme.{Lexeme}
use Rattle.ct_parse.{specs.declared.tree.Column.Column, specs.declared.tree.Condition.Condition, specs.declared.tree.Items.Items, specs.Reads.{Reads, Never}}
use Rattle.ct_parse.{specs.Source.{IsSource, source}, specs.declared.tree.Tables.Tables, specs.declared.tree.Select.Select, specs.declared.tree.Query.Query}
use Rattle.ct_parse.{specs.declared.tree.SetOperator.SetOperator, specs.declared.tree.QueryPrimary.QueryPrimary, specs.declared.tree.QueryTerm.QueryTerm}
use Rattle.ct_parse.specs.Grammar.{HasCondition, no_condition, a_condition, item, IsColumn, plain, qualified, AreItems, star, listed, AreTables, IsDistinct, not_distinct, distinct, IsSelect, select, IsSetOperator, union, except, query_of, IsPrimary, nested_query, select_query, ArePrimaries, no_primary, intersect, IsQueryTerm, query_term, AreTerms, no_term, combined, IsQuery, query, IsEnclosed, enclosed}
use Rattle.ct_parse.specs.Ends.{Fails, at_word, at_operator, EndsAnyhow, EndsBehind, EndsItems, EndsTables, EndsDistinct, EndsSelect, EndsQueryTerm, EndsQuery}
use Rattle.ct_parse.{proofs.Fronts.{Same, moved}, proofs.TermSteps.reads_at, proofs.Listed.{Behind, Cases, ended, split, Lists, Parts, parts, Pairs}}
use Rattle.ct_parse.proofs.Combined.{not_word, name_apart, CLOSE, Then, Both, pair_of, Image, image, Led}
use Rattle.ct_lex.specs.declared.token.Lexeme.TheVariants as lexeme
use Rattle.ct_lex.specs.declared.token.Symbol.TheVariants as symbol
use Rattle.ct_parse.specs.declared.tree.SetOperator.TheVariants as operator
use Rattle.ct_parse.specs.declared.tree.QueryPrimary.TheVariants as primary

-- [DISTINCT]
distinct_only : {r r' : List Lexeme} {b : Bool} → EndsDistinct r' → IsDistinct (lexeme.Word (codes "distinct") ∷ r) b r' → Same b true r' r
distinct_only e not_distinct = absurd e
distinct_only e distinct = (refl, refl)

pub distinct_read : {ws r : List Lexeme} → ws ≡ lexeme.Word (codes "distinct") ∷ r → Reads IsDistinct EndsDistinct ws true r
distinct_read f = reads_at f (record { is = distinct; only = λ t r e x. distinct_only e x; within = omega arith })

not_distinct_only : {ws r : List Lexeme} {b : Bool} → Fails (at_word (codes "distinct") ws) → IsDistinct ws b r → Same b false r ws
not_distinct_only fails not_distinct = (refl, refl)
not_distinct_only fails distinct = absurd fails

pub not_distinct_read : {ws : List Lexeme} → Fails (at_word (codes "distinct") ws) → Reads IsDistinct EndsDistinct ws false ws
not_distinct_read fails = record { is = not_distinct; only = λ t r e x. not_distinct_only fails x; within = omega arith }

-- FROM from [WHERE cond]
abbrev Filter : List Lexeme → Option Condition → List Lexeme → Type 0
Filter = HasCondition (codes "where")

abbrev Sources : List Lexeme → Tables × Option Condition → List Lexeme → Type 0
Sources = Both AreTables Filter

-- the condition of a SELECT ends where the SELECT does
pub filter_reads : {ws r : List Lexeme} {o : Option Condition} → Reads Filter (EndsBehind (codes "where")) ws o r → Reads Filter EndsSelect ws o r
filter_reads h = record { is = h.is; only = λ t r e x. h.only t r (e.0, e.1.1.1) x; within = h.within }

pub no_filter : {ws : List Lexeme} → Never Filter (EndsBehind (codes "where")) ws → Never Filter EndsSelect ws
no_filter never = λ t r e x. never t r (e.0, e.1.1.1) x

pub before_filter : {ws r : List Lexeme} {o : Option Condition} → Filter ws o r → EndsSelect r → EndsTables ws
before_filter no_condition e = e.1
before_filter (a_condition x) e = (tt, ((tt, tt), (tt, (tt, tt))))

pub source_pair : Pairs AreTables EndsTables Filter EndsSelect (λ x y. (x, y)) Sources
source_pair = pair_of AreTables EndsTables Filter EndsSelect (λ ws r y c e. before_filter c e)

into_source : {ws r : List Lexeme} {p : Tables × Option Condition} → Sources ws p r → IsSource (lexeme.Word (codes "from") ∷ ws) p r
into_source (parts t c) = source t c

back_source : {ws r : List Lexeme} {p : Tables × Option Condition} → IsSource (lexeme.Word (codes "from") ∷ ws) p r → Image Sources (λ p. p) ws p r
back_source (source t c) = image (parts t c)

pub sourcing : Led (lexeme.Word (codes "from")) Sources EndsSelect (λ p. p) IsSource EndsSelect
sourcing = record { into = λ p. into_source p; back = λ s e. back_source s; ends = λ r e. e }

pub no_from : {ws : List Lexeme} → Fails (at_word (codes "from") ws) → Never IsSource EndsSelect ws
no_from fails p r e (source t c) = fails

-- SELECT [DISTINCT] items, and the source behind them, as pairs
abbrev Shown : List Lexeme → Items × (Tables × Option Condition) → List Lexeme → Type 0
Shown = Both AreItems IsSource

abbrev Shape : Type 0
Shape = Bool × (Items × (Tables × Option Condition))

abbrev Selected : List Lexeme → Shape → List Lexeme → Type 0
Selected = Both IsDistinct Shown

column_apart : {ws r : List Lexeme} {c : Column} → IsColumn ws c r → EndsDistinct ws
column_apart (plain n) = name_apart (codes "distinct") refl n
column_apart (qualified n m) = name_apart (codes "distinct") refl n

pub items_apart : {ws r : List Lexeme} {i : Items} → AreItems ws i r → EndsDistinct ws
items_apart star = tt
items_apart (listed (item c a) l) = column_apart c

before_source : {ws r : List Lexeme} {p : Tables × Option Condition} → IsSource ws p r → EndsItems ws
before_source (source t c) = (tt, (tt, tt))

before_shown : {ws r : List Lexeme} {y : Items × (Tables × Option Condition)} → Shown ws y r → EndsDistinct ws
before_shown (parts i s) = items_apart i

pub shown_pair : Pairs AreItems EndsItems IsSource EndsSelect (λ x y. (x, y)) Shown
shown_pair = pair_of AreItems EndsItems IsSource EndsSelect (λ ws r y s e. before_source s)

pub distinct_pair : Pairs IsDistinct EndsDistinct Shown EndsSelect (λ x y. (x, y)) Selected
distinct_pair = pair_of IsDistinct EndsDistinct Shown EndsSelect (λ ws r y s e. before_shown s)

abbrev pub select_of : Shape → QueryPrimary
select_of p = primary.Select (record { is_distinct = p.0; items = p.1.0; tables = p.1.1.0; condition = p.1.1.1 })

into_select : {ws r : List Lexeme} {p : Shape} → Selected ws p r → IsPrimary (lexeme.Word (codes "select") ∷ ws) (select_of p) r
into_select (parts d (parts i (source t c))) = select_query (select d i t c)

back_select : {ws r : List Lexeme} {p : QueryPrimary} → IsPrimary (lexeme.Word (codes "select") ∷ ws) p r → Image Selected select_of ws p r
back_select (select_query (select d i t c)) = image (parts d (parts i (source t c)))

pub selecting : Led (lexeme.Word (codes "select")) Selected EndsSelect select_of IsPrimary EndsSelect
selecting = record { into = λ s. into_select s; back = λ p e. back_select p; ends = λ r e. e }

pub no_select : {ws : List Lexeme} → Fails (at_word (codes "select") ws) → ((r : List Lexeme) → ws ≡ lexeme.Symbol symbol.LeftParen ∷ r → ⊥) → Never IsPrimary EndsSelect ws
no_select fails paren p r e (nested_query q) = paren _ refl
no_select fails paren p r e (select_query (select d i t c)) = fails

-- UNION and EXCEPT
one_operator : {ws r r' : List Lexeme} {o o' : SetOperator} → IsSetOperator ws o r → IsSetOperator ws o' r' → Same o o' r r'
one_operator union union = (refl, refl)
one_operator except except = (refl, refl)

pub union_read : {ws r : List Lexeme} → ws ≡ lexeme.Word (codes "union") ∷ r → Reads IsSetOperator EndsAnyhow ws operator.Union r
union_read f = reads_at f (record { is = union; only = λ t r e x. one_operator x union; within = omega arith })

pub except_read : {ws r : List Lexeme} → ws ≡ lexeme.Word (codes "except") ∷ r → Reads IsSetOperator EndsAnyhow ws operator.Except r
except_read f = reads_at f (record { is = except; only = λ t r e x. one_operator x except; within = omega arith })

pub stands_operator : {ws r : List Lexeme} {o : SetOperator} → IsSetOperator ws o r → Fails (at_operator ws) → ⊥
stands_operator union fails = fails
stands_operator except fails = fails

-- primaries
pub ends_at_paren : (r : List Lexeme) → EndsQuery (lexeme.Symbol symbol.RightParen ∷ r)
ends_at_paren r = (tt, (tt, (tt, (tt, ((tt, tt), (tt, (tt, tt)))))))

pub paren_select : {ws r : List Lexeme} {s : Select} → IsSelect (lexeme.Symbol symbol.LeftParen ∷ ws) s r → ⊥
paren_select s = elim s [ ]

back_nested : {ws r : List Lexeme} {p : QueryPrimary} → IsPrimary (lexeme.Symbol symbol.LeftParen ∷ ws) p r → Image (Then IsQuery CLOSE) primary.Nested ws p r
back_nested (nested_query q) = image q
back_nested (select_query s) = absurd (paren_select s)

pub nesting : Led (lexeme.Symbol symbol.LeftParen) (Then IsQuery CLOSE) EndsAnyhow primary.Nested IsPrimary EndsSelect
nesting = record { into = λ q. nested_query q; back = λ p e. back_nested p; ends = λ r e. tt }

-- "(" query ")"
back_enclosed : {ws r : List Lexeme} {q : Query} → IsEnclosed (lexeme.Symbol symbol.LeftParen ∷ ws) q r → Image (Then IsQuery CLOSE) (λ q. q) ws q r
back_enclosed (enclosed q) = image q

pub enclosing : Led (lexeme.Symbol symbol.LeftParen) (Then IsQuery CLOSE) EndsAnyhow (λ q. q) IsEnclosed EndsAnyhow
enclosing = record { into = λ q. enclosed q; back = λ p e. back_enclosed p; ends = λ r e. tt }

pub no_paren : {ws : List Lexeme} → ((r : List Lexeme) → ws ≡ lexeme.Symbol symbol.LeftParen ∷ r → ⊥) → Never IsEnclosed EndsAnyhow ws
no_paren never q r e (enclosed x) = never _ refl

-- primaries behind INTERSECT
abbrev INTERSECT : Lexeme
INTERSECT = lexeme.Word (codes "intersect")

cases_of_primaries : {ws r : List Lexeme} {ps : List QueryPrimary} → ArePrimaries ws ps r → Cases (Behind INTERSECT IsPrimary) ArePrimaries ws ps r
cases_of_primaries no_primary = ended
cases_of_primaries (intersect p l) = split (_, refl, p) l

before_primaries : {ws r : List Lexeme} {ps : List QueryPrimary} → ArePrimaries ws ps r → EndsQueryTerm r → EndsSelect ws
before_primaries no_primary e = e.1
before_primaries (intersect p l) e = (tt, (tt, ((tt, tt), (tt, (tt, tt)))))

pub primary_list : Lists (Behind INTERSECT IsPrimary) EndsSelect EndsQueryTerm ArePrimaries
primary_list = record {
  none = no_primary;
  more = λ b l. moved ArePrimaries (sym b.1) (intersect b.2 l);
  cases = λ l. cases_of_primaries l;
  before = λ l e. before_primaries l e;
  apart = λ b e. (subst EndsQueryTerm b.1 e).0;
}

pub no_intersect : {ws : List Lexeme} → Fails (at_word (codes "intersect") ws) → (p : QueryPrimary) (m : List Lexeme) → Behind INTERSECT IsPrimary ws p m → ⊥
no_intersect fails p m b = not_word (codes "intersect") fails _ b.1

abbrev pub term_of : QueryPrimary → List QueryPrimary → QueryTerm
term_of p ps = record { first = p; rest = ps }

parts_of_term : {ws r : List Lexeme} {t : QueryTerm} → IsQueryTerm ws t r → Parts IsPrimary ArePrimaries term_of ws t r
parts_of_term (query_term p l) = parts p l

pub term_pair : Pairs IsPrimary EndsSelect ArePrimaries EndsQueryTerm term_of IsQueryTerm
term_pair = record { both = λ p l. query_term p l; cases = λ t. parts_of_term t; before = λ l e. before_primaries l e }

-- terms behind UNION and EXCEPT
abbrev pub Combined : List Lexeme → SetOperator × QueryTerm → List Lexeme → Type 0
Combined = Both IsSetOperator IsQueryTerm

pub combined_pair : Pairs IsSetOperator EndsAnyhow IsQueryTerm EndsQueryTerm (λ x y. (x, y)) Combined
combined_pair = pair_of IsSetOperator EndsAnyhow IsQueryTerm EndsQueryTerm (λ ws r y c e. tt)

more_terms : {ws m r : List Lexeme} {p : SetOperator × QueryTerm} {ts : List (SetOperator × QueryTerm)} → Combined ws p m → AreTerms m ts r → AreTerms ws (p ∷ ts) r
more_terms (parts o t) l = combined o t l

cases_of_terms : {ws r : List Lexeme} {ts : List (SetOperator × QueryTerm)} → AreTerms ws ts r → Cases Combined AreTerms ws ts r
cases_of_terms no_term = ended
cases_of_terms (combined o t l) = split (parts o t) l

operator_ends : {ws r : List Lexeme} {o : SetOperator} → IsSetOperator ws o r → EndsQueryTerm ws
operator_ends union = (tt, (tt, (tt, ((tt, tt), (tt, (tt, tt))))))
operator_ends except = (tt, (tt, (tt, ((tt, tt), (tt, (tt, tt))))))

before_terms : {ws r : List Lexeme} {ts : List (SetOperator × QueryTerm)} → AreTerms ws ts r → EndsQuery r → EndsQueryTerm ws
before_terms no_term e = e.1
before_terms (combined o t l) e = operator_ends o

pub no_operator : {ws : List Lexeme} → Fails (at_operator ws) → (p : SetOperator × QueryTerm) (m : List Lexeme) → Combined ws p m → ⊥
no_operator fails p m c = none c fails
  where
    none : {ws r : List Lexeme} {p : SetOperator × QueryTerm} → Combined ws p r → Fails (at_operator ws) → ⊥
    none (parts o t) fails = stands_operator o fails

pub term_list : Lists Combined EndsQueryTerm EndsQuery AreTerms
term_list = record {
  none = no_term;
  more = λ c l. more_terms c l;
  cases = λ l. cases_of_terms l;
  before = λ l e. before_terms l e;
  apart = λ c e. no_operator e.0 _ _ c;
}

parts_of_query : {ws r : List Lexeme} {q : Query} → IsQuery ws q r → Parts IsQueryTerm AreTerms query_of ws q r
parts_of_query (query t l) = parts t l

pub query_pair : Pairs IsQueryTerm EndsQueryTerm AreTerms EndsQuery query_of IsQuery
query_pair = record { both = λ t l. query t l; cases = λ q. parts_of_query q; before = λ l e. before_terms l e }
