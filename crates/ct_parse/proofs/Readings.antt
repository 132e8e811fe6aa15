-- Lexemes have one reading: whatever is spelled is what a reader would find, and nothing else.
use Rattle.std.{proofs.Common.{◌≡◌, ℕ, List, [], refl, sym, subst}, specs.Prelude.{Bool, Option, IsTrue, codes}}
use Rattle.ct_lex.specs.declared.token.Lexeme.{Lexeme}
use Rattle.ct_parse.{specs.declared.tree.Column.Column, specs.declared.tree.Term.Term, specs.declared.tree.Comparison.Comparison, specs.declared.tree.Cell.Cell}
use Rattle.ct_parse.{specs.declared.tree.Factor.Factor, specs.declared.tree.Conjunction.Conjunction, specs.declared.tree.Condition.Condition, specs.Reads.Reads}
use Rattle.ct_parse.{specs.declared.tree.Row.Row, specs.declared.tree.Item.Item, specs.declared.tree.Items.Items, specs.declared.tree.Table.Table}
use Rattle.ct_parse.{specs.declared.tree.Joined.Joined, specs.declared.tree.Tables.Tables, specs.declared.tree.Query.Query, specs.Source.{IsSource, source}}
use Rattle.ct_parse.{specs.declared.tree.SetOperator.SetOperator, specs.declared.tree.QueryPrimary.QueryPrimary, specs.declared.tree.QueryTerm.QueryTerm}
use Rattle.ct_parse.{specs.declared.tree.Assignment.Assignment, specs.declared.tree.Statement.Statement, specs.Parses.{Spells, SpellsCondition}, proofs.Fronts.{moved, before_comparison}}
use Rattle.ct_parse.specs.Grammar.{IsName, name, IsColumn, plain, qualified, IsTerm, number_term, text_term, null_term, column_term, IsComparison, equal, unequal, IsFactor, negated, nested, true_factor, false_factor, compared, AreFactors, no_factor, and_factor, IsConjunction, conjunction, AreConjunctions, no_conjunction, or_conjunction, IsCondition, condition, AreMore, no_more, one_more, IsClosed, closed, IsCell, number_cell, text_cell, null_cell, new_null, IsRow, row, HasCondition, no_condition, a_condition, HasName, no_name, as_name, IsItem, item, AreItems, star, listed, HasAlias, no_alias, alias, as_alias, IsTable, table, IsTableOn, table_on, IsJoined, comma, join, inner_join, AreJoined, none_joined, more_joined, AreTables, tables, IsDistinct, not_distinct, distinct, select, IsSetOperator, union, except, IsPrimary, nested_query, select_query, ArePrimaries, no_primary, intersect, IsQueryTerm, query_term, AreTerms, no_term, combined, IsQuery, query, IsAssignment, assignment, IsEnclosed, enclosed, IsStatement, create, insert_rows, insert_query, delete, update, assert, assert_exists, assert_not_exists, assert_key, rows, possible, certain, begin, commit, rollback}
use Rattle.ct_parse.specs.Ends.{Fails, at_name, at_word, EndsAnyhow, EndsColumn, EndsConjunction, EndsCondition, EndsBehind, EndsItem, EndsItems, EndsTable, EndsJoined, EndsTables, EndsDistinct, EndsSelect, EndsQueryTerm, EndsQuery, EndsStatement}
use Rattle.ct_parse.proofs.TermSteps.{narrow, name_reads, plain_reads, qualified_reads, number_reads, text_reads, null_reads, column_reads, equal_reads, unequal_reads}
use Rattle.ct_parse.{proofs.Listed.{behind_reads, none_read, more_read, both_read}, proofs.RowSteps.{closed_read, row_is, new_null_reads}}
use Rattle.ct_parse.proofs.ConditionSteps.{negation, nesting, ends_at_close, true_read, false_read, compared_read, factors, conjunctions, conjunction_pair, condition_pair}
use Rattle.ct_parse.proofs.Combined.{CLOSE, then_read, renamed, led_read, part_list, listed_pair, list_ends_at_close, condition_led, has_none_read}
use Rattle.ct_parse.proofs.TableSteps.{naming, no_as_read, item_pair, symbol_item, star_read, listed_is, aliasing, alias_stands, alias_read, no_alias_read, table_pair, ON, on_pair, on_is, ends_at_on, comma_led, join_led, inner_led, joined_list, tables_read}
use Rattle.ct_parse.proofs.QuerySteps.{distinct_read, not_distinct_read, items_apart, before_filter, filter_reads, source_pair, sourcing, shown_pair, distinct_pair, selecting, union_read, except_read, ends_at_paren, enclosing, primary_list, term_pair, combined_pair, term_list, query_pair}
use Rattle.ct_parse.proofs.StatementSteps.{query_at_end, condition_at_end, behind_at_end, before_condition, apart_from_if, apart_from_where, grouped_read, assignment_read, updating, create_read, delete_read, insert_rows_read, insert_query_read, asking_possible, asking_certain, begin_read, commit_read, rollback_read, OnlyQuery, rows_read}
use Rattle.ct_parse.proofs.AssertSteps.{exists_read, not_exists_read, key_read, condition_read, only_condition}
use Rattle.ct_parse.proofs.RowSteps as cells
use Rattle.ct_parse.proofs.QuerySteps as queries

-- names, columns, terms
reads_name : {ws r : List Lexeme} {n : List ℕ} → IsName ws n r → Reads IsName EndsAnyhow ws n r
reads_name (name p) = name_reads p refl refl

reads_column : {ws r : List Lexeme} {c : Column} → IsColumn ws c r → EndsColumn r → Reads IsColumn EndsColumn ws c r
reads_column (plain n) e = plain_reads (reads_name n) (λ x f. subst EndsColumn f e)
reads_column (qualified n m) e = qualified_reads (reads_name n) refl (reads_name m)

reads_term : {ws r : List Lexeme} {t : Term} → IsTerm ws t r → EndsColumn r → Reads IsTerm EndsColumn ws t r
reads_term number_term e = number_reads refl refl
reads_term text_term e = text_reads refl refl
reads_term null_term e = null_reads refl refl
reads_term (column_term c) e = column_reads (reads_column c e)

reads_comparison : {ws r : List Lexeme} {o : Comparison} → IsComparison ws o r → Reads IsComparison EndsAnyhow ws o r
reads_comparison equal = equal_reads refl refl
reads_comparison unequal = unequal_reads refl refl

mutual
  reads_factor : {ws r : List Lexeme} {f : Factor} → IsFactor ws f r → EndsColumn r → Reads IsFactor EndsColumn ws f r
  reads_factor (negated f) e = led_read negation refl (reads_factor f e)
  reads_factor (nested c) e = led_read nesting refl (then_read CLOSE ends_at_close (reads_condition c (tt, (tt, tt))) refl)
  reads_factor true_factor e = true_read refl
  reads_factor false_factor e = false_read refl
  reads_factor (compared s o t) e = compared_read (reads_term s (before_comparison o)) (reads_comparison o) (reads_term t e)

  reads_factors : {ws r : List Lexeme} {fs : List Factor} → AreFactors ws fs r → EndsConjunction r → Reads AreFactors EndsConjunction ws fs r
  reads_factors no_factor e = none_read factors e
  reads_factors (and_factor f l) e = more_read factors (behind_reads refl (reads_factor f (factors.before l e))) (reads_factors l e)

  reads_conjunction : {ws r : List Lexeme} {c : Conjunction} → IsConjunction ws c r → EndsConjunction r → Reads IsConjunction EndsConjunction ws c r
  reads_conjunction (conjunction f l) e = both_read conjunction_pair (reads_factor f (factors.before l e)) (reads_factors l e)

  reads_conjunctions : {ws r : List Lexeme} {cs : List Conjunction} → AreConjunctions ws cs r → EndsCondition r → Reads AreConjunctions EndsCondition ws cs r
  reads_conjunctions no_conjunction e = none_read conjunctions e
  reads_conjunctions (or_conjunction c l) e = more_read conjunctions (behind_reads refl (reads_conjunction c (conjunctions.before l e))) (reads_conjunctions l e)

  reads_condition : {ws r : List Lexeme} {c : Condition} → IsCondition ws c r → EndsCondition r → Reads IsCondition EndsCondition ws c r
  reads_condition (condition c l) e = both_read condition_pair (reads_conjunction c (conjunctions.before l e)) (reads_conjunctions l e)

-- lists behind commas, and in parentheses
reads_more : {T : Type 0} (X : List Lexeme → T → List Lexeme → Type 0) → ((ws r : List Lexeme) (x : T) → X ws x r → EndsItem r → Reads X EndsItem ws x r) → {ws r : List Lexeme} {xs : List T}
    → AreMore X ws xs r → EndsItems r → Reads (AreMore X) EndsItems ws xs r
reads_more X reads no_more e = none_read (part_list X) e
reads_more X reads (one_more x l) e = more_read (part_list X) (behind_reads refl (reads _ _ _ x ((part_list X).before l e))) (reads_more X reads l e)

reads_closed : {T : Type 0} (X : List Lexeme → T → List Lexeme → Type 0) → ((ws r : List Lexeme) (x : T) → X ws x r → EndsItem r → Reads X EndsItem ws x r) → {ws r : List Lexeme} {p : T × List T}
    → IsClosed X ws p r → Reads (IsClosed X) EndsAnyhow ws p r
reads_closed X reads (closed {r = r} x l) =
    closed_read X refl (reads _ _ _ x ((part_list X).before l (list_ends_at_close r))) (reads_more X reads l (list_ends_at_close r)) refl

-- a name in a list
reads_part : {ws r : List Lexeme} {n : List ℕ} → IsName ws n r → Reads IsName EndsItem ws n r
reads_part n = narrow {E = EndsAnyhow} (λ r e. tt) (reads_name n)

reads_cell : {ws r : List Lexeme} {c : Cell} → IsCell ws c r → Reads IsCell EndsItem ws c r
reads_cell number_cell = cells.number_reads refl refl
reads_cell text_cell = cells.text_reads refl refl
reads_cell null_cell = cells.null_reads refl refl
reads_cell new_null = new_null_reads refl

reads_row : {ws r : List Lexeme} {w : Row} → IsRow ws w r → Reads IsRow EndsItem ws w r
reads_row (row c) = renamed (row_is _) (narrow {E = EndsAnyhow} (λ r e. tt) (reads_closed IsCell (λ ws r x c e. reads_cell c) c))

reads_has : {w : List ℕ} {ws r : List Lexeme} {o : Option Condition} → HasCondition w ws o r → EndsBehind w r → Reads (HasCondition w) (EndsBehind w) ws o r
reads_has no_condition e = has_none_read e.0
reads_has (a_condition c) e = led_read (condition_led _) refl (reads_condition c e.1)

-- assignments
reads_assignment : {ws r : List Lexeme} {a : Assignment} → IsAssignment ws a r → EndsItem r → Reads IsAssignment EndsItem ws a r
reads_assignment (assignment n t) e = assignment_read (reads_name n) refl (reads_term t e.1)

-- items
reads_as : {ws r : List Lexeme} {o : Option (List ℕ)} → HasName ws o r → EndsItem r → Reads HasName EndsItem ws o r
reads_as no_name e = no_as_read e.0
reads_as (as_name n) e = led_read naming refl (reads_name n)

reads_item : {ws r : List Lexeme} {i : Item} → IsItem ws i r → EndsItem r → Reads IsItem EndsItem ws i r
reads_item (item c a) e = both_read item_pair (reads_column c (item_pair.before a e)) (reads_as a e)

reads_items : {ws r : List Lexeme} {i : Items} → AreItems ws i r → EndsItems r → Reads AreItems EndsItems ws i r
reads_items star e = star_read refl
reads_items (listed i l) e =
    renamed (listed_is (λ x f. symbol_item (moved IsItem f i)))
    (both_read (listed_pair IsItem) (reads_item i ((part_list IsItem).before l e)) (reads_more IsItem (λ ws r x i e. reads_item i e) l e))

-- tables
reads_alias : {ws r : List Lexeme} {o : _} → HasAlias ws o r → EndsTable r → Reads HasAlias EndsTable ws o r
reads_alias no_alias e = no_alias_read e.1 (λ n r any x. alias_stands x e.0)
reads_alias (alias n) e = alias_read (reads_name n)
reads_alias (as_alias n) e = led_read aliasing refl (reads_name n)

reads_table : {ws r : List Lexeme} {t : Table} → IsTable ws t r → EndsTable r → Reads IsTable EndsTable ws t r
reads_table (table n a) e = both_read table_pair (reads_name n) (reads_alias a e)

reads_on : {ws r : List Lexeme} {p : Table × Condition} → IsTableOn ws p r → EndsCondition r → Reads IsTableOn EndsCondition ws p r
reads_on (table_on t c) e = renamed (on_is _) (both_read on_pair (then_read ON ends_at_on (reads_table t (tt, tt)) refl) (reads_condition c e))

reads_joined : {ws r : List Lexeme} {j : Joined} → IsJoined ws j r → EndsJoined r → Reads IsJoined EndsJoined ws j r
reads_joined (comma t) e = led_read comma_led refl (reads_table t e.0)
reads_joined (join p) e = led_read join_led refl (reads_on p e.1)
reads_joined (inner_join p) e = led_read inner_led refl (behind_reads refl (reads_on p e.1))

reads_all_joined : {ws r : List Lexeme} {js : List Joined} → AreJoined ws js r → EndsTables r → Reads AreJoined EndsTables ws js r
reads_all_joined none_joined e = none_read joined_list e
reads_all_joined (more_joined j l) e = more_read joined_list (reads_joined j (joined_list.before l e)) (reads_all_joined l e)

reads_tables : {ws r : List Lexeme} {t : Tables} → AreTables ws t r → EndsTables r → Reads AreTables EndsTables ws t r
reads_tables (tables t l few) e = tables_read (reads_table t (joined_list.before l e).0) (reads_all_joined l e) few

-- queries
reads_distinct : {ws r : List Lexeme} {b : Bool} → IsDistinct ws b r → EndsDistinct r → Reads IsDistinct EndsDistinct ws b r
reads_distinct not_distinct e = not_distinct_read e
reads_distinct distinct e = distinct_read refl

reads_source : {ws r : List Lexeme} {p : Tables × Option Condition} → IsSource ws p r → EndsSelect r → Reads IsSource EndsSelect ws p r
reads_source (source t c) e = led_read sourcing refl (both_read source_pair (reads_tables t (before_filter c e)) (filter_reads (reads_has c (e.0, e.1.1.1))))

reads_operator : {ws r : List Lexeme} {o : SetOperator} → IsSetOperator ws o r → Reads IsSetOperator EndsAnyhow ws o r
reads_operator union = union_read refl
reads_operator except = except_read refl

mutual
  reads_primary : {ws r : List Lexeme} {p : QueryPrimary} → IsPrimary ws p r → EndsSelect r → Reads IsPrimary EndsSelect ws p r
  reads_primary (nested_query {r = r} q) e = led_read queries.nesting refl (then_read CLOSE ends_at_paren (reads_query q (ends_at_paren r)) refl)
  reads_primary (select_query (select d i t c)) e =
      led_read selecting refl (both_read distinct_pair (reads_distinct d (items_apart i)) (both_read shown_pair (reads_items i (tt, (tt, tt))) (reads_source (source t c) e)))

  reads_primaries : {ws r : List Lexeme} {ps : List QueryPrimary} → ArePrimaries ws ps r → EndsQueryTerm r → Reads ArePrimaries EndsQueryTerm ws ps r
  reads_primaries no_primary e = none_read primary_list e
  reads_primaries (intersect p l) e = more_read primary_list (behind_reads refl (reads_primary p (primary_list.before l e))) (reads_primaries l e)

  reads_query_term : {ws r : List Lexeme} {t : QueryTerm} → IsQueryTerm ws t r → EndsQueryTerm r → Reads IsQueryTerm EndsQueryTerm ws t r
  reads_query_term (query_term p l) e = both_read term_pair (reads_primary p (primary_list.before l e)) (reads_primaries l e)

  reads_terms : {ws r : List Lexeme} {ts : List (SetOperator × QueryTerm)} → AreTerms ws ts r → EndsQuery r → Reads AreTerms EndsQuery ws ts r
  reads_terms no_term e = none_read term_list e
  reads_terms (combined o t l) e = more_read term_list (both_read combined_pair (reads_operator o) (reads_query_term t (term_list.before l e))) (reads_terms l e)

  reads_query : {ws r : List Lexeme} {q : Query} → IsQuery ws q r → EndsQuery r → Reads IsQuery EndsQuery ws q r
  reads_query (query t l) e = both_read query_pair (reads_query_term t (term_list.before l e)) (reads_terms l e)

reads_enclosed : {ws r : List Lexeme} {q : Query} → IsEnclosed ws q r → Reads IsEnclosed EndsAnyhow ws q r
reads_enclosed (enclosed {r = r} q) = led_read enclosing refl (then_read CLOSE ends_at_paren (reads_query q (ends_at_paren r)) refl)

-- statements
primary_only : {ws r : List Lexeme} {p : QueryPrimary} → IsPrimary ws p r → OnlyQuery ws × Fails (at_word (codes "values") ws)
primary_only (nested_query q) = (record { lone = (tt, tt, tt); create = tt; insert = tt; delete = tt; update = tt; assert = tt; possible = tt; certain = tt }, tt)
primary_only (select_query (select d i t c)) = (record { lone = (tt, tt, tt); create = tt; insert = tt; delete = tt; update = tt; assert = tt; possible = tt; certain = tt }, tt)

term_only : {ws r : List Lexeme} {t : QueryTerm} → IsQueryTerm ws t r → OnlyQuery ws × Fails (at_word (codes "values") ws)
term_only (query_term p l) = primary_only p

query_only : {ws r : List Lexeme} {q : Query} → IsQuery ws q r → OnlyQuery ws × Fails (at_word (codes "values") ws)
query_only (query t l) = term_only t

at_end : {r : List Lexeme} → r ≡ [] → EndsQuery r
at_end e = subst EndsQuery (sym e) query_at_end

condition_end : {r : List Lexeme} → r ≡ [] → EndsCondition r
condition_end e = subst EndsCondition (sym e) condition_at_end

behind_end : {r : List Lexeme} (w : List ℕ) → r ≡ [] → EndsBehind w r
behind_end w e = subst (EndsBehind w) (sym e) (behind_at_end w)

named_front : {ws r : List Lexeme} {n : List ℕ} → IsName ws n r → IsTrue (at_name ws)
named_front (name p) = p

reads_statement : {ws r : List Lexeme} {st : Statement} → IsStatement ws st r → r ≡ [] → Reads IsStatement EndsStatement ws st r
reads_statement (create n c) e = create_read refl (reads_name n) (reads_closed IsName (λ ws r x n e. reads_part n) c)
reads_statement (insert_rows n w vs c) e =
    insert_rows_read refl (reads_name n) refl (reads_row w) (reads_more IsRow (λ ws r x w e. reads_row w) vs (before_condition {w = codes "if"} apart_from_if c e)) (reads_has c (behind_end (codes "if") e))
reads_statement (insert_query n q) e = insert_query_read refl (reads_name n) (query_only q).1 (reads_query q (at_end e))
reads_statement (delete n c) e = delete_read refl (reads_name n) (reads_has c (behind_end (codes "where") e))
reads_statement (update n a l c) e =
    let others = before_condition {w = codes "where"} apart_from_where c e in
    led_read updating refl (grouped_read IsAssignment (codes "set") (codes "where") apart_from_where (reads_name n) refl (reads_assignment a ((part_list IsAssignment).before l others))
    (reads_more IsAssignment (λ ws r x a e. reads_assignment a e) l others) (reads_has c (behind_end (codes "where") e)))
reads_statement (assert c) e = condition_read (only_condition c) (reads_condition c (condition_end e))
reads_statement (assert_exists q) e = exists_read refl (reads_enclosed q)
reads_statement (assert_not_exists q) e = not_exists_read refl (reads_enclosed q)
reads_statement (assert_key n c) e = key_read (named_front n) (reads_name n) (reads_closed IsName (λ ws r x n e. reads_part n) c)
reads_statement (rows q) e = rows_read (query_only q).0 (reads_query q (at_end e))
reads_statement (possible q) e = led_read asking_possible refl (reads_query q (at_end e))
reads_statement (certain q) e = led_read asking_certain refl (reads_query q (at_end e))
reads_statement begin e = begin_read refl
reads_statement commit e = commit_read refl
reads_statement rollback e = rollback_read refl

-- lexemes spell one statement at most
pub one_statement : {ws : List Lexeme} {st st' : Statement} → Spells ws st → Spells ws st' → st ≡ st'
one_statement s s' = ((reads_statement s' refl).only _ _ refl s).0

-- lexemes spell one condition at most
pub one_condition : {ws : List Lexeme} {c c' : Condition} → SpellsCondition ws c → SpellsCondition ws c' → c ≡ c'
one_condition s s' = ((reads_condition s' (tt, (tt, tt))).only _ _ (tt, (tt, tt)) s).0
