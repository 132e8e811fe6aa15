-- Which lexemes spell a statement: a relation for each line of the grammar, and a case for each of its alternatives.
-- Each relates lexemes, the tree of those in front, and the rest.
--     statement = CREATE TABLE name "(" name {"," name} ")" | INSERT INTO name VALUES row {"," row} [IF cond]
--               | INSERT INTO name query | DELETE FROM name [WHERE cond]
--               | UPDATE name SET name "=" term {"," name "=" term} [WHERE cond]
--               | ASSERT cond | ASSERT [NOT] EXISTS "(" query ")" | ASSERT KEY name "(" name {"," name} ")"
--               | query | POSSIBLE query | CERTAIN query | BEGIN | COMMIT | ROLLBACK
--     row = "(" cell {"," cell} ")", cell = Number | Text | Null | NULL
--     query = qterm {(UNION | EXCEPT) qterm}, qterm = qprim {INTERSECT qprim}
--     qprim = "(" query ")" | SELECT [DISTINCT] items FROM from [WHERE cond]
--     items = "*" | item {"," item}, item = column [AS name]
--     from = table {"," table | [INNER] JOIN table ON cond}, with at most 16 tables
--     table = name [[AS] name]
--     cond = conj {OR conj}, conj = factor {AND factor}
--     factor = NOT factor | "(" cond ")" | TRUE | FALSE | term ("=" | "<>") term
--     term = Number | Text | Null | column, column = name | name "." name
-- KEY is the word `key`, which is no keyword: a name stands behind it, and none behind a column of that name.
use Rattle.std.specs.Prelude.{◌≤◌, Bool, true, false, Option, Some, None, length, ℕ, ℤ, List, [], ◌∷◌, IsTrue, codes, map}
use Rattle.ct_word.specs.Writable.{is_name}
use Rattle.ct_lex.specs.declared.token.Lexeme.{Lexeme}
use Rattle.ct_lex.specs.declared.token.Lexeme.TheVariants.{Word, Number, Text, Null, Symbol}
use Rattle.ct_lex.specs.declared.token.Symbol.TheVariants.{LeftParen, RightParen, Comma, Dot, Star, Equal, Unequal}
use Rattle.ct_lex.specs.declared.token.Token.{Token}
use Rattle.ct_parse.specs.declared.tree.Column.{Column}
use Rattle.ct_parse.specs.declared.tree.Column.TheVariants as column
use Rattle.ct_parse.specs.declared.tree.Term.{Term}
use Rattle.ct_parse.specs.declared.tree.Term.TheVariants as term
use Rattle.ct_parse.specs.declared.tree.Comparison.{Comparison}
use Rattle.ct_parse.specs.declared.tree.Comparison.TheVariants as comparison
use Rattle.ct_parse.specs.declared.tree.Factor.{Factor}
use Rattle.ct_parse.specs.declared.tree.Factor.TheVariants as factor
use Rattle.ct_parse.specs.declared.tree.Conjunction.{Conjunction}
use Rattle.ct_parse.specs.declared.tree.Condition.{Condition, roll-Condition}
use Rattle.ct_parse.specs.declared.tree.Cell.{Cell}
use Rattle.ct_parse.specs.declared.tree.Cell.TheVariants as cell
use Rattle.ct_parse.specs.declared.tree.Row.{Row}
use Rattle.ct_parse.specs.declared.tree.Item.{Item}
use Rattle.ct_parse.specs.declared.tree.Items.{Items}
use Rattle.ct_parse.specs.declared.tree.Items.TheVariants as items
use Rattle.ct_parse.specs.declared.tree.Alias.{Alias}
use Rattle.ct_parse.specs.declared.tree.Table.{Table}
use Rattle.ct_parse.specs.declared.tree.Joined.{Joined}
use Rattle.ct_parse.specs.declared.tree.Joined.TheVariants as joined
use Rattle.ct_parse.specs.declared.tree.Tables.{Tables}
use Rattle.ct_parse.specs.declared.tree.Select.{Select}
use Rattle.ct_parse.specs.declared.tree.SetOperator.{SetOperator}
use Rattle.ct_parse.specs.declared.tree.SetOperator.TheVariants as operator
use Rattle.ct_parse.specs.declared.tree.QueryPrimary.{QueryPrimary}
use Rattle.ct_parse.specs.declared.tree.QueryPrimary.TheVariants as primary
use Rattle.ct_parse.specs.declared.tree.QueryTerm.{QueryTerm}
use Rattle.ct_parse.specs.declared.tree.Query.{Query, roll-Query}
use Rattle.ct_parse.specs.declared.tree.Assignment.{Assignment}
use Rattle.ct_parse.specs.declared.tree.Statement.{Statement}
use Rattle.ct_parse.specs.declared.tree.Statement.TheVariants as statement

-- what the tokens say
abbrev pub said : List Token → List Lexeme
said tokens = map (λ t. t.word) tokens

-- a name: a word that is no keyword
pub data IsName : List Lexeme → List ℕ → List Lexeme → Type 0 where
  name : {n : List ℕ} {r : List Lexeme} → IsTrue (is_name n) → IsName (Word n ∷ r) n r

-- column = name | name "." name
pub data IsColumn : List Lexeme → Column → List Lexeme → Type 0 where
  plain : {ws r : List Lexeme} {c : List ℕ} → IsName ws c r → IsColumn ws (column.Plain c) r
  qualified : {ws m r : List Lexeme} {t c : List ℕ} → IsName ws t (Symbol Dot ∷ m) → IsName m c r → IsColumn ws (column.Qualified t c) r

-- term = Number | Text | Null | column
pub data IsTerm : List Lexeme → Term → List Lexeme → Type 0 where
  number_term : {i : ℤ} {r : List Lexeme} → IsTerm (Number i ∷ r) (term.Number i) r
  text_term : {t : List ℕ} {r : List Lexeme} → IsTerm (Text t ∷ r) (term.Text t) r
  null_term : {n : List ℕ} {r : List Lexeme} → IsTerm (Null n ∷ r) (term.Null n) r
  column_term : {ws r : List Lexeme} {c : Column} → IsColumn ws c r → IsTerm ws (term.Column c) r

-- "=" | "<>"
pub data IsComparison : List Lexeme → Comparison → List Lexeme → Type 0 where
  equal : {r : List Lexeme} → IsComparison (Symbol Equal ∷ r) comparison.Equal r
  unequal : {r : List Lexeme} → IsComparison (Symbol Unequal ∷ r) comparison.Unequal r

-- name "=" term
pub data IsAssignment : List Lexeme → Assignment → List Lexeme → Type 0 where
  assignment : {ws m r : List Lexeme} {n : List ℕ} {t : Term} → IsName ws n (Symbol Equal ∷ m) → IsTerm m t r → IsAssignment ws (record { column = n; value = t }) r

-- a condition of these parts
abbrev pub condition_of : Conjunction → List Conjunction → Condition
condition_of c cs = roll-Condition (record { first = c; rest = cs })

mutual
  -- factor = NOT factor | "(" cond ")" | TRUE | FALSE | term ("=" | "<>") term
  pub data IsFactor : List Lexeme → Factor → List Lexeme → Type 0 where
    negated : {ws r : List Lexeme} {f : Factor} → IsFactor ws f r → IsFactor (Word (codes "not") ∷ ws) (factor.Not f) r
    nested : {ws r : List Lexeme} {c : Condition} → IsCondition ws c (Symbol RightParen ∷ r) → IsFactor (Symbol LeftParen ∷ ws) (factor.Nested c) r
    true_factor : {r : List Lexeme} → IsFactor (Word (codes "true") ∷ r) factor.True r
    false_factor : {r : List Lexeme} → IsFactor (Word (codes "false") ∷ r) factor.False r
    compared : {ws m l r : List Lexeme} {s t : Term} {o : Comparison} → IsTerm ws s m → IsComparison m o l → IsTerm l t r → IsFactor ws (factor.Compare s o t) r

  -- {AND factor}
  pub data AreFactors : List Lexeme → List Factor → List Lexeme → Type 0 where
    no_factor : {r : List Lexeme} → AreFactors r [] r
    and_factor : {ws m r : List Lexeme} {f : Factor} {fs : List Factor} → IsFactor ws f m → AreFactors m fs r → AreFactors (Word (codes "and") ∷ ws) (f ∷ fs) r

  -- conj = factor {AND factor}
  pub data IsConjunction : List Lexeme → Conjunction → List Lexeme → Type 0 where
    conjunction : {ws m r : List Lexeme} {f : Factor} {fs : List Factor} → IsFactor ws f m → AreFactors m fs r → IsConjunction ws (record { first = f; rest = fs }) r

  -- {OR conj}
  pub data AreConjunctions : List Lexeme → List Conjunction → List Lexeme → Type 0 where
    no_conjunction : {r : List Lexeme} → AreConjunctions r [] r
    or_conjunction : {ws m r : List Lexeme} {c : Conjunction} {cs : List Conjunction} → IsConjunction ws c m → AreConjunctions m cs r
        → AreConjunctions (Word (codes "or") ∷ ws) (c ∷ cs) r

  -- cond = conj {OR conj}
  pub data IsCondition : List Lexeme → Condition → List Lexeme → Type 0 where
    condition : {ws m r : List Lexeme} {c : Conjunction} {cs : List Conjunction} → IsConjunction ws c m → AreConjunctions m cs r
        → IsCondition ws (condition_of c cs) r

-- {"," x}
pub data AreMore {T : Type 0} (X : List Lexeme → T → List Lexeme → Type 0) : List Lexeme → List T → List Lexeme → Type 0 where
  no_more : {r : List Lexeme} → AreMore X r [] r
  one_more : {ws m r : List Lexeme} {x : T} {xs : List T} → X ws x m → AreMore X m xs r → AreMore X (Symbol Comma ∷ ws) (x ∷ xs) r

-- "(" x {"," x} ")"
pub data IsClosed {T : Type 0} (X : List Lexeme → T → List Lexeme → Type 0) : List Lexeme → T × List T → List Lexeme → Type 0 where
  closed : {ws m r : List Lexeme} {x : T} {xs : List T} → X ws x m → AreMore X m xs (Symbol RightParen ∷ r) → IsClosed X (Symbol LeftParen ∷ ws) (x, xs) r

-- cell = Number | Text | Null | NULL
pub data IsCell : List Lexeme → Cell → List Lexeme → Type 0 where
  number_cell : {i : ℤ} {r : List Lexeme} → IsCell (Number i ∷ r) (cell.Number i) r
  text_cell : {t : List ℕ} {r : List Lexeme} → IsCell (Text t ∷ r) (cell.Text t) r
  null_cell : {n : List ℕ} {r : List Lexeme} → IsCell (Null n ∷ r) (cell.Null n) r
  new_null : {r : List Lexeme} → IsCell (Word (codes "null") ∷ r) cell.NewNull r

-- row = "(" cell {"," cell} ")"
pub data IsRow : List Lexeme → Row → List Lexeme → Type 0 where
  row : {ws r : List Lexeme} {c : Cell} {cs : List Cell} → IsClosed IsCell ws (c, cs) r → IsRow ws (record { first = c; rest = cs }) r

-- [WHERE cond], [IF cond]: a condition behind a word, or none
pub data HasCondition (w : List ℕ) : List Lexeme → Option Condition → List Lexeme → Type 0 where
  no_condition : {r : List Lexeme} → HasCondition w r None r
  a_condition : {ws r : List Lexeme} {c : Condition} → IsCondition ws c r → HasCondition w (Word w ∷ ws) (Some c) r

-- [AS name]
pub data HasName : List Lexeme → Option (List ℕ) → List Lexeme → Type 0 where
  no_name : {r : List Lexeme} → HasName r None r
  as_name : {ws r : List Lexeme} {n : List ℕ} → IsName ws n r → HasName (Word (codes "as") ∷ ws) (Some n) r

-- item = column [AS name]
pub data IsItem : List Lexeme → Item → List Lexeme → Type 0 where
  item : {ws m r : List Lexeme} {c : Column} {a : Option (List ℕ)} → IsColumn ws c m → HasName m a r → IsItem ws (record { column = c; alias = a }) r

-- items = "*" | item {"," item}
pub data AreItems : List Lexeme → Items → List Lexeme → Type 0 where
  star : {r : List Lexeme} → AreItems (Symbol Star ∷ r) items.Star r
  listed : {ws m r : List Lexeme} {i : Item} {is : List Item} → IsItem ws i m → AreMore IsItem m is r → AreItems ws (items.Listed i is) r

-- [[AS] name]
pub data HasAlias : List Lexeme → Option Alias → List Lexeme → Type 0 where
  no_alias : {r : List Lexeme} → HasAlias r None r
  alias : {ws r : List Lexeme} {n : List ℕ} → IsName ws n r → HasAlias ws (Some (record { has_as = false; name = n })) r
  as_alias : {ws r : List Lexeme} {n : List ℕ} → IsName ws n r → HasAlias (Word (codes "as") ∷ ws) (Some (record { has_as = true; name = n })) r

-- table = name [[AS] name]
pub data IsTable : List Lexeme → Table → List Lexeme → Type 0 where
  table : {ws m r : List Lexeme} {n : List ℕ} {a : Option Alias} → IsName ws n m → HasAlias m a r → IsTable ws (record { name = n; alias = a }) r

-- table ON cond
pub data IsTableOn : List Lexeme → Table × Condition → List Lexeme → Type 0 where
  table_on : {ws m r : List Lexeme} {t : Table} {c : Condition} → IsTable ws t (Word (codes "on") ∷ m) → IsCondition m c r → IsTableOn ws (t, c) r

-- "," table | [INNER] JOIN table ON cond
pub data IsJoined : List Lexeme → Joined → List Lexeme → Type 0 where
  comma : {ws r : List Lexeme} {t : Table} → IsTable ws t r → IsJoined (Symbol Comma ∷ ws) (joined.Comma t) r
  join : {ws r : List Lexeme} {t : Table} {c : Condition} → IsTableOn ws (t, c) r → IsJoined (Word (codes "join") ∷ ws) (joined.Join false t c) r
  inner_join : {ws r : List Lexeme} {t : Table} {c : Condition} → IsTableOn ws (t, c) r → IsJoined (Word (codes "inner") ∷ Word (codes "join") ∷ ws) (joined.Join true t c) r

-- {"," table | [INNER] JOIN table ON cond}
pub data AreJoined : List Lexeme → List Joined → List Lexeme → Type 0 where
  none_joined : {r : List Lexeme} → AreJoined r [] r
  more_joined : {ws m r : List Lexeme} {j : Joined} {js : List Joined} → IsJoined ws j m → AreJoined m js r → AreJoined ws (j ∷ js) r

-- the most tables that may stand behind the first of a FROM
abbrev pub MORE_TABLES : ℕ
MORE_TABLES = 15

-- from = table {"," table | [INNER] JOIN table ON cond}, with at most 16 tables
pub data AreTables : List Lexeme → Tables → List Lexeme → Type 0 where
  tables : {ws m r : List Lexeme} {t : Table} {js : List Joined} → IsTable ws t m → AreJoined m js r → length js ≤ MORE_TABLES → AreTables ws (record { first = t; rest = js }) r

-- [DISTINCT]
pub data IsDistinct : List Lexeme → Bool → List Lexeme → Type 0 where
  not_distinct : {r : List Lexeme} → IsDistinct r false r
  distinct : {r : List Lexeme} → IsDistinct (Word (codes "distinct") ∷ r) true r

-- SELECT [DISTINCT] items FROM from [WHERE cond]
pub data IsSelect : List Lexeme → Select → List Lexeme → Type 0 where
  select : {ws m l k r : List Lexeme} {d : Bool} {is : Items} {t : Tables} {c : Option Condition} → IsDistinct ws d m → AreItems m is (Word (codes "from") ∷ l) → AreTables l t k
      → HasCondition (codes "where") k c r → IsSelect (Word (codes "select") ∷ ws) (record { is_distinct = d; items = is; tables = t; condition = c }) r

-- UNION | EXCEPT
pub data IsSetOperator : List Lexeme → SetOperator → List Lexeme → Type 0 where
  union : {r : List Lexeme} → IsSetOperator (Word (codes "union") ∷ r) operator.Union r
  except : {r : List Lexeme} → IsSetOperator (Word (codes "except") ∷ r) operator.Except r

-- a query of these parts
abbrev pub query_of : QueryTerm → List (SetOperator × QueryTerm) → Query
query_of t ts = roll-Query (record { first = t; rest = ts })

mutual
  -- qprim = "(" query ")" | SELECT [DISTINCT] items FROM from [WHERE cond]
  pub data IsPrimary : List Lexeme → QueryPrimary → List Lexeme → Type 0 where
    nested_query : {ws r : List Lexeme} {q : Query} → IsQuery ws q (Symbol RightParen ∷ r) → IsPrimary (Symbol LeftParen ∷ ws) (primary.Nested q) r
    select_query : {ws r : List Lexeme} {s : Select} → IsSelect ws s r → IsPrimary ws (primary.Select s) r

  -- {INTERSECT qprim}
  pub data ArePrimaries : List Lexeme → List QueryPrimary → List Lexeme → Type 0 where
    no_primary : {r : List Lexeme} → ArePrimaries r [] r
    intersect : {ws m r : List Lexeme} {p : QueryPrimary} {ps : List QueryPrimary} → IsPrimary ws p m → ArePrimaries m ps r → ArePrimaries (Word (codes "intersect") ∷ ws) (p ∷ ps) r

  -- qterm = qprim {INTERSECT qprim}
  pub data IsQueryTerm : List Lexeme → QueryTerm → List Lexeme → Type 0 where
    query_term : {ws m r : List Lexeme} {p : QueryPrimary} {ps : List QueryPrimary} → IsPrimary ws p m → ArePrimaries m ps r → IsQueryTerm ws (record { first = p; rest = ps }) r

  -- {(UNION | EXCEPT) qterm}
  pub data AreTerms : List Lexeme → List (SetOperator × QueryTerm) → List Lexeme → Type 0 where
    no_term : {r : List Lexeme} → AreTerms r [] r
    combined : {ws m l r : List Lexeme} {o : SetOperator} {t : QueryTerm} {ts : List (SetOperator × QueryTerm)} → IsSetOperator ws o m → IsQueryTerm m t l → AreTerms l ts r
        → AreTerms ws ((o, t) ∷ ts) r

  -- query = qterm {(UNION | EXCEPT) qterm}
  pub data IsQuery : List Lexeme → Query → List Lexeme → Type 0 where
    query : {ws m r : List Lexeme} {t : QueryTerm} {ts : List (SetOperator × QueryTerm)} → IsQueryTerm ws t m → AreTerms m ts r → IsQuery ws (query_of t ts) r

-- "(" query ")"
pub data IsEnclosed : List Lexeme → Query → List Lexeme → Type 0 where
  enclosed : {ws r : List Lexeme} {q : Query} → IsQuery ws q (Symbol RightParen ∷ r) → IsEnclosed (Symbol LeftParen ∷ ws) q r

-- a statement, by the lines of the grammar
pub data IsStatement : List Lexeme → Statement → List Lexeme → Type 0 where
  create : {ws m r : List Lexeme} {n c : List ℕ} {cs : List (List ℕ)} → IsName ws n m → IsClosed IsName m (c, cs) r
      → IsStatement (Word (codes "create") ∷ Word (codes "table") ∷ ws) (statement.Create n c cs) r
  insert_rows : {ws m l k r : List Lexeme} {n : List ℕ} {w : Row} {vs : List Row} {c : Option Condition} → IsName ws n (Word (codes "values") ∷ m) → IsRow m w l → AreMore IsRow l vs k
      → HasCondition (codes "if") k c r → IsStatement (Word (codes "insert") ∷ Word (codes "into") ∷ ws) (statement.InsertRows n w vs c) r
  insert_query : {ws m r : List Lexeme} {n : List ℕ} {q : Query} → IsName ws n m → IsQuery m q r
      → IsStatement (Word (codes "insert") ∷ Word (codes "into") ∷ ws) (statement.InsertQuery n q) r
  delete : {ws m r : List Lexeme} {n : List ℕ} {c : Option Condition} → IsName ws n m → HasCondition (codes "where") m c r
      → IsStatement (Word (codes "delete") ∷ Word (codes "from") ∷ ws) (statement.Delete n c) r
  update : {ws m l k r : List Lexeme} {n : List ℕ} {a : Assignment} {bs : List Assignment} {c : Option Condition} → IsName ws n (Word (codes "set") ∷ m) → IsAssignment m a l
      → AreMore IsAssignment l bs k → HasCondition (codes "where") k c r → IsStatement (Word (codes "update") ∷ ws) (statement.Update n a bs c) r
  assert : {ws r : List Lexeme} {c : Condition} → IsCondition ws c r → IsStatement (Word (codes "assert") ∷ ws) (statement.Assert c) r
  assert_exists : {ws r : List Lexeme} {q : Query} → IsEnclosed ws q r
      → IsStatement (Word (codes "assert") ∷ Word (codes "exists") ∷ ws) (statement.AssertExists false q) r
  assert_not_exists : {ws r : List Lexeme} {q : Query} → IsEnclosed ws q r
      → IsStatement (Word (codes "assert") ∷ Word (codes "not") ∷ Word (codes "exists") ∷ ws) (statement.AssertExists true q) r
  assert_key : {ws m r : List Lexeme} {n c : List ℕ} {cs : List (List ℕ)} → IsName ws n m → IsClosed IsName m (c, cs) r
      → IsStatement (Word (codes "assert") ∷ Word (codes "key") ∷ ws) (statement.AssertKey n c cs) r
  rows : {ws r : List Lexeme} {q : Query} → IsQuery ws q r → IsStatement ws (statement.Rows q) r
  possible : {ws r : List Lexeme} {q : Query} → IsQuery ws q r → IsStatement (Word (codes "possible") ∷ ws) (statement.Possible q) r
  certain : {ws r : List Lexeme} {q : Query} → IsQuery ws q r → IsStatement (Word (codes "certain") ∷ ws) (statement.Certain q) r
  begin : {r : List Lexeme} → IsStatement (Word (codes "begin") ∷ r) statement.Begin r
  commit : {r : List Lexeme} → IsStatement (Word (codes "commit") ∷ r) statement.Commit r
  rollback : {r : List Lexeme} → IsStatement (Word (codes "rollback") ∷ r) statement.Rollback r
