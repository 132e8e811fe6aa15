-- What the steps of the readers of statements show.
use Rattle.std.{proofs.Common.{◌≡◌, ℕ, List, [], ◌∷◌, Option, refl, ap, sym, subst, ◌∙◌, arith}, specs.Prelude.{IsTrue, codes}, proofs.lemmas.Bool.false≢true}
use Rattle.ct_word.specs.Value.{same_text}
use Rattle.ct_lex.specs.declared.token.Lexeme.{Lexeme}
use Rattle.ct_parse.{specs.declared.tree.Condition.Condition, specs.declared.tree.Row.Row, specs.declared.tree.QueryPrimary.QueryPrimary}
use Rattle.ct_parse.{specs.declared.tree.Term.Term, specs.declared.tree.Assignment.Assignment}
use Rattle.ct_parse.{specs.declared.tree.QueryTerm.QueryTerm, specs.declared.tree.Query.Query, specs.declared.tree.Statement.Statement}
use Rattle.ct_parse.specs.Grammar.{IsName, AreMore, IsClosed, IsRow, HasCondition, no_condition, a_condition, select, IsPrimary, select_query, IsQueryTerm, query_term, IsQuery, query, IsTerm, IsAssignment, assignment, IsStatement, create, insert_rows, insert_query, delete, update, assert, assert_exists, assert_not_exists, assert_key, rows, possible, certain, begin, commit, rollback}
use Rattle.ct_parse.{specs.Ends.{Fails, at_word, EndsAnyhow, EndsColumn, EndsCondition, EndsItem, EndsItems, EndsBehind, EndsQuery, EndsStatement}, specs.Reads.{Reads, Never}}
use Rattle.ct_parse.{proofs.Fronts.{Same, moved}, proofs.TermSteps.{reads_at, never_at, narrow, narrow_never}}
use Rattle.ct_parse.proofs.Listed.{Behind, behind_reads, behind_never, Parts, parts, Pairs, both_read, no_first, no_second}
use Rattle.ct_parse.proofs.Combined.{not_word, part_list, Then, then_read, no_then, not_then, Both, pair_of, Image, image, Renames, renamed, no_renamed, Led, led_read, led_never}
use Rattle.ct_lex.specs.declared.token.Lexeme.TheVariants as lexeme
use Rattle.ct_lex.specs.declared.token.Symbol.TheVariants as symbol
use Rattle.ct_parse.specs.declared.tree.Statement.TheVariants as statement

-- what ends a statement ends all else
pub narrowed : {T : Type 0} {X : List Lexeme → T → List Lexeme → Type 0} {E : List Lexeme → Type 0} → E [] → {ws r : List Lexeme} {t : T} → Reads X E ws t r → Reads X EndsStatement ws t r
narrowed {E = E} at h = narrow {E = E} {F = EndsStatement} (λ r e. subst E (sym e) at) h

pub narrowed_never : {T : Type 0} (X : List Lexeme → T → List Lexeme → Type 0) (E : List Lexeme → Type 0) → E [] → {ws : List Lexeme} → Never X E ws → Never X EndsStatement ws
narrowed_never X E at never = narrow_never X E EndsStatement (λ r e. subst E (sym e) at) never

pub condition_at_end : EndsCondition []
condition_at_end = (tt, (tt, tt))

pub query_at_end : EndsQuery []
query_at_end = (tt, (tt, (tt, (tt, ((tt, tt), (tt, (tt, tt)))))))

-- a query stands at no word but SELECT
word_primary : {n : List ℕ} {ws r : List Lexeme} {p : QueryPrimary} → IsPrimary (lexeme.Word n ∷ ws) p r → IsTrue (same_text n (codes "select"))
word_primary (select_query (select d i t c)) = refl

word_term : {n : List ℕ} {ws r : List Lexeme} {t : QueryTerm} → IsQueryTerm (lexeme.Word n ∷ ws) t r → IsTrue (same_text n (codes "select"))
word_term (query_term p l) = word_primary p

pub word_query : {n : List ℕ} {ws r : List Lexeme} {q : Query} → IsQuery (lexeme.Word n ∷ ws) q r → IsTrue (same_text n (codes "select"))
word_query (query t l) = word_term t

-- CREATE TABLE name "(" name {"," name} ")"
abbrev CREATE : Lexeme
CREATE = lexeme.Word (codes "create")

abbrev TABLE : Lexeme
TABLE = lexeme.Word (codes "table")

abbrev pub Names : Type 0
Names = List ℕ × List (List ℕ)

abbrev pub Created : List Lexeme → List ℕ × Names → List Lexeme → Type 0
Created = Both IsName (IsClosed IsName)

abbrev create_of : List ℕ × Names → Statement
create_of p = statement.Create p.0 p.1.0 p.1.1

pub created_pair : Pairs IsName EndsAnyhow (IsClosed IsName) EndsStatement (λ x y. (x, y)) Created
created_pair = pair_of IsName EndsAnyhow (IsClosed IsName) EndsStatement (λ ws r y c e. tt)

into_create : {ws r : List Lexeme} {p : List ℕ × Names} → Created ws p r → IsStatement (CREATE ∷ TABLE ∷ ws) (create_of p) r
into_create (parts n c) = create n c

back_create : {ws r : List Lexeme} {st : Statement} → IsStatement (CREATE ∷ ws) st r → Image (Behind TABLE Created) create_of ws st r
back_create (create n c) = image (_, refl, parts n c)
back_create (rows q) = absurd (false≢true (word_query q))

pub creating : Led CREATE (Behind TABLE Created) EndsStatement create_of IsStatement EndsStatement
creating = record { into = λ b. moved IsStatement (ap (λ m. CREATE ∷ m) (sym b.1)) (into_create b.2); back = λ st e. back_create st; ends = λ r e. e }

pub no_table_word : {m : List Lexeme} → Fails (at_word (codes "table") m) → Never IsStatement EndsStatement (CREATE ∷ m)
no_table_word fails = led_never creating refl (λ t r e b. not_word (codes "table") fails _ b.1)

inside_create : {m rest : List Lexeme} → m ≡ TABLE ∷ rest → Never Created EndsStatement rest → Never IsStatement EndsStatement (CREATE ∷ m)
inside_create f never = led_never creating refl (behind_never Created f never)

pub no_create_name : {m rest : List Lexeme} → m ≡ TABLE ∷ rest → Never IsName EndsAnyhow rest → Never IsStatement EndsStatement (CREATE ∷ m)
no_create_name f never = inside_create f (no_first created_pair never)

pub no_columns : {m rest l : List Lexeme} {n : List ℕ} → m ≡ TABLE ∷ rest → Reads IsName EndsAnyhow rest n l → Never (IsClosed IsName) EndsAnyhow l → Never IsStatement EndsStatement (CREATE ∷ m)
no_columns f h never = inside_create f (no_second created_pair h (narrowed_never (IsClosed IsName) EndsAnyhow tt never))

pub create_read : {m rest l r : List Lexeme} {n : List ℕ} {p : Names} → m ≡ TABLE ∷ rest → Reads IsName EndsAnyhow rest n l → Reads (IsClosed IsName) EndsAnyhow l p r
    → Reads IsStatement EndsStatement (CREATE ∷ m) (create_of (n, p)) r
create_read f h i = led_read creating refl (behind_reads f (both_read created_pair h (narrowed {E = EndsAnyhow} tt i)))

-- DELETE FROM name [WHERE cond]
abbrev DELETE : Lexeme
DELETE = lexeme.Word (codes "delete")

abbrev FROM : Lexeme
FROM = lexeme.Word (codes "from")

abbrev Filter : List Lexeme → Option Condition → List Lexeme → Type 0
Filter = HasCondition (codes "where")

abbrev Deleted : List Lexeme → List ℕ × Option Condition → List Lexeme → Type 0
Deleted = Both IsName Filter

abbrev delete_of : List ℕ × Option Condition → Statement
delete_of p = statement.Delete p.0 p.1

deleted_pair : Pairs IsName EndsAnyhow Filter EndsStatement (λ x y. (x, y)) Deleted
deleted_pair = pair_of IsName EndsAnyhow Filter EndsStatement (λ ws r y c e. tt)

into_delete : {ws r : List Lexeme} {p : List ℕ × Option Condition} → Deleted ws p r → IsStatement (DELETE ∷ FROM ∷ ws) (delete_of p) r
into_delete (parts n c) = delete n c

back_delete : {ws r : List Lexeme} {st : Statement} → IsStatement (DELETE ∷ ws) st r → Image (Behind FROM Deleted) delete_of ws st r
back_delete (delete n c) = image (_, refl, parts n c)
back_delete (rows q) = absurd (false≢true (word_query q))

pub deleting : Led DELETE (Behind FROM Deleted) EndsStatement delete_of IsStatement EndsStatement
deleting = record { into = λ b. moved IsStatement (ap (λ m. DELETE ∷ m) (sym b.1)) (into_delete b.2); back = λ st e. back_delete st; ends = λ r e. e }

pub no_delete_from : {m : List Lexeme} → Fails (at_word (codes "from") m) → Never IsStatement EndsStatement (DELETE ∷ m)
no_delete_from fails = led_never deleting refl (λ t r e b. not_word (codes "from") fails _ b.1)

inside_delete : {m rest : List Lexeme} → m ≡ FROM ∷ rest → Never Deleted EndsStatement rest → Never IsStatement EndsStatement (DELETE ∷ m)
inside_delete f never = led_never deleting refl (behind_never Deleted f never)

pub no_delete_name : {m rest : List Lexeme} → m ≡ FROM ∷ rest → Never IsName EndsAnyhow rest → Never IsStatement EndsStatement (DELETE ∷ m)
no_delete_name f never = inside_delete f (no_first deleted_pair never)

pub behind_at_end : (w : List ℕ) → EndsBehind w []
behind_at_end w = (tt, condition_at_end)

pub no_delete_condition : {m rest l : List Lexeme} {n : List ℕ} → m ≡ FROM ∷ rest → Reads IsName EndsAnyhow rest n l → Never Filter (EndsBehind (codes "where")) l
    → Never IsStatement EndsStatement (DELETE ∷ m)
no_delete_condition f h never = inside_delete f (no_second deleted_pair h (narrowed_never Filter (EndsBehind (codes "where")) (behind_at_end (codes "where")) never))

pub delete_read : {m rest l r : List Lexeme} {n : List ℕ} {o : Option Condition} → m ≡ FROM ∷ rest → Reads IsName EndsAnyhow rest n l → Reads Filter (EndsBehind (codes "where")) l o r
    → Reads IsStatement EndsStatement (DELETE ∷ m) (statement.Delete n o) r
delete_read f h i = led_read deleting refl (behind_reads f (both_read deleted_pair h (narrowed {E = EndsBehind (codes "where")} (behind_at_end (codes "where")) i)))

-- name v x {"," x} [w cond], with words v and w, as one tuple: what stands behind INSERT INTO, and behind UPDATE
abbrev Others : {T : Type 0} → (List Lexeme → T → List Lexeme → Type 0) → List ℕ → List Lexeme → List T × Option Condition → List Lexeme → Type 0
Others X w = Both (AreMore X) (HasCondition w)

abbrev Group : {T : Type 0} → (List Lexeme → T → List Lexeme → Type 0) → List ℕ → List Lexeme → T × (List T × Option Condition) → List Lexeme → Type 0
Group X w = Both X (Others X w)

abbrev Grouped : {T : Type 0} → (List Lexeme → T → List Lexeme → Type 0) → List ℕ → List ℕ → List Lexeme → List ℕ × (T × (List T × Option Condition)) → List Lexeme → Type 0
Grouped X v w = Both (Then IsName (lexeme.Word v)) (Group X w)

-- no part goes on at the word w
abbrev Apart : List ℕ → Type 0
Apart w = (ws : List Lexeme) → EndsItems (lexeme.Word w ∷ ws)

pub before_condition : {w : List ℕ} {ws r : List Lexeme} {o : Option Condition} → Apart w → HasCondition w ws o r → EndsStatement r → EndsItems ws
before_condition apart no_condition e = subst EndsItems (sym e) (tt, (tt, tt))
before_condition apart (a_condition {ws = ws} x) e = apart ws

before_others : {T : Type 0} (X : List Lexeme → T → List Lexeme → Type 0) {w : List ℕ} {ws r : List Lexeme} {y : List T × Option Condition} → Apart w → Others X w ws y r → EndsStatement r → EndsItem ws
before_others X {w = w} apart (parts l c) e = (part_list X).before l (before_condition {w = w} apart c e)

named_word : {v : List ℕ} {rest l k : List Lexeme} {n : List ℕ} → Reads IsName EndsAnyhow rest n l → l ≡ lexeme.Word v ∷ k → Reads (Then IsName (lexeme.Word v)) EndsAnyhow rest n k
named_word {v = v} h g = then_read {E = EndsAnyhow} (lexeme.Word v) (λ r. tt) h g

module _ {T : Type 0} (X : List Lexeme → T → List Lexeme → Type 0) (v w : List ℕ) (apart : Apart w) where
  others_pair : Pairs (AreMore X) EndsItems (HasCondition w) EndsStatement (λ x y. (x, y)) (Others X w)
  others_pair = pair_of (AreMore X) EndsItems (HasCondition w) EndsStatement (λ ws r y c e. before_condition {w = w} apart c e)

  group_pair : Pairs X EndsItem (Others X w) EndsStatement (λ x y. (x, y)) (Group X w)
  group_pair = pair_of X EndsItem (Others X w) EndsStatement (λ ws r y o e. before_others X {w = w} apart o e)

  grouped_pair : Pairs (Then IsName (lexeme.Word v)) EndsAnyhow (Group X w) EndsStatement (λ x y. (x, y)) (Grouped X v w)
  grouped_pair = pair_of (Then IsName (lexeme.Word v)) EndsAnyhow (Group X w) EndsStatement (λ ws r y c e. tt)

  pub no_group_name : {rest : List Lexeme} → Never IsName EndsAnyhow rest → Never (Grouped X v w) EndsStatement rest
  no_group_name never = no_first grouped_pair (no_then IsName {E = EndsAnyhow} (lexeme.Word v) (λ r. tt) never)

  pub no_group_word : {rest l : List Lexeme} {n : List ℕ} → Reads IsName EndsAnyhow rest n l → Fails (at_word v l) → Never (Grouped X v w) EndsStatement rest
  no_group_word h fails = no_first grouped_pair (not_then {X = IsName} {E = EndsAnyhow} (lexeme.Word v) (λ r. tt) h (not_word v fails))

  pub no_part : {rest l k : List Lexeme} {n : List ℕ} → Reads IsName EndsAnyhow rest n l → l ≡ lexeme.Word v ∷ k → Never X EndsItem k → Never (Grouped X v w) EndsStatement rest
  no_part h g never = no_second grouped_pair (named_word h g) (no_first group_pair never)

  pub no_more_parts : {rest l k j : List Lexeme} {n : List ℕ} {x : T} → Reads IsName EndsAnyhow rest n l → l ≡ lexeme.Word v ∷ k → Reads X EndsItem k x j → Never (AreMore X) EndsItems j
      → Never (Grouped X v w) EndsStatement rest
  no_more_parts h g i never = no_second grouped_pair (named_word h g) (no_second group_pair i (no_first others_pair never))

  pub no_group_condition : {rest l k j s : List Lexeme} {n : List ℕ} {x : T} {xs : List T} → Reads IsName EndsAnyhow rest n l → l ≡ lexeme.Word v ∷ k → Reads X EndsItem k x j
      → Reads (AreMore X) EndsItems j xs s → Never (HasCondition w) (EndsBehind w) s → Never (Grouped X v w) EndsStatement rest
  no_group_condition h g i o never =
      no_second grouped_pair (named_word h g) (no_second group_pair i (no_second others_pair o (narrowed_never (HasCondition w) (EndsBehind w) (behind_at_end w) never)))

  pub grouped_read : {rest l k j s r : List Lexeme} {n : List ℕ} {x : T} {xs : List T} {c : Option Condition} → Reads IsName EndsAnyhow rest n l → l ≡ lexeme.Word v ∷ k → Reads X EndsItem k x j
      → Reads (AreMore X) EndsItems j xs s → Reads (HasCondition w) (EndsBehind w) s c r → Reads (Grouped X v w) EndsStatement rest (n, (x, (xs, c))) r
  grouped_read h g i o c =
      both_read grouped_pair (named_word h g) (both_read group_pair i (both_read others_pair o (narrowed {E = EndsBehind w} (behind_at_end w) c)))

-- INSERT INTO name VALUES row {"," row} [IF cond], INSERT INTO name query
abbrev INSERT : Lexeme
INSERT = lexeme.Word (codes "insert")

abbrev INTO : Lexeme
INTO = lexeme.Word (codes "into")

abbrev VALUES : Lexeme
VALUES = lexeme.Word (codes "values")

abbrev If : List Lexeme → Option Condition → List Lexeme → Type 0
If = HasCondition (codes "if")

abbrev Inserted : Type 0
Inserted = List ℕ × (Row × (List Row × Option Condition))

abbrev Added : List Lexeme → Inserted → List Lexeme → Type 0
Added = Grouped IsRow (codes "values") (codes "if")

pub apart_from_if : Apart (codes "if")
apart_from_if ws = (tt, (tt, tt))

abbrev insert_of : Inserted → Statement
insert_of p = statement.InsertRows p.0 p.1.0 p.1.1.0 p.1.1.1

abbrev Queried : List Lexeme → List ℕ × Query → List Lexeme → Type 0
Queried = Both IsName IsQuery

abbrev query_into : List ℕ × Query → Statement
query_into p = statement.InsertQuery p.0 p.1

queried_pair : Pairs IsName EndsAnyhow IsQuery EndsStatement (λ x y. (x, y)) Queried
queried_pair = pair_of IsName EndsAnyhow IsQuery EndsStatement (λ ws r y c e. tt)

into_insert : {ws r : List Lexeme} {p : Inserted} → Added ws p r → IsStatement (INSERT ∷ INTO ∷ ws) (insert_of p) r
into_insert (parts n (parts w (parts vs c))) = insert_rows n w vs c

back_insert : {ws m l r : List Lexeme} {n : List ℕ} {st : Statement} → Reads IsName EndsAnyhow ws n m → m ≡ VALUES ∷ l → IsStatement (INSERT ∷ INTO ∷ ws) st r → Image Added insert_of ws st r
back_insert h f (insert_rows n w vs c) = image (parts n (parts w (parts vs c)))
back_insert h f (insert_query n q) = absurd (false≢true (word_query (moved IsQuery ((h.only _ _ tt n).1 ∙ f) q)))
back_insert h f (rows q) = absurd (false≢true (word_query q))

insert_is : {ws m l : List Lexeme} {n : List ℕ} → Reads IsName EndsAnyhow ws n m → m ≡ VALUES ∷ l → Renames Added insert_of (λ ws st r. IsStatement (INSERT ∷ INTO ∷ ws) st r) ws
insert_is h f = record { into = λ b. into_insert b; back = λ s. back_insert h f s }

into_query : {ws r : List Lexeme} {p : List ℕ × Query} → Queried ws p r → IsStatement (INSERT ∷ INTO ∷ ws) (query_into p) r
into_query (parts n q) = insert_query n q

back_query : {ws m r : List Lexeme} {n : List ℕ} {st : Statement} → Reads IsName EndsAnyhow ws n m → Fails (at_word (codes "values") m) → IsStatement (INSERT ∷ INTO ∷ ws) st r
    → Image Queried query_into ws st r
back_query h fails (insert_rows n w vs c) = absurd (not_word (codes "values") fails _ (sym (h.only _ _ tt n).1))
back_query h fails (insert_query n q) = image (parts n q)
back_query h fails (rows q) = absurd (false≢true (word_query q))

query_is : {ws m : List Lexeme} {n : List ℕ} → Reads IsName EndsAnyhow ws n m → Fails (at_word (codes "values") m) → Renames Queried query_into (λ ws st r. IsStatement (INSERT ∷ INTO ∷ ws) st r) ws
query_is h fails = record { into = λ b. into_query b; back = λ s. back_query h fails s }

abbrev Insert : List Lexeme → Statement → List Lexeme → Type 0
Insert ws st r = IsStatement (INSERT ∷ INTO ∷ ws) st r

insert_at : {m rest r : List Lexeme} {st : Statement} → m ≡ INTO ∷ rest → Reads Insert EndsStatement rest st r → Reads IsStatement EndsStatement (INSERT ∷ m) st r
insert_at f h = reads_at (ap (λ x. INSERT ∷ x) f) (record { is = h.is; only = h.only; within = omega (arith, h.within) })

no_insert_at : {m rest : List Lexeme} → m ≡ INTO ∷ rest → Never Insert EndsStatement rest → Never IsStatement EndsStatement (INSERT ∷ m)
no_insert_at f never = never_at IsStatement EndsStatement (ap (λ x. INSERT ∷ x) f) never

pub no_into : {m : List Lexeme} → Fails (at_word (codes "into") m) → Never IsStatement EndsStatement (INSERT ∷ m)
no_into fails st r e (insert_rows n w vs c) = fails
no_into fails st r e (insert_query n q) = fails
no_into fails st r e (rows q) = false≢true (word_query q)

none_named : {ws r : List Lexeme} {st : Statement} → Never IsName EndsAnyhow ws → IsStatement (INSERT ∷ INTO ∷ ws) st r → ⊥
none_named never (insert_rows n w vs c) = never _ _ tt n
none_named never (insert_query n q) = never _ _ tt n
none_named never (rows q) = false≢true (word_query q)

pub no_insert_name : {m rest : List Lexeme} → m ≡ INTO ∷ rest → Never IsName EndsAnyhow rest → Never IsStatement EndsStatement (INSERT ∷ m)
no_insert_name f never = no_insert_at f (λ st r e x. none_named never x)

pub no_inserted_query : {m rest l : List Lexeme} {n : List ℕ} → m ≡ INTO ∷ rest → Reads IsName EndsAnyhow rest n l → Fails (at_word (codes "values") l) → Never IsQuery EndsQuery l
    → Never IsStatement EndsStatement (INSERT ∷ m)
no_inserted_query f h fails never = no_insert_at f (no_renamed (query_is h fails) (no_second queried_pair h (narrowed_never IsQuery EndsQuery query_at_end never)))

pub insert_query_read : {m rest l r : List Lexeme} {n : List ℕ} {q : Query} → m ≡ INTO ∷ rest → Reads IsName EndsAnyhow rest n l → Fails (at_word (codes "values") l) → Reads IsQuery EndsQuery l q r
    → Reads IsStatement EndsStatement (INSERT ∷ m) (statement.InsertQuery n q) r
insert_query_read f h fails i = insert_at f (renamed (query_is h fails) (both_read queried_pair h (narrowed {E = EndsQuery} query_at_end i)))

pub no_row : {m rest l k : List Lexeme} {n : List ℕ} → m ≡ INTO ∷ rest → Reads IsName EndsAnyhow rest n l → l ≡ VALUES ∷ k → Never IsRow EndsItem k
    → Never IsStatement EndsStatement (INSERT ∷ m)
no_row f h g never = no_insert_at f (no_renamed (insert_is h g) (no_part IsRow (codes "values") (codes "if") apart_from_if h g never))

pub no_more_rows : {m rest l k j : List Lexeme} {n : List ℕ} {w : Row} → m ≡ INTO ∷ rest → Reads IsName EndsAnyhow rest n l → l ≡ VALUES ∷ k → Reads IsRow EndsItem k w j
    → Never (AreMore IsRow) EndsItems j → Never IsStatement EndsStatement (INSERT ∷ m)
no_more_rows f h g i never = no_insert_at f (no_renamed (insert_is h g) (no_more_parts IsRow (codes "values") (codes "if") apart_from_if h g i never))

pub no_if : {m rest l k j s : List Lexeme} {n : List ℕ} {w : Row} {vs : List Row} → m ≡ INTO ∷ rest → Reads IsName EndsAnyhow rest n l → l ≡ VALUES ∷ k → Reads IsRow EndsItem k w j
    → Reads (AreMore IsRow) EndsItems j vs s → Never If (EndsBehind (codes "if")) s → Never IsStatement EndsStatement (INSERT ∷ m)
no_if f h g i o never = no_insert_at f (no_renamed (insert_is h g) (no_group_condition IsRow (codes "values") (codes "if") apart_from_if h g i o never))

pub insert_rows_read : {m rest l k j s r : List Lexeme} {n : List ℕ} {w : Row} {vs : List Row} {c : Option Condition} → m ≡ INTO ∷ rest → Reads IsName EndsAnyhow rest n l → l ≡ VALUES ∷ k
    → Reads IsRow EndsItem k w j → Reads (AreMore IsRow) EndsItems j vs s → Reads If (EndsBehind (codes "if")) s c r
    → Reads IsStatement EndsStatement (INSERT ∷ m) (statement.InsertRows n w vs c) r
insert_rows_read f h g i o c = insert_at f (renamed (insert_is h g) (grouped_read IsRow (codes "values") (codes "if") apart_from_if h g i o c))

-- name "=" term
abbrev EQUAL : Lexeme
EQUAL = lexeme.Symbol symbol.Equal

abbrev assignment_of : List ℕ → Term → Assignment
assignment_of n t = record { column = n; value = t }

parts_of_assignment : {ws r : List Lexeme} {a : Assignment} → IsAssignment ws a r → Parts (Then IsName EQUAL) IsTerm assignment_of ws a r
parts_of_assignment (assignment n t) = parts n t

assignment_pair : Pairs (Then IsName EQUAL) EndsAnyhow IsTerm EndsColumn assignment_of IsAssignment
assignment_pair = record { both = λ n t. assignment n t; cases = λ a. parts_of_assignment a; before = λ t e. tt }

no_assignment : {ws : List Lexeme} → Never IsAssignment EndsColumn ws → Never IsAssignment EndsItem ws
no_assignment never = narrow_never IsAssignment EndsColumn EndsItem (λ r e. e.1) never

pub no_assigned : {ws : List Lexeme} → Never IsName EndsAnyhow ws → Never IsAssignment EndsItem ws
no_assigned never = no_assignment (no_first assignment_pair (no_then IsName {E = EndsAnyhow} EQUAL (λ r. tt) never))

pub no_equal : {ws m : List Lexeme} {n : List ℕ} → Reads IsName EndsAnyhow ws n m → ((r : List Lexeme) → m ≡ EQUAL ∷ r → ⊥) → Never IsAssignment EndsItem ws
no_equal h never = no_assignment (no_first assignment_pair (not_then {X = IsName} {E = EndsAnyhow} EQUAL (λ r. tt) h never))

assigned : {ws m l : List Lexeme} {n : List ℕ} → Reads IsName EndsAnyhow ws n m → m ≡ EQUAL ∷ l → Reads (Then IsName EQUAL) EndsAnyhow ws n l
assigned h g = then_read {E = EndsAnyhow} EQUAL (λ r. tt) h g

pub no_value : {ws m l : List Lexeme} {n : List ℕ} → Reads IsName EndsAnyhow ws n m → m ≡ EQUAL ∷ l → Never IsTerm EndsColumn l → Never IsAssignment EndsItem ws
no_value h g never = no_assignment (no_second assignment_pair (assigned h g) never)

pub assignment_read : {ws m l r : List Lexeme} {n : List ℕ} {t : Term} → Reads IsName EndsAnyhow ws n m → m ≡ EQUAL ∷ l → Reads IsTerm EndsColumn l t r
    → Reads IsAssignment EndsItem ws (assignment_of n t) r
assignment_read h g i = narrow {E = EndsColumn} {F = EndsItem} (λ r e. e.1) (both_read assignment_pair (assigned h g) i)

-- UPDATE name SET name "=" term {"," name "=" term} [WHERE cond]
abbrev UPDATE : Lexeme
UPDATE = lexeme.Word (codes "update")

abbrev Updated : Type 0
Updated = List ℕ × (Assignment × (List Assignment × Option Condition))

abbrev Changed : List Lexeme → Updated → List Lexeme → Type 0
Changed = Grouped IsAssignment (codes "set") (codes "where")

pub apart_from_where : Apart (codes "where")
apart_from_where ws = (tt, (tt, tt))

abbrev update_of : Updated → Statement
update_of p = statement.Update p.0 p.1.0 p.1.1.0 p.1.1.1

into_update : {ws r : List Lexeme} {p : Updated} → Changed ws p r → IsStatement (UPDATE ∷ ws) (update_of p) r
into_update (parts n (parts a (parts l c))) = update n a l c

back_update : {ws r : List Lexeme} {st : Statement} → IsStatement (UPDATE ∷ ws) st r → Image Changed update_of ws st r
back_update (update n a l c) = image (parts n (parts a (parts l c)))
back_update (rows q) = absurd (false≢true (word_query q))

pub updating : Led UPDATE Changed EndsStatement update_of IsStatement EndsStatement
updating = record { into = λ p. into_update p; back = λ st e. back_update st; ends = λ r e. e }

-- POSSIBLE query
back_possible : {ws r : List Lexeme} {st : Statement} → IsStatement (lexeme.Word (codes "possible") ∷ ws) st r → Image IsQuery statement.Possible ws st r
back_possible (possible q) = image q
back_possible (rows q) = absurd (false≢true (word_query q))

pub asking_possible : Led (lexeme.Word (codes "possible")) IsQuery EndsQuery statement.Possible IsStatement EndsStatement
asking_possible = record { into = λ q. possible q; back = λ st e. back_possible st; ends = λ r e. subst EndsQuery (sym e) query_at_end }

-- CERTAIN query
back_certain : {ws r : List Lexeme} {st : Statement} → IsStatement (lexeme.Word (codes "certain") ∷ ws) st r → Image IsQuery statement.Certain ws st r
back_certain (certain q) = image q
back_certain (rows q) = absurd (false≢true (word_query q))

pub asking_certain : Led (lexeme.Word (codes "certain")) IsQuery EndsQuery statement.Certain IsStatement EndsStatement
asking_certain = record { into = λ q. certain q; back = λ st e. back_certain st; ends = λ r e. subst EndsQuery (sym e) query_at_end }

-- BEGIN, COMMIT, ROLLBACK
begin_only : {r r' : List Lexeme} {st : Statement} → IsStatement (lexeme.Word (codes "begin") ∷ r) st r' → Same st statement.Begin r' r
begin_only begin = (refl, refl)
begin_only (rows q) = absurd (false≢true (word_query q))

pub begin_read : {ws r : List Lexeme} → ws ≡ lexeme.Word (codes "begin") ∷ r → Reads IsStatement EndsStatement ws statement.Begin r
begin_read f = reads_at f (record { is = begin; only = λ t r e x. begin_only x; within = omega arith })

commit_only : {r r' : List Lexeme} {st : Statement} → IsStatement (lexeme.Word (codes "commit") ∷ r) st r' → Same st statement.Commit r' r
commit_only commit = (refl, refl)
commit_only (rows q) = absurd (false≢true (word_query q))

pub commit_read : {ws r : List Lexeme} → ws ≡ lexeme.Word (codes "commit") ∷ r → Reads IsStatement EndsStatement ws statement.Commit r
commit_read f = reads_at f (record { is = commit; only = λ t r e x. commit_only x; within = omega arith })

rollback_only : {r r' : List Lexeme} {st : Statement} → IsStatement (lexeme.Word (codes "rollback") ∷ r) st r' → Same st statement.Rollback r' r
rollback_only rollback = (refl, refl)
rollback_only (rows q) = absurd (false≢true (word_query q))

pub rollback_read : {ws r : List Lexeme} → ws ≡ lexeme.Word (codes "rollback") ∷ r → Reads IsStatement EndsStatement ws statement.Rollback r
rollback_read f = reads_at f (record { is = rollback; only = λ t r e x. rollback_only x; within = omega arith })

-- a query alone: no other statement's word stands in front
pub record OnlyQuery (ws : List Lexeme) : Type 0 where
  pub lone : Fails (at_word (codes "begin") ws) × Fails (at_word (codes "commit") ws) × Fails (at_word (codes "rollback") ws)
  pub create : Fails (at_word (codes "create") ws)
  pub insert : Fails (at_word (codes "insert") ws)
  pub delete : Fails (at_word (codes "delete") ws)
  pub update : Fails (at_word (codes "update") ws)
  pub assert : Fails (at_word (codes "assert") ws)
  pub possible : Fails (at_word (codes "possible") ws)
  pub certain : Fails (at_word (codes "certain") ws)

back_rows : {ws r : List Lexeme} {st : Statement} → OnlyQuery ws → IsStatement ws st r → Image IsQuery statement.Rows ws st r
back_rows p (create n c) = absurd p.create
back_rows p (insert_rows n w vs c) = absurd p.insert
back_rows p (insert_query n q) = absurd p.insert
back_rows p (delete n c) = absurd p.delete
back_rows p (update n a l c) = absurd p.update
back_rows p (assert c) = absurd p.assert
back_rows p (assert_exists q) = absurd p.assert
back_rows p (assert_not_exists q) = absurd p.assert
back_rows p (assert_key n c) = absurd p.assert
back_rows p (rows q) = image q
back_rows p (possible q) = absurd p.possible
back_rows p (certain q) = absurd p.certain
back_rows p begin = absurd p.lone.0
back_rows p commit = absurd p.lone.1
back_rows p rollback = absurd p.lone.2

rows_is : {ws : List Lexeme} → OnlyQuery ws → Renames IsQuery statement.Rows IsStatement ws
rows_is p = record { into = λ q. rows q; back = λ s. back_rows p s }

pub rows_read : {ws r : List Lexeme} {q : Query} → OnlyQuery ws → Reads IsQuery EndsQuery ws q r → Reads IsStatement EndsStatement ws (statement.Rows q) r
rows_read p h = renamed (rows_is p) (narrowed {E = EndsQuery} query_at_end h)

pub no_query : {ws : List Lexeme} → OnlyQuery ws → Never IsQuery EndsQuery ws → Never IsStatement EndsStatement ws
no_query p never = no_renamed (rows_is p) (narrowed_never IsQuery EndsQuery query_at_end never)
