-- Closed tests: replies that no log makes lawful. A text may be read as any statement of the reply's kind.
use Rattle.std.{proofs.Common.{◌≡◌, ℕ, ◌≤◌, List, [], ◌∷◌, refl, sym, subst, ap, ◌∙◌, arith, inl, inr}, proofs.lemmas.Bool.false≢true}
use Rattle.std.specs.Prelude.{◌<◌, ◌++◌, Bool, true, false, pos, codes, All, Option, Some, None, Ok, Err, is_ok, slice_get, if◌then◌else◌}
use Rattle.std.proofs.lemmas.Option.{none-some}
use Rattle.ct_word.{specs.declared.values.Term.Term, specs.Value.{World, same_text}, specs.Condition.{True, Same}, proofs.Splits.some-injective}
use Rattle.ct_word.{specs.Sublist.{IsSublist, ended, left_out, taken}, specs.Change.{PlainChange, PlainCommit, Create, Insert, Assert}}
use Rattle.ct_query.{specs.Plain.{PlainQuery, PlainAction, PlainStatement}, specs.Database.{Database, has_tuple}, specs.Reads.{last as last_of}}
use Rattle.ct_query.{specs.Bounds.bound, specs.Rows.rows, specs.Schema.schema, specs.Worlds.admits, specs.Patterns.{query_pattern, no_patterns, pattern, count}}
use Rattle.ct_parse.specs.declared.tree.Statement.{Statement}
use Rattle.ct_resolve.specs.Statements.{resolved}
use Rattle.ct_derivation.specs.declared.steps.Proof.{Proof}
use Rattle.ct_rewrite.{specs.declared.answer.PossibleRow.PossibleRow, specs.declared.answer.CertainRow.CertainRow}
use Rattle.ct_transcript.{specs.Means.Means, specs.Possible.PossibleRight, specs.Certain.CertainRight, specs.declared.reply.Answer.Answer}
use Rattle.ct_statement.{specs.Making.widths_in, specs.Unmet.asked_size}
use Rattle.ct_transaction.{specs.Statements.ReadsAs, specs.State.{SessionState, beginning, actions_of}, specs.Seeing.{Asks, Sees}}
use Rattle.ct_serve.specs.Sessions.{AreLawful}
use Rattle.ct_word.specs.declared.values.Value.TheVariants as val
use Rattle.ct_word.specs.declared.values.Null.TheVariants as null
use Rattle.ct_word.specs.declared.values.Term.TheVariants as term
use Rattle.ct_query.specs.Plain as plain
use Rattle.ct_query.specs.declared.action.Ask.TheVariants as ask
use Rattle.ct_query.specs.declared.action.Read.TheVariants as read
use Rattle.ct_parse.specs.declared.tree.Statement.TheVariants as statement
use Rattle.ct_resolve.specs.declared.error.ResolveError.TheVariants as name
use Rattle.ct_rewrite.specs.declared.answer.Node.TheVariants as node
use Rattle.ct_transcript.specs.declared.reply.Reply.TheVariants as reply
use Rattle.ct_transcript.specs.declared.reply.Refusal.TheVariants as refusal

abbrev one : Term
one = term.Value (val.Int (pos 1))

-- the null ?x has this value
abbrev x_is : ℕ → PlainChange
x_is n = Assert (Same (term.Null (null.Named (codes "x"))) (term.Value (val.Int (pos n))))

abbrev by : ℕ → PlainChange → PlainCommit
by session change = record { session = session; number = 0; changes = change ∷ [] }

-- `create table t (a)`, committed by session 1
abbrev created : List PlainCommit
created = by 1 (Create (codes "t") (codes "a" ∷ [])) ∷ []

abbrev no_rows : Answer
no_rows = record { columns = codes "a" ∷ []; nodes = node.True ∷ []; rows = []; global = 0 }

abbrev one_row : Answer
one_row = record { columns = codes "a" ∷ []; nodes = node.True ∷ []; rows = record { cells = one ∷ []; cond = 0 } ∷ []; global = 0 }

-- without rows in the tables a query has none
no_pattern : (q : PlainQuery) → query_pattern no_patterns q ≡ []
no_pattern (plain.Table t) = refl
no_pattern (plain.Select c q) = no_pattern q
no_pattern (plain.Project ks q) = rw (no_pattern q) refl
no_pattern (plain.Product a b) = rw (no_pattern a) refl
no_pattern (plain.Union a b) = rw (no_pattern a, no_pattern b) refl
no_pattern (plain.Except a b) = no_pattern a
no_pattern (plain.Intersect a b) = no_pattern a

abbrev is_empty : {A : Type 0} → List A → Bool
is_empty [] = true
is_empty (x ∷ xs) = false

part_of_none : {A : Type 0} {xs ys : List A} → IsSublist xs ys → is_empty ys ≡ true → is_empty xs ≡ true
part_of_none ended e = refl
part_of_none (left_out s) e = absurd (false≢true e)
part_of_none (taken s) e = absurd (false≢true e)

module _ (W : List ℕ) (N : ℕ) (text more : List ℕ) (last : SessionState) where
  -- a dirty read: session 2 is shown a row that session 1 has inserted in its open transaction
  dirty_read : AreLawful created W N (beginning 2) (text ∷ []) (reply.Rows 1 0 one_row ∷ []) last → ⊥
  dirty_read l =
      let r = l.1 in
      let part = subst (λ a. IsSublist ((one ∷ []) ∷ []) (pattern created a r.query)) r.sees.2 r.in_pattern in
      false≢true (part_of_none part (ap is_empty (no_pattern r.query)))

  -- a lost commit: it was answered, and is not in the history
  lost_commit : AreLawful [] W N (beginning 1) (text ∷ []) (reply.Committed 1 ∷ []) last → ⊥
  lost_commit (next, inl r, rest) = none-some r.commit r.stands.1
  lost_commit (next, inr r, rest) = none-some r.commit r.stands.1

  -- the replies to BEGIN and COMMIT, swapped
  swapped : AreLawful [] W N (beginning 1) (text ∷ more ∷ []) (reply.Nothing 0 ∷ reply.Begun 0 ∷ []) last → ⊥
  swapped l = none-some l.1.transaction l.1.is_open

  -- a version that goes back
  goes_back : AreLawful created W N (beginning 2) (text ∷ more ∷ []) (reply.Rows 1 0 no_rows ∷ reply.Rows 0 0 no_rows ∷ []) last → ⊥
  goes_back l =
      let r = l.2.1 in
      let sees = subst (λ s. Sees created s 0 r.actions) l.1.next_is r.sees in
      let le : 1 ≤ 0 = sees.0 in omega (arith, le)

  -- a world that is not admitted: (?x) in ?x = 2, after ?x = 1 was asserted
  abbrev in_two : PossibleRow
  in_two = record { cells = term.Null (null.Named (codes "x")) ∷ []; world = (null.Named (codes "x"), val.Int (pos 2)) ∷ [] }

  not_admitted : AreLawful (by 1 (x_is 1) ∷ []) W N (beginning 2) (text ∷ []) (reply.Possible 1 0 (codes "a" ∷ []) (in_two ∷ []) ∷ []) last → ⊥
  not_admitted l =
      let r = l.1 in
      let right = subst (λ a. PossibleRight (in_two ∷ []) r.query (by 1 (x_is 1) ∷ []) a) r.sees.2 r.right in
      right.witnessed 0 in_two (omega arith)

  -- a certain row that is not: (1), of tables without rows
  no_tuples : (q : PlainQuery) (w : Database) → ((t : List ℕ) → rows [] (plain.Table t) w ≡ []) → rows [] q w ≡ []
  no_tuples (plain.Table t) w e = e t
  no_tuples (plain.Select c q) w e = rw (no_tuples q w e) refl
  no_tuples (plain.Project ks q) w e = rw (no_tuples q w e) refl
  no_tuples (plain.Product a b) w e = rw (no_tuples a w e) refl
  no_tuples (plain.Union a b) w e = rw (no_tuples a w e, no_tuples b w e) refl
  no_tuples (plain.Except a b) w e = rw (no_tuples a w e) refl
  no_tuples (plain.Intersect a b) w e = rw (no_tuples a w e) refl

  abbrev empty_t : Database
  empty_t = record { name = codes "t"; columns = codes "a" ∷ []; tuples = [] } ∷ []

  if_same : {A : Type 0} (b : Bool) (x : A) → (if b then x else x) ≡ x
  if_same true x = refl
  if_same false x = refl

  abbrev listed : Proof → CertainRow
  listed proof = record { tuple = val.Int (pos 1) ∷ []; proof = proof }

  not_certain : (proof : Proof) → AreLawful created W N (beginning 2) (text ∷ []) (reply.Certain 1 0 (codes "a" ∷ []) (listed proof ∷ []) ∷ []) last → ⊥
  not_certain proof l =
      let r = l.1 in
      let right = subst (λ a. CertainRight (listed proof ∷ []) r.query created a W) r.sees.2 r.right in
      let certain = (right.exact (val.Int (pos 1) ∷ [])).0 refl [] in
      let none : rows [] r.query empty_t ≡ [] = no_tuples r.query empty_t (λ t. if_same (same_text (codes "t") t) []) in
      false≢true (sym (ap (λ ts. has_tuple ts (val.Int (pos 1) ∷ [])) none) ∙ certain)

  -- a read that changed: a transaction that read the worlds at version 0 is committed, after another session's assertion
  abbrev reader : SessionState
  reader = record {
    session = 1;
    seen = 0;
    fresh = 0;
    commits = 0;
    transaction = Some (record { base = 0; actions = plain.InsertRows (codes "t") ((one ∷ []) ∷ []) True ∷ []; reads = read.Worlds ∷ [] });
  }

  changed_read : (c : PlainCommit) → AreLawful (by 2 (x_is 1) ∷ c ∷ []) W N reader (text ∷ []) (reply.Committed 2 ∷ []) last → ⊥
  changed_read c (next, inl r, rest) = none-some _ (sym r.none_open)
  changed_read c (next, inr r, rest) =
      let t = some-injective _ r.transaction r.is_open in
      let all = subst (λ u. All (λ x. last_of (by 2 (x_is 1) ∷ []) x ≤ u.base) u.reads) (sym t) r.unchanged in
      let le : 1 ≤ 0 = all 0 read.Worlds (omega arith) in omega (arith, le)

  -- a full log is no cause to refuse BEGIN
  full_for_begin : ((at : ℕ) (actions : List PlainAction) (st : PlainStatement) → Asks [] (beginning 1) text at actions st → st ≡ plain.Begin)
      → AreLawful [] W N (beginning 1) (text ∷ []) (reply.Refused 0 refusal.Full ∷ []) last → ⊥
  full_for_begin only l =
      let f = l.1.0 in
      let le : 1 ≤ 0 = subst (λ st. 1 ≤ bound (count [] f.actions) (widths_in (schema [] f.actions).tables) None st) (only 0 f.actions f.statement f.asks) f.makes_words in omega (arith, le)

  -- a conflict without a cause: nothing of the history wrote the worlds
  no_cause : (s : SessionState) → AreLawful created W N s (text ∷ []) (reply.Refused 1 (refusal.Conflict read.Worlds 0 1 1) ∷ []) last → ⊥
  no_cause s l =
      let c = l.1.1 in
      let lt : c.base < 0 = c.first.written in omega (arith, lt)

  -- an assertion that a world satisfies is not inconsistent: ?x = 1, after it was asserted
  abbrev asserted : List PlainCommit
  asserted = by 1 (x_is 1) ∷ []

  abbrev x_is_one : PlainStatement
  x_is_one = plain.Act (plain.Assert (Same (term.Null (null.Named (codes "x"))) one))

  abbrev in_one : World
  in_one = (null.Named (codes "x"), val.Int (pos 1)) ∷ []

  not_inconsistent : (proof : Proof) → ((actions : List PlainAction) (st : PlainStatement) → Asks asserted (beginning 2) text 1 actions st → st ≡ x_is_one)
      → AreLawful asserted W N (beginning 2) (text ∷ []) (reply.Refused 1 (refusal.Inconsistent proof) ∷ []) last → ⊥
  not_inconsistent proof only l =
      let r = l.1.0 in
      let none = subst (λ st. admits in_one asserted (r.actions ++ actions_of st) ≡ false) (only r.actions _ r.asks) (r.none_satisfies in_one) in
      false≢true (sym (subst (λ a. admits in_one asserted (a ++ actions_of x_is_one) ≡ false) r.sees.2 none))

  -- a key of a table without rows is not too large: `assert key t (a)`, after t was created
  abbrev key_of_t : PlainStatement
  key_of_t = plain.Act (plain.AssertKey (codes "t") (0 ∷ []))

  not_too_large : ((actions : List PlainAction) (st : PlainStatement) → Asks created (beginning 2) text 1 actions st → st ≡ key_of_t)
      → AreLawful created W N (beginning 2) (text ∷ []) (reply.Refused 1 refusal.TooLarge ∷ []) last → ⊥
  not_too_large only l =
      let r = l.1.0 in
      let evaluates = subst (λ a. asked_size (count created a) r.statement ≡ Some r.asked) r.sees.2 r.evaluates in
      let none : 0 ≡ r.asked = some-injective 0 r.asked (subst (λ st. asked_size (count created []) st ≡ Some r.asked) (only r.actions r.statement r.asks) evaluates) in
      let past = r.past in omega (arith, none, past)

  -- nor is it inconsistent
  key_holds : (proof : Proof) → ((actions : List PlainAction) (st : PlainStatement) → Asks created (beginning 2) text 1 actions st → st ≡ key_of_t)
      → AreLawful created W N (beginning 2) (text ∷ []) (reply.Refused 1 (refusal.Inconsistent proof) ∷ []) last → ⊥
  key_holds proof only l =
      let r = l.1.0 in
      let none = subst (λ st. admits [] created (r.actions ++ actions_of st) ≡ false) (only r.actions _ r.asks) (r.none_satisfies []) in
      false≢true (sym (subst (λ a. admits [] created (a ++ actions_of key_of_t) ≡ false) r.sees.2 none))

  -- a table that is there is not unknown: `delete from t`, after t was created
  abbrev deletion : Statement
  deletion = statement.Delete (codes "t") None

  not_unknown : ((st : Statement) → ReadsAs text st → st ≡ deletion) → AreLawful created W N (beginning 2) (text ∷ []) (reply.Refused 1 refusal.UnknownTable ∷ []) last → ⊥
  not_unknown only l =
      let r = l.1.0 in
      let gives = subst (λ st. resolved (schema created r.actions) 2 0 st ≡ Err name.UnknownTable) (only r.found.statement r.found.reads) r.found.gives in
      let found : Ok (plain.Act (plain.Delete (codes "t") True)) ≡ Err name.UnknownTable = subst (λ a. resolved (schema created a) 2 0 deletion ≡ Err name.UnknownTable) r.sees.2 gives in
      false≢true (sym (ap is_ok found))

  -- possible rows without one of them: `possible select a from t`, after (?x) was inserted
  abbrev filled : List PlainCommit
  filled = by 1 (Create (codes "t") (codes "a" ∷ [])) ∷ by 2 (Insert (codes "t") (record { cells = term.Null (null.Named (codes "x")) ∷ []; condition = True } ∷ [])) ∷ []

  abbrev all_of_t : PlainQuery
  all_of_t = plain.Project (0 ∷ []) (plain.Select True (plain.Table (codes "t")))

  -- the query that a statement asks, if it asks one
  abbrev query_in : PlainStatement → Option PlainQuery
  query_in (plain.Asks k columns q) = Some q
  query_in _ = None

  row_left_out : ((actions : List PlainAction) (st : PlainStatement) → Asks filled (beginning 3) text 2 actions st → st ≡ plain.Asks ask.Possible (codes "a" ∷ []) all_of_t)
      → AreLawful filled W N (beginning 3) (text ∷ []) (reply.Possible 2 0 (codes "a" ∷ []) [] ∷ []) last → ⊥
  row_left_out only l =
      let r = l.1 in
      let query = some-injective _ _ (ap query_in (only r.actions _ r.asks)) in
      let right = subst (λ a. PossibleRight [] all_of_t filled a) r.sees.2 (subst (λ q. PossibleRight [] q filled r.actions) query r.right) in
      false≢true (right.complete [] (val.Other 0 ∷ []) refl)

  -- an answer that every valuation is allowed for, after ?x = 1 was asserted
  all_worlds : AreLawful asserted W N (beginning 2) (text ∷ []) (reply.Rows 1 0 no_rows ∷ []) last → ⊥
  all_worlds l =
      let r = l.1 in
      let means = subst (λ a. Means no_rows r.query asserted a) r.sees.2 r.means in
      false≢true (sym (means []).worlds)

  -- another session's commit
  not_own : AreLawful asserted W N (beginning 2) (text ∷ []) (reply.Committed 1 ∷ []) last → ⊥
  not_own (next, inl r, rest) = of_one r.commit r.stands.1 r.session where
    of_one : (c : PlainCommit) → slice_get asserted 0 ≡ Some c → c.session ≡ 2 → ⊥
    of_one c s e = let two : 1 ≡ 2 = ap (λ d. d.session) (some-injective _ _ s) ∙ e in omega (arith, two)
  not_own (next, inr r, rest) = none-some r.transaction r.is_open
