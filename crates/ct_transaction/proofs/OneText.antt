-- A text has one bound in a state, whichever version is seen.
use Rattle.std.proofs.Common.{◌≡◌, ℕ, ◌≤◌, Bool, true, false, not, List, [], ◌∷◌, length, take, drop, refl, ap, sym, subst, ◌∙◌, arith}
use Rattle.std.{specs.Prelude.{nat_eq, nat_le, Option, Some, None, Ok, Err, IfOk, IsSome}, specs.List.list_all}
use Rattle.std.{proofs.lemmas.Bool.{leb-true, leb-false}, proofs.lemmas.List.take-append-drop, proofs.lemmas.Result.IfOk-at_ok}
use Rattle.ct_word.specs.Change.{PlainCommit}
use Rattle.ct_lex.proofs.Readings.{read_tokens, same_tokens}
use Rattle.ct_parse.{specs.declared.tree.Query.Query, specs.declared.tree.Statement.Statement, specs.Grammar.said, specs.Parses.Spells, proofs.Readings.one_statement}
use Rattle.ct_query.{specs.declared.action.Ask.Ask, specs.declared.schema.Heading.Heading, specs.declared.schema.Schema.Schema, specs.Schema.schema}
use Rattle.ct_query.{specs.Bounds.bound, specs.Fits.columns_in, specs.Patterns.count, specs.Plain.{PlainAction, PlainQuery, PlainStatement}}
use Rattle.ct_resolve.{specs.Conditions.{condition_at, condition_or_true}, specs.Found.{Found, and_then, unless, each}, specs.Names.{table_in, is_table, are_distinct, column_in}}
use Rattle.ct_resolve.{specs.Queries.{Named, query_at}, specs.Statements.{cells_of, columns_set, resolved, set_at}}
use Rattle.ct_resolve.{proofs.FoundParts.and_then_has, proofs.FittingQueries.{table_columns, is_there}, proofs.Growing.{IsNewAmong, resolves_later}}
use Rattle.ct_statement.specs.Making.{widths_in}
use Rattle.ct_transaction.{specs.Seeing.{Asks, Sees, SeesIn}, specs.State.{SessionState, Transaction, own_actions}, specs.Statements.ReadsAs}
use Rattle.ct_transaction.{proofs.Resolving.{after_step, after_test, asking}, proofs.Widths.{first, key_bound}}
use Rattle.ct_query.specs.declared.action.Ask.TheVariants as ask
use Rattle.ct_query.specs.Plain as plain
use Rattle.ct_parse.specs.declared.tree.Statement.TheVariants as statement
use Rattle.ct_resolve.specs.declared.error.ResolveError.TheVariants as fault

-- a text is read as one statement at most
pub one_reading : (x : List ℕ) (st st' : Statement) → ReadsAs x st → ReadsAs x st' → st ≡ st'
one_reading x st st' r r' = one_statement (subst (λ ts. Spells (said ts) st) (same_tokens (read_tokens r.lexes) (read_tokens r'.lexes)) r.spells) r'.spells

one_found : (x y : PlainStatement) → ◌≡◌ {A = Found PlainStatement} (Ok x) (Ok y) → x ≡ y
one_found x y e = cc

-- an action that creates no table; a key is asserted of a table that is there
abbrev IsSteadyAction : List Heading → PlainAction → Type 0
IsSteadyAction hs (plain.Create name columns) = ⊥
IsSteadyAction hs (plain.AssertKey name columns) = IsSome (columns_in hs name)
IsSteadyAction hs _ = Unit {0}

-- a statement with positions is one
abbrev IsSteady : List Heading → PlainStatement → Type 0
IsSteady hs (plain.Act a) = IsSteadyAction hs a
IsSteady hs _ = ⊥

-- a statement asks for one
abbrev ActsOnTables : Statement → Type 0
ActsOnTables (statement.Create name c cs) = ⊥
ActsOnTables (statement.Rows q) = ⊥
ActsOnTables (statement.Possible q) = ⊥
ActsOnTables (statement.Certain q) = ⊥
ActsOnTables statement.Begin = ⊥
ActsOnTables statement.Commit = ⊥
ActsOnTables statement.Rollback = ⊥
ActsOnTables _ = Unit {0}

finds_steady : (s : Schema) (session fresh : ℕ) (st : Statement) → ActsOnTables st → IfOk (resolved s session fresh st) (IsSteady s.tables)
finds_steady s session fresh (statement.InsertRows name r rs c) n =
    let P = IsSteady s.tables in
    after_step P (table_in s.tables name) _ (λ h. after_test P (list_all (λ w. nat_eq (length (cells_of w)) (length h.columns)) (r ∷ rs)) fault.ColumnCount _ (after_step P (condition_or_true [] c) _ (λ d. tt)))
finds_steady s session fresh (statement.InsertQuery name q) n =
    let P = IsSteady s.tables in
    after_step P (table_in s.tables name) _ (λ h. after_step P (query_at s.tables q) _ (λ a. after_test P (nat_eq (length a.columns) (length h.columns)) fault.ColumnCount _ tt))
finds_steady s session fresh (statement.Delete name c) n =
    let P = IsSteady s.tables in
    after_step P (table_in s.tables name) _ (λ h. after_step P (condition_or_true (h ∷ []) c) _ (λ d. tt))
finds_steady s session fresh (statement.Update name a bs c) n =
    let P = IsSteady s.tables in
    after_step P (table_in s.tables name) _
    (λ h. after_step P (each (set_at h) (a ∷ bs)) _ (λ sets. after_test P (are_distinct (columns_set (a ∷ bs))) fault.DuplicateName _ (after_step P (condition_or_true (h ∷ []) c) _ (λ d. tt))))
finds_steady s session fresh (statement.Assert c) n = after_step (IsSteady s.tables) (condition_at [] c) _ (λ d. tt)
finds_steady s session fresh (statement.AssertExists negated q) n = after_step (IsSteady s.tables) (query_at s.tables q) _ (λ a. tt)
finds_steady s session fresh (statement.AssertKey name c cs) n =
    let P = IsSteady s.tables in
    and_then_has (λ h. columns_in s.tables name ≡ Some h.columns) P (table_in s.tables name)
    (λ h. and_then (each (column_in h) (c ∷ cs)) (λ ks. unless (are_distinct (c ∷ cs)) fault.DuplicateName (Ok (plain.Act (plain.AssertKey name ks))))) (table_columns s.tables name)
    (λ h there. after_step P (each (column_in h) (c ∷ cs)) _ (λ ks. after_test P (are_distinct (c ∷ cs)) fault.DuplicateName _ (is_there s.tables name h.columns there)))
finds_steady s session fresh _ n = absurd n

creates_none : (hs all : List Heading) (a : PlainAction) → IsSteadyAction hs a → IsNewAmong all a
creates_none hs all (plain.Create name columns) is = absurd is
creates_none hs all _ is = tt

-- a statement at two versions of a history, the one no later than the other
module _ (H : List PlainCommit) (at later : ℕ) (le : at ≤ later) (within : later ≤ length H) (session fresh : ℕ) (own : Option (List PlainAction)) where
  abbrev old : Schema
  old = schema (take at H) []

  abbrev new : Schema
  new = schema (take later H) []

  abbrev old_bound : PlainStatement → ℕ
  old_bound st = bound (count H []) (widths_in old.tables) own st

  abbrev new_bound : PlainStatement → ℕ
  new_bound st = bound (count H []) (widths_in new.tables) own st

  found_later : (st : Statement) (a : PlainAction) → IsNewAmong new.tables a → resolved old session fresh st ≡ Ok (plain.Act a) → resolved new session fresh st ≡ Ok (plain.Act a)
  found_later st a is_new e =
      let g = take later H in
      let all = take-append-drop at g in
      subst (λ h. resolved (schema h []) session fresh st ≡ Ok (plain.Act a)) all
      (resolves_later (take at g) (drop at g) session fresh st a (subst (λ h. IsNewAmong (schema h []).tables a) (sym all) is_new)
      (subst (λ h. resolved (schema h []) session fresh st ≡ Ok (plain.Act a)) (first H at later le within) e))

  steady_bound : (a : PlainAction) → IsSteadyAction old.tables a → new_bound (plain.Act a) ≡ old_bound (plain.Act a)
  steady_bound (plain.AssertKey name ks) there = key_bound H at later le within own name ks there
  steady_bound _ there = refl

  steady : (st : Statement) (x y : PlainStatement) → IsSteady old.tables x → resolved old session fresh st ≡ Ok x → resolved new session fresh st ≡ Ok y → new_bound y ≡ old_bound x
  steady st (plain.Act a) y is e f =
      ap new_bound (one_found y (plain.Act a) (sym f ∙ found_later st a (creates_none old.tables new.tables a is) e)) ∙ steady_bound a is
  steady st _ y is e f = absurd is

  -- two statements of one bound, each of them the one found
  alike : (p q x y : PlainStatement) → new_bound q ≡ old_bound p → ◌≡◌ {A = Found PlainStatement} (Ok p) (Ok x) → ◌≡◌ {A = Found PlainStatement} (Ok q) (Ok y) → new_bound y ≡ old_bound x
  alike p q x y same e f = ap new_bound (sym (one_found q y f)) ∙ same ∙ ap old_bound (one_found p x e)

  created : (was distinct : Bool) (made x : PlainStatement) → unless was fault.TableExists (unless distinct fault.DuplicateName (Ok made)) ≡ Ok x → ◌≡◌ {A = Found PlainStatement} (Ok made) (Ok x)
  created true true made x e = e
  created true false made x e = cc
  created false distinct made x e = cc

  -- a query is the one that an assertion over it has
  abbrev asserted : Named → Found PlainStatement
  asserted n = Ok (plain.Act (plain.AssertQuery true n.query))

  one_query : (a b : PlainQuery) → ◌≡◌ {A = Found PlainStatement} (Ok (plain.Act (plain.AssertQuery true a))) (Ok (plain.Act (plain.AssertQuery true b))) → a ≡ b
  one_query a b e = cc

  asked : (k : Ask) (x y : PlainStatement) (r r' : Found Named) → ((n : Named) → r ≡ Ok n → and_then r' asserted ≡ Ok (plain.Act (plain.AssertQuery true n.query)))
      → and_then r (asking k) ≡ Ok x → and_then r' (asking k) ≡ Ok y → new_bound y ≡ old_bound x
  asked k x y (Ok n) (Ok m) again e f =
      alike (plain.Asks k n.columns n.query) (plain.Asks k m.columns m.query) x y (ap (λ q. old_bound (plain.Asks k n.columns q)) (one_query m.query n.query (again n refl))) e f
  asked k x y (Ok n) (Err w) again e f = cc
  asked k x y (Err w) r' again e f = cc

  query_again : (q : Query) (n : Named) → query_at old.tables q ≡ Ok n → and_then (query_at new.tables q) asserted ≡ Ok (plain.Act (plain.AssertQuery true n.query))
  query_again q n e = found_later (statement.AssertExists false q) (plain.AssertQuery true n.query) tt (ap (λ r. and_then r asserted) e)

  pub same_bound : (st : Statement) (x y : PlainStatement) → resolved old session fresh st ≡ Ok x → resolved new session fresh st ≡ Ok y → new_bound y ≡ old_bound x
  same_bound (statement.Create name c cs) x y e f =
      let made = plain.Act (plain.Create name (c ∷ cs)) in
      alike made made x y refl (created (not (is_table old.tables name)) (are_distinct (c ∷ cs)) made x e) (created (not (is_table new.tables name)) (are_distinct (c ∷ cs)) made y f)
  same_bound (statement.Rows q) x y e f = asked ask.Rows x y (query_at old.tables q) (query_at new.tables q) (query_again q) e f
  same_bound (statement.Possible q) x y e f = asked ask.Possible x y (query_at old.tables q) (query_at new.tables q) (query_again q) e f
  same_bound (statement.Certain q) x y e f = asked ask.Certain x y (query_at old.tables q) (query_at new.tables q) (query_again q) e f
  same_bound statement.Begin x y e f = alike plain.Begin plain.Begin x y refl e f
  same_bound statement.Commit x y e f = alike plain.Commit plain.Commit x y refl e f
  same_bound statement.Rollback x y e f = alike plain.Rollback plain.Rollback x y refl e f
  same_bound st x y e f = steady st x y (IfOk-at_ok (IsSteady old.tables) e (finds_steady old session fresh st tt)) e f

-- a text in a state
module _ (H : List PlainCommit) (s : SessionState) (x : List ℕ) where
  abbrev bound_at : ℕ → List PlainAction → PlainStatement → ℕ
  bound_at at own st = bound (count H own) (widths_in (schema (take at H) own).tables) (own_actions s) st

  inside : (at : ℕ) (own : List PlainAction) (st st' : PlainStatement) → Asks H s x at own st → Asks H s x at own st' → bound_at at own st ≡ bound_at at own st'
  inside at own st st' a a' =
      let one = one_reading x a.statement a'.statement a.reads a'.reads in
      ap (bound_at at own) (one_found st st' (sym a.gives ∙ ap (resolved (schema (take at H) own) s.session s.fresh) one ∙ a'.gives))

  outside : (at later : ℕ) (st st' : PlainStatement) → at ≤ later → later ≤ length H → Asks H s x at [] st → Asks H s x later [] st' → bound_at later [] st' ≡ bound_at at [] st
  outside at later st st' le within a a' =
      let one = one_reading x a'.statement a.statement a'.reads a.reads in
      same_bound H at later le within s.session s.fresh (own_actions s) a.statement st st' a.gives
      (subst (λ t. resolved (schema (take later H) []) s.session s.fresh t ≡ Ok st') one a'.gives)

  either : (at at' : ℕ) (st st' : PlainStatement) → at ≤ length H → at' ≤ length H → Asks H s x at [] st → Asks H s x at' [] st' → bound_at at [] st ≡ bound_at at' [] st'
  either at at' st st' within within' a a' = by_order (nat_le at at') refl where
    by_order : (b : Bool) → nat_le at at' ≡ b → bound_at at [] st ≡ bound_at at' [] st'
    by_order true is = sym (outside at at' st st' (leb-true at at' is) within' a a')
    by_order false is = let lt = leb-false at at' is in outside at' at st' st (omega (arith, lt)) within a' a

pub one_text : (H : List PlainCommit) (s : SessionState) (x : List ℕ) (at at' : ℕ) (own own' : List PlainAction) (st st' : PlainStatement) → Sees H s at own → Asks H s x at own st → Sees H s at' own' → Asks H s x at' own' st'
    → bound (count H own) (widths_in (schema (take at H) own).tables) (own_actions s) st ≡ bound (count H own') (widths_in (schema (take at' H) own').tables) (own_actions s) st'
one_text H s x at at' own own' st st' sees a sees' a' = by_transaction s.transaction sees sees' where
  by_transaction : (t : Option Transaction) → SeesIn H t s at own → SeesIn H t s at' own' → bound_at H s x at own st ≡ bound_at H s x at' own' st'
  by_transaction (Some t) sees sees' =
      let version = sees.0 ∙ sym sees'.0 in
      let same = sees.1 ∙ sym sees'.1 in
      let there = subst (λ os. Asks H s x at os st') (sym same) (subst (λ n. Asks H s x n own' st') (sym version) a') in
      inside H s x at own st st' a there ∙ ap (λ n. bound_at H s x n own st') version ∙ ap (λ os. bound_at H s x at' os st') same
  by_transaction None sees sees' =
      ap (λ os. bound_at H s x at os st) sees.2
      ∙ either H s x at at' st st' sees.1 sees'.1 (subst (λ os. Asks H s x at os st) sees.2 a) (subst (λ os. Asks H s x at' os st') sees'.2 a')
      ∙ ap (λ os. bound_at H s x at' os st') (sym sees'.2)
