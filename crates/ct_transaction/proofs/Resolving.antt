-- What a statement resolves to: what resolves one that is no BEGIN, COMMIT or ROLLBACK is none either; and a refusal of names.
use Rattle.std.{proofs.Common.{◌≡◌, ◌≢◌, ℕ, Bool, true, false, not, List, [], ◌∷◌, length, refl, subst}, specs.Prelude.{Ok, Err, IfOk, nat_eq}, specs.List.list_all}
use Rattle.ct_word.specs.Change.{PlainCommit}
use Rattle.ct_query.{specs.declared.action.Ask.Ask, specs.declared.action.Resolved.Resolved, specs.declared.schema.Schema.Schema, specs.Schema.schema}
use Rattle.ct_query.{specs.Plain.{PlainAction, PlainStatement}, specs.Views.statement_of}
use Rattle.ct_parse.specs.declared.tree.Statement.{Statement}
use Rattle.ct_resolve.{specs.declared.error.ResolveError.ResolveError, specs.Found.{Found, and_then, unless, each}, specs.Names.{table_in, is_table, are_distinct, column_in}}
use Rattle.ct_resolve.{specs.Conditions.{condition_at, condition_or_true}, specs.Queries.{Named, query_at}, specs.Statements.{cells_of, columns_set, resolved, set_at}}
use Rattle.ct_statement.specs.Making.{says_full}
use Rattle.ct_transaction.specs.Prepared.{IsNoOrder, IsNoPlainOrder, IsRefused, by_name, wanting_memory, name_refusal}
use Rattle.ct_query.specs.declared.action.Ask.TheVariants as ask
use Rattle.ct_query.specs.declared.action.Resolved.TheVariants as resolution
use Rattle.ct_query.specs.Plain as plain
use Rattle.ct_parse.specs.declared.tree.Statement.TheVariants as statement
use Rattle.ct_resolve.specs.declared.error.ResolveError.TheVariants as fault

-- what is found is no order
abbrev FindsNone : Found PlainStatement → Type 0
FindsNone r = IfOk r IsNoPlainOrder

-- what holds of what is found behind a step or a test
module _ (P : PlainStatement → Type 0) where
  pub after_step : {A : Type 0} (m : Found A) (f : A → Found PlainStatement) → ((a : A) → IfOk (f a) P) → IfOk (and_then m f) P
  after_step (Ok a) f h = h a
  after_step (Err e) f h = tt

  pub after_test : (b : Bool) (e : ResolveError) (r : Found PlainStatement) → IfOk r P → IfOk (unless b e r) P
  after_test true e r h = h
  after_test false e r h = tt

-- a query of which something is asked
abbrev pub asking : Ask → Named → Found PlainStatement
asking k a = Ok (plain.Asks k a.columns a.query)

finds_none : (s : Schema) (session fresh : ℕ) (st : Statement) → IsNoOrder st → FindsNone (resolved s session fresh st)
finds_none s session fresh (statement.Create name c cs) n =
    after_test IsNoPlainOrder (not (is_table s.tables name)) fault.TableExists _ (after_test IsNoPlainOrder (are_distinct (c ∷ cs)) fault.DuplicateName _ tt)
finds_none s session fresh (statement.InsertRows name r rs c) n =
    after_step IsNoPlainOrder (table_in s.tables name) _ (λ h. after_test IsNoPlainOrder (list_all (λ w. nat_eq (length (cells_of w)) (length h.columns)) (r ∷ rs)) fault.ColumnCount _ (after_step IsNoPlainOrder (condition_or_true [] c) _ (λ d. tt)))
finds_none s session fresh (statement.InsertQuery name q) n =
    after_step IsNoPlainOrder (table_in s.tables name) _ (λ h. after_step IsNoPlainOrder (query_at s.tables q) _ (λ a. after_test IsNoPlainOrder (nat_eq (length a.columns) (length h.columns)) fault.ColumnCount _ tt))
finds_none s session fresh (statement.Delete name c) n =
    after_step IsNoPlainOrder (table_in s.tables name) _ (λ h. after_step IsNoPlainOrder (condition_or_true (h ∷ []) c) _ (λ d. tt))
finds_none s session fresh (statement.Update name a bs c) n =
    after_step IsNoPlainOrder (table_in s.tables name) _ (λ h. after_step IsNoPlainOrder (each (set_at h) (a ∷ bs)) _ (λ sets. after_test IsNoPlainOrder (are_distinct (columns_set (a ∷ bs))) fault.DuplicateName _ (after_step IsNoPlainOrder (condition_or_true (h ∷ []) c) _ (λ d. tt))))
finds_none s session fresh (statement.Assert c) n = after_step IsNoPlainOrder (condition_at [] c) _ (λ d. tt)
finds_none s session fresh (statement.AssertExists negated q) n = after_step IsNoPlainOrder (query_at s.tables q) _ (λ a. tt)
finds_none s session fresh (statement.AssertKey name c cs) n =
    after_step IsNoPlainOrder (table_in s.tables name) _ (λ h. after_step IsNoPlainOrder (each (column_in h) (c ∷ cs)) _ (λ ks. after_test IsNoPlainOrder (are_distinct (c ∷ cs)) fault.DuplicateName _ tt))
finds_none s session fresh (statement.Rows q) n = after_step IsNoPlainOrder (query_at s.tables q) (asking ask.Rows) (λ a. tt)
finds_none s session fresh (statement.Possible q) n = after_step IsNoPlainOrder (query_at s.tables q) (asking ask.Possible) (λ a. tt)
finds_none s session fresh (statement.Certain q) n = after_step IsNoPlainOrder (query_at s.tables q) (asking ask.Certain) (λ a. tt)
finds_none s session fresh _ n = absurd n

pub no_order : (s : Schema) (session fresh : ℕ) (st : Statement) (asked : PlainStatement) → IsNoOrder st → resolved s session fresh st ≡ Ok asked → IsNoPlainOrder asked
no_order s session fresh st asked n e = subst FindsNone e (finds_none s session fresh st n)

-- a resolved statement that is none is no BEGIN, COMMIT or ROLLBACK
pub not_begin : (r : Resolved) → IsNoPlainOrder (statement_of r) → r ≡ resolution.Begin → ⊥
not_begin r n e = subst (λ x. IsNoPlainOrder (statement_of x)) e n

pub not_commit : (r : Resolved) → IsNoPlainOrder (statement_of r) → r ≡ resolution.Commit → ⊥
not_commit r n e = subst (λ x. IsNoPlainOrder (statement_of x)) e n

pub not_rollback : (r : Resolved) → IsNoPlainOrder (statement_of r) → r ≡ resolution.Rollback → ⊥
not_rollback r n e = subst (λ x. IsNoPlainOrder (statement_of x)) e n

-- a name or a count that does not fit is refused so
pub named_refuses : (h : List PlainCommit) (before : List PlainAction) (room : ℕ) (words : List ℕ) (session fresh : ℕ) (st : Statement) (e : ResolveError)
    → (e ≢ fault.Memory → resolved (schema h before) session fresh st ≡ Err e) → IsRefused h before room words session fresh st (name_refusal e)
named_refuses h before room words session fresh st fault.Memory f = wanting_memory
named_refuses h before room words session fresh st e f = by_name e (λ p. cc) (f (λ p. cc))

-- no fault of a name says that the log is full
pub named_room : (e : ResolveError) → says_full (name_refusal e) ≡ false
named_room fault.UnknownTable = refl
named_room _ = refl
