-- What tables, a global condition and a kept world denote after an effect: by a change of the history, and by an action.
use Rattle.std.{proofs.Common.{◌≡◌, ℕ, List, [], ◌∷◌, ◌++◌, length, map, Some, refl, ap, sym, subst, ◌∙◌}, specs.List.AllByRecursion}
use Rattle.std.{specs.Prelude.{IsTrue, IsSome, IfSome, All, if◌then◌else◌}, proofs.lemmas.List.Elements.{All-head, All-tail}, specs.Option.option_to_list}
use Rattle.ct_word.{specs.declared.values.Value.Value, specs.declared.values.Term.Term, specs.declared.values.CRow.CRow, specs.Value.{World, tuple_at}}
use Rattle.ct_word.{specs.Condition.{Condition, holds_at}, specs.Sublist.IsSublist, specs.Change.{PlainRow, PlainChange, Insert, PlainCommit}}
use Rattle.ct_word.{specs.Reading.{condition_at, plain_crow}, specs.Stands.{TermBelow, HasNoColumn}, specs.WellFormed.IsWellFormed, specs.Writable.is_writable}
use Rattle.ct_query.{specs.Plain.PlainAction, specs.Database.{Database, SameSet}, specs.Rows.rows, specs.Step.{inserted, shown_rows, step_change, step_action}}
use Rattle.ct_query.{specs.Agrees.{SameTruthAlone, AgreesWith}, specs.Updates.{updated, with_updated}, specs.Worlds.{world, changes_of}, specs.Patterns.{pattern, patterns}, proofs.Sublists.all_of}
use Rattle.ct_query.{specs.Schema.{created_by_change, created_by_action}, proofs.Laws.patterns_action, proofs.Sets.same_set_itself}
use Rattle.ct_condition.proofs.Reached.{formed_before}
use Rattle.ct_history.{specs.declared.written.Written.Written, specs.Written.{IsWritten, plain_written}}
use Rattle.ct_table.{specs.declared.pending.Growth.Growth, specs.Following.Follows, specs.Denotes.{TableView, Denotes, IsTermFor, find_table, with_table}}
use Rattle.ct_table.{specs.Snapshot.{IsGlobal, IsKeptValue, IsKeptWorld}, proofs.Following.{change_follows, action_follows, lines_here, sets_here}}
use Rattle.ct_table.{proofs.Denoting.{with_rows, found_name}, proofs.Acting.{asserts_by, kept_by, created_by, asserted_by, rows_where, rows_follow}}
use Rattle.ct_table.proofs.Changing.{cells_listed, update_named, inserted_after, deleted_after, updated_after, created_denotes, inserted_denotes, deleted_denotes, updated_denotes, asserted_denotes}
use Rattle.ct_table.proofs.Snapshots.{global_grows, global_stays, global_narrowed_by, global_denotes, kept_grows, kept_stays}
use Rattle.ct_operators.{specs.Tables.{cells_of, value_of_rows}, specs.Terms.{TermOfRows, IsNoColumn}, proofs.Reaching.{none_of_rows, plain_rows}}
use Rattle.ct_operators.proofs.Naming.{condition_named, rows_named}
use Rattle.ct_keeper.{specs.declared.effects.Effect.Effect, specs.Effects.{DoesChange, Gets, AreInserted, tables_after, global_after, rows_of_table}}
use Rattle.ct_keeper.specs.Doing.{HasTermsFor}
use mathlib.Core.List.{IsPrefix}
use Rattle.ct_query.specs.Plain as plain
use Rattle.ct_query.specs.declared.action.Read.TheVariants as read
use Rattle.ct_history.specs.declared.written.Written.TheVariants as written
use Rattle.ct_keeper.specs.declared.effects.Effect.TheVariants as effect

-- a place below which no column stands has no column among its terms
no_column : (words : List ℕ) (p : ℕ) (u : Term) → HasNoColumn words p → TermBelow words p u → IsNoColumn u
no_column words p u none b k e = none k (subst (TermBelow words p) e b)

-- what rows of places stand for is under one truth
truths_of : (words : List ℕ) (c : Condition) (more : List CRow) → All (λ (r : PlainRow). SameTruthAlone r.condition c) (map (plain_crow words) more)
    → AllByRecursion (λ r. SameTruthAlone (condition_at words r.cond) c) more
truths_of words c [] all = tt
truths_of words c (r ∷ more) all = (
  All-head (λ (x : PlainRow). SameTruthAlone x.condition c) (plain_crow words r) (map (plain_crow words) more) all,
  truths_of words c more (All-tail (λ (x : PlainRow). SameTruthAlone x.condition c) (plain_crow words r) (map (plain_crow words) more) all),
)

-- other rows for the table that is found, which has the name that it was found by
pub with_found : (db tables : List TableView) (name : List ℕ) (t : TableView) (rs : List CRow) → find_table db name ≡ Some t → tables ≡ with_table db (rows_of_table t rs)
    → with_table db (with_rows name t rs) ≡ tables
with_found db tables name t rs found is = (λ i. with_table db (with_rows (sym (found_name name t db found) i) t rs)) ∙ sym is

module _ (old new : List ℕ) (longer : IsPrefix old new) (formed : IsWellFormed new) (db : List TableView) (global : ℕ) where
  formed_old : IsWellFormed old
  formed_old = formed_before old new longer formed

  -- a change fails nowhere that is a growth
  never_fails : (w : Written) (growth : Growth) → DoesChange old new db global w (effect.Grows growth) → (v : World) (d : Database) → IsSome (step_change v d (plain_written old w))
  never_fails (written.Assert cond) growth does v d = absurd does
  never_fails _ growth does v d = refl

  -- after one change more of a history
  module _ (h g : List PlainCommit) where
    history_tables : (w : Written) (e : Effect) → IsWritten old w → DoesChange old new db global w e → changes_of g ≡ changes_of h ++ plain_written old w ∷ []
        → Denotes old h [] db → IsTrue (is_writable (plain_written old w)) → Denotes new g [] (tables_after db e)
    history_tables (written.Create name columns) (effect.Grows growth) placed does is d can =
        subst (Denotes new g []) (sym does.1) (created_denotes old new longer formed h g db d name columns is can does.0)
    history_tables (written.Insert name more) (effect.Grows growth) placed does is d can =
        let t = does.table in
        subst (Denotes new g []) (with_found db _ name t does.rows does.is_found does.after_is)
        (inserted_denotes old new longer formed h g db d name more is can t does.is_found does.true_of.each does.rows does.true_of.are does.true_of.tuples does.true_of.part does.true_of.terms)
    history_tables (written.Delete name cond) (effect.Grows growth) placed does is d can =
        let t = does.table in
        subst (Denotes new g []) (with_found db _ name t does.rows does.is_found does.after_is)
        (deleted_denotes old new longer formed h g db d name cond is can placed t does.is_found does.rows does.true_of.are does.true_of.tuples does.true_of.part does.true_of.terms)
    history_tables (written.Update name sets cond) (effect.Grows growth) placed does is d can =
        let t = does.table in
        subst (Denotes new g []) (with_found db _ name t does.rows does.is_found does.after_is)
        (updated_denotes old new longer formed h g db d name sets cond is can placed.0 placed.1 t does.is_found does.rows does.true_of.are does.true_of.tuples does.true_of.part does.true_of.terms)
    history_tables (written.Assert cond) (effect.Narrows place) placed does is d can = asserted_denotes old new longer formed h g db d (condition_at old cond) is can
    history_tables _ _ placed does is d can = absurd does

    -- the global condition and a kept world after a change that cannot fail
    module _ (x : PlainChange) (is : changes_of g ≡ changes_of h ++ x ∷ []) (total : (v : World) (d : Database) → IsSome (step_change v d x)) where
      change_global : IsGlobal old h [] global → IsGlobal new g [] global
      change_global was =
          global_grows old new longer formed g [] global
          (global_stays h [] g [] (λ v d. step_change v d x) (option_to_list (created_by_change x)) (change_follows h g x is) total old global was)

      change_kept : (kept : World) → IsKeptWorld old h [] kept → IsKeptWorld new g [] kept
      change_kept kept was =
          kept_grows old new longer formed g [] kept
          (kept_stays h [] g [] (λ v d. step_change v d x) (option_to_list (created_by_change x)) (change_follows h g x is) total old kept was)

    history_global : (w : Written) (e : Effect) → IsWritten old w → DoesChange old new db global w e → changes_of g ≡ changes_of h ++ plain_written old w ∷ []
        → IsGlobal old h [] global → IsGlobal new g [] (global_after global e)
    history_global w (effect.Grows growth) placed does is was = change_global (plain_written old w) is (never_fails w growth does) was
    history_global (written.Assert cond) (effect.Narrows place) placed does is was =
        global_denotes old new formed_old h g global cond place is was placed does.plain does.truth does.terms
    history_global _ (effect.Narrows place) placed does is was = absurd does

  -- after one action more
  module _ (h : List PlainCommit) (actions : List PlainAction) where
    -- its change inserts rows
    module _ (a : PlainAction) (more_of : World → Database → List (List Value)) (name name' : List ℕ) (more : List CRow) (same : name ≡ name')
        (terms : HasTermsFor h actions a (Insert name (map (plain_crow old) more))) (lines : List (List Term)) (among : IsSublist (cells_of old more) lines)
        (grows : patterns h (actions ++ a ∷ []) name' ≡ patterns h actions name' ++ lines)
        (worths : (v : World) (d : Database) → world v h actions ≡ Some d → SameSet (value_of_rows old v more) (more_of v d))
        (f : Follows h actions h (actions ++ a ∷ []) (λ v d. Some (inserted d name' (more_of v d))) []) where
      insertion_denotes : (tables : List TableView) → Gets db tables (find_table db name) (λ t rs. AreInserted old new (length t.columns) t.rows more rs)
          → Denotes old h actions db → Denotes new h (actions ++ a ∷ []) tables
      insertion_denotes tables gets d =
          let t = gets.table in
          let found : find_table db name' ≡ Some t = ap (find_table db) (sym same) ∙ gets.is_found in
          let each = gets.true_of.each in
          subst (Denotes new h (actions ++ a ∷ [])) (with_found db tables name' t gets.rows found gets.after_is)
          (inserted_after old new longer formed h actions h (actions ++ a ∷ []) db d d.writable name' t found gets.rows gets.true_of.are
          more_of f more worths lines among grows
          (λ u b.
          subst (λ n. IsTermFor h (actions ++ a ∷ []) (read.Table n) u) same
          (terms u (λ k e. none_of_rows old more (plain_rows old (length t.columns) more each) k (subst (TermOfRows old more) e b))
          (rows_named old formed_old (length t.columns) more u each b)))
          gets.true_of.tuples gets.true_of.part gets.true_of.terms)

    action_tables : (w : Written) (e : Effect) (a : PlainAction) → IsWritten old w → DoesChange old new db global w e → AgreesWith h actions a (plain_written old w)
        → HasTermsFor h actions a (plain_written old w) → Denotes old h actions db → Denotes new h (actions ++ a ∷ []) (tables_after db e)
    action_tables (written.Create name columns) (effect.Grows growth) (plain.Create name' columns') placed does agrees terms d =
        subst (λ x. Denotes new h (actions ++ x ∷ []) (tables_after db (effect.Grows growth))) (λ i. plain.Create (agrees.0 i) (agrees.1 i))
        (subst (Denotes new h (actions ++ plain.Create name columns ∷ [])) (sym does.1) (created_by old new longer formed h actions db d name columns does.0))
    action_tables (written.Insert name more) (effect.Grows growth) (plain.InsertRows name' lists c) placed does agrees terms d =
        let a = plain.InsertRows name' lists c in
        let cells : cells_of old more ≡ lists = sym (cells_listed old more) ∙ agrees.1 in
        insertion_denotes a (λ v w. if holds_at v c then map (tuple_at v) lists else []) name name' more agrees.0 terms lists
        (subst (IsSublist (cells_of old more)) cells (all_of (cells_of old more)))
        ((λ i. patterns_action h actions a i name') ∙ lines_here (patterns h actions) name' lists)
        (λ v w e.
        subst (SameSet (value_of_rows old v more))
        (rows_where old v c more (holds_at v c) refl (truths_of old c more agrees.2) ∙ (λ i. if holds_at v c then map (tuple_at v) (cells i) else []))
        (same_set_itself (value_of_rows old v more)))
        (rows_follow old new longer formed h actions db d name' does.table (ap (find_table db) (sym agrees.0) ∙ does.is_found) does.rows does.true_of.are lists c)
        (tables_after db (effect.Grows growth)) does d
    action_tables (written.Insert name more) (effect.Grows growth) (plain.InsertQuery name' q) placed does agrees terms d =
        let a = plain.InsertQuery name' q in
        insertion_denotes a (λ v w. rows v q w) name name' more agrees.0 terms (pattern h actions q)
        (subst (λ cs. IsSublist cs (pattern h actions q)) (cells_listed old more) agrees.1)
        ((λ i. patterns_action h actions a i name') ∙ lines_here (patterns h actions) name' (pattern h actions q))
        (λ v w e. subst (λ o. IfSome o (λ w. SameSet (shown_rows v (map (plain_crow old) more)) (rows v q w))) e (agrees.2 v))
        (action_follows h actions a) (tables_after db (effect.Grows growth)) does d
    action_tables (written.Delete name cond) (effect.Grows growth) (plain.Delete name' c) placed does agrees terms d =
        let a = plain.Delete name' c in
        let t = does.table in
        let found : find_table db name' ≡ Some t = ap (find_table db) (sym agrees.0) ∙ does.is_found in
        subst (Denotes new h (actions ++ a ∷ [])) (with_found db (tables_after db (effect.Grows growth)) name' t does.rows found does.after_is)
        (deleted_after old new longer formed h actions h (actions ++ a ∷ []) db d d.writable name' t found does.rows does.true_of.are
        c (action_follows h actions a) cond agrees.1
        (λ u b none. subst (λ n. IsTermFor h (actions ++ a ∷ []) (read.Table n) u) agrees.0 (terms u none (condition_named old formed_old cond u placed b)))
        does.true_of.tuples does.true_of.part does.true_of.terms)
    action_tables (written.Update name sets cond) (effect.Grows growth) (plain.Update name' sets' c) placed does agrees terms d =
        let a = plain.Update name' sets' c in
        let t = does.table in
        let found : find_table db name' ≡ Some t = ap (find_table db) (sym agrees.0) ∙ does.is_found in
        subst (Denotes new h (actions ++ a ∷ [])) (with_found db (tables_after db (effect.Grows growth)) name' t does.rows found does.after_is)
        (updated_after old new longer formed h actions h (actions ++ a ∷ []) db d d.writable name' t found does.rows does.true_of.are
        sets' c (action_follows h actions a) ((λ i. patterns_action h actions a i name') ∙ sets_here (patterns h actions) name' sets') cond agrees.2
        (cond ∷ map (λ s. s.1) sets)
        (λ u b none. subst (λ n. IsTermFor h (actions ++ a ∷ []) (read.Table n) u) agrees.0 (terms u none (update_named old formed_old name sets cond placed.0 placed.1 u b)))
        (λ v. subst (λ ss. SameSet (value_of_rows new v does.rows) (updated v (condition_at old cond) ss (value_of_rows old v t.rows))) agrees.1 (does.true_of.tuples v))
        (subst (λ ss. IsSublist (cells_of new does.rows) (with_updated ss (cells_of old t.rows))) agrees.1 does.true_of.part)
        does.true_of.terms)
    action_tables (written.Assert cond) (effect.Narrows place) a placed does agrees terms d = asserted_by old new longer formed h actions db d a (asserts_by h actions a (condition_at old cond) agrees)
    action_tables _ (effect.Narrows place) a placed does agrees terms d = absurd does
    action_tables (written.Assert cond) (effect.Grows growth) a placed does agrees terms d = absurd does
    action_tables _ _ _ placed does agrees terms d = absurd agrees

    -- the global condition and a kept world after an action that cannot fail
    module _ (a : PlainAction) (total : (v : World) (d : Database) → IsSome (step_action v d a)) where
      action_global : IsGlobal old h actions global → IsGlobal new h (actions ++ a ∷ []) global
      action_global was =
          global_grows old new longer formed h (actions ++ a ∷ []) global
          (global_stays h actions h (actions ++ a ∷ []) (λ v d. step_action v d a) (option_to_list (created_by_action a)) (action_follows h actions a) total old global was)

      action_kept : (kept : World) → IsKeptWorld old h actions kept → IsKeptWorld new h (actions ++ a ∷ []) kept
      action_kept kept was =
          kept_grows old new longer formed h (actions ++ a ∷ []) kept
          (kept_stays h actions h (actions ++ a ∷ []) (λ v d. step_action v d a) (option_to_list (created_by_action a)) (action_follows h actions a) total old kept was)

    -- an action fails nowhere whose change is a growth
    action_total : (w : Written) (growth : Growth) (a : PlainAction) → DoesChange old new db global w (effect.Grows growth) → AgreesWith h actions a (plain_written old w)
        → (v : World) (d : Database) → IsSome (step_action v d a)
    action_total (written.Assert cond) growth a does agrees v d = absurd does
    action_total _ growth (plain.Assert c) does agrees v d = absurd agrees
    action_total _ growth (plain.AssertQuery wanted q) does agrees v d = absurd agrees
    action_total _ growth (plain.AssertKey name columns) does agrees v d = absurd agrees
    action_total w growth _ does agrees v d = refl

    asserted_global : (w : Written) (place : ℕ) (a : PlainAction) → IsWritten old w → DoesChange old new db global w (effect.Narrows place) → AgreesWith h actions a (plain_written old w)
        → HasTermsFor h actions a (plain_written old w) → IsGlobal old h actions global → IsGlobal new h (actions ++ a ∷ []) place
    asserted_global (written.Assert cond) place a placed does agrees terms was =
        global_narrowed_by old new h actions a global cond place was (kept_by h actions a (condition_at old cond) agrees) does.plain
        (λ u b. terms u (no_column old cond u does.plain b) (condition_named old formed_old cond u placed b))
        does.truth does.terms
    asserted_global _ place a placed does agrees terms was = absurd does

-- a world at which the global condition holds is admitted
world_of_global : (words : List ℕ) (h : List PlainCommit) (actions : List PlainAction) (place : ℕ) (kept : World) → IsGlobal words h actions place
    → IsTrue (holds_at kept (condition_at words place)) → All (λ p. IsKeptValue words p.1) kept → IsKeptWorld words h actions kept
world_of_global words h actions place kept g holds values = record { admitted = sym (g.holds kept) ∙ holds; values = values }

module _ (old new : List ℕ) (longer : IsPrefix old new) (formed : IsWellFormed new) (db : List TableView) (global : ℕ) (w : Written) (placed : IsWritten old w) (e : Effect) (does : DoesChange old new db global w e) where
  -- after one change more of a history
  module _ (h g : List PlainCommit) (is : changes_of g ≡ changes_of h ++ plain_written old w ∷ []) where
    pub tables_denote : Denotes old h [] db → IsTrue (is_writable (plain_written old w)) → Denotes new g [] (tables_after db e)
    tables_denote d can = history_tables old new longer formed db global h g w e placed does is d can

    pub global_holds : IsGlobal old h [] global → IsGlobal new g [] (global_after global e)
    global_holds was = history_global old new longer formed db global h g w e placed does is was

    -- a kept world is one after a growth
    pub world_stays : (growth : Growth) (kept : World) → e ≡ effect.Grows growth → IsKeptWorld old h [] kept → IsKeptWorld new g [] kept
    world_stays growth kept grows was =
        change_kept old new longer formed db global h g (plain_written old w) is (never_fails old new longer formed db global w growth (subst (DoesChange old new db global w) grows does)) kept was

    -- and where the global condition is another, one at which it holds
    pub world_narrowed : (place : ℕ) (kept : World) → e ≡ effect.Narrows place → IsGlobal old h [] global → IsTrue (holds_at kept (condition_at new place)) → All (λ p. IsKeptValue new p.1) kept
        → IsKeptWorld new g [] kept
    world_narrowed place kept narrows was holds values =
        world_of_global new g [] place kept (subst (λ x. IsGlobal new g [] (global_after global x)) narrows (global_holds was)) holds values

  -- after one action more, with which the change agrees
  module _ (h : List PlainCommit) (actions : List PlainAction) (a : PlainAction) (agrees : AgreesWith h actions a (plain_written old w)) (terms : HasTermsFor h actions a (plain_written old w)) where
    pub tables_do : Denotes old h actions db → Denotes new h (actions ++ a ∷ []) (tables_after db e)
    tables_do d = action_tables old new longer formed db global h actions w e a placed does agrees terms d

    pub global_does : IsGlobal old h actions global → IsGlobal new h (actions ++ a ∷ []) (global_after global e)
    global_does was = by_effect e does where
      by_effect : (x : Effect) → DoesChange old new db global w x → IsGlobal new h (actions ++ a ∷ []) (global_after global x)
      by_effect (effect.Grows growth) its = action_global old new longer formed db global h actions a (action_total old new longer formed db global h actions w growth a its agrees) was
      by_effect (effect.Narrows place) its = asserted_global old new longer formed db global h actions w place a placed its agrees terms was

    -- a kept world is one after a growth
    pub world_does : (growth : Growth) (kept : World) → e ≡ effect.Grows growth → IsKeptWorld old h actions kept → IsKeptWorld new h (actions ++ a ∷ []) kept
    world_does growth kept grows was =
        action_kept old new longer formed db global h actions a
        (action_total old new longer formed db global h actions w growth a (subst (DoesChange old new db global w) grows does) agrees) kept was

    -- and where the global condition is another, one at which it holds
    pub world_narrows : (place : ℕ) (kept : World) → e ≡ effect.Narrows place → IsGlobal old h actions global → IsTrue (holds_at kept (condition_at new place))
        → All (λ p. IsKeptValue new p.1) kept → IsKeptWorld new h (actions ++ a ∷ []) kept
    world_narrows place kept narrows was holds values =
        world_of_global new h (actions ++ a ∷ []) place kept (subst (λ x. IsGlobal new h (actions ++ a ∷ []) (global_after global x)) narrows (global_does was)) holds values
