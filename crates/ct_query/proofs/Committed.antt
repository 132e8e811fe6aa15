-- A commit of changes that agree with actions does what these do.
use Rattle.std.{proofs.Common.{◌≡◌, ℕ, Bool, true, false, not, List, [], ◌∷◌, ◌++◌, map, refl, ap, sym, subst, ◌∙◌}, proofs.lemmas.List.append-nil}
use Rattle.std.{proofs.lemmas.List.Elements.{recursion_from_All, filter_map-append}, specs.List.{AllByRecursion, cons_option}}
use Rattle.std.specs.Prelude.{Option, Some, None, IfSome, is_some, option_and_then, filter, filter_map, if◌then◌else◌}
use Rattle.ct_word.{specs.declared.values.Value.Value, specs.declared.values.Term.Term, specs.Value.{World, tuple_at, same_text}, specs.Sublist.IsSublist}
use Rattle.ct_word.{specs.Condition.{Condition, holds, holds_at}, specs.Change.{PlainRow, PlainChange, Create, Insert, Delete, Update, Assert, PlainCommit}}
use Rattle.ct_query.{specs.Plain.PlainAction, specs.Database.{Relation, Database, tuples_of, SameSet, SameRelation, SameDatabase, changed, with_tuples}, specs.Rows.rows}
use Rattle.ct_query.{specs.Step.{inserted, deleted, set_where, only_if, asserted, shown_rows, step_change, step_action}, specs.Updates.{Sets, updated_tuple, updated, with_updated}, specs.Assertions.{as_wanted, is_key}, specs.Schema.{created_by_change, created_by_action}}
use Rattle.ct_query.{specs.Worlds.{world, after_changes, after_actions, changes_of}, specs.Agrees.{AgreesWith, AgreesAfter, Agrees, SameTruthAlone}}
use Rattle.ct_query.specs.Patterns.{Patterns, patterns, pattern, pattern_change, pattern_changes, pattern_action, pattern_actions, with_lines, with_sets}
use Rattle.ct_query.{specs.Committed.{SameWorld, Does}, proofs.Laws.{world_commit, world_action, patterns_commit, patterns_action, changes_of-snoc}}
use Rattle.ct_query.{proofs.Sets.{same_set_itself, same_set-append}, proofs.SameRows.{same_set_filter, same_set_map, same_database_append}}
use Rattle.ct_query.proofs.Sublists.{all_of, sublist-append, sublist_updated, pattern_part}
use Rattle.ct_query.specs.Plain as plain

-- the same tables
database_itself : (w : Database) → SameDatabase w w
database_itself [] = tt
database_itself (r ∷ w) = (record { name = refl; columns = refl; tuples = λ t. refl }, database_itself w)

world_itself : (o : Option Database) → SameWorld o o
world_itself None = tt
world_itself (Some w) = database_itself w

-- the same tables are the same after two changes that keep sets the same
module _ (n : List ℕ) (f f' : List (List Value) → List (List Value)) (same : (a b : List (List Value)) → SameSet a b → SameSet (f a) (f' b)) where
  relation_changed : (t : Bool) (r s : Relation) → SameRelation r s → SameRelation (if t then with_tuples r (f r.tuples) else r) (if t then with_tuples s (f' s.tuples) else s)
  relation_changed true r s e = record { name = e.name; columns = e.columns; tuples = same r.tuples s.tuples e.tuples }
  relation_changed false r s e = e

  same_changed : (a b : Database) → SameDatabase a b → SameDatabase (changed a n f) (changed b n f')
  same_changed [] [] s = tt
  same_changed (r ∷ a) (q ∷ b) s = (
    subst (λ t. SameRelation (if same_text r.name n then with_tuples r (f r.tuples) else r) (if t then with_tuples q (f' q.tuples) else q))
        (ap (λ m. same_text m n) s.0.name) (relation_changed (same_text r.name n) r q s.0),
    same_changed a b s.1,
  )
  same_changed _ _ s = absurd s

-- nothing is inserted
nothing_inserted : (w : Database) (n : List ℕ) → inserted w n [] ≡ w
nothing_inserted [] n = refl
nothing_inserted (r ∷ w) n = let rest = nothing_inserted w n in let first = by_test (same_text r.name n) in λ i. first i ∷ rest i where
  by_test : (b : Bool) → (if b then with_tuples r (r.tuples ++ []) else r) ≡ r
  by_test true = λ i. with_tuples r (append-nil r.tuples i)
  by_test false = refl

inserted_same : (n : List ℕ) (more more' : List (List Value)) (a b : Database) → SameSet more more' → SameDatabase a b → SameDatabase (inserted a n more) (inserted b n more')
inserted_same n more more' a b m s = same_changed n (λ tuples. tuples ++ more) (λ tuples. tuples ++ more') (λ x y e. same_set-append x y more more' e m) a b s

module _ (v : World) where
  -- the rows under one condition
  rows_under : (p : Condition) (rs : List PlainRow) (b : Bool) → holds_at v p ≡ b → AllByRecursion (λ r. SameTruthAlone r.condition p) rs
      → shown_rows v rs ≡ (if b then map (tuple_at v) (map (λ r. r.cells) rs) else [])
  rows_under p [] true e a = refl
  rows_under p [] false e a = refl
  rows_under p (r ∷ rs) true e a =
      ap (λ b. map (λ (x : PlainRow). tuple_at v x.cells) (if b then r ∷ filter (λ x. holds_at v x.condition) rs else filter (λ x. holds_at v x.condition) rs)) (a.0 v ∙ e)
      ∙ ap (λ l. tuple_at v r.cells ∷ l) (rows_under p rs true e a.1)
  rows_under p (r ∷ rs) false e a =
      ap (λ b. map (λ (x : PlainRow). tuple_at v x.cells) (if b then r ∷ filter (λ x. holds_at v x.condition) rs else filter (λ x. holds_at v x.condition) rs)) (a.0 v ∙ e)
      ∙ rows_under p rs false e a.1

  inserted_under : (w : Database) (n : List ℕ) (more : List (List Value)) (b : Bool) → inserted w n (if b then more else []) ≡ (if b then inserted w n more else w)
  inserted_under w n more true = refl
  inserted_under w n more false = nothing_inserted w n

  asserted_same : (b : Bool) (a d : Database) → SameDatabase a d → SameWorld (if b then Some a else None) (if b then Some d else None)
  asserted_same true a d s = s
  asserted_same false a d s = tt

  -- a condition that holds exactly where a database is kept
  asserted_as : (b : Bool) (c : Condition) (w w' : Database) → holds_at v c ≡ is_some (only_if b w) → SameDatabase w w' → SameWorld (only_if b w) (asserted v w' c)
  asserted_as b c w w' e s = subst (λ x. SameWorld (only_if b w) (if x then Some w' else None)) (sym (e ∙ is_kept b)) (asserted_same b w w' s) where
    is_kept : (x : Bool) → is_some (only_if x w) ≡ x
    is_kept true = refl
    is_kept false = refl

  module _ (h : List PlainCommit) (before : List PlainAction) where
    -- one change that agrees
    does_one : (x : PlainAction) (y : PlainChange) → AgreesWith h before x y → (w w' : Database) → world v h before ≡ Some w → SameDatabase w w'
        → SameWorld (step_action v w x) (step_change v w' y)
    does_one (plain.Create n cs) (Create n' cs') f w w' is s =
        same_database_append w w' (record { name = n; columns = cs; tuples = [] } ∷ []) (record { name = n'; columns = cs'; tuples = [] } ∷ []) s
        (record { name = sym f.0; columns = sym f.1; tuples = λ t. refl }, tt)
    does_one (plain.InsertRows n ls p) (Insert n' rs) f w w' is s =
        let shown = rows_under p rs (holds_at v p) refl (recursion_from_All (λ (r : PlainRow). SameTruthAlone r.condition p) rs f.2) in
        subst (λ d. SameDatabase d (inserted w' n' (shown_rows v rs)))
        ((λ i. inserted w (f.0 i) (shown i)) ∙ (λ i. inserted w n (if holds_at v p then map (tuple_at v) (f.1 i) else [])) ∙ inserted_under w n (map (tuple_at v) ls) (holds_at v p))
        (inserted_same n' (shown_rows v rs) (shown_rows v rs) w w' (same_set_itself (shown_rows v rs)) s)
    does_one (plain.InsertQuery n q) (Insert n' rs) f w w' is s =
        let shown : SameSet (shown_rows v rs) (rows v q w) = subst (λ o. IfSome o (λ d. SameSet (shown_rows v rs) (rows v q d))) is (f.2 v) in
        subst (λ m. SameDatabase (inserted w n (rows v q w)) (inserted w' m (shown_rows v rs))) (sym f.0)
        (inserted_same n (rows v q w) (shown_rows v rs) w w' (λ t. sym (shown t)) s)
    does_one (plain.Delete n p) (Delete n' c) f w w' is s =
        subst (λ m. SameDatabase (deleted v w n p) (deleted v w' m c)) (sym f.0)
        (same_changed n (filter (λ tuple. not (holds v tuple p))) (filter (λ tuple. not (holds v tuple c)))
        (λ a b e. subst (λ l. SameSet (filter (λ tuple. not (holds v tuple p)) a) l) (λ i. filter (λ tuple. not (sym (f.1 v tuple) i)) b) (same_set_filter (λ tuple. not (holds v tuple p)) a b e)) w w' s)
    does_one (plain.Update n ss p) (Update n' ss' c) f w w' is s =
        subst (λ m. SameDatabase (set_where v w n ss p) (set_where v w' m ss' c)) (sym f.0)
        (subst (λ sets. SameDatabase (set_where v w n ss p) (set_where v w' n sets c)) (sym f.1)
        (same_changed n (updated v p ss) (updated v c ss)
        (λ a b e. subst (SameSet (updated v p ss a)) (λ i. map (λ tuple. if sym (f.2 v tuple) i then updated_tuple v ss tuple else tuple) b)
        (same_set_map (λ tuple. if holds v tuple p then updated_tuple v ss tuple else tuple) a b e)) w w' s))
    does_one (plain.AssertQuery wanted q) (Assert c) f w w' is s =
        asserted_as (as_wanted wanted (rows v q w)) c w w' (subst (λ o. IfSome o (λ d. holds_at v c ≡ is_some (only_if (as_wanted wanted (rows v q d)) d))) is (f v)) s
    does_one (plain.AssertKey n ks) (Assert c) f w w' is s =
        asserted_as (is_key ks (tuples_of w n)) c w w' (subst (λ o. IfSome o (λ d. holds_at v c ≡ is_some (only_if (is_key ks (tuples_of d n)) d))) is (f v)) s
    does_one (plain.Assert p) (Assert c) f w w' is s =
        subst (λ b. SameWorld (asserted v w p) (if b then Some w' else None)) (sym (f v)) (asserted_same (holds_at v p) w w' s)
    does_one _ _ f w w' is s = absurd f

    does_next : (x : PlainAction) (y : PlainChange) → AgreesWith h before x y → (o o' : Option Database) → world v h before ≡ o → SameWorld o o'
        → SameWorld (option_and_then (λ d. step_action v d x) o) (option_and_then (λ d. step_change v d y) o')
    does_next x y f None None is s = tt
    does_next x y f (Some w) (Some w') is s = does_one x y f w w' is s
    does_next x y f _ _ is s = absurd s

  does_all : (h : List PlainCommit) (before actions : List PlainAction) (xs : List PlainChange) → AgreesAfter h before actions xs
      → (o : Option Database) → SameWorld (world v h before) o → SameWorld (after_actions v (world v h before) actions) (after_changes v o xs)
  does_all h before [] [] f o s = s
  does_all h before (a ∷ actions) (x ∷ xs) f o s =
      subst (λ d. SameWorld (after_actions v d actions) (after_changes v (option_and_then (λ w. step_change v w x) o) xs)) (world_action v h before a)
      (does_all h (before ++ a ∷ []) actions xs f.1 (option_and_then (λ w. step_change v w x) o)
      (subst (λ d. SameWorld d (option_and_then (λ w. step_change v w x) o)) (sym (world_action v h before a)) (does_next h before a x f.0 (world v h before) o refl s)))
  does_all h before _ _ f o s = absurd f

-- there are the same worlds
admitted_same : (o o' : Option Database) → SameWorld o o' → is_some o ≡ is_some o'
admitted_same None None s = refl
admitted_same (Some w) (Some w') s = refl
admitted_same _ _ s = absurd s

-- the same tables are created
table_of_both : (h : List PlainCommit) (before : List PlainAction) (a : PlainAction) (x : PlainChange) → AgreesWith h before a x → created_by_action a ≡ created_by_change x
table_of_both h before (plain.Create n cs) (Create n' cs') f = λ i. Some (record { name = sym f.0 i; columns = sym f.1 i })
table_of_both h before (plain.InsertRows n ls p) (Insert n' rs) f = refl
table_of_both h before (plain.InsertQuery n q) (Insert n' rs) f = refl
table_of_both h before (plain.Delete n p) (Delete n' c) f = refl
table_of_both h before (plain.Update n ss p) (Update n' ss' c) f = refl
table_of_both h before (plain.Assert p) (Assert c) f = refl
table_of_both h before (plain.AssertQuery wanted q) (Assert c) f = refl
table_of_both h before (plain.AssertKey n ks) (Assert c) f = refl
table_of_both h before _ _ f = absurd f

tables_of_both : (h : List PlainCommit) (before actions : List PlainAction) (xs : List PlainChange) → AgreesAfter h before actions xs
    → filter_map created_by_action actions ≡ filter_map created_by_change xs
tables_of_both h before [] [] f = refl
tables_of_both h before (a ∷ actions) (x ∷ xs) f =
    let first = table_of_both h before a x f.0 in let rest = tables_of_both h (before ++ a ∷ []) actions xs f.1 in λ i. cons_option (first i) (rest i)
tables_of_both h before _ _ f = absurd f

-- the patterns of the changes are parts
lines_part : (p p' : Patterns) (n : List ℕ) (ls ls' : List (List Term)) → IsSublist ls ls' → ((t : List ℕ) → IsSublist (p t) (p' t)) → (t : List ℕ) → IsSublist (with_lines p n ls t) (with_lines p' n ls' t)
lines_part p p' n ls ls' l e t = by_test (same_text n t) where
  by_test : (b : Bool) → IsSublist (if b then p t ++ ls else p t) (if b then p' t ++ ls' else p' t)
  by_test true = sublist-append (p t) (p' t) ls ls' (e t) l
  by_test false = e t

sets_part : (p p' : Patterns) (n : List ℕ) (ss : Sets) → ((t : List ℕ) → IsSublist (p t) (p' t)) → (t : List ℕ) → IsSublist (with_sets p n ss t) (with_sets p' n ss t)
sets_part p p' n ss e t = by_test (same_text n t) where
  by_test : (b : Bool) → IsSublist (if b then with_updated ss (p t) else p t) (if b then with_updated ss (p' t) else p' t)
  by_test true = sublist_updated ss (p t) (p' t) (e t)
  by_test false = e t

module _ (h : List PlainCommit) where
  one_part : (before : List PlainAction) (a : PlainAction) (x : PlainChange) → AgreesWith h before a x → (p : Patterns)
      → ((t : List ℕ) → IsSublist (p t) (patterns h before t)) → (t : List ℕ) → IsSublist (pattern_change p x t) (pattern_action (patterns h before) a t)
  one_part before (plain.Create n cs) (Create n' cs') f p e = e
  one_part before (plain.InsertRows n ls c) (Insert n' rs) f p e =
      subst (λ m. (t : List ℕ) → IsSublist (with_lines p m (map (λ (r : PlainRow). r.cells) rs) t) (with_lines (patterns h before) n ls t)) (sym f.0)
      (lines_part p (patterns h before) n (map (λ (r : PlainRow). r.cells) rs) ls (subst (λ l. IsSublist l ls) (sym f.1) (all_of ls)) e)
  one_part before (plain.InsertQuery n q) (Insert n' rs) f p e =
      subst (λ m. (t : List ℕ) → IsSublist (with_lines p m (map (λ (r : PlainRow). r.cells) rs) t) (with_lines (patterns h before) n (pattern h before q) t)) (sym f.0)
      (lines_part p (patterns h before) n (map (λ (r : PlainRow). r.cells) rs) (pattern h before q) f.1 e)
  one_part before (plain.Delete n c) (Delete n' d) f p e = e
  one_part before (plain.Update n ss c) (Update n' ss' d) f p e =
      subst (λ m. (t : List ℕ) → IsSublist (with_sets p m ss' t) (with_sets (patterns h before) n ss t)) (sym f.0)
      (subst (λ sets. (t : List ℕ) → IsSublist (with_sets p n sets t) (with_sets (patterns h before) n ss t)) (sym f.1) (sets_part p (patterns h before) n ss e))
  one_part before (plain.Assert c) (Assert d) f p e = e
  one_part before (plain.AssertQuery wanted q) (Assert d) f p e = e
  one_part before (plain.AssertKey n ks) (Assert d) f p e = e
  one_part before _ _ f p e = absurd f

  all_parts : (before actions : List PlainAction) (xs : List PlainChange) → AgreesAfter h before actions xs → (p : Patterns)
      → ((t : List ℕ) → IsSublist (p t) (patterns h before t)) → (t : List ℕ) → IsSublist (pattern_changes p xs t) (pattern_actions (patterns h before) actions t)
  all_parts before [] [] f p e = e
  all_parts before (a ∷ actions) (x ∷ xs) f p e =
      subst (λ q. (t : List ℕ) → IsSublist (pattern_changes (pattern_change p x) xs t) (pattern_actions q actions t)) (patterns_action h before a)
      (all_parts (before ++ a ∷ []) actions xs f.1 (pattern_change p x)
      (subst (λ q. (t : List ℕ) → IsSublist (pattern_change p x t) (q t)) (sym (patterns_action h before a)) (one_part before a x f.0 p e)))
  all_parts before _ _ f p e = absurd f

module _ (h : List PlainCommit) (actions : List PlainAction) (c : PlainCommit) (f : Agrees h actions c.changes) where
  worlds_do : (v : World) → SameWorld (world v h actions) (world v (h ++ c ∷ []) [])
  worlds_do v = subst (SameWorld (world v h actions)) (sym (world_commit v h c)) (does_all v h [] actions c.changes f (world v h []) (world_itself (world v h [])))

  parts_do : (t : List ℕ) → IsSublist (patterns (h ++ c ∷ []) [] t) (patterns h actions t)
  parts_do t = subst (λ p. IsSublist (p t) (patterns h actions t)) (sym (patterns_commit h c)) (all_parts h [] actions c.changes f (patterns h []) (λ u. all_of (patterns h [] u)) t)

  -- a commit of changes that agree does what the actions do
  pub commit_does : Does h actions c
  commit_does = record {
    worlds = worlds_do;
    admitted = λ v. admitted_same (world v h actions) (world v (h ++ c ∷ []) []) (worlds_do v);
    schemas = ap (λ tables. record { tables = tables })
        (ap (λ l. filter_map created_by_change (changes_of h) ++ l) (tables_of_both h [] actions c.changes f)
        ∙ sym (append-nil (filter_map created_by_change (changes_of (h ++ c ∷ []))) ∙ ap (filter_map created_by_change) (changes_of-snoc h c) ∙ filter_map-append created_by_change (changes_of h) c.changes));
    patterns = pattern_part (patterns (h ++ c ∷ []) []) (patterns h actions) parts_do;
  }
