-- Histories of the same commits are alike in all that is said of a history.
use Rattle.std.proofs.Common.{◌≡◌, ℕ, zero, suc, Bool, true, false, not, cond, List, [], ◌∷◌, ◌++◌, map, length, take, refl, ap, sym, subst, ◌∙◌}
use Rattle.std.specs.Prelude.{Option, Some, None, IfSome, ⊤, ◌||◌, is_some, option_and_then, filter, filter_map, if◌then◌else◌}
use Rattle.std.{specs.List.{AllByRecursion, cons_option, list_any}, proofs.lemmas.List.Elements.{All-from_recursion, recursion_from_All}}
use Rattle.ct_word.{specs.declared.values.Value.Value, specs.Value.{World, tuple_at, same_text}, specs.Condition.{Condition, holds_at, SameTruth}}
use Rattle.ct_word.{specs.Sublist.IsSublist, specs.Change.{PlainRow, PlainChange, Create, Insert, Delete, Update, Assert, PlainCommit}}
use Rattle.ct_word.specs.StandsFor.{SameRows, SameChange, SameChanges, SameCommits}
use Rattle.ct_query.{specs.Plain.PlainAction, specs.declared.action.Read.Read, specs.Database.{Database, SameSet, changed}, specs.Rows.rows}
use Rattle.ct_query.{specs.Step.{created, inserted, shown_rows, step_change, step_action}, specs.Updates.{Sets, updated_tuple}, specs.Worlds.{world, after_changes, after_actions, changes_of}}
use Rattle.ct_query.{specs.Schema.{created_by_change, created_by_action}, specs.Reads.{writes, one_earlier, last}, specs.Keeping.{Keeps, KeepsThroughout}}
use Rattle.ct_query.specs.Patterns.{Patterns, patterns, pattern, query_pattern, pattern_change, pattern_changes, pattern_actions, no_patterns, with_lines, with_sets, distinct_count}
use Rattle.ct_query.specs.Agrees.{AgreesWith, AgreesAfter, SameTruthAlone, HoldsWhereKept}
use Rattle.ct_query.specs.Plain as plain
use Rattle.ct_query.specs.declared.action.Read.TheVariants as read

-- one change
module _ (v : World) where
  shown_first : (r : PlainRow) (rs : List PlainRow) → shown_rows v (r ∷ rs) ≡ cond (holds_at v r.condition) (tuple_at v r.cells ∷ shown_rows v rs) (shown_rows v rs)
  shown_first r rs = by_test (holds_at v r.condition) where
    by_test : (b : Bool) → map (λ (x : PlainRow). tuple_at v x.cells) (cond b (r ∷ filter (λ x. holds_at v x.condition) rs) (filter (λ x. holds_at v x.condition) rs))
        ≡ cond b (tuple_at v r.cells ∷ shown_rows v rs) (shown_rows v rs)
    by_test true = refl
    by_test false = refl

  pub shown_same : (rs qs : List PlainRow) → SameRows rs qs → shown_rows v rs ≡ shown_rows v qs
  shown_same [] [] s = refl
  shown_same (r ∷ rs) (q ∷ qs) s =
      let rest = shown_same rs qs s.2 in
      shown_first r rs ∙ (λ i. cond (s.1 v [] i) (tuple_at v (s.0 i) ∷ rest i) (rest i)) ∙ sym (shown_first q qs)
  shown_same _ _ s = absurd s

  step_same : (w : Database) (x y : PlainChange) → SameChange x y → step_change v w x ≡ step_change v w y
  step_same w (Create n cs) (Create n' cs') s = λ i. Some (created w (s.0 i) (s.1 i))
  step_same w (Insert n rs) (Insert n' qs) s = λ i. Some (inserted w (s.0 i) (shown_same rs qs s.1 i))
  step_same w (Delete n c) (Delete n' d) s = λ i. Some (changed w (s.0 i) (filter (λ tuple. not (s.1 v tuple i))))
  step_same w (Update n ss c) (Update n' ss' d) s = λ i. Some (changed w (s.0 i) (map (λ tuple. if s.2 v tuple i then updated_tuple v (s.1 i) tuple else tuple)))
  step_same w (Assert c) (Assert d) s = λ i. if s v [] i then Some w else None
  step_same w _ _ s = absurd s

  after_same : (o : Option Database) (xs ys : List PlainChange) → SameChanges xs ys → after_changes v o xs ≡ after_changes v o ys
  after_same o [] [] s = refl
  after_same o (x ∷ xs) (y ∷ ys) s =
      (λ i. after_changes v (option_and_then (λ d. step_same d x y s.0 i) o) xs) ∙ after_same (option_and_then (λ d. step_change v d y) o) xs ys s.1
  after_same o _ _ s = absurd s

cells_same : (rs qs : List PlainRow) → SameRows rs qs → map (λ r. r.cells) rs ≡ map (λ r. r.cells) qs
cells_same [] [] s = refl
cells_same (r ∷ rs) (q ∷ qs) s = let rest = cells_same rs qs s.2 in λ i. s.0 i ∷ rest i
cells_same _ _ s = absurd s

lines_same : (p : Patterns) (x y : PlainChange) → SameChange x y → pattern_change p x ≡ pattern_change p y
lines_same p (Create n cs) (Create n' cs') s = refl
lines_same p (Insert n rs) (Insert n' qs) s = let cells = cells_same rs qs s.1 in λ i. with_lines p (s.0 i) (cells i)
lines_same p (Delete n c) (Delete n' d) s = refl
lines_same p (Update n ss c) (Update n' ss' d) s = λ i. with_sets p (s.0 i) (s.1 i)
lines_same p (Assert c) (Assert d) s = refl
lines_same p _ _ s = absurd s

all_lines_same : (p : Patterns) (xs ys : List PlainChange) → SameChanges xs ys → pattern_changes p xs ≡ pattern_changes p ys
all_lines_same p [] [] s = refl
all_lines_same p (x ∷ xs) (y ∷ ys) s = ap (λ q. pattern_changes q xs) (lines_same p x y s.0) ∙ all_lines_same (pattern_change p y) xs ys s.1
all_lines_same p _ _ s = absurd s

table_same : (x y : PlainChange) → SameChange x y → created_by_change x ≡ created_by_change y
table_same (Create n cs) (Create n' cs') s = λ i. Some (record { name = s.0 i; columns = s.1 i })
table_same (Insert n rs) (Insert n' qs) s = refl
table_same (Delete n c) (Delete n' d) s = refl
table_same (Update n ss c) (Update n' ss' d) s = refl
table_same (Assert c) (Assert d) s = refl
table_same _ _ s = absurd s

tables_same : (xs ys : List PlainChange) → SameChanges xs ys → filter_map created_by_change xs ≡ filter_map created_by_change ys
tables_same [] [] s = refl
tables_same (x ∷ xs) (y ∷ ys) s = let first = table_same x y s.0 in let rest = tables_same xs ys s.1 in λ i. cons_option (first i) (rest i)
tables_same _ _ s = absurd s

-- what is written
writes_same : (r : Read) (x y : PlainChange) → SameChange x y → writes x r ≡ writes y r
writes_same r (Create n cs) (Create n' cs') s = λ i. writes (Create (s.0 i) (s.1 i)) r
writes_same (read.Table t) (Insert n rs) (Insert n' qs) s = λ i. same_text (s.0 i) t
writes_same read.Worlds (Insert n rs) (Insert n' qs) s = refl
writes_same (read.Table t) (Delete n c) (Delete n' d) s = λ i. same_text (s.0 i) t
writes_same read.Worlds (Delete n c) (Delete n' d) s = refl
writes_same (read.Table t) (Update n ss c) (Update n' ss' d) s = λ i. same_text (s.0 i) t
writes_same read.Worlds (Update n ss c) (Update n' ss' d) s = refl
writes_same (read.Table t) (Assert c) (Assert d) s = refl
writes_same read.Worlds (Assert c) (Assert d) s = refl
writes_same r _ _ s = absurd s

any_writes_same : (r : Read) (xs ys : List PlainChange) → SameChanges xs ys → list_any (λ x. writes x r) xs ≡ list_any (λ x. writes x r) ys
any_writes_same r [] [] s = refl
any_writes_same r (x ∷ xs) (y ∷ ys) s = let first = writes_same r x y s.0 in let rest = any_writes_same r xs ys s.1 in λ i. first i || rest i
any_writes_same r _ _ s = absurd s

last_same : (r : Read) (g h : List PlainCommit) → SameCommits g h → last g r ≡ last h r
last_same r [] [] s = refl
last_same r (c ∷ g) (d ∷ h) s =
    let first = any_writes_same r c.changes d.changes s.2 in let rest = last_same r g h s.3 in λ i. one_earlier (rest i) (first i)
last_same r _ _ s = absurd s

-- all changes of a history
same_append : (xs ys xs' ys' : List PlainChange) → SameChanges xs ys → SameChanges xs' ys' → SameChanges (xs ++ xs') (ys ++ ys')
same_append [] [] xs' ys' s r = r
same_append (x ∷ xs) (y ∷ ys) xs' ys' s r = (s.0, same_append xs ys xs' ys' s.1 r)
same_append _ _ xs' ys' s r = absurd s

changes_same : (g h : List PlainCommit) → SameCommits g h → SameChanges (changes_of g) (changes_of h)
changes_same [] [] s = tt
changes_same (c ∷ g) (d ∷ h) s = same_append c.changes d.changes (changes_of g) (changes_of h) s.2 (changes_same g h s.3)
changes_same _ _ s = absurd s

-- the conditions of rows are those of other rows
rows_alone : (p : Condition) (rs qs : List PlainRow) → SameRows rs qs
    → AllByRecursion (λ r. SameTruthAlone r.condition p) rs → AllByRecursion (λ r. SameTruthAlone r.condition p) qs
rows_alone p [] [] s a = tt
rows_alone p (r ∷ rs) (q ∷ qs) s a = (λ v. sym (s.1 v []) ∙ a.0 v, rows_alone p rs qs s.2 a.1)
rows_alone p _ _ s a = absurd s

-- agreement is of conditions of one truth, and of histories with the same worlds and patterns
module _ (g : List PlainCommit) (before : List PlainAction) where
  inserted_agrees : (a : PlainAction) (n n' : List ℕ) (rs qs : List PlainRow) → n ≡ n' → SameRows rs qs → AgreesWith g before a (Insert n rs) → AgreesWith g before a (Insert n' qs)
  inserted_agrees (plain.InsertRows m ls p) n n' rs qs e s f = (
    sym e ∙ f.0,
    sym (cells_same rs qs s) ∙ f.1,
    All-from_recursion (λ (r : PlainRow). SameTruthAlone r.condition p) qs (rows_alone p rs qs s (recursion_from_All (λ (r : PlainRow). SameTruthAlone r.condition p) rs f.2)),
  )
  inserted_agrees (plain.InsertQuery m q) n n' rs qs e s f = (
    sym e ∙ f.0,
    subst (λ cells. IsSublist cells (pattern g before q)) (cells_same rs qs s) f.1,
    λ v. subst (λ tuples. IfSome (world v g before) (λ w. SameSet tuples (rows v q w))) (shown_same v rs qs s) (f.2 v),
  )
  inserted_agrees _ n n' rs qs e s f = f

  deleted_agrees : (a : PlainAction) (n n' : List ℕ) (c d : Condition) → n ≡ n' → SameTruth c d → AgreesWith g before a (Delete n c) → AgreesWith g before a (Delete n' d)
  deleted_agrees (plain.Delete m p) n n' c d e s f = (sym e ∙ f.0, λ v row. sym (s v row) ∙ f.1 v row)
  deleted_agrees _ n n' c d e s f = f

  updated_agrees : (a : PlainAction) (n n' : List ℕ) (ss ss' : Sets) (c d : Condition) → n ≡ n' → ss ≡ ss' → SameTruth c d → AgreesWith g before a (Update n ss c) → AgreesWith g before a (Update n' ss' d)
  updated_agrees (plain.Update m qs p) n n' ss ss' c d e es s f = (sym e ∙ f.0, sym es ∙ f.1, λ v row. sym (s v row) ∙ f.2 v row)
  updated_agrees _ n n' ss ss' c d e es s f = f

  kept_agrees : (a : PlainAction) (c d : Condition) → SameTruth c d → HoldsWhereKept g before a c → HoldsWhereKept g before a d
  kept_agrees a c d s f = λ v. subst (λ b. IfSome (world v g before) (λ w. b ≡ is_some (step_action v w a))) (s v []) (f v)

  asserted_agrees : (a : PlainAction) (c d : Condition) → SameTruth c d → AgreesWith g before a (Assert c) → AgreesWith g before a (Assert d)
  asserted_agrees (plain.Assert p) c d s f = λ v. sym (s v []) ∙ f v
  asserted_agrees (plain.AssertQuery wanted q) c d s f = kept_agrees (plain.AssertQuery wanted q) c d s f
  asserted_agrees (plain.AssertKey n ks) c d s f = kept_agrees (plain.AssertKey n ks) c d s f
  asserted_agrees _ c d s f = f

  change_agrees : (a : PlainAction) (x y : PlainChange) → SameChange x y → AgreesWith g before a x → AgreesWith g before a y
  change_agrees a (Create n cs) (Create n' cs') s f = subst (λ (p : List ℕ × List (List ℕ)). AgreesWith g before a (Create p.0 p.1)) (λ i. (s.0 i, s.1 i)) f
  change_agrees a (Insert n rs) (Insert n' qs) s f = inserted_agrees a n n' rs qs s.0 s.1 f
  change_agrees a (Delete n c) (Delete n' d) s f = deleted_agrees a n n' c d s.0 s.1 f
  change_agrees a (Update n ss c) (Update n' ss' d) s f = updated_agrees a n n' ss ss' c d s.0 s.1 s.2 f
  change_agrees a (Assert c) (Assert d) s f = asserted_agrees a c d s f
  change_agrees a _ _ s f = absurd s

-- an action that leaves a database behind exactly where this holds does so after another history too
abbrev pub FindsKept : List PlainCommit → List PlainCommit → List PlainAction → PlainAction → Type 0
FindsKept g h before a = (v : World) (b : Bool) → IfSome (world v g before) (λ w. b ≡ is_some (step_action v w a)) → IfSome (world v h before) (λ w. b ≡ is_some (step_action v w a))

-- an action finds the same pattern for its query after another history, and its tuples there too, and asserts the same of it
abbrev pub Finds : List PlainCommit → List PlainCommit → List PlainAction → PlainAction → Type 0
Finds g h before (plain.InsertQuery n q) =
    (pattern g before q ≡ pattern h before q)
    × ((v : World) (tuples : List (List Value)) → IfSome (world v g before) (λ w. SameSet tuples (rows v q w)) → IfSome (world v h before) (λ w. SameSet tuples (rows v q w)))
Finds g h before (plain.AssertQuery wanted q) = FindsKept g h before (plain.AssertQuery wanted q)
Finds g h before (plain.AssertKey n ks) = FindsKept g h before (plain.AssertKey n ks)
Finds g h before _ = ⊤

-- so does each of these actions, after the ones before it
abbrev pub FindAll : List PlainCommit → List PlainCommit → List PlainAction → List PlainAction → Type 0
FindAll g h before [] = ⊤
FindAll g h before (a ∷ actions) = Finds g h before a × FindAll g h (before ++ a ∷ []) actions

module _ (g h : List PlainCommit) where
  history_agrees : (before : List PlainAction) (a : PlainAction) (x : PlainChange) → Finds g h before a → AgreesWith g before a x → AgreesWith h before a x
  history_agrees before (plain.InsertQuery m q) (Insert n rs) same f =
      (f.0, subst (IsSublist (map (λ (r : PlainRow). r.cells) rs)) same.0 f.1, λ v. same.1 v (shown_rows v rs) (f.2 v))
  history_agrees before (plain.AssertQuery wanted q) (Assert c) same f = λ v. same v (holds_at v c) (f v)
  history_agrees before (plain.AssertKey n ks) (Assert c) same f = λ v. same v (holds_at v c) (f v)
  history_agrees before _ _ same f = f

  -- agreement after one history is agreement after the other
  pub all_agree : (before actions : List PlainAction) (xs ys : List PlainChange) → FindAll g h before actions → SameChanges xs ys
      → AgreesAfter g before actions xs → AgreesAfter h before actions ys
  all_agree before [] [] [] same s f = tt
  all_agree before (a ∷ actions) (x ∷ xs) (y ∷ ys) same s f = (
    history_agrees before a y same.0 (change_agrees g before a x y s.0 f.0),
    all_agree (before ++ a ∷ []) actions xs ys same.1 s.1 f.1,
  )
  all_agree before [] (x ∷ xs) ys same s f = absurd f
  all_agree before (a ∷ actions) [] ys same s f = absurd f
  all_agree before _ _ _ same s f = absurd s

-- conditions have their own truth
rows_themselves : (rs : List PlainRow) → SameRows rs rs
rows_themselves [] = tt
rows_themselves (r ∷ rs) = (refl, λ v row. refl, rows_themselves rs)

change_itself : (x : PlainChange) → SameChange x x
change_itself (Create n cs) = (refl, refl)
change_itself (Insert n rs) = (refl, rows_themselves rs)
change_itself (Delete n c) = (refl, λ v row. refl)
change_itself (Update n ss c) = (refl, refl, λ v row. refl)
change_itself (Assert c) = λ v row. refl

pub changes_themselves : (xs : List PlainChange) → SameChanges xs xs
changes_themselves [] = tt
changes_themselves (x ∷ xs) = (change_itself x, changes_themselves xs)

-- histories of the same commits
module _ (g h : List PlainCommit) (s : SameCommits g h) where
  all_changes : SameChanges (changes_of g) (changes_of h)
  all_changes = changes_same g h s

  worlds_same : (v : World) (actions : List PlainAction) → world v g actions ≡ world v h actions
  worlds_same v actions = ap (λ o. after_actions v o actions) (after_same v (Some []) (changes_of g) (changes_of h) all_changes)

  patterns_same : (actions : List PlainAction) → patterns g actions ≡ patterns h actions
  patterns_same actions = ap (λ p. pattern_actions p actions) (all_lines_same no_patterns (changes_of g) (changes_of h) all_changes)

  finds : (before : List PlainAction) (a : PlainAction) → Finds g h before a
  finds before (plain.InsertQuery n q) =
      (ap (λ p. query_pattern p q) (patterns_same before), λ v tuples. subst (λ o. IfSome o (λ w. SameSet tuples (rows v q w))) (worlds_same v before))
  finds before (plain.AssertQuery wanted q) = λ v b. subst (λ o. IfSome o (λ w. b ≡ is_some (step_action v w (plain.AssertQuery wanted q)))) (worlds_same v before)
  finds before (plain.AssertKey n ks) = λ v b. subst (λ o. IfSome o (λ w. b ≡ is_some (step_action v w (plain.AssertKey n ks)))) (worlds_same v before)
  finds before _ = tt

  find_all : (before actions : List PlainAction) → FindAll g h before actions
  find_all before [] = tt
  find_all before (a ∷ actions) = (finds before a, find_all (before ++ a ∷ []) actions)

  pub same_keeps : Keeps g h
  same_keeps = record {
    worlds = worlds_same;
    admitted = λ v actions. ap is_some (worlds_same v actions);
    schemas = λ actions. ap (λ tables. record { tables = tables ++ filter_map created_by_action actions }) (tables_same (changes_of g) (changes_of h) all_changes);
    patterns = λ actions q. ap (λ p. query_pattern p q) (patterns_same actions);
    counts = λ actions t. ap (λ p. distinct_count (p t)) (patterns_same actions);
    last = λ r. last_same r g h s;
    agreed = λ actions xs ys same f. all_agree g h [] actions xs ys (find_all [] actions) same f;
    shown = λ allowed shown q actions v f. record {
      worlds = f.worlds ∙ ap is_some (worlds_same v actions);
      tuples = subst (λ o. IfSome o (λ w. SameSet shown (rows v q w))) (worlds_same v actions) f.tuples;
    };
  }

first_same : (m : ℕ) (g h : List PlainCommit) → SameCommits g h → SameCommits (take m g) (take m h)
first_same zero g h s = tt
first_same (suc m) [] [] s = tt
first_same (suc m) (c ∷ g) (d ∷ h) s = (s.0, s.1, s.2, first_same m g h s.3)
first_same (suc m) _ _ s = absurd s

length_same : (g h : List PlainCommit) → SameCommits g h → length g ≡ length h
length_same [] [] s = refl
length_same (c ∷ g) (d ∷ h) s = ap suc (length_same g h s.3)
length_same _ _ s = absurd s

-- two histories of the same commits keep everything
pub same_throughout : (g h : List PlainCommit) → SameCommits g h → KeepsThroughout g h
same_throughout g h s = record {
  length = length_same g h s;
  first = λ m. first_same m g h s;
  keeps = λ m. same_keeps (take m g) (take m h) (first_same m g h s);
  whole = same_keeps g h s;
}
