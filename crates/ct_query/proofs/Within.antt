-- What reads a set of tables alone finds the same where these are the same.
use Rattle.std.proofs.Common.{◌≡◌, ℕ, zero, suc, ◌≤◌, Bool, true, false, ◌||◌, cond, List, [], ◌∷◌, ◌++◌, map, length, refl, ap, sym, subst, ◌∙◌, arith}
use Rattle.std.{specs.Prelude.{Option, Some, None, ⊤, is_some, option_and_then, filter, not, if◌then◌else◌}, specs.List.{AllByRecursion, list_any}}
use Rattle.std.{proofs.lemmas.Bool.false≢true, proofs.lemmas.Cmp.nat_list_eq_equiv, proofs.lemmas.List.append-nil}
use Rattle.std.{proofs.lemmas.List.Elements.{All-weaker, filter_passes, filter-append}, proofs.lemmas.List.Folds.{list_any-append, map_fixed}}
use Rattle.ct_word.{specs.declared.values.Value.Value, specs.declared.values.Term.Term, specs.Value.{World, tuple_at, cell_at, same_text}}
use Rattle.ct_word.{specs.Condition.{holds, holds_at}, specs.Change.{PlainRow, PlainChange, Create, Insert, Delete, Update, Assert, PlainCommit}}
use Rattle.ct_word.proofs.Alike.{text_decides}
use Rattle.ct_query.{specs.Plain.{PlainQuery, PlainAction}, specs.declared.action.Read.Read, specs.Rows.{rows, joins}}
use Rattle.ct_query.{specs.Database.{Relation, Database, tuples_of, with_tuples, changed, has_tuple}, specs.Worlds.{after_changes, after_actions, changes_of}}
use Rattle.ct_query.{specs.Step.{created, inserted, shown_rows, only_if, step_change, step_action}, specs.Updates.{updated, with_updated}, specs.Assertions.{as_wanted, is_key}}
use Rattle.ct_query.specs.Patterns.{Patterns, query_pattern, picked, pattern_change, pattern_changes, pattern_action, pattern_actions, with_lines}
use Rattle.ct_query.specs.Reads.{same_read, with_reads, tables_of, writes, commit_writes, one_earlier, last}
use Rattle.ct_query.specs.Plain as plain
use Rattle.ct_query.specs.declared.action.Read.TheVariants as read

-- no change writes what is read
abbrev pub Unwritten : List PlainChange → Read → Type 0
Unwritten xs r = list_any (λ x. writes x r) xs ≡ false

pub or_false : (a b : Bool) → (a || b) ≡ false → (a ≡ false) × (b ≡ false)
or_false false b e = (refl, e)
or_false true b e = absurd (false≢true (sym e))

-- the last commit that writes this is an early one, so the changes of the later ones do not
none_last : (r : Read) (k : List PlainCommit) → last k r ≤ 0 → Unwritten (changes_of k) r
none_last r [] l = refl
none_last r (c ∷ k) l = by_last (last k r) (commit_writes c r) refl refl l (none_last r k) where
  by_last : (m : ℕ) (b : Bool) → last k r ≡ m → commit_writes c r ≡ b → one_earlier m b ≤ 0 → (last k r ≤ 0 → Unwritten (changes_of k) r) → Unwritten (changes_of (c ∷ k)) r
  by_last zero false e f l' rest =
      list_any-append (λ x. writes x r) c.changes (changes_of k) ∙ ap (λ b. b || list_any (λ x. writes x r) (changes_of k)) f ∙ rest (omega (arith, e))
  by_last zero true e f l' rest = absurd (omega (arith, l'))
  by_last (suc m) b e f l' rest = absurd (omega (arith, l'))

pub later_unwritten : (r : Read) (h k : List PlainCommit) → last (h ++ k) r ≤ length h → Unwritten (changes_of k) r
later_unwritten r [] k l = none_last r k l
later_unwritten r (c ∷ h) k l = later_unwritten r h k (by_last (last (h ++ k) r) (commit_writes c r) l) where
  by_last : (m : ℕ) (b : Bool) → one_earlier m b ≤ suc (length h) → m ≤ length h
  by_last zero b l' = omega arith
  by_last (suc m) b l' = omega (arith, l')

-- what is true of each item of a list is so of each of its parts
pub all_parts : {X : Type 0} (P : X → Type 0) (a b : List X) → AllByRecursion P (a ++ b) → AllByRecursion P a × AllByRecursion P b
all_parts P [] b all = (tt, all)
all_parts P (x ∷ a) b all = let rest = all_parts P a b all.1 in ((all.0, rest.0), rest.1)

pub all_push : {X : Type 0} (P : X → Type 0) (a : List X) (x : X) → AllByRecursion P a → P x → AllByRecursion P (a ++ x ∷ [])
all_push P [] x all p = (p, tt)
all_push P (y ∷ a) x all p = (all.0, all_push P a x all.1 p)

-- what is true of the reads that were added is true of all of them
module _ (P : Read → Type 0) where
  found_one : (x : Read) (a : List Read) → list_any (same_read x) a ≡ true → AllByRecursion P a → P x
  found_one x [] e all = absurd (false≢true e)
  found_one x (y ∷ a) e all = by_test (same_read x y) refl e (found_one x a) where
    is : (x y : Read) → same_read x y ≡ true → P y → P x
    is (read.Table s) (read.Table t) f p = subst (λ u. P (read.Table u)) (sym ((text_decides s t).0 f)) p
    is (read.Table s) read.Worlds f p = absurd (false≢true f)
    is read.Worlds (read.Table t) f p = absurd (false≢true f)
    is read.Worlds read.Worlds f p = p

    by_test : (b : Bool) → same_read x y ≡ b → (same_read x y || list_any (same_read x) a) ≡ true → (list_any (same_read x) a ≡ true → AllByRecursion P a → P x) → P x
    by_test true f e' rest = is x y f all.0
    by_test false f e' rest = rest (sym (ap (λ b. b || list_any (same_read x) a) f) ∙ e') all.1

  pub of_added : (a xs : List Read) → AllByRecursion P (with_reads a xs) → AllByRecursion P a × AllByRecursion P xs
  of_added a [] all = (all, tt)
  of_added a (x ∷ xs) all = by_test (list_any (same_read x) a) refl (of_added (if list_any (same_read x) a then a else a ++ x ∷ []) xs all) where
    by_test : (b : Bool) → list_any (same_read x) a ≡ b → AllByRecursion P (if list_any (same_read x) a then a else a ++ x ∷ []) × AllByRecursion P xs
        → AllByRecursion P a × AllByRecursion P (x ∷ xs)
    by_test true e found =
        let before = subst (λ b. AllByRecursion P (if b then a else a ++ x ∷ [])) e found.0 in
        (before, (found_one x a e before, found.1))
    by_test false e found =
        let before = all_parts P a (x ∷ []) (subst (λ b. AllByRecursion P (if b then a else a ++ x ∷ [])) e found.0) in
        (before.0, (before.1.0, found.1))

-- a set of tables, of which each table of a query is one
module _ (S : List ℕ → Type 0) where
  abbrev pub Within : PlainQuery → Type 0
  Within (plain.Table t) = S t
  Within (plain.Select c q) = Within q
  Within (plain.Project ks q) = Within q
  Within (plain.Product a b) = Within a × Within b
  Within (plain.Union a b) = Within a × Within b
  Within (plain.Except a b) = Within a × Within b
  Within (plain.Intersect a b) = Within a × Within b

  abbrev pub ReadsWithin : PlainAction → Type 0
  ReadsWithin (plain.InsertQuery n q) = Within q
  ReadsWithin (plain.AssertQuery wanted q) = Within q
  ReadsWithin (plain.AssertKey n ks) = S n
  ReadsWithin _ = ⊤

  pub within_tables : (q : PlainQuery) → AllByRecursion S (tables_of q) → Within q
  within_tables (plain.Table t) all = all.0
  within_tables (plain.Select c q) all = within_tables q all
  within_tables (plain.Project ks q) all = within_tables q all
  within_tables (plain.Product a b) all = let both = all_parts S (tables_of a) (tables_of b) all in (within_tables a both.0, within_tables b both.1)
  within_tables (plain.Union a b) all = let both = all_parts S (tables_of a) (tables_of b) all in (within_tables a both.0, within_tables b both.1)
  within_tables (plain.Except a b) all = let both = all_parts S (tables_of a) (tables_of b) all in (within_tables a both.0, within_tables b both.1)
  within_tables (plain.Intersect a b) all = let both = all_parts S (tables_of a) (tables_of b) all in (within_tables a both.0, within_tables b both.1)

-- the tables with a name
abbrev cut : List ℕ → Database → Database
cut t w = filter (λ r. same_text r.name t) w

tuples_cut : (w : Database) (t : List ℕ) → tuples_of w t ≡ tuples_of (cut t w) t
tuples_cut [] t = refl
tuples_cut (r ∷ w) t = by_test (same_text r.name t) refl (tuples_cut w t) where
  by_test : (b : Bool) → same_text r.name t ≡ b → tuples_of w t ≡ tuples_of (cut t w) t → (if b then r.tuples else tuples_of w t) ≡ tuples_of (cond b (r ∷ cut t w) (cut t w)) t
  by_test true e rest = sym (ap (λ b. if b then r.tuples else tuples_of (cut t w) t) e)
  by_test false e rest = rest

-- these after a change of the tuples of one table
module _ (n : List ℕ) (f : List (List Value) → List (List Value)) (t : List ℕ) where
  abbrev put : Relation → Relation
  put r = if same_text r.name n then with_tuples r (f r.tuples) else r

  cut_changed : (w : Database) → cut t (changed w n f) ≡ changed (cut t w) n f
  cut_changed [] = refl
  cut_changed (r ∷ w) = let rest = cut_changed w in (λ i. cond (same_text (name_stays (same_text r.name n) i) t) (put r ∷ rest i) (rest i)) ∙ by_test (same_text r.name t) where
    name_stays : (b : Bool) → (if b then with_tuples r (f r.tuples) else r).name ≡ r.name
    name_stays true = refl
    name_stays false = refl

    by_test : (b : Bool) → cond b (put r ∷ map put (cut t w)) (map put (cut t w)) ≡ map put (cond b (r ∷ cut t w) (cut t w))
    by_test true = refl
    by_test false = refl

  cut_unchanged : same_text n t ≡ false → (w : Database) → cut t (changed w n f) ≡ cut t w
  cut_unchanged other w =
      cut_changed w ∙ map_fixed put (cut t w) (All-weaker (λ (r : Relation). same_text r.name t ≡ true) (λ r. put r ≡ r) fixed (cut t w) (filter_passes (λ (r : Relation). same_text r.name t) w)) where
        fixed : (r : Relation) → same_text r.name t ≡ true → put r ≡ r
        fixed r e = ap (λ b. if b then with_tuples r (f r.tuples) else r) (ap (λ m. same_text m n) ((text_decides r.name t).0 e) ∙ nat_list_eq_equiv.symm t n ∙ other)

cut_created : (n : List ℕ) (columns : List (List ℕ)) (t : List ℕ) → same_text n t ≡ false → (w : Database) → cut t (created w n columns) ≡ cut t w
cut_created n columns t other w =
    filter-append (λ (r : Relation). same_text r.name t) w (record { name = n; columns = columns; tuples = [] } ∷ [])
    ∙ ap (λ b. cut t w ++ cond b (record { name = n; columns = columns; tuples = [] } ∷ []) []) other ∙ append-nil (cut t w)

-- where the first is there, so is the second, with the same tables of the set
abbrev pub Below : (List ℕ → Type 0) → Option Database → Option Database → Type 0
Below S None o = ⊤
Below S (Some w) None = ⊥
Below S (Some w) (Some w') = (t : List ℕ) → S t → cut t w ≡ cut t w'

pub below_itself : (S : List ℕ → Type 0) (o : Option Database) → Below S o o
below_itself S None = tt
below_itself S (Some w) = λ t s. refl

module _ (S : List ℕ → Type 0) (v : World) where
  -- changes that write none of these tables
  one_change : (x : PlainChange) → ((t : List ℕ) → S t → writes x (read.Table t) ≡ false) → (w w' : Database)
      → ((t : List ℕ) → S t → cut t w ≡ cut t w') → Below S (step_change v w x) (Some w')
  one_change (Create n cs) free w w' e = λ t s. cut_created n cs t (free t s) w ∙ e t s
  one_change (Insert n rs) free w w' e = λ t s. cut_unchanged n (λ tuples. tuples ++ shown_rows v rs) t (free t s) w ∙ e t s
  one_change (Delete n c) free w w' e = λ t s. cut_unchanged n (filter (λ tuple. not (holds v tuple c))) t (free t s) w ∙ e t s
  one_change (Update n ss c) free w w' e = λ t s. cut_unchanged n (updated v c ss) t (free t s) w ∙ e t s
  one_change (Assert c) free w w' e = by_test (holds_at v c) where
    by_test : (b : Bool) → Below S (if b then Some w else None) (Some w')
    by_test true = e
    by_test false = tt

  next_change : (x : PlainChange) → ((t : List ℕ) → S t → writes x (read.Table t) ≡ false) → (o o' : Option Database) → Below S o o'
      → Below S (option_and_then (λ d. step_change v d x) o) o'
  next_change x free None o' b = tt
  next_change x free (Some w) (Some w') b = one_change x free w w' b
  next_change x free (Some w) None b = absurd b

  pub below_changes : (xs : List PlainChange) → ((t : List ℕ) → S t → Unwritten xs (read.Table t)) → (o o' : Option Database) → Below S o o' → Below S (after_changes v o xs) o'
  below_changes [] free o o' b = b
  below_changes (x ∷ xs) free o o' b =
      below_changes xs (λ t s. (or_false (writes x (read.Table t)) (list_any (λ y. writes y (read.Table t)) xs) (free t s)).1)
      (option_and_then (λ d. step_change v d x) o) o'
      (next_change x (λ t s. (or_false (writes x (read.Table t)) (list_any (λ y. writes y (read.Table t)) xs) (free t s)).0) o o' b)

  -- a query of these tables has the same tuples
  module _ (w w' : Database) (e : (t : List ℕ) → S t → cut t w ≡ cut t w') where
    pub rows_within : (q : PlainQuery) → Within S q → rows v q w ≡ rows v q w'
    rows_within (plain.Table t) s = tuples_cut w t ∙ ap (λ u. tuples_of u t) (e t s) ∙ sym (tuples_cut w' t)
    rows_within (plain.Select c q) s = ap (filter (λ r. holds v r c)) (rows_within q s)
    rows_within (plain.Project ks q) s = ap (map (λ r. map (cell_at r) ks)) (rows_within q s)
    rows_within (plain.Product a b) s = let x = rows_within a s.0 in let y = rows_within b s.1 in λ i. joins (x i) (y i)
    rows_within (plain.Union a b) s = let x = rows_within a s.0 in let y = rows_within b s.1 in λ i. x i ++ y i
    rows_within (plain.Except a b) s = let x = rows_within a s.0 in let y = rows_within b s.1 in λ i. filter (λ r. not (has_tuple (y i) r)) (x i)
    rows_within (plain.Intersect a b) s = let x = rows_within a s.0 in let y = rows_within b s.1 in λ i. filter (has_tuple (y i)) (x i)

    inserted_within : (n : List ℕ) (more more' : List (List Value)) → more ≡ more' → (t : List ℕ) → S t → cut t (inserted w n more) ≡ cut t (inserted w' n more')
    inserted_within n more more' m t s =
        cut_changed n (λ tuples. tuples ++ more) t w ∙ (λ i. changed (e t s i) n (λ tuples. tuples ++ m i)) ∙ sym (cut_changed n (λ tuples. tuples ++ more') t w')

    kept_within : (b : Bool) → Below S (only_if b w) (only_if b w')
    kept_within true = e
    kept_within false = tt

    -- an action that reads these tables alone
    one_action : (a : PlainAction) → ReadsWithin S a → Below S (step_action v w a) (step_action v w' a)
    one_action (plain.Create n cs) within = λ t s.
        filter-append (λ (r : Relation). same_text r.name t) w (record { name = n; columns = cs; tuples = [] } ∷ [])
        ∙ ap (λ l. l ++ cut t (record { name = n; columns = cs; tuples = [] } ∷ [])) (e t s)
        ∙ sym (filter-append (λ (r : Relation). same_text r.name t) w' (record { name = n; columns = cs; tuples = [] } ∷ []))
    one_action (plain.InsertRows n ls p) within = by_test (holds_at v p) where
      by_test : (b : Bool) → Below S (Some (if b then inserted w n (map (tuple_at v) ls) else w)) (Some (if b then inserted w' n (map (tuple_at v) ls) else w'))
      by_test true = inserted_within n (map (tuple_at v) ls) (map (tuple_at v) ls) refl
      by_test false = e
    one_action (plain.InsertQuery n q) within = inserted_within n (rows v q w) (rows v q w') (rows_within q within)
    one_action (plain.Delete n p) within = λ t s.
        cut_changed n (filter (λ tuple. not (holds v tuple p))) t w
        ∙ ap (λ u. changed u n (filter (λ tuple. not (holds v tuple p)))) (e t s) ∙ sym (cut_changed n (filter (λ tuple. not (holds v tuple p))) t w')
    one_action (plain.Update n ss p) within = λ t s.
        cut_changed n (updated v p ss) t w ∙ ap (λ u. changed u n (updated v p ss)) (e t s) ∙ sym (cut_changed n (updated v p ss) t w')
    one_action (plain.Assert p) within = kept_within (holds_at v p)
    one_action (plain.AssertQuery wanted q) within =
        subst (λ ts. Below S (only_if (as_wanted wanted (rows v q w)) w) (only_if (as_wanted wanted ts) w')) (rows_within q within) (kept_within (as_wanted wanted (rows v q w)))
    one_action (plain.AssertKey n ks) within =
        subst (λ ts. Below S (only_if (is_key ks (tuples_of w n)) w) (only_if (is_key ks ts) w')) (rows_within (plain.Table n) within) (kept_within (is_key ks (tuples_of w n)))

  next_action : (a : PlainAction) → ReadsWithin S a → (o o' : Option Database) → Below S o o'
      → Below S (option_and_then (λ d. step_action v d a) o) (option_and_then (λ d. step_action v d a) o')
  next_action a within None o' b = tt
  next_action a within (Some w) (Some w') b = one_action w w' b a within
  next_action a within (Some w) None b = absurd b

  pub below_actions : (actions : List PlainAction) → AllByRecursion (ReadsWithin S) actions → (o o' : Option Database) → Below S o o'
      → Below S (after_actions v o actions) (after_actions v o' actions)
  below_actions [] within o o' b = b
  below_actions (a ∷ actions) within o o' b =
      below_actions actions within.1 (option_and_then (λ d. step_action v d a) o) (option_and_then (λ d. step_action v d a) o') (next_action a within.0 o o' b)

-- without assertions no valuation is lost
module _ (v : World) where
  change_admits : (x : PlainChange) → writes x read.Worlds ≡ false → (o : Option Database) → is_some (option_and_then (λ d. step_change v d x) o) ≡ is_some o
  change_admits x free None = refl
  change_admits (Create n cs) free (Some w) = refl
  change_admits (Insert n rs) free (Some w) = refl
  change_admits (Delete n c) free (Some w) = refl
  change_admits (Update n ss c) free (Some w) = refl
  change_admits (Assert c) free (Some w) = absurd (false≢true (sym free))

  pub changes_admit : (xs : List PlainChange) → Unwritten xs read.Worlds → (o : Option Database) → is_some (after_changes v o xs) ≡ is_some o
  changes_admit [] free o = refl
  changes_admit (x ∷ xs) free o =
      let both = or_false (writes x read.Worlds) (list_any (λ y. writes y read.Worlds) xs) free in
      changes_admit xs both.1 (option_and_then (λ d. step_change v d x) o) ∙ change_admits x both.0 o

module _ (S : List ℕ → Type 0) (v : World) where
  is_kept : (b : Bool) (w : Database) → is_some (only_if b w) ≡ b
  is_kept true w = refl
  is_kept false w = refl

  -- an action that reads these tables alone admits the same
  pub action_admits : (a : PlainAction) → ReadsWithin S a → (o o' : Option Database) → Below S o o' → is_some o ≡ is_some o'
      → is_some (option_and_then (λ d. step_action v d a) o) ≡ is_some (option_and_then (λ d. step_action v d a) o')
  action_admits a within None None b e = refl
  action_admits (plain.Create n cs) within (Some w) (Some w') b e = refl
  action_admits (plain.InsertRows n ls p) within (Some w) (Some w') b e = refl
  action_admits (plain.InsertQuery n q) within (Some w) (Some w') b e = refl
  action_admits (plain.Delete n p) within (Some w) (Some w') b e = refl
  action_admits (plain.Update n ss p) within (Some w) (Some w') b e = refl
  action_admits (plain.Assert p) within (Some w) (Some w') b e = is_kept (holds_at v p) w ∙ sym (is_kept (holds_at v p) w')
  action_admits (plain.AssertQuery wanted q) within (Some w) (Some w') b e =
      is_kept (as_wanted wanted (rows v q w)) w ∙ ap (as_wanted wanted) (rows_within S v w w' b q within) ∙ sym (is_kept (as_wanted wanted (rows v q w')) w')
  action_admits (plain.AssertKey n ks) within (Some w) (Some w') b e =
      is_kept (is_key ks (tuples_of w n)) w ∙ ap (is_key ks) (rows_within S v w w' b (plain.Table n) within) ∙ sym (is_kept (is_key ks (tuples_of w' n)) w')
  action_admits a within None (Some w) b e = absurd (false≢true e)
  action_admits a within (Some w) None b e = absurd b

  pub actions_admit : (actions : List PlainAction) → AllByRecursion (ReadsWithin S) actions → (o o' : Option Database) → Below S o o' → is_some o ≡ is_some o'
      → is_some (after_actions v o actions) ≡ is_some (after_actions v o' actions)
  actions_admit [] within o o' b e = e
  actions_admit (a ∷ actions) within o o' b e =
      actions_admit actions within.1 (option_and_then (λ d. step_action v d a) o) (option_and_then (λ d. step_action v d a) o')
      (next_action S v a within.0 o o' b) (action_admits a within.0 o o' b e)

-- patterns
line_unwritten : (x : PlainChange) (t : List ℕ) → writes x (read.Table t) ≡ false → (p : Patterns) → pattern_change p x t ≡ p t
line_unwritten (Create n cs) t free p = refl
line_unwritten (Insert n rs) t free p = ap (λ b. if b then p t ++ map (λ (r : PlainRow). r.cells) rs else p t) free
line_unwritten (Delete n c) t free p = refl
line_unwritten (Update n ss c) t free p = ap (λ b. if b then with_updated ss (p t) else p t) free
line_unwritten (Assert c) t free p = refl

pub lines_unwritten : (xs : List PlainChange) (t : List ℕ) → Unwritten xs (read.Table t) → (p : Patterns) → pattern_changes p xs t ≡ p t
lines_unwritten [] t free p = refl
lines_unwritten (x ∷ xs) t free p =
    let both = or_false (writes x (read.Table t)) (list_any (λ y. writes y (read.Table t)) xs) free in
    lines_unwritten xs t both.1 (pattern_change p x) ∙ line_unwritten x t both.0 p

module _ (S : List ℕ → Type 0) where
  module _ (p p' : Patterns) (e : (t : List ℕ) → S t → p t ≡ p' t) where
    pub pattern_within : (q : PlainQuery) → Within S q → query_pattern p q ≡ query_pattern p' q
    pattern_within (plain.Table t) s = e t s
    pattern_within (plain.Select c q) s = pattern_within q s
    pattern_within (plain.Project ks q) s = ap (map (picked ks)) (pattern_within q s)
    pattern_within (plain.Product a b) s = let x = pattern_within a s.0 in let y = pattern_within b s.1 in λ i. joins (x i) (y i)
    pattern_within (plain.Union a b) s = let x = pattern_within a s.0 in let y = pattern_within b s.1 in λ i. x i ++ y i
    pattern_within (plain.Except a b) s = pattern_within a s.0
    pattern_within (plain.Intersect a b) s = pattern_within a s.0

    lines_within : (n : List ℕ) (ls ls' : List (List Term)) → ls ≡ ls' → (t : List ℕ) → S t → with_lines p n ls t ≡ with_lines p' n ls' t
    lines_within n ls ls' l t s = λ i. if same_text n t then e t s i ++ l i else e t s i

    action_within : (a : PlainAction) → ReadsWithin S a → (t : List ℕ) → S t → pattern_action p a t ≡ pattern_action p' a t
    action_within (plain.Create n cs) within = e
    action_within (plain.InsertRows n ls c) within = lines_within n ls ls refl
    action_within (plain.InsertQuery n q) within = lines_within n (query_pattern p q) (query_pattern p' q) (pattern_within q within)
    action_within (plain.Delete n c) within = e
    action_within (plain.Update n ss c) within = λ t s i. if same_text n t then with_updated ss (e t s i) else e t s i
    action_within (plain.Assert c) within = e
    action_within (plain.AssertQuery wanted q) within = e
    action_within (plain.AssertKey n ks) within = e

  pub actions_within : (actions : List PlainAction) → AllByRecursion (ReadsWithin S) actions → (p p' : Patterns) → ((t : List ℕ) → S t → p t ≡ p' t)
      → (t : List ℕ) → S t → pattern_actions p actions t ≡ pattern_actions p' actions t
  actions_within [] within p p' e = e
  actions_within (a ∷ actions) within p p' e = actions_within actions within.1 (pattern_action p a) (pattern_action p' a) (action_within p p' e a within.0)
