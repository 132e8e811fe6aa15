-- Commits that write nothing of what is read change nothing for the reader.
use Rattle.std.{proofs.Common.{◌≡◌, ℕ, ◌≤◌, Bool, true, false, List, [], ◌∷◌, ◌++◌, map, length, refl, ap, sym, subst, ◌∙◌}, specs.Option.option_to_list}
use Rattle.std.{specs.Prelude.{Option, Some, None, IfSome, IsSome, All, is_some, option_map, filter_map, if◌then◌else◌}, proofs.lemmas.Bool.false≢true}
use Rattle.std.{specs.List.{AllByRecursion, cons_option, list_any}, proofs.lemmas.List.Elements.{All-contains, recursion_from_All, filter_map-append}}
use Rattle.std.proofs.lemmas.Grind.{flat_map-append}
use Rattle.ct_word.{specs.declared.values.Value.Value, specs.Value.{World, same_text}, specs.Change.{PlainChange, Create, Insert, Delete, Update, Assert, PlainCommit}}
use Rattle.ct_word.proofs.Alike.{text_decides}
use Rattle.ct_query.{specs.declared.schema.Heading.Heading, specs.Plain.{PlainQuery, PlainAction}, specs.declared.action.Read.Read, specs.Rows.rows}
use Rattle.ct_query.{specs.Database.{Database, SameSet}, specs.Worlds.{world, admits, after_changes, after_actions, changes_of}, specs.Step.step_action}
use Rattle.ct_query.{specs.Schema.{schema, created_by_change, created_by_action}, specs.Patterns.{patterns, pattern, pattern_changes, no_patterns}}
use Rattle.ct_query.{specs.Reads.{tables_of, query_reads, action_reads, writes, last}, proofs.Laws.{after_changes-append, pattern_changes-append}}
use Rattle.ct_query.specs.Fits.{columns_in, count_of, AreColumnsBelow, AreSets, FitsRow, FitsChange, FitChanges, FitAfter}
use Rattle.ct_query.specs.Frame.{AreOlder, reads_of_actions, creates, SameForActions, SameForQuery}
use Rattle.ct_query.proofs.Keeping.{Finds, FindAll, all_agree, changes_themselves}
use Rattle.ct_query.proofs.Within.{Unwritten, or_false, later_unwritten, all_parts, all_push, of_added, Within, ReadsWithin, within_tables, Below, below_itself, below_changes, rows_within, below_actions, changes_admit, action_admits, actions_admit, lines_unwritten, pattern_within, actions_within}
use Rattle.ct_query.specs.Plain as plain
use Rattle.ct_query.specs.declared.action.Read.TheVariants as read

-- the first of two, or else the second
abbrev or_else : {A : Type 0} → Option A → Option A → Option A
or_else None o = o
or_else (Some x) o = Some x

or_none : {A : Type 0} (o : Option A) → or_else o None ≡ o
or_none None = refl
or_none (Some x) = refl

columns_append : (a b : List Heading) (t : List ℕ) → columns_in (a ++ b) t ≡ or_else (columns_in a t) (columns_in b t)
columns_append [] b t = refl
columns_append (h ∷ a) b t = by_test (same_text h.name t) (columns_append a b t) where
  by_test : (c : Bool) → columns_in (a ++ b) t ≡ or_else (columns_in a t) (columns_in b t)
      → (if c then Some h.columns else columns_in (a ++ b) t) ≡ or_else (if c then Some h.columns else columns_in a t) (columns_in b t)
  by_test true e = refl
  by_test false e = e

none_created : (xs : List PlainChange) (t : List ℕ) → Unwritten xs (read.Table t) → columns_in (filter_map created_by_change xs) t ≡ None
none_created [] t free = refl
none_created (x ∷ xs) t free =
    let both = or_false (writes x (read.Table t)) (list_any (λ y. writes y (read.Table t)) xs) free in
    first x both.0 (none_created xs t both.1) where
      first : (y : PlainChange) → writes y (read.Table t) ≡ false → columns_in (filter_map created_by_change xs) t ≡ None
          → columns_in (cons_option (created_by_change y) (filter_map created_by_change xs)) t ≡ None
      first (Create n cs) f rest = ap (λ b. if b then Some cs else columns_in (filter_map created_by_change xs) t) f ∙ rest
      first (Insert n rs) f rest = rest
      first (Delete n c) f rest = rest
      first (Update n ss c) f rest = rest
      first (Assert c) f rest = rest

-- tables of a set, and all tables that are there, have the same columns among more tables
record Grows (S : List ℕ → Type 0) (s more : List Heading) : Type 0 where
  pub same : (t : List ℕ) → S t → columns_in more t ≡ columns_in s t
  pub there : (t : List ℕ) → IsSome (columns_in s t) → columns_in more t ≡ columns_in s t

module _ (S : List ℕ → Type 0) where
  -- the names of tables are of the set
  abbrev Named : List Heading → Type 0
  Named hs = AllByRecursion (λ h. S h.name) hs

  named_one : (hs : List Heading) → Named hs → (t : List ℕ) → IsSome (columns_in hs t) → S t
  named_one [] all t is = absurd (false≢true is)
  named_one (h ∷ hs) all t is = by_test (same_text h.name t) refl is (named_one hs all.1 t) where
    by_test : (b : Bool) → same_text h.name t ≡ b → IsSome (if b then Some h.columns else columns_in hs t) → (IsSome (columns_in hs t) → S t) → S t
    by_test true e i rest = subst S ((text_decides h.name t).0 e) all.0
    by_test false e i rest = rest i

  -- the same further tables, with names of the set
  grows_by : (s more hs : List Heading) → Grows S s more → Named hs → Grows S (s ++ hs) (more ++ hs)
  grows_by s more hs g named = record {
    same = λ t in'. both t (g.same t in');
    there = λ t is. by_first t (columns_in s t) refl (subst IsSome (columns_append s hs t) is);
  } where
    both : (t : List ℕ) → columns_in more t ≡ columns_in s t → columns_in (more ++ hs) t ≡ columns_in (s ++ hs) t
    both t e = columns_append more hs t ∙ ap (λ o. or_else o (columns_in hs t)) e ∙ sym (columns_append s hs t)

    by_first : (t : List ℕ) (o : Option (List (List ℕ))) → columns_in s t ≡ o → IsSome (or_else (columns_in s t) (columns_in hs t)) → columns_in (more ++ hs) t ≡ columns_in (s ++ hs) t
    by_first t (Some cs) e i = both t (g.there t (subst IsSome (sym e) refl))
    by_first t None e i = both t (g.same t (named_one hs named t (subst (λ o. IsSome (or_else o (columns_in hs t))) e i)))

  -- a change that fits, and creates a table of the set if it creates one
  change_fits : (s more : List Heading) → Grows S s more → (x : PlainChange) → Named (option_to_list (created_by_change x)) → FitsChange s x → FitsChange more x
  change_fits s more g (Create n cs) named f = g.same n named.0 ∙ f
  change_fits s more g (Insert n rs) named f = subst (λ o. IsSome o × All (FitsRow (count_of o)) rs) (sym (g.there n f.0)) f
  change_fits s more g (Delete n c) named f = subst (λ o. IsSome o × AreColumnsBelow (count_of o) c) (sym (g.there n f.0)) f
  change_fits s more g (Update n ss c) named f = subst (λ o. IsSome o × AreSets (count_of o) ss × AreColumnsBelow (count_of o) c) (sym (g.there n f.0)) f
  change_fits s more g (Assert c) named f = f

  changes_fit : (xs : List PlainChange) (s more : List Heading) → Grows S s more → Named (filter_map created_by_change xs) → FitChanges s xs → FitChanges more xs
  changes_fit [] s more g named f = tt
  changes_fit (x ∷ xs) s more g named f =
      let both = by_first (created_by_change x) named in
      (change_fits s more g x both.0 f.0, changes_fit xs _ _ (grows_by s more (option_to_list (created_by_change x)) g both.0) both.1 f.1) where
        by_first : (o : Option Heading) → Named (cons_option o (filter_map created_by_change xs)) → Named (option_to_list o) × Named (filter_map created_by_change xs)
        by_first None all = (tt, all)
        by_first (Some h) all = ((all.0, tt), all.1)

-- later commits
module _ (h k : List PlainCommit) where
  -- no later commit writes a table
  abbrev Free : List ℕ → Type 0
  Free t = Unwritten (changes_of k) (read.Table t)

  abbrev Older : Read → Type 0
  Older r = last (h ++ k) r ≤ length h

  free_of : (t : List ℕ) → Older (read.Table t) → Free t
  free_of t = later_unwritten (read.Table t) h k

  free_of_all : (ts : List (List ℕ)) → AllByRecursion Older (map read.Table ts) → AllByRecursion Free ts
  free_of_all [] all = tt
  free_of_all (t ∷ ts) all = (free_of t all.0, free_of_all ts all.1)

  -- a query that reads older tables and worlds
  query_older : (q : PlainQuery) → AllByRecursion Older (query_reads q) → Within Free q × Older read.Worlds
  query_older q all =
      let parts = all_parts Older (map read.Table (tables_of q)) (read.Worlds ∷ []) (of_added Older [] (map read.Table (tables_of q) ++ read.Worlds ∷ []) all).1 in
      (within_tables Free q (free_of_all (tables_of q) parts.0), parts.1.0)

  action_older : (a : PlainAction) → AllByRecursion Older (action_reads a) → ReadsWithin Free a
  action_older (plain.InsertQuery n q) all = (query_older q all).0
  action_older (plain.AssertQuery wanted q) all = (query_older q all).0
  action_older (plain.AssertKey n ks) all = free_of n all.0
  action_older _ all = tt

  actions_older : (actions : List PlainAction) → AllByRecursion Older (reads_of_actions actions) → AllByRecursion (ReadsWithin Free) actions
  actions_older [] all = tt
  actions_older (a ∷ actions) all =
      let parts = all_parts Older (action_reads a) (reads_of_actions actions) all in
      (action_older a parts.0, actions_older actions parts.1)

  all_changes : changes_of (h ++ k) ≡ changes_of h ++ changes_of k
  all_changes = flat_map-append (λ (c : PlainCommit). c.changes) h k

  world_later : (v : World) → after_changes v (Some []) (changes_of (h ++ k)) ≡ after_changes v (world v h []) (changes_of k)
  world_later v = ap (after_changes v (Some [])) all_changes ∙ after_changes-append v (Some []) (changes_of h) (changes_of k)

  module _ (actions : List PlainAction) (within : AllByRecursion (ReadsWithin Free) actions) where
    below : (v : World) → Below Free (world v (h ++ k) actions) (world v h actions)
    below v = subst (λ o. Below Free (after_actions v o actions) (world v h actions)) (sym (world_later v))
        (below_actions Free v actions within (after_changes v (world v h []) (changes_of k)) (world v h [])
        (below_changes Free v (changes_of k) (λ t s. s) (world v h []) (world v h []) (below_itself Free (world v h []))))

    patterns_later : (t : List ℕ) → Free t → patterns (h ++ k) actions t ≡ patterns h actions t
    patterns_later = actions_within Free actions within (pattern_changes no_patterns (changes_of (h ++ k))) (pattern_changes no_patterns (changes_of h))
        (λ t s. ap (λ xs. pattern_changes no_patterns xs t) all_changes
        ∙ ap (λ p. p t) (pattern_changes-append no_patterns (changes_of h) (changes_of k)) ∙ lines_unwritten (changes_of k) t s (pattern_changes no_patterns (changes_of h)))

    pattern_later : (q : PlainQuery) → Within Free q → pattern (h ++ k) actions q ≡ pattern h actions q
    pattern_later = pattern_within Free (patterns (h ++ k) actions) (patterns h actions) patterns_later

    tuples_later : (v : World) (q : PlainQuery) → Within Free q → (tuples : List (List Value))
        → IfSome (world v h actions) (λ w. SameSet tuples (rows v q w)) → IfSome (world v (h ++ k) actions) (λ w. SameSet tuples (rows v q w))
    tuples_later v q s tuples f = by_worlds (world v (h ++ k) actions) (world v h actions) (below v) f where
      by_worlds : (o o' : Option Database) → Below Free o o' → IfSome o' (λ w. SameSet tuples (rows v q w)) → IfSome o (λ w. SameSet tuples (rows v q w))
      by_worlds None o' b g = tt
      by_worlds (Some w) None b g = absurd b
      by_worlds (Some w) (Some w') b g = subst (SameSet tuples) (sym (rows_within Free v w w' b q s)) g

    -- an action that reads older tables leaves a database behind where it did
    kept_later : (v : World) (a : PlainAction) → ReadsWithin Free a → (b : Bool)
        → IfSome (world v h actions) (λ w. b ≡ is_some (step_action v w a)) → IfSome (world v (h ++ k) actions) (λ w. b ≡ is_some (step_action v w a))
    kept_later v a s b f = by_worlds (world v (h ++ k) actions) (world v h actions) (below v) f where
      by_worlds : (o o' : Option Database) → Below Free o o' → IfSome o' (λ w. b ≡ is_some (step_action v w a)) → IfSome o (λ w. b ≡ is_some (step_action v w a))
      by_worlds None o' e g = tt
      by_worlds (Some w) None e g = absurd e
      by_worlds (Some w) (Some w') e g = g ∙ sym (action_admits Free v a s (Some w) (Some w') e refl)

    admits_later : Older read.Worlds → (v : World) → admits v (h ++ k) actions ≡ admits v h actions
    admits_later old v =
        ap (λ o. is_some (after_actions v o actions)) (world_later v)
        ∙ actions_admit Free v actions within (after_changes v (world v h []) (changes_of k)) (world v h [])
        (below_changes Free v (changes_of k) (λ t s. s) (world v h []) (world v h []) (below_itself Free (world v h [])))
        (changes_admit v (changes_of k) (later_unwritten read.Worlds h k old) (world v h []))

    rows_later : Older read.Worlds → (v : World) (q : PlainQuery) → Within Free q
        → option_map (rows v q) (world v (h ++ k) actions) ≡ option_map (rows v q) (world v h actions)
    rows_later old v q s = by_worlds (world v (h ++ k) actions) (world v h actions) (admits_later old v) (below v) where
      by_worlds : (o o' : Option Database) → is_some o ≡ is_some o' → Below Free o o' → option_map (rows v q) o ≡ option_map (rows v q) o'
      by_worlds None None e b = refl
      by_worlds None (Some w) e b = absurd (false≢true e)
      by_worlds (Some w) None e b = absurd b
      by_worlds (Some w) (Some w') e b = ap Some (rows_within Free v w w' b q s)

  finds_later : (before : List PlainAction) → AllByRecursion (ReadsWithin Free) before → (a : PlainAction) → ReadsWithin Free a → Finds h (h ++ k) before a
  finds_later before within (plain.InsertQuery n q) s = (sym (pattern_later before within q s), λ v tuples. tuples_later before within v q s tuples)
  finds_later before within (plain.Create n cs) s = tt
  finds_later before within (plain.InsertRows n ls p) s = tt
  finds_later before within (plain.Delete n p) s = tt
  finds_later before within (plain.Update n ss p) s = tt
  finds_later before within (plain.Assert p) s = tt
  finds_later before within (plain.AssertQuery wanted q) s = λ v. kept_later before within v (plain.AssertQuery wanted q) s
  finds_later before within (plain.AssertKey n ks) s = λ v. kept_later before within v (plain.AssertKey n ks) s

  all_find_later : (before actions : List PlainAction) → AllByRecursion (ReadsWithin Free) before → AllByRecursion (ReadsWithin Free) actions → FindAll h (h ++ k) before actions
  all_find_later before [] within rest = tt
  all_find_later before (a ∷ actions) within rest = (
    finds_later before within a rest.0,
    all_find_later (before ++ a ∷ []) actions (all_push (ReadsWithin Free) before a within rest.0) rest.1,
  )

  -- the tables of the history, among those of the later commits too
  tables_later : Grows Free (filter_map created_by_change (changes_of h)) (filter_map created_by_change (changes_of (h ++ k)))
  tables_later = record {
    same = λ t s. both t ∙ ap (or_else (columns_in (filter_map created_by_change (changes_of h)) t)) (none_created (changes_of k) t s) ∙ or_none _;
    there = λ t is. both t ∙ first (columns_in (filter_map created_by_change (changes_of h)) t) _ is;
  } where
    both : (t : List ℕ) → columns_in (filter_map created_by_change (changes_of (h ++ k))) t
        ≡ or_else (columns_in (filter_map created_by_change (changes_of h)) t) (columns_in (filter_map created_by_change (changes_of k)) t)
    both t =
        ap (λ l. columns_in l t) (ap (filter_map created_by_change) all_changes ∙ filter_map-append created_by_change (changes_of h) (changes_of k))
        ∙ columns_append (filter_map created_by_change (changes_of h)) (filter_map created_by_change (changes_of k)) t

    first : (o p : Option (List (List ℕ))) → IsSome o → or_else o p ≡ o
    first None p i = absurd (false≢true i)
    first (Some cs) p i = refl

  -- what actions create is what they read
  named_older : (actions : List PlainAction) → AllByRecursion Older (reads_of_actions actions) → Named Free (filter_map created_by_action actions)
  named_older [] all = tt
  named_older (a ∷ actions) all = let parts = all_parts Older (action_reads a) (reads_of_actions actions) all in by_first a parts.0 (named_older actions parts.1) where
    by_first : (b : PlainAction) → AllByRecursion Older (action_reads b) → Named Free (filter_map created_by_action actions) → Named Free (cons_option (created_by_action b) (filter_map created_by_action actions))
    by_first (plain.Create n cs) own rest = (free_of n own.0, rest)
    by_first (plain.InsertRows n ls c) own rest = rest
    by_first (plain.InsertQuery n q) own rest = rest
    by_first (plain.Delete n c) own rest = rest
    by_first (plain.Update n ss c) own rest = rest
    by_first (plain.Assert c) own rest = rest
    by_first (plain.AssertQuery wanted q) own rest = rest
    by_first (plain.AssertKey n ks) own rest = rest

  named_free : (hs : List Heading) → AllByRecursion Older (map (λ (t : Heading). read.Table t.name) hs) → Named Free hs
  named_free [] all = tt
  named_free (t ∷ hs) all = (free_of t.name all.0, named_free hs all.1)

  pub same_for_actions : (actions : List PlainAction) → AreOlder h k (reads_of_actions actions) → SameForActions h k actions
  same_for_actions actions old =
      let all = recursion_from_All Older (reads_of_actions actions) old in
      let within = actions_older actions all in
      let grows = grows_by Free (filter_map created_by_change (changes_of h)) (filter_map created_by_change (changes_of (h ++ k))) (filter_map created_by_action actions) tables_later (named_older actions all) in
      record {
        found = λ t c. grows.same t (free_of t (All-contains Older (reads_of_actions actions) (read.Table t) old c));
        named = grows.there;
        admitted = λ c. admits_later actions within (All-contains Older (reads_of_actions actions) read.Worlds old c);
        agreed = λ xs f. all_agree h (h ++ k) [] actions xs xs (all_find_later [] actions tt within) (changes_themselves xs) f;
      }

  pub fit_later : (xs : List PlainChange) → AreOlder h k (creates xs) → FitAfter h xs → FitAfter (h ++ k) xs
  fit_later xs old =
      changes_fit Free xs (schema h []).tables (schema (h ++ k) []).tables (grows_by Free (filter_map created_by_change (changes_of h)) (filter_map created_by_change (changes_of (h ++ k))) [] tables_later tt)
      (named_free (filter_map created_by_change xs) (recursion_from_All Older (creates xs) old))

  pub same_for_query : (actions : List PlainAction) (q : PlainQuery) → AreOlder h k (reads_of_actions actions) → AreOlder h k (query_reads q) → SameForQuery h k actions q
  same_for_query actions q old own =
      let within = actions_older actions (recursion_from_All Older (reads_of_actions actions) old) in
      let of_query = query_older q (recursion_from_All Older (query_reads q) own) in
      record {
        admitted = admits_later actions within of_query.1;
        tuples = λ v. rows_later actions within of_query.1 v q of_query.0;
        patterns = pattern_later actions within q of_query.0;
        shown = λ allowed shown v f. record {
          worlds = f.worlds ∙ sym (admits_later actions within of_query.1 v);
          tuples = tuples_later actions within v q of_query.0 shown f.tuples;
        };
      }
