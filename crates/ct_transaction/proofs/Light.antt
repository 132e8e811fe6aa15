-- Changes that are light for their actions: as actions are added, and when they are committed.
use Rattle.std.proofs.Common.{ℕ, ◌+◌, ◌≤◌, Bool, true, false, List, [], ◌∷◌, ◌++◌, map, sym, subst, arith}
use Rattle.std.{specs.Prelude.{sum_by, if◌then◌else◌}, proofs.lemmas.Nat.mul-le, proofs.lemmas.List.Sums.sum_by-cons}
use Rattle.ct_word.{specs.declared.values.Term.Term, specs.Value.same_text, specs.Sublist.{IsSublist, ended, left_out, taken}}
use Rattle.ct_word.specs.Change.{PlainRow, PlainChange, Create, Insert, Delete, Update, Assert, PlainCommit}
use Rattle.ct_query.{specs.Agrees.{AgreesWith, AgreesAfter, Agrees}, specs.Bounds.{ops, applying_words, commit_words}, specs.Plain.PlainAction}
use Rattle.ct_query.specs.Patterns.{Patterns, query_pattern, pattern, patterns, with_lines, with_sets, pattern_change, pattern_changes, pattern_action, pattern_actions, count}
use Rattle.ct_query.specs.Updates.{Sets, with_updated}
use Rattle.ct_query.proofs.{Laws.{patterns_commit, patterns_action}, Sublists.{all_of, sublist_of_sublist, pattern_part}}
use Rattle.ct_table.proofs.Following.{first_part}
use Rattle.ct_keeper.{specs.Bounds.applied_words, proofs.Counting.distinct_grows}
use Rattle.ct_statement.{specs.Making.{IsLight, AreLight}, proofs.Weights.{lines_part, sets_part, actions_part}}
use Rattle.ct_query.specs.Plain as plain
use Rattle.ct_keeper.specs.Bounds as keeper

-- further actions leave no table fewer rows
lines_kept : (b : Bool) (ls more : List (List Term)) → IsSublist ls (if b then ls ++ more else ls)
lines_kept true ls more = first_part ls more
lines_kept false ls more = all_of ls

updated_kept : (sets : Sets) (ls : List (List Term)) → IsSublist ls (with_updated sets ls)
updated_kept sets [] = ended
updated_kept sets (l ∷ ls) = taken (left_out (updated_kept sets ls))

sets_kept : (b : Bool) (sets : Sets) (ls : List (List Term)) → IsSublist ls (if b then with_updated sets ls else ls)
sets_kept true sets ls = updated_kept sets ls
sets_kept false sets ls = all_of ls

action_kept : (p : Patterns) (a : PlainAction) (n : List ℕ) → IsSublist (p n) (pattern_action p a n)
action_kept p (plain.InsertRows name rs c) n = lines_kept (same_text name n) (p n) rs
action_kept p (plain.InsertQuery name q) n = lines_kept (same_text name n) (p n) (query_pattern p q)
action_kept p (plain.Update name sets c) n = sets_kept (same_text name n) sets (p n)
action_kept p _ n = all_of (p n)

action_counts : (h : List PlainCommit) (actions : List PlainAction) (a : PlainAction) (n : List ℕ) → count h actions n ≤ count h (actions ++ a ∷ []) n
action_counts h actions a n =
    distinct_grows (patterns h actions n) (patterns h (actions ++ a ∷ []) n)
    (subst (λ p. IsSublist (patterns h actions n) (p n)) (sym (patterns_action h actions a)) (action_kept (patterns h actions) a n))

-- changes that are light by some counts are so by greater ones
module _ (f g : List ℕ → ℕ) (each : (t : List ℕ) → f t ≤ g t) where
  light_grows : (a : PlainAction) (x : PlainChange) → IsLight f a x → IsLight g a x
  light_grows a x light = λ k more. light k (λ t. let low = each t in let high = more t in omega (arith, low, high))

  all_push : (actions : List PlainAction) (xs : List PlainChange) (a : PlainAction) (x : PlainChange) → AreLight f actions xs → IsLight f a x → AreLight g (actions ++ a ∷ []) (xs ++ x ∷ [])
  all_push [] [] a x all one = (light_grows a x one, tt)
  all_push (b ∷ actions) (y ∷ xs) a x all one = (light_grows b y all.0, all_push actions xs a x all.1 one)
  all_push _ _ a x all one = absurd all

-- one action more
pub light_push : (h : List PlainCommit) (actions : List PlainAction) (xs : List PlainChange) (a : PlainAction) (x : PlainChange) → AreLight (count h actions) actions xs → IsLight (count h actions) a x
    → AreLight (count h (actions ++ a ∷ [])) (actions ++ a ∷ []) (xs ++ x ∷ [])
light_push h actions xs a x all one = all_push (count h actions) (count h (actions ++ a ∷ [])) (action_counts h actions a) actions xs a x all one

-- the words of applying light changes, by counts that are no greater
applied_grows : (f g : List ℕ → ℕ) → ((t : List ℕ) → f t ≤ g t) → (x : PlainChange) → applied_words f x ≤ applied_words g x
applied_grows f g each (Delete name c) = mul-le (f name) (ops c + 2) (g name) (ops c + 2) (each name) (omega arith)
applied_grows f g each (Update name sets c) = mul-le (f name) (ops c + 5) (g name) (ops c + 5) (each name) (omega arith)
applied_grows f g each _ = omega arith

module _ (counts f g : List ℕ → ℕ) (low : (t : List ℕ) → f t ≤ g t) (high : (t : List ℕ) → counts t ≤ g t) where
  light_sum : (actions : List PlainAction) (xs : List PlainChange) → AreLight counts actions xs → sum_by (applied_words f) xs ≤ sum_by (applying_words g) actions
  light_sum [] [] all = omega arith
  light_sum (a ∷ actions) (x ∷ xs) all =
      let one = all.0 g high in
      let less = applied_grows f g low x in
      let rest = light_sum actions xs all.1 in
      let left = sum_by-cons (applied_words f) x xs in
      let right = sum_by-cons (applying_words g) a actions in
      omega (arith, one, less, rest, left, right)
  light_sum _ _ all = absurd all

  light_commit : (actions : List PlainAction) (xs : List PlainChange) → AreLight counts actions xs → keeper.commit_words f xs ≤ commit_words g actions
  light_commit [] [] all = omega arith
  light_commit (a ∷ actions) (x ∷ xs) all = let sum = light_sum (a ∷ actions) (x ∷ xs) all in omega (arith, sum)
  light_commit _ _ all = absurd all

-- after a longer history, changes that agree with actions insert no more rows than these
module _ (h g : List PlainCommit) (longer : (n : List ℕ) → IsSublist (patterns h [] n) (patterns g [] n)) where
  before_part : (before : List PlainAction) (n : List ℕ) → IsSublist (patterns h before n) (patterns g before n)
  before_part before n = actions_part (patterns h []) (patterns g []) longer before n

  one_within : (before : List PlainAction) (a : PlainAction) (x : PlainChange) → AgreesWith h before a x → (p : Patterns)
      → ((t : List ℕ) → IsSublist (p t) (patterns g before t)) → (t : List ℕ) → IsSublist (pattern_change p x t) (pattern_action (patterns g before) a t)
  one_within before (plain.Create n cs) (Create n' cs') f p e = e
  one_within before (plain.InsertRows n ls c) (Insert n' rs) f p e =
      subst (λ m. (t : List ℕ) → IsSublist (with_lines p m (map (λ (r : PlainRow). r.cells) rs) t) (with_lines (patterns g before) n ls t)) (sym f.0)
      (lines_part p (patterns g before) e n (map (λ (r : PlainRow). r.cells) rs) ls (subst (λ l. IsSublist l ls) (sym f.1) (all_of ls)))
  one_within before (plain.InsertQuery n q) (Insert n' rs) f p e =
      subst (λ m. (t : List ℕ) → IsSublist (with_lines p m (map (λ (r : PlainRow). r.cells) rs) t) (with_lines (patterns g before) n (pattern g before q) t)) (sym f.0)
      (lines_part p (patterns g before) e n (map (λ (r : PlainRow). r.cells) rs) (pattern g before q)
      (sublist_of_sublist _ _ _ f.1 (pattern_part (patterns h before) (patterns g before) (before_part before) q)))
  one_within before (plain.Delete n c) (Delete n' d) f p e = e
  one_within before (plain.Update n ss c) (Update n' ss' d) f p e =
      subst (λ m. (t : List ℕ) → IsSublist (with_sets p m ss' t) (with_sets (patterns g before) n ss t)) (sym f.0)
      (subst (λ sets. (t : List ℕ) → IsSublist (with_sets p n sets t) (with_sets (patterns g before) n ss t)) (sym f.1) (sets_part p (patterns g before) e n ss))
  one_within before (plain.Assert c) (Assert d) f p e = e
  one_within before (plain.AssertQuery wanted q) (Assert d) f p e = e
  one_within before (plain.AssertKey n ks) (Assert d) f p e = e
  one_within before _ _ f p e = absurd f

  all_within : (before actions : List PlainAction) (xs : List PlainChange) → AgreesAfter h before actions xs → (p : Patterns)
      → ((t : List ℕ) → IsSublist (p t) (patterns g before t)) → (t : List ℕ) → IsSublist (pattern_changes p xs t) (pattern_actions (patterns g before) actions t)
  all_within before [] [] f p e = e
  all_within before (a ∷ actions) (x ∷ xs) f p e =
      subst (λ q. (t : List ℕ) → IsSublist (pattern_changes (pattern_change p x) xs t) (pattern_actions q actions t)) (patterns_action g before a)
      (all_within (before ++ a ∷ []) actions xs f.1 (pattern_change p x)
      (subst (λ q. (t : List ℕ) → IsSublist (pattern_change p x t) (q t)) (sym (patterns_action g before a)) (one_within before a x f.0 p e)))
  all_within before _ _ f p e = absurd f

  agreed_counts : (actions : List PlainAction) (c : PlainCommit) → Agrees h actions c.changes → (t : List ℕ) → count (g ++ c ∷ []) [] t ≤ count g actions t
  agreed_counts actions c f t =
      distinct_grows (patterns (g ++ c ∷ []) [] t) (patterns g actions t)
      (subst (λ p. IsSublist (p t) (patterns g actions t)) (sym (patterns_commit g c)) (all_within [] actions c.changes f (patterns g []) (λ u. all_of (patterns g [] u)) t))

  -- so a commit of light changes makes no more words than are counted for the COMMIT of the actions
  pub light_offer : (actions : List PlainAction) (c : PlainCommit) → Agrees h actions c.changes → AreLight (count h actions) actions c.changes
      → keeper.commit_words (count (g ++ c ∷ []) []) c.changes ≤ commit_words (count g actions) actions
  light_offer actions c f light =
      light_commit (count h actions) (count (g ++ c ∷ []) []) (count g actions) (agreed_counts actions c f)
      (λ t. distinct_grows (patterns h actions t) (patterns g actions t) (before_part actions t)) actions c.changes light
