-- What follows a history and further actions: one change more, or one action more.
use Rattle.std.{proofs.Common.{◌≡◌, ℕ, Bool, true, false, List, [], ◌∷◌, ◌++◌, map, refl, ap, sym, subst, ◌∙◌}, specs.List.{cons_option, Contains}}
use Rattle.std.{specs.Prelude.{Option, Some, None, IfSome, is_some, filter_map, if◌then◌else◌}, specs.Option.option_to_list, proofs.lemmas.List.{append-nil, append_assoc}}
use Rattle.std.{proofs.lemmas.List.Concat.flat_map-append, proofs.lemmas.List.Elements.{filter_map-append, Contains-append_left}}
use Rattle.ct_word.{specs.declared.values.Term.Term, specs.Value.{World, same_text}, specs.Condition.{Condition, holds_at}, proofs.Alike.text_decides}
use Rattle.ct_word.specs.Sublist.{IsSublist, ended, left_out, taken}
use Rattle.ct_word.specs.Change.{PlainRow, PlainChange, Create, Insert, Delete, Update, Assert, PlainCommit}
use Rattle.ct_query.{specs.Plain.PlainAction, specs.declared.schema.Heading.Heading, specs.declared.action.Read.Read, specs.Step.{asserted, step_change, step_action}}
use Rattle.ct_query.{specs.Worlds.{after_changes, changes_of}, specs.Schema.{created_by_change, created_by_action}, specs.Reads.action_reads}
use Rattle.ct_query.{specs.Database.Database, specs.Updates.{Sets, with_updated}}
use Rattle.ct_query.specs.Patterns.{Patterns, no_patterns, patterns, pattern_change, pattern_changes, pattern_action, with_lines, with_sets, query_pattern}
use Rattle.ct_query.{specs.Frame.reads_of_actions, proofs.Laws.{after_changes-append, world_action, pattern_changes-append, patterns_action, changes_of-snoc}}
use Rattle.ct_query.proofs.Sublists.{nothing_of, all_of, sublist-append}
use Rattle.ct_table.{specs.Denotes.{IsTermFor, by_change, by_action}, specs.Following.Follows}
use Rattle.ct_query.specs.Plain as plain

-- a list is the first part of a longer one
pub first_part : {A : Type 0} (xs ys : List A) → IsSublist xs (xs ++ ys)
first_part xs ys = subst (λ l. IsSublist l (xs ++ ys)) (append-nil xs) (sublist-append xs xs [] ys (all_of xs) (nothing_of ys))

-- patterns only grow
pub lines_kept : (p : Patterns) (name : List ℕ) (lines : List (List Term)) (n : List ℕ) → IsSublist (p n) (with_lines p name lines n)
lines_kept p name lines n = by_test (same_text name n) where
  by_test : (b : Bool) → IsSublist (p n) (if b then p n ++ lines else p n)
  by_test true = first_part (p n) lines
  by_test false = all_of (p n)

-- cell lists are a part of these with the updated ones
updated_part : (sets : Sets) (lists : List (List Term)) → IsSublist lists (with_updated sets lists)
updated_part sets [] = ended
updated_part sets (cells ∷ lists) = taken (left_out (updated_part sets lists))

sets_kept : (p : Patterns) (name : List ℕ) (sets : Sets) (n : List ℕ) → IsSublist (p n) (with_sets p name sets n)
sets_kept p name sets n = by_test (same_text name n) where
  by_test : (b : Bool) → IsSublist (p n) (if b then with_updated sets (p n) else p n)
  by_test true = updated_part sets (p n)
  by_test false = all_of (p n)

pub change_kept : (p : Patterns) (x : PlainChange) (n : List ℕ) → IsSublist (p n) (pattern_change p x n)
change_kept p (Create name columns) n = all_of (p n)
change_kept p (Insert name rs) n = lines_kept p name (map (λ r. r.cells) rs) n
change_kept p (Delete name c) n = all_of (p n)
change_kept p (Update name sets c) n = sets_kept p name sets n
change_kept p (Assert c) n = all_of (p n)

action_kept : (p : Patterns) (a : PlainAction) (n : List ℕ) → IsSublist (p n) (pattern_action p a n)
action_kept p (plain.Create name columns) n = all_of (p n)
action_kept p (plain.InsertRows name rs c) n = lines_kept p name rs n
action_kept p (plain.InsertQuery name q) n = lines_kept p name (query_pattern p q) n
action_kept p (plain.Delete name c) n = all_of (p n)
action_kept p (plain.Update name sets c) n = sets_kept p name sets n
action_kept p (plain.Assert c) n = all_of (p n)
action_kept p (plain.AssertQuery wanted q) n = all_of (p n)
action_kept p (plain.AssertKey name columns) n = all_of (p n)

-- the patterns with further cell lists for a name have them there
pub lines_here : (p : Patterns) (name : List ℕ) (lines : List (List Term)) → with_lines p name lines name ≡ p name ++ lines
lines_here p name lines = ap (λ b. if b then p name ++ lines else p name) ((text_decides name name).1 refl)

-- the pattern of a table after an insertion
pub lines_follow : (h g : List PlainCommit) (name : List ℕ) (rs : List PlainRow) → changes_of g ≡ changes_of h ++ Insert name rs ∷ []
    → patterns g [] name ≡ patterns h [] name ++ map (λ r. r.cells) rs
lines_follow h g name rs is =
    let grown = ap (pattern_changes no_patterns) is ∙ pattern_changes-append no_patterns (changes_of h) (Insert name rs ∷ []) in
    (λ i. grown i name) ∙ lines_here (patterns h []) name (map (λ r. r.cells) rs)

-- the patterns with sets for a name have them there
pub sets_here : (p : Patterns) (name : List ℕ) (sets : Sets) → with_sets p name sets name ≡ with_updated sets (p name)
sets_here p name sets = ap (λ b. if b then with_updated sets (p name) else p name) ((text_decides name name).1 refl)

-- the pattern of a table after an update
pub sets_follow : (h g : List PlainCommit) (name : List ℕ) (sets : Sets) (c : Condition) → changes_of g ≡ changes_of h ++ Update name sets c ∷ []
    → patterns g [] name ≡ with_updated sets (patterns h [] name)
sets_follow h g name sets c is =
    let grown = ap (pattern_changes no_patterns) is ∙ pattern_changes-append no_patterns (changes_of h) (Update name sets c ∷ []) in
    (λ i. grown i name) ∙ sets_here (patterns h []) name sets

-- a condition holds exactly where the assertion of one of its truth keeps a database
pub kept_where_asserted : (v : World) (c d : Condition) → holds_at v c ≡ holds_at v d → (o : Option Database) → IfSome o (λ w. holds_at v c ≡ is_some (asserted v w d))
kept_where_asserted v c d same None = tt
kept_where_asserted v c d same (Some w) = same ∙ by_test (holds_at v d) where
  by_test : (b : Bool) → b ≡ is_some (let o : Option Database = if b then Some w else None in o)
  by_test true = refl
  by_test false = refl

-- what one item gives is listed
one_listed : (o : Option Heading) → cons_option o [] ≡ option_to_list o
one_listed None = refl
one_listed (Some x) = refl

module _ (h g : List PlainCommit) (x : PlainChange) (is : changes_of g ≡ changes_of h ++ x ∷ []) where
  terms_after : (r : Read) (t : Term) → IsTermFor h [] r t → IsTermFor g [] r t
  terms_after r t (by_change y s among of writes stands) = by_change y s (subst (λ ys. Contains ys y) (sym is) (Contains-append_left (changes_of h) (x ∷ []) y among)) of writes stands
  terms_after r t (by_action a among stands) = by_action a among stands

  -- a history of one change more follows by what the change does
  pub change_follows : Follows h [] g [] (λ v w. step_change v w x) (option_to_list (created_by_change x))
  change_follows = record {
    worlds = λ v. ap (after_changes v (Some [])) is ∙ after_changes-append v (Some []) (changes_of h) (x ∷ []);
    headings =
        append-nil (filter_map created_by_change (changes_of g))
        ∙ ap (filter_map created_by_change) is
        ∙ filter_map-append created_by_change (changes_of h) (x ∷ [])
        ∙ (λ i. sym (append-nil (filter_map created_by_change (changes_of h))) i ++ one_listed (created_by_change x) i);
    patterns = λ n.
        subst (λ p. IsSublist (patterns h [] n) (p n)) (sym (ap (pattern_changes no_patterns) is ∙ pattern_changes-append no_patterns (changes_of h) (x ∷ [])))
        (change_kept (patterns h []) x n);
    terms = terms_after;
  }

-- one commit of one change is one change more
pub one_more : (h : List PlainCommit) (c : PlainCommit) (x : PlainChange) → c.changes ≡ x ∷ [] → changes_of (h ++ c ∷ []) ≡ changes_of h ++ x ∷ []
one_more h c x is = changes_of-snoc h c ∙ ap (λ xs. changes_of h ++ xs) is

-- so a history with the commit of one change follows
pub commit_follows : (h : List PlainCommit) (c : PlainCommit) (x : PlainChange) → c.changes ≡ x ∷ []
    → Follows h [] (h ++ c ∷ []) [] (λ v w. step_change v w x) (option_to_list (created_by_change x))
commit_follows h c x is = change_follows h (h ++ c ∷ []) x (one_more h c x is)

-- a commit that is in the making, and the same with one change more
pub commit_goes_on : (h : List PlainCommit) (c d : PlainCommit) (x : PlainChange) → d.changes ≡ c.changes ++ x ∷ []
    → Follows (h ++ c ∷ []) [] (h ++ d ∷ []) [] (λ v w. step_change v w x) (option_to_list (created_by_change x))
commit_goes_on h c d x is =
    change_follows (h ++ c ∷ []) (h ++ d ∷ []) x
    (changes_of-snoc h d ∙ ap (λ xs. changes_of h ++ xs) is ∙ sym (append_assoc (changes_of h) c.changes (x ∷ [])) ∙ ap (λ xs. xs ++ x ∷ []) (sym (changes_of-snoc h c)))

module _ (h : List PlainCommit) (actions : List PlainAction) (a : PlainAction) where
  pub more_read : (r s : Read) → Contains (r ∷ reads_of_actions actions) s → Contains (r ∷ reads_of_actions (actions ++ a ∷ [])) s
  more_read r s of =
      subst (λ rs. Contains (r ∷ rs) s) (sym (flat_map-append action_reads actions (a ∷ [])))
      (Contains-append_left (r ∷ reads_of_actions actions) (reads_of_actions (a ∷ [])) s of)

  terms_later : (r : Read) (t : Term) → IsTermFor h actions r t → IsTermFor h (actions ++ a ∷ []) r t
  terms_later r t (by_change y s among of writes stands) = by_change y s among (more_read r s of) writes stands
  terms_later r t (by_action b among stands) = by_action b (Contains-append_left actions (a ∷ []) b among) stands

  -- one action more follows by what the action does
  pub action_follows : Follows h actions h (actions ++ a ∷ []) (λ v w. step_action v w a) (option_to_list (created_by_action a))
  action_follows = record {
    worlds = λ v. world_action v h actions a;
    headings =
        ap (λ hs. filter_map created_by_change (changes_of h) ++ hs)
        (filter_map-append created_by_action actions (a ∷ []) ∙ ap (λ hs. filter_map created_by_action actions ++ hs) (one_listed (created_by_action a)))
        ∙ sym (append_assoc (filter_map created_by_change (changes_of h)) (filter_map created_by_action actions) (option_to_list (created_by_action a)));
    patterns = λ n. subst (λ p. IsSublist (patterns h actions n) (p n)) (sym (patterns_action h actions a)) (action_kept (patterns h actions) a n);
    terms = terms_later;
  }
