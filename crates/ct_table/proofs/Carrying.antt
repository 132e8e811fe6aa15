-- What tables denote, carried to other histories that say the same: of the same changes, of the same commits, or with a commit
-- of changes that agree with the actions.
use Rattle.std.{proofs.Common.{◌≡◌, ℕ, List, [], ◌∷◌, ◌++◌, refl, ap, sym, subst, ◌∙◌}, specs.List.{Contains, list_all}, proofs.lemmas.List.append-nil}
use Rattle.std.{specs.Prelude.{Option, Some, None, IfSome, IsTrue, All, filter_map, option_and_then}, proofs.lemmas.List.Elements.All-weaker}
use Rattle.ct_word.{specs.declared.values.Term.Term, specs.Value.World, specs.Sublist.IsSublist, specs.Writable.is_writable, specs.StandsFor.SameCommits}
use Rattle.ct_word.specs.Change.{PlainCommit}
use Rattle.ct_query.{specs.Plain.{PlainAction, Table}, specs.declared.action.Read.Read, specs.Database.{Database, Relation, SameRelation, SameDatabase}}
use Rattle.ct_query.{specs.Worlds.{world, after_changes, changes_of}, specs.Patterns.{no_patterns, patterns, pattern_changes}, specs.Schema.created_by_change}
use Rattle.ct_query.{specs.Agrees.Agrees, specs.Committed.SameWorld, proofs.Keeping.same_keeps, proofs.Committed.commit_does, proofs.Sets.same_set_on}
use Rattle.ct_query.proofs.Sublists.{all_of}
use Rattle.ct_operators.specs.Tables.{cells_of}
use Rattle.ct_table.{specs.Denotes.{TableView, value_of_tables, IsKept, AreWorth, IsTermFor, by_change, by_action, Denotes}, specs.Following.Follows}
use Rattle.ct_table.{specs.Snapshot.{IsGlobal, IsKeptWorld}, proofs.Denoting.{worth_after, kept_on}, proofs.Changing.as_before}
use Rattle.ct_table.proofs.Snapshots.{global_stays, kept_stays}

-- histories of the same changes: such as that before a commit, and with the commit in the making, before its first change
module _ (h g : List PlainCommit) (is : changes_of g ≡ changes_of h) where
  same_terms : (r : Read) (t : Term) → IsTermFor h [] r t → IsTermFor g [] r t
  same_terms r t (by_change x s among of writes stands) = by_change x s (subst (λ xs. Contains xs x) (sym is) among) of writes stands
  same_terms r t (by_action a among stands) = by_action a among stands

  same_step : (o : Option Database) → o ≡ option_and_then (λ w. Some w) o
  same_step None = refl
  same_step (Some w) = refl

  nothing_follows : Follows h [] g [] (λ v w. Some w) []
  nothing_follows = record {
    worlds = λ v. ap (after_changes v (Some [])) is ∙ same_step (world v h []);
    headings = ap (λ xs. filter_map created_by_change xs ++ []) is ∙ sym (append-nil (filter_map created_by_change (changes_of h) ++ []));
    patterns = λ n. subst (λ p. IsSublist (patterns h [] n) (p n)) (ap (pattern_changes no_patterns) (sym is)) (all_of (patterns h [] n));
    terms = same_terms;
  }

  pub same_changes_denote : (words : List ℕ) (db : List TableView) → Denotes words h [] db → Denotes words g [] db
  same_changes_denote words db d =
      as_before words h [] g [] db d same_terms (subst (λ xs. IsTrue (list_all is_writable xs)) (sym is) d.writable)
      (record {
        tables = worth_after words h [] g [] db d.worth (λ v w. Some w) nothing_follows.worlds db (λ v w e s. s);
        kept = All-weaker (IsKept words h []) (IsKept words g []) (kept_on words h [] g [] db d.worth nothing_follows.patterns) db d.worth.kept;
        names = d.worth.names;
        headings = d.worth.headings ∙ sym (nothing_follows.headings ∙ append-nil _);
      })

  pub same_changes_global : (words : List ℕ) (global : ℕ) → IsGlobal words h [] global → IsGlobal words g [] global
  same_changes_global words global w = global_stays h [] g [] (λ v d. Some d) [] nothing_follows (λ v d. refl) words global w

  pub same_changes_kept : (words : List ℕ) (kept : World) → IsKeptWorld words h [] kept → IsKeptWorld words g [] kept
  same_changes_kept words kept w = kept_stays h [] g [] (λ v d. Some d) [] nothing_follows (λ v d. refl) words kept w

-- what the tables are worth after the commits of a log they are worth after the history that is printed for them, whose
-- conditions have the same truth; so what is said of terms is said of the commits of the log alone
pub worth_of_same_commits : (words : List ℕ) (g h : List PlainCommit) (actions : List PlainAction) (db : List TableView) → SameCommits g h → AreWorth words g actions db → AreWorth words h actions db
worth_of_same_commits words g h actions db same d =
    let keeps = same_keeps g h same in
    record {
      tables = λ v. subst (λ o. IfSome o (λ w. SameDatabase (value_of_tables words v db) w)) (keeps.worlds v actions) (d.tables v);
      kept = All-weaker (IsKept words g actions) (IsKept words h actions)
          (λ t k. record { rows = k.rows; in_pattern = subst (IsSublist (cells_of words t.rows)) (keeps.patterns actions (Table t.name)) k.in_pattern }) db d.kept;
      names = d.names;
      headings = d.headings ∙ ap (λ s. s.tables) (keeps.schemas actions);
    }

same_relation_on : (a b c : Relation) → SameRelation a b → SameRelation b c → SameRelation a c
same_relation_on a b c s r = record { name = s.name ∙ r.name; columns = s.columns ∙ r.columns; tuples = same_set_on a.tuples b.tuples c.tuples s.tuples r.tuples }

same_database_on : (a b c : Database) → SameDatabase a b → SameDatabase b c → SameDatabase a c
same_database_on [] [] [] s r = tt
same_database_on (x ∷ a) (y ∷ b) (z ∷ c) s r = (same_relation_on x y z s.0 r.0, same_database_on a b c s.1 r.1)
same_database_on [] (y ∷ b) c s r = absurd s
same_database_on (x ∷ a) [] c s r = absurd s
same_database_on [] [] (z ∷ c) s r = absurd r
same_database_on (x ∷ a) (y ∷ b) [] s r = absurd r

-- what the tables are worth after actions they are worth after the commit of changes that agree with these; the patterns of
-- such changes may be less than those of the actions, so that the tables lie in them is asked for
pub worth_of_agreed : (words : List ℕ) (h : List PlainCommit) (actions : List PlainAction) (c : PlainCommit) (db : List TableView) → Agrees h actions c.changes → AreWorth words h actions db
    → All (IsKept words (h ++ c ∷ []) []) db → AreWorth words (h ++ c ∷ []) [] db
worth_of_agreed words h actions c db agrees d kept =
    let does = commit_does h actions c agrees in
    record {
      tables = λ v. by_world v (world v h actions) (world v (h ++ c ∷ []) []) (does.worlds v) (d.tables v);
      kept = kept;
      names = d.names;
      headings = d.headings ∙ ap (λ s. s.tables) does.schemas;
    } where
      by_world : (v : World) (o o' : Option Database) → SameWorld o o' → IfSome o (λ w. SameDatabase (value_of_tables words v db) w) → IfSome o' (λ w. SameDatabase (value_of_tables words v db) w)
      by_world v None None same s = tt
      by_world v (Some w) (Some w') same s = same_database_on (value_of_tables words v db) w w' s same
      by_world v _ _ same s = absurd same
