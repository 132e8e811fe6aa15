-- The global condition, the kept world and the whole of a snapshot: as words grow, and after one step.
use Rattle.std.proofs.Common.{◌≡◌, ◌≤◌, ℕ, Bool, ◌&&◌, List, [], ◌∷◌, ◌++◌, length, take, refl, ap, sym, subst, ◌∙◌, ◌+◌, arith, inl, inr, take_all, length-append}
use Rattle.std.{specs.Prelude.{Option, Some, None, IsSome, IfSome, IsTrue, is_some, option_and_then}, specs.Option.option_to_list, specs.List.Contains}
use Rattle.std.{proofs.lemmas.List.take-append-le, proofs.lemmas.Option.slice_get_within, proofs.lemmas.List.Elements.{All-nil, All-weaker, Contains-push}}
use Rattle.ct_word.{specs.declared.values.Value.Value, specs.declared.values.Term.Term, specs.Value.World, specs.Condition.{Condition, holds_at}}
use Rattle.ct_word.{specs.Change.{Assert, PlainCommit}, specs.WellFormed.{IsWellFormed, is_place_of}, specs.Stands.{TermBelow, HasNoColumn}, specs.Later.Later}
use Rattle.ct_word.{specs.Reading.{IsTerm, meanings, condition_at, commits_of}, proofs.Growth.length-read}
use Rattle.ct_word.proofs.Prefixes.{place_within, place_in_prefix, stands_in_prefix, condition_in_prefix, commits_prefix}
use Rattle.ct_query.{specs.Plain.PlainAction, specs.declared.schema.Heading.Heading, specs.Database.Database, specs.Step.{asserted, step_action}, specs.Agrees.{SameTruthAlone, HoldsWhereKept}}
use Rattle.ct_query.{specs.Worlds.{world, admits, changes_of}, specs.Terms.condition_terms, specs.Schema.created_by_action}
use Rattle.ct_condition.{specs.Terms.{TermsFrom, BelowEither}, specs.Truth.{HasTruth, and_at}, proofs.Reached.formed_before, proofs.Truths.true_at}
use Rattle.ct_condition.proofs.Denied.{below_literal}
use Rattle.ct_arena.specs.Counts.{opening}
use Rattle.ct_table.{specs.Denotes.{TableView, IsTermFor, by_change, by_action, Denotes}, specs.Following.Follows, proofs.Changing.denotes_grows}
use Rattle.ct_table.specs.Snapshot.{IsGlobal, IsKeptValue, other, constant, IsKeptWorld, commits_to, IsSnapshot}
use Rattle.ct_table.proofs.Following.{change_follows, action_follows, kept_where_asserted}
use Rattle.ct_operators.{proofs.Reaching.{below_before, foremost}, proofs.Naming.condition_named, proofs.Firsts.none_distinct}
use mathlib.Core.List.{IsPrefix}
use Rattle.ct_word.specs.declared.kinds.Class.TheVariants as class
use Rattle.ct_word.specs.declared.values.Term.TheVariants as term
use Rattle.ct_query.specs.Plain as plain
use Rattle.ct_query.specs.declared.action.Read.TheVariants as read

module _ (old new : List ℕ) (longer : IsPrefix old new) (formed : IsWellFormed new) (h : List PlainCommit) (actions : List PlainAction) where
  -- a term below a place stood below it before
  stood : (p : ℕ) (t : Term) → IsTrue (is_place_of old class.Cond p) → TermBelow new p t → TermBelow old p t
  stood p t place b = below_before old new longer (formed_before old new longer formed) p t (place_within old class.Cond p place) b

  pub global_grows : (global : ℕ) → IsGlobal old h actions global → IsGlobal new h actions global
  global_grows global g = record {
    place = place_in_prefix old new class.Cond global longer g.place;
    holds = λ v. ap (holds_at v) (condition_in_prefix old new global longer (place_within old class.Cond global g.place)) ∙ g.holds v;
    plain = λ k b. g.plain k (stood global (term.Column k) g.place b);
    from = λ t b. g.from t (stood global t g.place b);
  }

  kept_value_grows : (x : Value) → IsKeptValue old x → IsKeptValue new x
  kept_value_grows x (other k lt) = other k lt
  kept_value_grows x (constant y place stands) =
      constant x place (stands_in_prefix old new place (IsTerm (term.Value x)) longer (omega (arith, slice_get_within (meanings old) place (IsTerm (term.Value x)) stands, length-read [] old)) stands)

  pub kept_grows : (kept : World) → IsKeptWorld old h actions kept → IsKeptWorld new h actions kept
  kept_grows kept k = record { admitted = k.admitted; values = All-weaker (λ p. IsKeptValue old p.1) (λ p. IsKeptValue new p.1) (λ p. kept_value_grows p.1) kept k.values }

-- the first commits of the words stay
commits_stay : (old new : List ℕ) → IsPrefix old new → (version : ℕ) → version ≤ length (commits_of old) → commits_to old version ≡ commits_to new version
commits_stay old new longer version le =
    let p = commits_prefix old new longer in
    sym (take-append-le version (commits_of old) p.0 le) ∙ ap (take version) p.1

-- a snapshot is one over more words
pub snapshot_grows : (old new : List ℕ) → IsPrefix old new → IsWellFormed new → (version : ℕ) (db : List TableView) (global : ℕ) (kept : World)
    → IsSnapshot old version db global kept → IsSnapshot new version db global kept
snapshot_grows old new longer formed version db global kept s =
    let p = commits_prefix old new longer in
    let same = commits_stay old new longer version s.within in
    let h = commits_to old version in
    record {
      within = subst (λ cs. version ≤ length cs) p.1 (omega (arith, s.within, length-append (commits_of old) p.0));
      denotes = subst (λ g. Denotes new g [] db) same (denotes_grows old new longer (formed_before old new longer formed) h [] db s.denotes);
      condition = subst (λ g. IsGlobal new g [] global) same (global_grows old new longer formed h [] global s.condition);
      world = subst (λ g. IsKeptWorld new g [] kept) same (kept_grows old new longer formed h [] kept s.world);
    }

-- so it is one in all longer words, by definition
pub snapshot_later : (words : List ℕ) (version : ℕ) (db : List TableView) (global : ℕ) (kept : World)
    → IsSnapshot words version db global kept → Later words (λ longer. IsSnapshot longer version db global kept)
snapshot_later words version db global kept s = λ longer formed p. snapshot_grows words longer p formed version db global kept s

-- and tables denote the same in them
pub denotes_later : (words : List ℕ) (h : List PlainCommit) (actions : List PlainAction) (db : List TableView) → Denotes words h actions db → Later words (λ longer. Denotes longer h actions db)
denotes_later words h actions db d = λ longer formed p. denotes_grows words longer p (formed_before words longer p formed) h actions db d

-- what denotes all commits of the words is a snapshot of the last version
pub snapshot_of_all : (words : List ℕ) (db : List TableView) (global : ℕ) (kept : World) → Denotes words (commits_of words) [] db → IsGlobal words (commits_of words) [] global
    → IsKeptWorld words (commits_of words) [] kept → IsSnapshot words (length (commits_of words)) db global kept
snapshot_of_all words db global kept d g k =
    let all = sym (take_all (length (commits_of words)) (commits_of words) (omega arith)) in
    record {
      within = omega arith;
      denotes = subst (λ h. Denotes words h [] db) all d;
      condition = subst (λ h. IsGlobal words h [] global) all g;
      world = subst (λ h. IsKeptWorld words h [] kept) all k;
    }

-- tables that denote the commits and one more, before its word is there, are the snapshot of the last version when it is
pub snapshot_of_commit : (old new : List ℕ) → IsPrefix old new → IsWellFormed new → (c : PlainCommit) → commits_of new ≡ commits_of old ++ c ∷ []
    → (db : List TableView) (global : ℕ) (kept : World) → Denotes old (commits_of old ++ c ∷ []) [] db → IsGlobal old (commits_of old ++ c ∷ []) [] global
    → IsKeptWorld old (commits_of old ++ c ∷ []) [] kept → IsSnapshot new (length (commits_of old) + 1) db global kept
snapshot_of_commit old new longer formed c appended db global kept d g k =
    let h = commits_of old ++ c ∷ [] in
    subst (λ n. IsSnapshot new n db global kept) (ap length appended ∙ length-append (commits_of old) (c ∷ []))
    (snapshot_of_all new db global kept
    (subst (λ cs. Denotes new cs [] db) (sym appended) (denotes_grows old new longer (formed_before old new longer formed) h [] db d))
    (subst (λ cs. IsGlobal new cs [] global) (sym appended) (global_grows old new longer formed h [] global g))
    (subst (λ cs. IsKeptWorld new cs [] kept) (sym appended) (kept_grows old new longer formed h [] kept k)))

-- no tables denote the history without commits
pub nothing_denotes : (words : List ℕ) → Denotes words [] [] []
nothing_denotes words = record {
  worth = record { tables = λ v. tt; kept = All-nil _; names = none_distinct _; headings = refl };
  from = All-nil _;
  writable = refl;
}

-- the word true is the global condition before all commits
first_global : (words : List ℕ) → IsPrefix opening words → IsWellFormed words → IsGlobal words [] [] 0
first_global words begins formed = record {
  place = (true_at words begins formed).class;
  holds = λ v. (true_at words begins formed).truth_is v [];
  plain = λ k b. below_literal words formed begins 0 (inl refl) (term.Column k) b;
  from = λ t b. absurd (below_literal words formed begins 0 (inl refl) t b);
}

-- the snapshot before all commits: no tables, the word true, and the world that lists nothing
pub first_snapshot : (words : List ℕ) → IsPrefix opening words → IsWellFormed words → IsSnapshot words 0 [] 0 []
first_snapshot words begins formed = record {
  within = omega arith;
  denotes = nothing_denotes words;
  condition = first_global words begins formed;
  world = record { admitted = refl; values = All-nil _ };
}

module _ (h : List PlainCommit) (actions : List PlainAction) (h' : List PlainCommit) (actions' : List PlainAction) where
  -- after a step that always gives a database the same valuations are admitted
  module _ (step : World → Database → Option Database) (more : List Heading) (f : Follows h actions h' actions' step more) (total : (v : World) (w : Database) → IsSome (step v w)) where
    pub still_admitted : (v : World) → admits v h' actions' ≡ admits v h actions
    still_admitted v = ap is_some (f.worlds v) ∙ by_world (world v h actions) where
      by_world : (o : Option Database) → is_some (option_and_then (step v) o) ≡ is_some o
      by_world None = refl
      by_world (Some w) = total v w

    pub global_stays : (words : List ℕ) (global : ℕ) → IsGlobal words h actions global → IsGlobal words h' actions' global
    global_stays words global g = record { place = g.place; holds = λ v. g.holds v ∙ sym (still_admitted v); plain = g.plain; from = λ t b. f.terms read.Worlds t (g.from t b) }

    pub kept_stays : (words : List ℕ) (kept : World) → IsKeptWorld words h actions kept → IsKeptWorld words h' actions' kept
    kept_stays words kept k = record { admitted = still_admitted kept ∙ k.admitted; values = k.values }

  -- after a step that keeps the database exactly where a condition holds, those at which it holds too
  module _ (step : World → Database → Option Database) (more : List Heading) (f : Follows h actions h' actions' step more) where
    pub admitted_where : (v : World) (b : Bool) → IfSome (world v h actions) (λ w. b ≡ is_some (step v w)) → admits v h' actions' ≡ (admits v h actions && b)
    admitted_where v b kept = ap is_some (f.worlds v) ∙ by_world (world v h actions) kept where
      by_world : (o : Option Database) → IfSome o (λ w. b ≡ is_some (step v w)) → is_some (option_and_then (step v) o) ≡ (is_some o && b)
      by_world None kept = refl
      by_world (Some w) kept = sym kept

    -- and the And of the global condition with this one is the global condition
    pub global_narrowed : (old new : List ℕ) (global cond place : ℕ) → IsGlobal old h actions global
        → ((v : World) → IfSome (world v h actions) (λ w. holds_at v (condition_at old cond) ≡ is_some (step v w))) → HasNoColumn old cond
        → ((t : Term) → TermBelow old cond t → IsTermFor h' actions' read.Worlds t)
        → HasTruth new place (and_at old global cond) → TermsFrom new place (BelowEither old global cond) → IsGlobal new h' actions' place
    global_narrowed old new global cond place g kept none named truth terms = record {
      place = truth.class;
      holds = λ v. truth.truth_is v [] ∙ (λ i. g.holds v i && holds_at v (condition_at old cond)) ∙ sym (admitted_where v (holds_at v (condition_at old cond)) (kept v));
      plain = λ k b. elim (terms (term.Column k) b) [ inl l ↦ g.plain k l | inr r ↦ none k r ];
      from = λ t b. elim (terms t b) [ inl l ↦ f.terms read.Worlds t (g.from t l) | inr r ↦ named t r ];
    }

  -- so after an assertion of a condition of this truth
  pub global_asserted : (c : Condition) → Follows h actions h' actions' (λ v w. asserted v w c) [] → (old new : List ℕ) (global cond place : ℕ) → IsGlobal old h actions global
      → SameTruthAlone (condition_at old cond) c → HasNoColumn old cond → ((t : Term) → TermBelow old cond t → IsTermFor h' actions' read.Worlds t)
      → HasTruth new place (and_at old global cond) → TermsFrom new place (BelowEither old global cond) → IsGlobal new h' actions' place
  global_asserted c f old new global cond place g same =
      global_narrowed (λ v w. asserted v w c) [] f old new global cond place g (λ v. kept_where_asserted v (condition_at old cond) c (same v) (world v h actions))

-- after an assertion in a history
pub global_denotes : (old new : List ℕ) → IsWellFormed old → (h g : List PlainCommit) (global cond place : ℕ) → changes_of g ≡ changes_of h ++ Assert (condition_at old cond) ∷ []
    → IsGlobal old h [] global → IsTrue (is_place_of old class.Cond cond) → HasNoColumn old cond
    → HasTruth new place (and_at old global cond) → TermsFrom new place (BelowEither old global cond) → IsGlobal new g [] place
global_denotes old new formed h g global cond place is was at_cond none truth terms =
    let x = Assert (condition_at old cond) in
    global_asserted h [] g [] (condition_at old cond) (change_follows h g x is) old new global cond place was (λ v. refl) none
    (λ t b. by_change x read.Worlds (subst (λ xs. Contains xs x) (sym is) (Contains-push (changes_of h) x)) (foremost read.Worlds []) refl (condition_named old formed cond t at_cond b))
    truth terms

-- after one action more, where a condition holds exactly where it keeps the database
pub global_narrowed_by : (old new : List ℕ) (h : List PlainCommit) (actions : List PlainAction) (a : PlainAction) (global cond place : ℕ) → IsGlobal old h actions global
    → HoldsWhereKept h actions a (condition_at old cond) → HasNoColumn old cond → ((t : Term) → TermBelow old cond t → IsTermFor h (actions ++ a ∷ []) read.Worlds t)
    → HasTruth new place (and_at old global cond) → TermsFrom new place (BelowEither old global cond) → IsGlobal new h (actions ++ a ∷ []) place
global_narrowed_by old new h actions a global cond place was kept =
    global_narrowed h actions h (actions ++ a ∷ []) (λ v w. step_action v w a) (option_to_list (created_by_action a)) (action_follows h actions a) old new global cond place was kept

-- after one asserting action, whose terms are those of its condition
pub global_asserted_by : (old new : List ℕ) (h : List PlainCommit) (actions : List PlainAction) (c : Condition) (global cond place : ℕ) → IsGlobal old h actions global
    → SameTruthAlone (condition_at old cond) c → HasNoColumn old cond → ((t : Term) → TermBelow old cond t → Contains (condition_terms c) t)
    → HasTruth new place (and_at old global cond) → TermsFrom new place (BelowEither old global cond) → IsGlobal new h (actions ++ plain.Assert c ∷ []) place
global_asserted_by old new h actions c global cond place was same none named truth terms =
    let a = plain.Assert c in
    global_asserted h actions h (actions ++ a ∷ []) c (action_follows h actions a) old new global cond place was same none
    (λ t b. by_action a (Contains-push actions a) (named t b)) truth terms
