-- Where the terms of a change come from, and that they can be written.
use Rattle.std.{proofs.Common.{◌≡◌, Bool, true, false, List, [], ◌∷◌, ◌++◌, sym, subst, inl, inr}, specs.Prelude.{All, IsTrue, flat_map, if◌then◌else◌}}
use Rattle.std.specs.List.{Contains, list_all, list_any}
use Rattle.std.proofs.lemmas.List.Elements.{All-contains, All-push, Contains-push, Contains-append_left, Contains-append_cases}
use Rattle.ct_word.{specs.declared.values.Term.Term, specs.Value.same_term, specs.Change.PlainCommit, specs.Writable.is_writable}
use Rattle.ct_query.{specs.declared.action.Read.Read, specs.Plain.{PlainQuery, PlainAction}, specs.Frame.reads_of_actions, specs.Worlds.changes_of}
use Rattle.ct_query.specs.Reads.{action_reads, query_reads, writes}
use Rattle.ct_query.specs.Terms.{change_terms, action_terms, query_terms, distinct_terms, changes_that_write, reads_with}
use Rattle.ct_resolve.specs.Writing.{WritesTerm, WritesAction}
use Rattle.ct_table.specs.Denotes.{IsTermFor, by_change, by_action}
use Rattle.ct_operators.{proofs.Naming.given, proofs.Reaching.{behind, foremost, first_or_behind}}
use Rattle.ct_statement.{specs.Asking.terms_of_query, proofs.EachTerm.{written_in_action, written_in_change}, proofs.Members.{unflat, passes, left_by, one_of}}
use Rattle.ct_query.specs.declared.action.Ask.TheVariants as ask
use Rattle.ct_query.specs.Plain as plain

-- what is left when each term stands but once was there
of_distinct : (ts : List Term) (u : Term) → Contains (distinct_terms ts) u → Contains ts u
of_distinct [] u h = h
of_distinct (t ∷ ts) u h = by_test (list_any (same_term t) ts) h (of_distinct ts u) where
  by_test : (b : Bool) → Contains (if b then distinct_terms ts else t ∷ distinct_terms ts) u → (Contains (distinct_terms ts) u → Contains ts u) → Contains (t ∷ ts) u
  by_test true h rest = behind t ts u (rest h)
  by_test false h rest = elim (first_or_behind t (distinct_terms ts) u h) [ inl e ↦ subst (Contains (t ∷ ts)) e (foremost t ts) | inr i ↦ behind t ts u (rest i) ]

module _ (h : List PlainCommit) (before : List PlainAction) where
  -- a term for an action can be written, where the history, the actions before and the action can
  pub source_writes : (a : PlainAction) (r : Read) (u : Term) → IsTrue (list_all is_writable (changes_of h)) → All WritesAction before → WritesAction a
      → IsTermFor h (before ++ a ∷ []) r u → WritesTerm u
  source_writes a r u can earlier own (by_change x s among of written stands) = written_in_change x u (passes is_writable (changes_of h) x can among) stands
  source_writes a r u can earlier own (by_action b among stands) =
      written_in_action b u (All-contains WritesAction (before ++ a ∷ []) b (All-push WritesAction before a earlier own) among) stands

  -- what an action reads, or those before it, is read by all of them
  module _ (a : PlainAction) where
    read_later : (s : Read) → Contains (reads_of_actions before) s → Contains (reads_of_actions (before ++ a ∷ [])) s
    read_later s i = let b = unflat action_reads before s i in given action_reads (before ++ a ∷ []) b.0 s (Contains-append_left before (a ∷ []) b.0 b.1) b.2

    read_now : (s : Read) → Contains (action_reads a) s → Contains (reads_of_actions (before ++ a ∷ [])) s
    read_now s i = given action_reads (before ++ a ∷ []) a s (Contains-push before a) i

    -- a term of a table that an action reads is one for the action
    pub table_source : (r s : Read) (u : Term) → Contains (action_reads a) s → IsTermFor h before s u → IsTermFor h (before ++ a ∷ []) r u
    table_source r s u reads (by_change x t among of written stands) =
        by_change x t among (behind r (reads_of_actions (before ++ a ∷ [])) t (elim (first_or_behind s (reads_of_actions before) t of) [
          | inl e ↦ subst (Contains (reads_of_actions (before ++ a ∷ []))) e (read_now s reads)
          | inr i ↦ read_later t i
        ])) written stands
    table_source r s u reads (by_action b among stands) = by_action b (Contains-append_left before (a ∷ []) b among) stands

  -- a term that is asked about by the query of an action is one for the action
  module _ (a : PlainAction) (q : PlainQuery) (reads_are : action_reads a ≡ query_reads q) (terms_are : action_terms a ≡ query_terms q) where
    abbrev reads : List Read
    reads = reads_with before (plain.Asks ask.Rows [] q)

    own_reads : (s : Read) → Contains reads s → Contains (reads_of_actions (before ++ a ∷ [])) s
    own_reads s i = elim (Contains-append_cases (flat_map action_reads before) (query_reads q) s i) [
      | inl l ↦ read_later a s l
      | inr r ↦ read_now a s (subst (λ rs. Contains rs s) (sym reads_are) r)
    ]

    pub asked_source : (r : Read) (u : Term) → Contains (terms_of_query h before q) u → IsTermFor h (before ++ a ∷ []) r u
    asked_source r u i =
        let changed : List Term = flat_map change_terms (changes_that_write reads h) in
        let acted : List Term = flat_map action_terms before in
        elim (Contains-append_cases (changed ++ acted) (query_terms q) u (of_distinct (changed ++ acted ++ query_terms q) u i)) [
          | inr own ↦ by_action a (Contains-push before a) (subst (λ ts. Contains ts u) (sym terms_are) own)
          | inl brought ↦ elim (Contains-append_cases changed acted u brought) [
            | inr by ↦ let b = unflat action_terms before u by in by_action b.0 (Contains-append_left before (a ∷ []) b.0 b.1) b.2
            | inl by ↦
                let x = unflat change_terms (changes_that_write reads h) u by in
                let left = left_by (λ z. list_any (writes z) reads) (changes_of h) x.0 x.1 in
                let s = one_of (writes x.0) reads left.1 in
                by_change x.0 s.0 left.0 (behind r (reads_of_actions (before ++ a ∷ [])) s.0 (own_reads s.0 s.1)) s.2 x.2
          ]
        ]
