-- The terms that tables and the global condition bring are among those that a statement asks about.
use Rattle.std.proofs.Common.{◌≡◌, Bool, true, false, ◌||◌, List, [], ◌∷◌, ◌++◌, cond, refl, ap, sym, subst, ◌∙◌, arith, inl, inr}
use Rattle.std.{specs.Prelude.{◌⊎◌, filter, flat_map, if◌then◌else◌}, specs.List.{Contains, list_any}, proofs.lemmas.Bool.false≢true}
use Rattle.std.{proofs.lemmas.List.Elements.{Contains-append_left, Contains-append_right}, proofs.lemmas.List.Folds.list_any_at}
use Rattle.ct_word.{specs.declared.values.Term.Term, specs.Value.same_term, specs.Change.PlainCommit, proofs.Alike.term_decides}
use Rattle.ct_query.{specs.Plain.{PlainAction, PlainStatement}, specs.declared.action.Read.Read, specs.Worlds.changes_of, specs.Reads.{reads_of, writes}}
use Rattle.ct_query.specs.Frame.{reads_of_actions}
use Rattle.ct_query.specs.Terms.{change_terms, action_terms, statement_terms, distinct_terms, changes_that_write, reads_with, terms_asked}
use Rattle.ct_table.{specs.Denotes.{IsTermFor, by_change, by_action}, proofs.Entries.cases}
use Rattle.ct_operators.{proofs.Reaching.{behind, foremost, first_or_behind}, proofs.Naming.given}

module _ {A : Type 0} (p : A → Bool) where
  in_filter : (xs : List A) (x : A) → Contains xs x → p x ≡ true → Contains (filter p xs) x
  in_filter [] x h e = absurd (omega (arith, h.1))
  in_filter (y ∷ ys) x h e = elim (first_or_behind y ys x h) [
    | inl q ↦ subst (λ b. Contains (cond b (y ∷ filter p ys) (filter p ys)) x) (sym (ap p q ∙ e)) (subst (Contains (y ∷ filter p ys)) q (foremost y (filter p ys)))
    | inr i ↦ by_test (p y) (in_filter ys x i e)
  ] where
    by_test : (b : Bool) → Contains (filter p ys) x → Contains (cond b (y ∷ filter p ys) (filter p ys)) x
    by_test true c = behind y (filter p ys) x c
    by_test false c = c

  any_of : (xs : List A) (x : A) → Contains xs x → p x ≡ true → list_any p xs ≡ true
  any_of xs x h e = list_any_at p xs h.0 x h.1 (ap p h.2 ∙ e)

-- a term that is written alike is among them
found_alike : (t : Term) (ts : List Term) → list_any (same_term t) ts ≡ true → Contains ts t
found_alike t [] e = absurd (false≢true e)
found_alike t (y ∷ ts) e = cases (same_term t y)
    (λ q. subst (Contains (y ∷ ts)) (sym ((term_decides t y).0 q)) (foremost y ts))
    (λ q. behind y ts t (found_alike t ts (sym (ap (λ b. b || list_any (same_term t) ts) q) ∙ e)))

in_distinct : (ts : List Term) (u : Term) → Contains ts u → Contains (distinct_terms ts) u
in_distinct [] u h = h
in_distinct (t ∷ ts) u h = by_test (list_any (same_term t) ts) refl (first_or_behind t ts u h) (in_distinct ts u) where
  by_test : (b : Bool) → list_any (same_term t) ts ≡ b → (t ≡ u) ⊎ Contains ts u → (Contains ts u → Contains (distinct_terms ts) u)
      → Contains (if b then distinct_terms ts else t ∷ distinct_terms ts) u
  by_test true e (inl q) rest = rest (subst (Contains ts) q (found_alike t ts e))
  by_test true e (inr i) rest = rest i
  by_test false e (inl q) rest = subst (Contains (t ∷ distinct_terms ts)) q (foremost t (distinct_terms ts))
  by_test false e (inr i) rest = behind t (distinct_terms ts) u (rest i)

-- what a table or the worlds bring to a statement that reads them
pub term_is_asked : (h : List PlainCommit) (actions : List PlainAction) (x : PlainStatement) (r : Read) (u : Term) → Contains (reads_with actions x) r → IsTermFor h actions r u
    → Contains (terms_asked h actions x) u
term_is_asked h actions x r u read (by_change y s among of written stands) =
    let reads = reads_with actions x in
    let brought = flat_map change_terms (changes_that_write reads h) ++ flat_map action_terms actions in
    let is_read : Contains reads s = elim (first_or_behind r (reads_of_actions actions) s of) [
      | inl e ↦ subst (Contains reads) e read
      | inr i ↦ Contains-append_left (reads_of_actions actions) (reads_of x) s i
    ] in
    in_distinct (brought ++ statement_terms x) u
    (Contains-append_left brought (statement_terms x) u
    (Contains-append_left (flat_map change_terms (changes_that_write reads h)) (flat_map action_terms actions) u
    (given change_terms (changes_that_write reads h) y u (in_filter (λ z. list_any (writes z) reads) (changes_of h) y among (any_of (writes y) reads s is_read written)) stands)))
term_is_asked h actions x r u read (by_action a among stands) =
    let brought = flat_map change_terms (changes_that_write (reads_with actions x) h) ++ flat_map action_terms actions in
    in_distinct (brought ++ statement_terms x) u
    (Contains-append_left brought (statement_terms x) u
    (Contains-append_right (flat_map change_terms (changes_that_write (reads_with actions x) h)) (flat_map action_terms actions) u (given action_terms actions a u among stands)))
