-- What an effect makes, at most, from the counts of the rows that were ever made.
use Rattle.std.{proofs.Common.{◌≡◌, ◌≢◌, ℕ, ◌+◌, ◌≤◌, List, [], ◌∷◌, ◌++◌, map, refl, ap, sym, subst, ◌∙◌, arith}, proofs.lemmas.Nat.mul-le}
use Rattle.std.{specs.Prelude.{Option, Some, None, sum_by}, proofs.lemmas.List.{append-nil, append_assoc, length-map}}
use Rattle.std.proofs.lemmas.List.Elements.{recursion_from_All}
use Rattle.ct_word.{specs.declared.values.CRow.CRow, specs.declared.values.Term.Term, specs.Sublist.IsSublist, specs.Change.{PlainChange, Delete, Update, PlainCommit}}
use Rattle.ct_word.specs.Reading.{commits_of, change_list_at, term_at}
use Rattle.ct_query.{specs.Bounds.ops, specs.Patterns.{no_patterns, pattern_changes, patterns, distinct_count, count}, proofs.Laws.changes_of-snoc}
use Rattle.ct_query.proofs.Sublists.{all_of, sublist_of_sublist}
use Rattle.ct_arena.{specs.declared.tally.Tally.Tally, specs.Counts.commit_of, specs.Seen.pass_of}
use Rattle.ct_history.{specs.declared.written.Written.Written, specs.Written.plain_written}
use Rattle.ct_operators.specs.Tables.{cells_of}
use Rattle.ct_table.{specs.Denotes.{TableView, IsKept, AreWorth, find_table}, proofs.Counted.rows_counted, proofs.Denoting.{found_all, found_pattern}}
use Rattle.ct_table.proofs.Following.{change_follows}
use Rattle.ct_keeper.{specs.declared.catalogue.Offer.Offer, specs.Effects.{rows_found, effect_words}, proofs.Walking.one_change_more}
use Rattle.ct_keeper.specs.Bounds.{applied_words, commit_words, offer_words, commit_by, counts_with, all_words}

-- the patterns after some changes of a commit are parts of those after all of them
pub part_of_more : (h : List PlainCommit) (done rest : List PlainChange) (n : List ℕ) → IsSublist (patterns (h ++ commit_by done ∷ []) [] n) (patterns (h ++ commit_by (done ++ rest) ∷ []) [] n)
part_of_more h done [] n = subst (λ xs. IsSublist (patterns (h ++ commit_by done ∷ []) [] n) (patterns (h ++ commit_by xs ∷ []) [] n)) (sym (append-nil done)) (all_of _)
part_of_more h done (x ∷ rest) n =
    let one = (change_follows (h ++ commit_by done ∷ []) (h ++ commit_by (done ++ x ∷ []) ∷ []) x (one_change_more h (commit_by done) (commit_by (done ++ x ∷ [])) x refl)).patterns n in
    subst (λ xs. IsSublist (patterns (h ++ commit_by done ∷ []) [] n) (patterns (h ++ commit_by xs ∷ []) [] n)) (append_assoc done (x ∷ []) rest)
    (sublist_of_sublist _ _ _ one (part_of_more h (done ++ x ∷ []) rest n))

-- tables that denote a history have no more rows than are counted for one whose patterns have its own as parts
module _ (words : List ℕ) (g k : List PlainCommit) (db : List TableView) (d : AreWorth words g [] db) (each : (n : List ℕ) → IsSublist (patterns g [] n) (patterns k [] n)) where
  abbrev cells : CRow → List Term
  cells r = map (term_at words) r.cells

  found_within : (name : List ℕ) → rows_found (find_table db name) ≤ count k [] name
  found_within name = by_found (find_table db name) refl where
    by_found : (o : Option TableView) → find_table db name ≡ o → rows_found o ≤ count k [] name
    by_found None e = omega arith
    by_found (Some t) e =
        let kept = found_all (IsKept words g []) name t db (recursion_from_All (IsKept words g []) db d.kept) e in
        let part = sublist_of_sublist (cells_of words t.rows) (patterns g [] name) (patterns k [] name) (found_pattern words g [] g [] db d name t e) (each name) in
        subst (λ n. n ≤ count k [] name) (length-map t.rows cells)
        (rows_counted (cells_of words t.rows) (patterns k [] name) kept.rows.distinct part)

  -- so an effect makes no more words than are told from the counts
  pub effect_within : (x : PlainChange) → effect_words db x ≤ applied_words (count k []) x
  effect_within (Delete name c) = mul-le (rows_found (find_table db name)) (ops c + 2) (count k [] name) (ops c + 2) (found_within name) (omega arith)
  effect_within (Update name sets c) = mul-le (rows_found (find_table db name)) (ops c + 5) (count k [] name) (ops c + 5) (found_within name) (omega arith)
  effect_within _ = omega arith

-- the counts with a commit are those with its changes
counts_are : (h : List PlainCommit) (c : PlainCommit) → counts_with h c.changes ≡ count (h ++ c ∷ []) []
counts_are h c = λ i name. distinct_count (pattern_changes no_patterns ((changes_of-snoc h (commit_by c.changes) ∙ sym (changes_of-snoc h c)) i) name)

some_words : (f : List ℕ → ℕ) (xs : List PlainChange) → xs ≢ [] → commit_words f xs ≡ 1 + sum_by (applied_words f) xs
some_words f [] some = absurd (some refl)
some_words f (x ∷ xs) some = refl

mapped_some : {A B : Type 0} (f : A → B) (xs : List A) → xs ≢ [] → map f xs ≢ []
mapped_some f [] some = absurd (some refl)
mapped_some f (x ∷ xs) some = λ e. let bad : f x ∷ map f xs ≡ [] = e in cc

-- the words of an offer with changes
pub offer_words_are : (words : List ℕ) (guest : Tally) (offer : Offer) (changes : List Written) → map (plain_written words) changes ≡ change_list_at words offer.changes
    → changes ≢ [] → 1 + all_words words changes ≡ offer_words words (pass_of guest words) offer
offer_words_are words guest offer changes same some =
    let h = commits_of words in
    let c = commit_of words guest.session guest.mine offer.changes in
    ap (λ ys. 1 + sum_by (applied_words (counts_with h ys)) ys) same
    ∙ ap (λ f. 1 + sum_by (applied_words f) c.changes) (counts_are h c)
    ∙ sym (some_words (count (h ++ c ∷ []) []) c.changes (subst (λ xs. xs ≢ []) same (mapped_some (plain_written words) changes some)))
