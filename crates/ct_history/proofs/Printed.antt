-- Printed changes stand for those of the log.
use Rattle.std.proofs.Common.{◌≡◌, ◌+◌, ℕ, Bool, true, List, [], ◌∷◌, ◌++◌, map, length, take, drop, refl, ap, sym, ◌∙◌, arith, length-append}
use Rattle.std.{specs.Prelude.{IsTrue, All, flat_map}, specs.List.{AllZip, list_all}, proofs.lemmas.Bool.{false≢true, and_parts, and_from}}
use Rattle.std.{proofs.lemmas.List.append_assoc, proofs.lemmas.List.Elements.{All-head, All-tail}}
use Rattle.ct_word.{specs.declared.kinds.Kind.Kind, specs.declared.values.CRow.CRow, specs.declared.reading.Word.Word, specs.Condition.SameTruth}
use Rattle.ct_word.{specs.Change.PlainCommit, specs.Reading.{condition_at, plain_crow}, specs.StandsFor.{SameRows, SameChange, SameChanges, SameCommits}}
use Rattle.ct_word.{specs.WellFormed.{is_place_of, same_class, class_of}, specs.WordAt.IsWordAt}
use Rattle.ct_rewrite.{specs.declared.answer.Node.Node, specs.Nodes.{node_condition, is_position}, specs.declared.history.Change.Change}
use Rattle.ct_rewrite.specs.History.{plain_row, plain_change, is_change_placed}
use Rattle.ct_history.{specs.Printed.{conds_of, rows_with, change_with, changes_with}, specs.Rows.IsRowOf, specs.Written.{plain_written, IsWritten}}
use Rattle.ct_history.specs.declared.written.Written.{Written}
use Rattle.ct_word.specs.declared.kinds.Kind.TheVariants as kind
use Rattle.ct_word.specs.declared.kinds.Class.TheVariants as class
use Rattle.ct_history.specs.declared.written.Written.TheVariants as written

module _ {A B : Type 0} (R : A → B → Type 0) where
  zip_front : (a b : List B) (ks : List A) → AllZip R ks (a ++ b) → AllZip R (take (length a) ks) a
  zip_front [] b ks h = tt
  zip_front (x ∷ a) b [] h = absurd h
  zip_front (x ∷ a) b (k ∷ ks) h = (h.0, zip_front a b ks h.1)

  zip_back : (a b : List B) (ks : List A) → AllZip R ks (a ++ b) → AllZip R (drop (length a) ks) b
  zip_back [] b ks h = h
  zip_back (x ∷ a) b [] h = absurd h
  zip_back (x ∷ a) b (k ∷ ks) h = zip_back a b ks h.1

  zip_passed : (p : A → Bool) (ks : List A) (cs : List B) → AllZip R ks cs → IsTrue (list_all p ks) → AllZip (λ k c. R k c × IsTrue (p k)) ks cs
  zip_passed p [] [] h e = tt
  zip_passed p [] (c ∷ cs) h e = absurd h
  zip_passed p (k ∷ ks) [] h e = absurd h
  zip_passed p (k ∷ ks) (c ∷ cs) h e = let parts = and_parts (p k) (list_all p ks) e in ((h.0, parts.0), zip_passed p ks cs h.1 parts.1)

module _ (ws : List ℕ) (nodes : List Node) where
  -- a position has the truth of a place
  abbrev pub Prints : ℕ → ℕ → Type 0
  Prints k c = SameTruth (node_condition nodes k) (condition_at ws c)

  abbrev PrintsAt : ℕ → ℕ → Type 0
  PrintsAt k c = Prints k c × IsTrue (is_position nodes k)

  rows_same : (rows : List CRow) (ks : List ℕ) → AllZip PrintsAt ks (map (λ r. r.cond) rows) → SameRows (map (plain_row nodes) (rows_with ws rows ks)) (map (plain_crow ws) rows)
  rows_same [] ks h = tt
  rows_same (r ∷ rows) [] h = absurd h
  rows_same (r ∷ rows) (k ∷ ks) h = (refl, h.0.0, rows_same rows ks h.1)

  rows_placed : (rows : List CRow) (ks : List ℕ) → AllZip PrintsAt ks (map (λ r. r.cond) rows) → IsTrue (list_all (λ r. is_position nodes r.cond) (rows_with ws rows ks))
  rows_placed [] ks h = refl
  rows_placed (r ∷ rows) [] h = absurd h
  rows_placed (r ∷ rows) (k ∷ ks) h = and_from _ _ h.0.1 (rows_placed rows ks h.1)

  change_same : (x : Written) (ks : List ℕ) → AllZip PrintsAt ks (conds_of x) → SameChange (plain_change nodes (change_with ws x ks)) (plain_written ws x)
  change_same (written.Create name columns) ks h = (refl, refl)
  change_same (written.Insert name rows) ks h = (refl, rows_same rows ks h)
  change_same (written.Delete name c) [] h = absurd h
  change_same (written.Delete name c) (k ∷ ks) h = (refl, h.0.0)
  change_same (written.Update name sets c) [] h = absurd h
  change_same (written.Update name sets c) (k ∷ ks) h = (refl, refl, h.0.0)
  change_same (written.Assert c) [] h = absurd h
  change_same (written.Assert c) (k ∷ ks) h = h.0.0

  change_placed : (x : Written) (ks : List ℕ) → AllZip PrintsAt ks (conds_of x) → IsTrue (is_change_placed nodes (change_with ws x ks))
  change_placed (written.Create name columns) ks h = refl
  change_placed (written.Insert name rows) ks h = rows_placed rows ks h
  change_placed (written.Delete name c) [] h = absurd h
  change_placed (written.Delete name c) (k ∷ ks) h = h.0.1
  change_placed (written.Update name sets c) [] h = absurd h
  change_placed (written.Update name sets c) (k ∷ ks) h = h.0.1
  change_placed (written.Assert c) [] h = absurd h
  change_placed (written.Assert c) (k ∷ ks) h = h.0.1

  all_same : (xs : List Written) (ks : List ℕ) → AllZip PrintsAt ks (flat_map conds_of xs) → SameChanges (map (plain_change nodes) (changes_with ws xs ks)) (map (plain_written ws) xs)
  all_same [] ks h = tt
  all_same (x ∷ xs) ks h =
      (change_same x _ (zip_front PrintsAt (conds_of x) (flat_map conds_of xs) ks h), all_same xs _ (zip_back PrintsAt (conds_of x) (flat_map conds_of xs) ks h))

  all_placed : (xs : List Written) (ks : List ℕ) → AllZip PrintsAt ks (flat_map conds_of xs) → IsTrue (list_all (is_change_placed nodes) (changes_with ws xs ks))
  all_placed [] ks h = refl
  all_placed (x ∷ xs) ks h =
      and_from _ _ (change_placed x _ (zip_front PrintsAt (conds_of x) (flat_map conds_of xs) ks h)) (all_placed xs _ (zip_back PrintsAt (conds_of x) (flat_map conds_of xs) ks h))

  module _ (xs : List Written) (ks : List ℕ) (h : AllZip Prints ks (flat_map conds_of xs)) (e : IsTrue (list_all (is_position nodes) ks)) where
    pub changes_same : SameChanges (map (plain_change nodes) (changes_with ws xs ks)) (map (plain_written ws) xs)
    changes_same = all_same xs ks (zip_passed Prints (is_position nodes) ks (flat_map conds_of xs) h e)

    pub changes_placed : IsTrue (list_all (is_change_placed nodes) (changes_with ws xs ks))
    changes_placed = all_placed xs ks (zip_passed Prints (is_position nodes) ks (flat_map conds_of xs) h e)

list_all_both : (p : ℕ → Bool) (a b : List ℕ) → IsTrue (list_all p a) → IsTrue (list_all p b) → IsTrue (list_all p (a ++ b))
list_all_both p [] b e f = f
list_all_both p (x ∷ a) b e f = let parts = and_parts (p x) (list_all p a) e in and_from _ _ parts.0 (list_all_both p a b parts.1 f)

-- the places of the conditions of changes are such
module _ (ws : List ℕ) where
  rows_conds : (rows : List CRow) → All (IsRowOf ws) rows → IsTrue (list_all (is_place_of ws class.Cond) (map (λ r. r.cond) rows))
  rows_conds [] all = refl
  rows_conds (r ∷ rows) all = and_from _ _ (All-head (IsRowOf ws) r rows all).condition (rows_conds rows (All-tail (IsRowOf ws) r rows all))

  change_conds : (x : Written) → IsWritten ws x → IsTrue (list_all (is_place_of ws class.Cond) (conds_of x))
  change_conds (written.Create name columns) is = refl
  change_conds (written.Insert name rows) is = rows_conds rows is
  change_conds (written.Delete name c) is = and_from _ _ is refl
  change_conds (written.Update name sets c) is = and_from _ _ is.1 refl
  change_conds (written.Assert c) is = and_from _ _ is refl

  pub all_conds : (xs : List Written) → All (IsWritten ws) xs → IsTrue (list_all (is_place_of ws class.Cond) (flat_map conds_of xs))
  all_conds [] all = refl
  all_conds (x ∷ xs) all =
      list_all_both (is_place_of ws class.Cond) (conds_of x) (flat_map conds_of xs) (change_conds x (All-head (IsWritten ws) x xs all)) (all_conds xs (All-tail (IsWritten ws) x xs all))

-- one more change is printed, of those that are left
pub one_printed : (ws : List ℕ) (all out : List Change) (x : Written) (items rest : List Written) (ks own later : List ℕ) (y : Change)
    → out ++ changes_with ws items ks ≡ all → items ≡ x ∷ rest → own ≡ take (length (conds_of x)) ks → later ≡ drop (length (conds_of x)) ks → y ≡ change_with ws x own
    → (out ++ y ∷ []) ++ changes_with ws rest later ≡ all
one_printed ws all out x items rest ks own later y same is first others e =
    append_assoc out (y ∷ []) (changes_with ws rest later) ∙ (λ i. out ++ (e ∙ ap (change_with ws x) first) i ∷ changes_with ws rest (others i))
    ∙ ap (λ xs. out ++ changes_with ws xs ks) (sym is) ∙ same

-- and as many positions are left as the others have conditions
pub fewer_left : (x : Written) (items rest : List Written) (ks later : List ℕ) (n : ℕ) → length ks ≡ length (flat_map conds_of items) → items ≡ x ∷ rest → n ≡ length (conds_of x)
    → length later + n ≡ length ks → length later ≡ length (flat_map conds_of rest)
fewer_left x items rest ks later n long is count back =
    let split : length (flat_map conds_of items) ≡ length (conds_of x) + length (flat_map conds_of rest) =
    ap (λ l. length (flat_map conds_of l)) is ∙ length-append (conds_of x) (flat_map conds_of rest) in
    omega (arith, long, split, count, back)

-- the word of a commit
pub commit_word : (ws : List ℕ) (p : ℕ) (w : Word) → IsWordAt ws p w → IsTrue (is_place_of ws class.Commit p) → w.kind ≡ kind.Commit
commit_word ws p w is e = by w.kind (sym (is.class class.Commit) ∙ e) where
  by : (k : Kind) → same_class (class_of k) class.Commit ≡ true → k ≡ kind.Commit
  by kind.Commit of = refl
  by _ of = absurd (false≢true of)

-- one more commit
pub commits_longer : (g h : List PlainCommit) (c d : PlainCommit) → SameCommits g h → c.session ≡ d.session → c.number ≡ d.number → SameChanges c.changes d.changes
    → SameCommits (g ++ c ∷ []) (h ++ d ∷ [])
commits_longer [] [] c d s a b e = (a, b, e, tt)
commits_longer [] (y ∷ h) c d s a b e = absurd s
commits_longer (x ∷ g) [] c d s a b e = absurd s
commits_longer (x ∷ g) (y ∷ h) c d s a b e = (s.0, s.1, s.2, commits_longer g h c d s.3 a b e)
