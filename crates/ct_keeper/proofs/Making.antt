-- A commit in the making: what its changes so far make, and one more of them.
use Rattle.std.proofs.Common.{◌≡◌, ℕ, ◌+◌, ◌<◌, ◌≤◌, suc, List, [], ◌∷◌, ◌++◌, length, map, take, drop, get_or, refl, ap, sym, subst, ◌∙◌, take_all, drop-cons, add-one, zero, arith}
use Rattle.std.{proofs.lemmas.Bool.and_parts, proofs.lemmas.List.{map_more, map-append, take-append-drop}, proofs.lemmas.List.Sums.{sum_by-append, sum_by_push}}
use Rattle.std.{specs.Prelude.{IsTrue, All, filter_map, sum_by}, specs.List.list_all}
use Rattle.ct_word.{specs.Change.{PlainChange, PlainCommit}, specs.Reading.commits_of, specs.WellFormed.{IsWellFormed, is_place_of}, specs.Writable.is_writable}
use Rattle.ct_word.proofs.Prefixes.{prefix_same}
use Rattle.ct_query.{specs.Schema.{schema, created_by_change}, specs.Fits.{FitsChange, FitChanges, FitAfter}}
use Rattle.ct_history.{specs.declared.written.Written.Written, specs.Written.{IsWritten, plain_written}}
use Rattle.ct_table.{specs.Denotes.{heading_of, Denotes}, specs.Snapshot.IsGlobal, proofs.Changing.denotes_grows, proofs.Snapshots.global_grows}
use Rattle.ct_table.{proofs.Carrying.{same_changes_denote, same_changes_global}, proofs.Following.change_follows}
use Rattle.ct_operators.specs.Tables.{AreRows}
use Rattle.ct_condition.proofs.Reached.{formed_before}
use Rattle.ct_keeper.{specs.declared.latest.Content.Content, specs.Bounds.{applied_words, commit_by, counts_with, first_words, all_words}}
use Rattle.ct_keeper.{specs.Effects.effect_words, specs.Steps.{IsMade, IsAfter, CanApply}, proofs.Doing.{tables_denote, global_holds}}
use Rattle.ct_keeper.proofs.Walking.{tables_formed, written_later, written_same, no_change_yet, one_change_more}
use Rattle.ct_keeper.proofs.Weighing.{part_of_more, effect_within}
use mathlib.Core.List.{IsPrefix}
use Rattle.ct_word.specs.declared.kinds.Class.TheVariants as class

-- further changes fit the tables after a history and a commit of these changes
abbrev pub FitsNext : List PlainCommit → List PlainChange → List PlainChange → Type 0
FitsNext h done rest = (c : PlainCommit) → c.changes ≡ done → FitAfter (h ++ c ∷ []) rest

module _ (h : List PlainCommit) where
  -- before the first change
  pub none_made : (words : List ℕ) (content : Content) → Denotes words h [] content.tables → IsGlobal words h [] content.global → IsMade words h [] content
  none_made words content d g = record {
    denotes = λ c is. same_changes_denote h (h ++ c ∷ []) (no_change_yet h c is) words content.tables d;
    condition = λ c is. same_changes_global h (h ++ c ∷ []) (no_change_yet h c is) words content.global g;
  }

  pub none_fit : (xs : List PlainChange) → FitAfter h xs → FitsNext h [] xs
  none_fit xs f = λ c is. subst (λ ys. FitChanges (ys ++ []) xs) (ap (filter_map created_by_change) (sym (no_change_yet h c is))) f

  -- after one change more
  module _ (old new : List ℕ) (longer : IsPrefix old new) (formed : IsWellFormed new) (xs : List PlainChange) (was : Content) (made : IsMade old h xs was)
      (w : Written) (placed : IsWritten old w) (can : IsTrue (is_writable (plain_written old w))) (content : Content) (after : IsAfter old new was w content) where
    pub one_made : IsMade new h (xs ++ plain_written old w ∷ []) content
    one_made = record {
      denotes = λ c is.
          subst (Denotes new (h ++ c ∷ []) []) (sym after.tables)
          (tables_denote old new longer formed was.tables was.global w placed after.effect after.does (h ++ commit_by xs ∷ []) (h ++ c ∷ []) (one_change_more h (commit_by xs) c (plain_written old w) is)
          (made.denotes (commit_by xs) refl) can);
      condition = λ c is.
          subst (IsGlobal new (h ++ c ∷ []) []) (sym after.global)
          (global_holds old new longer formed was.tables was.global w placed after.effect after.does (h ++ commit_by xs ∷ []) (h ++ c ∷ []) (one_change_more h (commit_by xs) c (plain_written old w) is)
          (made.condition (commit_by xs) refl));
    }

  pub one_fits : (xs : List PlainChange) (x : PlainChange) (rest : List PlainChange) → FitsNext h xs (x ∷ rest) → FitsNext h (xs ++ x ∷ []) rest
  one_fits xs x rest f = λ c is.
      subst (λ hs. FitChanges hs rest) (sym (change_follows (h ++ commit_by xs ∷ []) (h ++ c ∷ []) x (one_change_more h (commit_by xs) c x is)).headings) (f (commit_by xs) refl).1

-- what was made is so in more words
pub made_grows : (old new : List ℕ) → IsPrefix old new → IsWellFormed new → (h : List PlainCommit) (xs : List PlainChange) (content : Content) → IsMade old h xs content → IsMade new h xs content
made_grows old new longer formed h xs content made = record {
  denotes = λ c is. denotes_grows old new longer (formed_before old new longer formed) (h ++ c ∷ []) [] content.tables (made.denotes c is);
  condition = λ c is. global_grows old new longer formed (h ++ c ∷ []) [] content.global (made.condition c is);
}

-- how far changes were applied
pub record IsApplied (old mid : List ℕ) (was : Content) (changes : List Written) (i : ℕ) (content : Content) : Type 0 where
  pub made : IsMade mid (commits_of old) (map (plain_written old) (take i changes)) content
  pub fits : FitsNext (commits_of old) (map (plain_written old) (take i changes)) (map (plain_written old) (drop i changes))

module _ (old : List ℕ) (was : Content) (changes : List Written) (can : CanApply old was changes) where
  abbrev h : List PlainCommit
  h = commits_of old

  abbrev plain : Written → PlainChange
  plain = plain_written old

  writable_at : (ws : List Written) (i : ℕ) (d : Written) → i < length ws → IsTrue (list_all is_writable (map plain ws)) → IsTrue (is_writable (plain (get_or ws i d)))
  writable_at (w ∷ ws) zero d lt all = (and_parts _ _ all).0
  writable_at (w ∷ ws) (suc i) d lt all = writable_at ws i d (omega arith) (and_parts _ _ all).1
  writable_at [] i d lt all = absurd (omega arith)

  pub applied_none : (content : Content) → content.tables ≡ was.tables → content.global ≡ was.global → IsApplied old old was changes 0 content
  applied_none content t n = record {
    made = none_made h old content (subst (Denotes old h []) (sym t) can.denotes) (subst (IsGlobal old h []) (sym n) can.condition);
    fits = none_fit h (map plain changes) can.fits;
  }

  pub applied_to_end : (mid : List ℕ) (i : ℕ) (content : Content) → length changes ≤ i → IsApplied old mid was changes i content → IsMade mid h (map plain changes) content
  applied_to_end mid i content le is = subst (λ ws. IsMade mid h (map plain ws) content) (take_all i changes le) is.made

  abbrev weigh : PlainChange → ℕ
  weigh = applied_words (counts_with h (map plain changes))

  parts : (i : ℕ) → map plain (take i changes) ++ map plain (drop i changes) ≡ map plain changes
  parts i = sym (map-append plain (take i changes) (drop i changes)) ∙ ap (map plain) (take-append-drop i changes)

  -- the first changes make no more words than all
  pub first_fewer : (i : ℕ) → first_words old changes (take i changes) ≤ all_words old changes
  first_fewer i =
      let whole = sym (ap (sum_by weigh) (parts i)) ∙ sum_by-append weigh (map plain (take i changes)) (map plain (drop i changes)) in
      omega (arith, whole)

  module _ (mid : List ℕ) (longer : IsPrefix old mid) (i : ℕ) (content : Content) (is : IsApplied old mid was changes i content) (w : Written) (at : w ≡ get_or changes i w) (lt : i < length changes) where
    abbrev done : List PlainChange
    done = map plain (take i changes)

    abbrev rest : List PlainChange
    rest = map plain (drop (suc i) changes)

    placed : IsWritten old w
    placed = subst (IsWritten old) (sym at) (can.written i w lt)

    same : plain_written mid w ≡ plain w
    same = written_same old mid longer w placed

    next : FitsNext h done (plain w ∷ rest)
    next = subst (FitsNext h done) (ap (map plain) (drop-cons changes i w lt) ∙ ap (λ x. plain x ∷ rest) (sym at)) is.fits

    pub next_rows : All (λ t. AreRows mid (length t.columns) t.rows) content.tables
    next_rows = tables_formed mid (h ++ commit_by done ∷ []) [] content.tables (is.made.denotes (commit_by done) refl)

    pub next_global : IsTrue (is_place_of mid class.Cond content.global)
    next_global = (is.made.condition (commit_by done) refl).place

    pub next_written : IsWritten mid w
    next_written = written_later old mid longer w placed

    pub next_fits : FitsChange (map heading_of content.tables) (plain_written mid w)
    next_fits =
        subst (λ hs. FitsChange hs (plain_written mid w)) (sym (is.made.denotes (commit_by done) refl).worth.headings)
        (subst (FitsChange (schema (h ++ commit_by done ∷ []) []).tables) (sym same) (next (commit_by done) refl).0)

    -- what the next change makes
    next_words : effect_words content.tables (plain_written mid w) ≤ weigh (plain w)
    next_words =
        subst (λ x. effect_words content.tables x ≤ weigh (plain w)) (sym same)
        (subst (λ xs. effect_words content.tables (plain w) ≤ applied_words (counts_with h xs) (plain w)) (parts i)
        (effect_within mid (h ++ commit_by done ∷ []) (h ++ commit_by (done ++ map plain (drop i changes)) ∷ []) content.tables (is.made.denotes (commit_by done) refl).worth
        (part_of_more h done (map plain (drop i changes))) (plain w)))

    -- with what was made before
    pub words_on : (a b c : ℕ) → b ≤ a + first_words old changes (take i changes) → c ≤ b + effect_words content.tables (plain_written mid w) → c ≤ a + first_words old changes (take (i + 1) changes)
    words_on a b c p q =
        let more : first_words old changes (take (i + 1) changes) ≡ first_words old changes (take i changes) + weigh (plain w) =
        ap (sum_by weigh) (map_more plain changes i w lt ∙ ap (λ x. done ++ plain x ∷ []) (sym at)) ∙ sum_by_push weigh done (plain w) in
        omega (arith, p, q, next_words, more)

    pub words_within : (a b c : ℕ) → b ≤ a + first_words old changes (take i changes) → c ≤ b + effect_words content.tables (plain_written mid w) → c ≤ a + all_words old changes
    words_within a b c p q = let some = words_on a b c p q in let fewer = first_fewer (i + 1) in omega (arith, some, fewer)

    pub applied_more : (new : List ℕ) → IsPrefix mid new → IsWellFormed new → (after : Content) → IsAfter mid new content w after → IsApplied old new was changes (i + 1) after
    applied_more new grown formed after does =
        let more : map plain (take (i + 1) changes) ≡ done ++ plain w ∷ [] = map_more plain changes i w lt ∙ ap (λ x. done ++ plain x ∷ []) (sym at) in
        let can' : IsTrue (is_writable (plain w)) = subst (λ x. IsTrue (is_writable (plain x))) (sym at) (writable_at changes i w lt can.writable) in
        record {
          made =
              subst (λ xs. IsMade new h xs after) (sym more)
              (subst (λ x. IsMade new h (done ++ x ∷ []) after) same
              (one_made h mid new grown formed done content is.made w next_written (subst (λ x. IsTrue (is_writable x)) (sym same) can') after does));
          fits = subst (λ xs. FitsNext h xs (map plain (drop (i + 1) changes))) (sym more) (subst (λ n. FitsNext h (done ++ plain w ∷ []) (map plain (drop n changes))) (sym (add-one i)) (one_fits h done (plain w) rest next));
        }

-- the one change of a list
module _ (old : List ℕ) (was : Content) (w : Written) (can : CanApply old was (w ∷ [])) where
  first : IsApplied old old was (w ∷ []) 0 was
  first = applied_none old was (w ∷ []) can was refl refl

  pub one_rows : All (λ t. AreRows old (length t.columns) t.rows) was.tables
  one_rows = next_rows old was (w ∷ []) can old (prefix_same old) 0 was first w refl (omega arith)

  pub one_written : IsWritten old w
  one_written = next_written old was (w ∷ []) can old (prefix_same old) 0 was first w refl (omega arith)

  pub one_fitting : FitsChange (map heading_of was.tables) (plain_written old w)
  one_fitting = next_fits old was (w ∷ []) can old (prefix_same old) 0 was first w refl (omega arith)

  pub one_words : (a c : ℕ) → c ≤ a + effect_words was.tables (plain_written old w) → c ≤ a + all_words old (w ∷ [])
  one_words a c = words_within old was (w ∷ []) can old (prefix_same old) 0 was first w refl (omega arith) a a c (omega arith)

  pub one_applied : (mid : List ℕ) → IsPrefix old mid → IsWellFormed mid → (after : Content) → IsAfter old mid was w after → (new : List ℕ) → IsPrefix mid new → IsWellFormed new
      → IsMade new (commits_of old) (plain_written old w ∷ []) after
  one_applied mid longer formed after does new grown formed' =
      made_grows mid new grown formed' (commits_of old) (plain_written old w ∷ []) after
      (applied_to_end old was (w ∷ []) can mid 1 after (omega arith) (applied_more old was (w ∷ []) can old (prefix_same old) 0 was first w refl (omega arith) mid longer formed after does))
