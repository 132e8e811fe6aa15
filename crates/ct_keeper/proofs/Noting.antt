-- The names of the tables that changes write.
use Rattle.std.{proofs.Common.{◌≡◌, ℕ, Bool, ◌||◌, List, [], ◌∷◌, ◌++◌, map, refl, ap, sym, ◌∙◌}, specs.List.list_any, proofs.lemmas.List.map-append}
use Rattle.std.proofs.lemmas.List.Folds.{list_any-append}
use Rattle.ct_word.specs.Value.{same_text}
use Rattle.ct_query.{specs.Reads.writes, specs.declared.action.Read.Read}
use Rattle.ct_history.{specs.declared.written.Written.Written, specs.Written.plain_written}
use Rattle.ct_keeper.{specs.Steps.is_assertion, specs.Writers.{is_written, names_in}}
use Rattle.ct_query.specs.declared.action.Read.TheVariants as read
use Rattle.ct_history.specs.declared.written.Written.TheVariants as written

module _ (words t : List ℕ) where
  abbrev pub is_named : List (List ℕ) → Bool
  is_named = list_any (λ n. same_text n t)

  abbrev pub is_changed : List Written → Bool
  is_changed ws = list_any (λ x. writes x (read.Table t)) (map (plain_written words) ws)

  named : (w : Written) → is_named (names_in w) ≡ is_changed (w ∷ [])
  named (written.Create name columns) = refl
  named _ = refl

  changed_more : (front ws : List Written) → is_changed (front ++ ws) ≡ (is_changed front || is_changed ws)
  changed_more front ws = ap (list_any (λ x. writes x (read.Table t))) (map-append (plain_written words) front ws) ∙ list_any-append (λ x. writes x (read.Table t)) (map (plain_written words) front) (map (plain_written words) ws)

  -- the names of changes with one more
  pub named_more : (names : List (List ℕ)) (front : List Written) (w : Written) → is_named names ≡ is_changed front → is_named (names ++ names_in w) ≡ is_changed (front ++ w ∷ [])
  named_more names front w before =
      list_any-append (λ n. same_text n t) names (names_in w) ∙ (λ i. before i || named w i) ∙ sym (changed_more front (w ∷ []))

-- an assertion among the changes is one that writes the worlds
pub asserted_same : (words : List ℕ) (ws : List Written) → list_any (λ x. writes x read.Worlds) (map (plain_written words) ws) ≡ list_any is_assertion ws
asserted_same words [] = refl
asserted_same words (w ∷ ws) = by_first w (asserted_same words ws) where
  by_first : (w : Written) → list_any (λ x. writes x read.Worlds) (map (plain_written words) ws) ≡ list_any is_assertion ws
      → list_any (λ x. writes x read.Worlds) (map (plain_written words) (w ∷ ws)) ≡ list_any is_assertion (w ∷ ws)
  by_first (written.Assert cond) e = refl
  by_first _ e = e

-- names and assertions of changes tell what they write
pub told_by_names : (words : List ℕ) (changes : List Written) (names : List (List ℕ))
    → ((t : List ℕ) → list_any (λ n. same_text n t) names ≡ list_any (λ x. writes x (read.Table t)) (map (plain_written words) changes))
    → (r : Read) → is_written names (list_any is_assertion changes) r ≡ list_any (λ x. writes x r) (map (plain_written words) changes)
told_by_names words changes names by_table (read.Table t) = by_table t
told_by_names words changes names by_table read.Worlds = sym (asserted_same words changes)
