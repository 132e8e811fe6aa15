-- Interning adds no commit word.
use Rattle.std.proofs.Common.{◌≡◌, ℕ, ◌+◌, List, [], ◌∷◌, ◌++◌, length, append-nil, length-append, refl, ap, sym, ◌∙◌, Option, Some, None, arith}
use Rattle.std.{specs.Prelude.{if◌then◌else◌, filter_map}, proofs.lemmas.List.nil_from_length, proofs.lemmas.List.Elements.{filter-append, filter_map-append}}
use Rattle.ct_word.{specs.declared.kinds.Kind.Kind, specs.Word.{kind_of, left_of, right_of}, specs.WellFormed.{has_class, is_commit_word}}
use Rattle.ct_word.{specs.Reading.{Meaning, as_commit, by_kind, meaning_of, read, commits_of}, proofs.Prefixes.commits_prefix}
use Rattle.ct_condition.specs.CommitWords.{commit_words}
use mathlib.Core.List.{IsPrefix}
use Rattle.ct_word.specs.declared.kinds.Kind.TheVariants as kind
use Rattle.ct_word.specs.declared.kinds.Class.TheVariants as class

-- a word stands for a commit where its kind is a commit's
by_kinds : (k : Option Kind) (ms : List Meaning) (a b w : ℕ) → length (filter_map as_commit (by_kind k ms a b ∷ [])) ≡ length (if has_class k class.Commit then w ∷ [] else [])
by_kinds None ms a b w = refl
by_kinds (Some kind.Commit) ms a b w = refl
by_kinds (Some _) ms a b w = refl

one_word : (ms : List Meaning) (w : ℕ) → length (filter_map as_commit (meaning_of ms w ∷ [])) ≡ length (commit_words (w ∷ []))
unfolding meaning_of is_commit_word
one_word ms w = by_kinds (kind_of w) ms (left_of w) (right_of w) w

counts : (ms : List Meaning) (ws : List ℕ) → length (filter_map as_commit (read ms ws)) ≡ length (filter_map as_commit ms) + length (commit_words ws)
counts ms [] = omega arith
counts ms (w ∷ ws) =
    omega (
      arith,
      counts (ms ++ meaning_of ms w ∷ []) ws,
      ap length (filter_map-append as_commit ms (meaning_of ms w ∷ [])),
      length-append (filter_map as_commit ms) (filter_map as_commit (meaning_of ms w ∷ [])),
      one_word ms w,
      ap length (filter-append is_commit_word (w ∷ []) ws),
      length-append (commit_words (w ∷ [])) (commit_words ws),
    )

-- where no commit came, no commit word did
pub commits_stay : (old new : List ℕ) → IsPrefix old new → commits_of new ≡ commits_of old → commit_words new ≡ commit_words old
commits_stay old new p same =
    let split : commit_words new ≡ commit_words old ++ commit_words p.0 = ap commit_words (sym p.1) ∙ filter-append is_commit_word old p.0 in
    let none : commit_words p.0 ≡ [] =
    nil_from_length (commit_words p.0) (omega (arith, ap length same, counts [] new, counts [] old, ap length split, length-append (commit_words old) (commit_words p.0))) in
    split ∙ ap (λ l. commit_words old ++ l) none ∙ append-nil (commit_words old)

-- and where no commit word came, no commit did
pub commits_left : (old new : List ℕ) → IsPrefix old new → commit_words new ≡ commit_words old → commits_of new ≡ commits_of old
commits_left old new p same =
    let q = commits_prefix old new p in
    let none : q.0 ≡ [] =
    nil_from_length q.0 (omega (arith, ap length same, counts [] new, counts [] old, ap length q.1, length-append (commits_of old) q.0)) in
    sym q.1 ∙ ap (λ l. commits_of old ++ l) none ∙ append-nil (commits_of old)
