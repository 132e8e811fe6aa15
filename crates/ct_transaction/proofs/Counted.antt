-- The commits of one session in a history and at its front, by how many they are.
use Rattle.std.{proofs.Common.{◌≡◌, ℕ, ◌+◌, ◌≤◌, List, [], ◌∷◌, ◌++◌, length, take, drop, ap, sym, ◌∙◌, arith, length-append}, specs.Prelude.if◌then◌else◌}
use Rattle.std.{specs.List.range_with_len, proofs.lemmas.Bool.eq-eqb, proofs.lemmas.List.{append-nil, take_all, take-append-drop, take-append-le}}
use Rattle.std.proofs.lemmas.List.FromFn.{length-range_with_len}
use Rattle.ct_word.specs.Change.{PlainCommit}
use Rattle.ct_arena.specs.Counts.{numbers_by}
use Rattle.ct_transaction.{specs.Answers.commits_by, proofs.Own.{numbers_split, commits_split, one_by, none_by}}
use mathlib.Core.List.{IsPrefix}

-- a history whose front has all commits of the session has the same ones
front_same : (s : ℕ) (front whole : List PlainCommit) → IsPrefix front whole → length (numbers_by s whole) ≡ length (numbers_by s front) → commits_by s 1 whole ≡ commits_by s 1 front
front_same s front whole p as_many =
    ap (commits_by s 1) (sym p.1) ∙ commits_split s 1 front p.0 ∙ ap (λ l. commits_by s 1 front ++ l) (none_by s (1 + length front) p.0 none) ∙ append-nil (commits_by s 1 front) where
      none : length (numbers_by s p.0) ≡ 0
      none =
          let both = ap length (sym (numbers_split s front p.0) ∙ ap (numbers_by s) p.1) in
          omega (arith, length-append (numbers_by s front) (numbers_by s p.0), both, as_many)

-- what is at the front of a history and one commit more, and has one commit of the session less, is at the front of the history
front_before : (s n : ℕ) (front h : List PlainCommit) (c : PlainCommit) → IsPrefix front (h ++ c ∷ []) → numbers_by s front ≡ range_with_len 0 n
    → numbers_by s (h ++ c ∷ []) ≡ range_with_len 0 (n + 1) → IsPrefix front h
front_before s n front h c p few all = by_rest p.0 p.1 where
  by_rest : (rest : List PlainCommit) → front ++ rest ≡ h ++ c ∷ [] → IsPrefix front h
  by_rest [] e =
      let same = ap length (sym few ∙ ap (numbers_by s) (sym (append-nil front) ∙ e) ∙ all) in
      absurd (omega (arith, length-range_with_len 0 n, length-range_with_len 0 (n + 1), same))
  by_rest (d ∷ rest) e =
      let as_long = ap length e in
      let short : length front ≤ length h = omega (arith, as_long, length-append front (d ∷ rest), length-append h (c ∷ [])) in
      let first : take (length front) h ≡ front =
      sym (take-append-le (length front) h (c ∷ []) short) ∙ ap (take (length front)) (sym e) ∙ take-append-le (length front) front (d ∷ rest) (omega arith) ∙ take_all (length front) front (omega arith) in
      (drop (length front) h, ap (λ l. l ++ drop (length front) h) (sym first) ∙ take-append-drop (length front) h)

-- one commit of the session more than at the front
pub front_and_one : (s n : ℕ) (front h : List PlainCommit) (c : PlainCommit) → c.session ≡ s → IsPrefix front (h ++ c ∷ []) → numbers_by s front ≡ range_with_len 0 n
    → numbers_by s (h ++ c ∷ []) ≡ range_with_len 0 (n + 1) → commits_by s 1 (h ++ c ∷ []) ≡ commits_by s 1 front ++ (length h + 1) ∷ []
front_and_one s n front h c own p few all =
    commits_split s 1 h (c ∷ []) ∙ (λ i. front_same s front h before as_many i ++ one_by s (next i) c own i) where
      before : IsPrefix front h
      before = front_before s n front h c p few all

      next : 1 + length h ≡ length h + 1
      next = omega arith

      one : length (numbers_by s (c ∷ [])) ≡ 1
      one = ap (λ b. length (if b then c.number ∷ [] else [])) (eq-eqb c.session s own)

      as_many : length (numbers_by s h) ≡ length (numbers_by s front)
      as_many =
          let both = ap length (sym (numbers_split s h (c ∷ [])) ∙ all) in
          let less = ap length few in
          omega (arith, length-append (numbers_by s h) (numbers_by s (c ∷ [])), one, both, less, length-range_with_len 0 n, length-range_with_len 0 (n + 1))
