-- What is true of the words of a log stays true as words are put at their end.
use Rattle.std.proofs.Common.{◌≡◌, ℕ, zero, suc, ◌+◌, ◌*◌, ◌/◌, ◌%◌, ◌<◌, ◌≤◌, ◌^◌, List, [], ◌∷◌, ◌++◌, length, Bool, true, false, refl, sym, ap, ◌∙◌, arith, length-append, add-zero, eq-eqb}
use Rattle.std.{specs.Prelude.{IsTrue, Contains, nat_eq, if◌then◌else◌}, specs.List.range_with_len, proofs.lemmas.List.append_assoc}
use Rattle.ct_word.{specs.Change.PlainCommit, specs.Reading.{commits_of, change_list_at}, specs.WellFormed.is_word_after, proofs.Packed.formed_snoc}
use Rattle.ct_word.{proofs.Commits.{commits_commit, commit_stands}, proofs.Items.get_last}
use Rattle.ct_arena.{specs.Counts.{opening, IsLog, AreNumbered, numbers_by, commit_word, commit_of}, specs.Seen.StandsLast}
use mathlib.Core.List.{IsPrefix}

pub prefix_push : (xs ys : List ℕ) (w : ℕ) → IsPrefix xs ys → IsPrefix xs (ys ++ w ∷ [])
prefix_push xs ys w p = (p.0 ++ w ∷ [], sym (append_assoc xs p.0 (w ∷ [])) ∙ ap (λ l. l ++ w ∷ []) p.1)

range_push : (a n : ℕ) → range_with_len a (suc n) ≡ range_with_len a n ++ (a + n) ∷ []
range_push a zero = rw add-zero refl
range_push a (suc n) =
    let e : (a + 1) + n ≡ a + suc n = omega arith in
    ap (λ l. a ∷ l) (range_push (a + 1) n) ∙ ap (λ m. a ∷ (range_with_len (a + 1) n ++ m ∷ [])) e

pub range_next : (m n : ℕ) → n ≡ m + 1 → range_with_len 0 m ++ m ∷ [] ≡ range_with_len 0 n
range_next m n e =
    let same : 0 + m ≡ m = omega arith in
    let more : suc m ≡ n = omega arith in
    ap (λ k. range_with_len 0 m ++ k ∷ []) (sym same) ∙ sym (range_push 0 m) ∙ ap (range_with_len 0) more

in_range : (n a m : ℕ) (xs ys : List ℕ) → xs ++ m ∷ ys ≡ range_with_len a n → m < a + n
in_range zero a m [] ys e = absurd (cc)
in_range zero a m (x ∷ xs) ys e = absurd (cc)
in_range (suc n) a m [] ys e = let same : m ≡ a = cc in omega arith
in_range (suc n) a m (x ∷ xs) ys e = let rest : xs ++ m ∷ ys ≡ range_with_len (a + 1) n = cc in let lt = in_range n (a + 1) m xs ys rest in omega arith

pub numbers_append : (s : ℕ) (cs ds : List PlainCommit) → numbers_by s (cs ++ ds) ≡ numbers_by s cs ++ numbers_by s ds
numbers_append s [] ds = refl
numbers_append s (c ∷ cs) ds = by_test (nat_eq c.session s) (numbers_append s cs ds) where
  by_test : (b : Bool) → numbers_by s (cs ++ ds) ≡ numbers_by s cs ++ numbers_by s ds
      → (if b then c.number ∷ numbers_by s (cs ++ ds) else numbers_by s (cs ++ ds)) ≡ (if b then c.number ∷ numbers_by s cs else numbers_by s cs) ++ numbers_by s ds
  by_test true rest = ap (λ l. c.number ∷ l) rest
  by_test false rest = rest

pub numbers_own : (s : ℕ) (c : PlainCommit) (cs : List PlainCommit) → c.session ≡ s → numbers_by s (c ∷ cs) ≡ c.number ∷ numbers_by s cs
numbers_own s c cs e = rw (eq-eqb c.session s e) refl

-- a session that has committed so often has no commit of the next number
pub fresh : (s m b : ℕ) (ws : List ℕ) → s ≤ 1023 → m < 2 ^ 18 → b < 2 ^ 28 → AreNumbered s m ws → Contains ws (commit_word s m b) → ⊥
fresh s m b ws sl ml bl numbered there =
    let al : s * 262144 + m < 2 ^ 28 = omega arith in
    let h = commit_stands ws (s * 262144 + m) b al bl there in
    let is_s : h.commit.session ≡ s = h.session_is ∙ omega arith in
    let is_m : h.commit.number ≡ m = h.number_is ∙ omega arith in
    let split : numbers_by s (commits_of ws) ≡ numbers_by s h.before ++ h.commit.number ∷ numbers_by s h.after =
    ap (numbers_by s) h.whole ∙ numbers_append s h.before (h.commit ∷ h.after) ∙ ap (λ l. numbers_by s h.before ++ l) (numbers_own s h.commit h.after is_s) in
    let lt : h.commit.number < 0 + m = in_range m 0 h.commit.number _ _ (sym split ∙ numbered) in
    omega arith

pub log_push : (room : ℕ) (ws : List ℕ) (w : ℕ) → IsLog room ws → IsTrue (is_word_after ws w) → length ws < room → IsLog room (ws ++ w ∷ [])
log_push room ws w log after lt = record {
  formed = formed_snoc ws w log.formed after;
  room = omega (arith, length-append ws (w ∷ []));
  begins = prefix_push opening ws w log.begins;
}

-- the commit that a commit word adds
pub commits_grow : (s m b : ℕ) (ws : List ℕ) → s ≤ 1023 → m < 2 ^ 18 → b < 2 ^ 28 → commits_of (ws ++ commit_word s m b ∷ []) ≡ commits_of ws ++ commit_of ws s m b ∷ []
commits_grow s m b ws sl ml bl =
    let al : s * 262144 + m < 2 ^ 28 = omega arith in
    let is_s : (s * 262144 + m) / 262144 ≡ s = omega arith in
    let is_m : (s * 262144 + m) % 262144 ≡ m = omega arith in
    commits_commit ws (s * 262144 + m) b al bl ∙ (λ i. commits_of ws ++ record { session = is_s i; number = is_m i; changes = change_list_at ws b } ∷ [])

pub stands_last : (ws : List ℕ) (w place : ℕ) → place ≡ length ws → StandsLast (ws ++ w ∷ []) place w
stands_last ws w place e = record { stands = get_last ws w place e; last = omega (arith, length-append ws (w ∷ [])) }
