-- Fronts of a log: what they keep of it, and which word comes next.
use Rattle.std.proofs.Common.{◌≡◌, ◌≢◌, ℕ, zero, suc, ◌<◌, ◌≤◌, List, [], ◌∷◌, ◌++◌, length, get_or, eq-eqb, true, refl, sym, ap, ◌∙◌, subst, arith, length-append, append_assoc, append-nil, true≢false}
use Rattle.std.{specs.Prelude.{IsTrue, Contains, not, nat_eq, replicate, slice_index, slice_set}, specs.List.list_any, proofs.lemmas.List.nil_from_length}
use Rattle.std.proofs.lemmas.List.Folds.{list_any_at}
use Rattle.ct_word.{specs.Reading.commits_of, specs.Word.{kind_of, kind_with, left_of, right_of}, specs.Change.PlainCommit, proofs.Prefixes.commits_prefix}
use Rattle.ct_word.{specs.WellFormed.{IsWellFormed, each_follows, is_word_after, is_formed_as}, proofs.Packed.{true_left, true_right, true_both}}
use Rattle.ct_arena.{specs.Counts.numbers_by, proofs.Sole.numbers_append}
use mathlib.Core.List.{IsPrefix}

-- the rest of a list that is no longer than its front is nothing
no_rest : {A : Type 0} (xs ys : List A) → length (xs ++ ys) ≤ length xs → ys ≡ []
no_rest xs ys le = nil_from_length ys (omega (arith, length-append xs ys))

pub prefix_length : {A : Type 0} (xs ys : List A) → IsPrefix xs ys → length xs ≤ length ys
prefix_length xs ys p = omega (arith, ap length p.1, length-append xs p.0)

pub prefix_whole : {A : Type 0} (xs ys : List A) → IsPrefix xs ys → length ys ≤ length xs → xs ≡ ys
prefix_whole xs ys p le =
    let rest : p.0 ≡ [] = no_rest xs p.0 (omega (arith, ap length p.1)) in
    sym (append-nil xs) ∙ ap (λ l. xs ++ l) (sym rest) ∙ p.1

-- what lies between two equal lists is the same
pub between : {A : Type 0} (xs ys zs : List A) → IsPrefix xs ys → IsPrefix ys zs → xs ≡ zs → ys ≡ xs
between xs ys zs p q e = sym (prefix_whole xs ys p (omega (arith, prefix_length ys zs q, ap length e)))

-- of two fronts of one list the shorter is a front of the longer
pub shorter_front : {A : Type 0} (xs ys zs : List A) → IsPrefix xs zs → IsPrefix ys zs → length xs ≤ length ys → IsPrefix xs ys
shorter_front [] ys zs p q le = (ys, refl)
shorter_front (x ∷ xs) [] zs p q le = absurd (omega arith)
shorter_front (x ∷ xs) (y ∷ ys) [] p q le = absurd (let e = p.1 in cc)
shorter_front (x ∷ xs) (y ∷ ys) (z ∷ zs) p q le =
    let rest : xs ++ p.0 ≡ zs = (let e = p.1 in cc) in
    let other : ys ++ q.0 ≡ zs = (let e = q.1 in cc) in
    let same : x ≡ y = (let e = p.1 in let f = q.1 in cc) in
    let tail = shorter_front xs ys zs (p.0, rest) (q.0, other) (omega arith) in
    (tail.0, (λ i. same i ∷ tail.1 i))

pub numbers_prefix : (s : ℕ) (cs ds : List PlainCommit) → IsPrefix cs ds → IsPrefix (numbers_by s cs) (numbers_by s ds)
numbers_prefix s cs ds p = (numbers_by s p.0, sym (numbers_append s cs p.0) ∙ ap (numbers_by s) p.1)

-- the commits of a list between two with the same commits are theirs
pub commits_between : (xs ys zs : List ℕ) → IsPrefix xs ys → IsPrefix ys zs → commits_of xs ≡ commits_of zs → commits_of ys ≡ commits_of xs
commits_between xs ys zs p q e = between (commits_of xs) (commits_of ys) (commits_of zs) (commits_prefix xs ys p) (commits_prefix ys zs q) e

pub numbers_between : (s : ℕ) (xs ys zs : List ℕ) → IsPrefix xs ys → IsPrefix ys zs → numbers_by s (commits_of xs) ≡ numbers_by s (commits_of zs) → numbers_by s (commits_of ys) ≡ numbers_by s (commits_of xs)
numbers_between s xs ys zs p q e =
    between (numbers_by s (commits_of xs)) (numbers_by s (commits_of ys)) (numbers_by s (commits_of zs))
    (numbers_prefix s (commits_of xs) (commits_of ys) (commits_prefix xs ys p)) (numbers_prefix s (commits_of ys) (commits_of zs) (commits_prefix ys zs q)) e

follow_front : (before xs ys : List ℕ) → IsTrue (each_follows before (xs ++ ys)) → IsTrue (each_follows before xs)
follow_front before [] ys e = refl
follow_front before (x ∷ xs) ys e =
    true_both _ _ (true_left _ (each_follows (before ++ x ∷ []) (xs ++ ys)) e) (follow_front (before ++ x ∷ []) xs ys (true_right (is_word_after before x) _ e))

-- a front of a well formed list is well formed
pub formed_front : (xs ys : List ℕ) → IsPrefix xs ys → IsWellFormed ys → IsWellFormed xs
formed_front xs ys p formed = follow_front [] xs p.0 (subst (λ l. IsWellFormed l) (sym p.1) formed)

zero_after : (before : List ℕ) → IsTrue (is_word_after before 0) → ⊥
unfolding is_word_after kind_with
zero_after before e = true≢false (sym e)

-- no word of a well formed list is 0
not_zero : (before xs ys : List ℕ) (y : ℕ) → IsTrue (each_follows before (xs ++ y ∷ ys)) → y ≢ 0
not_zero before [] ys y e = λ z. zero_after before (subst (λ w. IsTrue (is_word_after before w)) z (true_left _ (each_follows (before ++ y ∷ []) ys) e))
not_zero before (x ∷ xs) ys y e = not_zero (before ++ x ∷ []) xs ys y (true_right (is_word_after before x) _ e)

last_follows : (before xs : List ℕ) (w : ℕ) → IsTrue (each_follows before (xs ++ w ∷ [])) → IsTrue (is_word_after (before ++ xs) w)
last_follows before [] w e = subst (λ l. IsTrue (is_word_after l w)) (sym (append-nil before)) (true_left (is_word_after before w) true e)
last_follows before (x ∷ xs) w e =
    subst (λ l. IsTrue (is_word_after l w)) (append_assoc before (x ∷ []) xs) (last_follows (before ++ x ∷ []) xs w (true_right (is_word_after before x) _ e))

pub new_after : (ws : List ℕ) (w : ℕ) → IsTrue (is_word_after ws w) → Contains ws w → ⊥
unfolding is_word_after
new_after ws w e there =
    true≢false (sym (true_right (is_formed_as (kind_of w) ws (left_of w) (right_of w)) (not (list_any (nat_eq w) ws)) e) ∙ ap not (list_any_at (nat_eq w) ws there.0 w there.1 (eq-eqb w (get_or ws there.0 w) (sym there.2))))

-- the last word of a well formed list stands nowhere before
pub last_new : (ws : List ℕ) (w : ℕ) → IsWellFormed (ws ++ w ∷ []) → Contains ws w → ⊥
last_new ws w formed = new_after ws w (last_follows [] ws w formed)

index_at : (xs ys : List ℕ) (y : ℕ) → slice_index (xs ++ y ∷ ys) (length xs) ≡ y
index_at [] ys y = refl
index_at (x ∷ xs) ys y = index_at xs ys y

set_at : (xs ys : List ℕ) (y z : ℕ) → slice_set (xs ++ y ∷ ys) (length xs) z ≡ xs ++ z ∷ ys
set_at [] ys y z = refl
set_at (x ∷ xs) ys y z = ap (λ l. x ∷ l) (set_at xs ys y z)

-- a word set to what it is
pub set_same : (xs : List ℕ) (i : ℕ) → i < length xs → slice_set xs i (slice_index xs i) ≡ xs
set_same [] i lt = absurd (omega arith)
set_same (x ∷ xs) zero lt = refl
set_same (x ∷ xs) (suc i) lt = ap (λ l. x ∷ l) (set_same xs i (omega arith))

-- the word past a front is empty and the front is the log, or it is the next word of the log
pub data IsNext (words seen log : List ℕ) (empty : ℕ) : Type 0 where
  Ends : (rest : ℕ) → slice_index words (length seen) ≡ 0 → seen ≡ log → empty ≡ suc rest → ((w : ℕ) → slice_set words (length seen) w ≡ (log ++ w ∷ []) ++ replicate rest 0) → IsNext words seen log empty
  Goes : slice_index words (length seen) ≢ 0 → IsPrefix (seen ++ slice_index words (length seen) ∷ []) log → IsNext words seen log empty

next_of : (seen rest : List ℕ) (empty : ℕ) → length seen < length ((seen ++ rest) ++ replicate empty 0) → IsWellFormed (seen ++ rest) → IsNext ((seen ++ rest) ++ replicate empty 0) seen (seen ++ rest) empty
next_of seen [] zero lt formed = absurd (omega (arith, length-append (seen ++ []) [], length-append seen []))
next_of seen [] (suc rest) lt formed =
    let is : seen ++ [] ≡ seen = append-nil seen in
    Ends rest (ap (λ l. slice_index (l ++ 0 ∷ replicate rest 0) (length seen)) is ∙ index_at seen (replicate rest 0) 0) (sym is) refl
    (λ w. ap (λ l. slice_set (l ++ 0 ∷ replicate rest 0) (length seen) w) is ∙ set_at seen (replicate rest 0) 0 w ∙ sym (append_assoc seen (w ∷ []) (replicate rest 0)) ∙ ap (λ l. (l ++ w ∷ []) ++ replicate rest 0) (sym is))
next_of seen (t ∷ ts) empty lt formed =
    let at : slice_index ((seen ++ t ∷ ts) ++ replicate empty 0) (length seen) ≡ t =
    ap (λ l. slice_index l (length seen)) (append_assoc seen (t ∷ ts) (replicate empty 0)) ∙ index_at seen (ts ++ replicate empty 0) t in
    Goes (λ z. not_zero [] seen ts t formed (sym at ∙ z)) (subst (λ w. IsPrefix (seen ++ w ∷ []) (seen ++ t ∷ ts)) (sym at) (ts, append_assoc seen (t ∷ []) ts))

pub next : (words seen log : List ℕ) (empty : ℕ) → words ≡ log ++ replicate empty 0 → IsPrefix seen log → length seen < length words → IsWellFormed log → IsNext words seen log empty
next words seen log empty are p lt formed =
    let P : List ℕ → Type 0 = λ l. length seen < length (l ++ replicate empty 0) → IsWellFormed l → IsNext (l ++ replicate empty 0) seen l empty in
    let there : P log = subst P p.1 (next_of seen p.0 empty) in
    subst (λ ws. IsNext ws seen log empty) (sym are) (there (subst (λ ws. length seen < length ws) are lt) formed)
