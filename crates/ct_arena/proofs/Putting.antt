-- The log and the views stay tied as a word is put at the end of the log.
use Rattle.std.proofs.Common.{◌≡◌, ◌≢◌, ℕ, ◌+◌, ◌*◌, ◌<◌, ◌≤◌, ◌^◌, ◌⊎◌, not, List, [], ◌∷◌, ◌++◌, length, set, Bool, true, false, Some, refl, sym, ap, ◌∙◌, subst, inl, inr, arith, length-append, append-nil, true≢false, eq-eqb, ne_eqb}
use Rattle.std.{specs.Prelude.{nat_eq, if◌then◌else◌, IsTrue}, specs.List.range_with_len, proofs.lemmas.List.FromFn.length-range_with_len}
use Rattle.ct_word.{specs.Change.PlainCommit, specs.Reading.commits_of, specs.WellFormed.{is_commit_word, is_plain_word, is_word_over, has_class}}
use Rattle.ct_word.{proofs.Packed.{true_right, kind_of_parts}, proofs.Commits.commits_plain}
use Rattle.ct_arena.{specs.Counts.{numbers_by, AreNumbered, commit_word, commit_of}, specs.declared.sharing.View.View, specs.declared.tally.Tally.Tally}
use Rattle.ct_arena.specs.Sharing.{total, as_list, weight, is_of, mine_of, counts_word, guest_after, put_on, IsCounted, IsTied, IsNextCommit}
use Rattle.ct_arena.{proofs.Totals.total_set, proofs.Tied.{load_of, set_fronted}}
use Rattle.ct_arena.proofs.Sole.{prefix_push, numbers_append, numbers_own, range_next, commits_grow}
use mathlib.{Core.Option.some, Core.Logic.dite}
use native.Mathlib.Decide.{ℕ_discrete}
use lib.ListN.{get_elem?}
use Rattle.ct_word.specs.declared.kinds.Kind.TheVariants as kind
use Rattle.ct_word.specs.declared.kinds.Class.TheVariants as class

pub plain_kind : (ws : List ℕ) (w : ℕ) → IsTrue (is_plain_word ws w) → is_commit_word w ≡ false
plain_kind ws w plain = none (is_commit_word w) (true_right (is_word_over ws w) (not (is_commit_word w)) plain) where
  none : (b : Bool) → IsTrue (not b) → b ≡ false
  none true e = absurd (true≢false (sym e))
  none false e = refl

pub commit_kind : (s m b : ℕ) → s ≤ 1023 → m < 2 ^ 18 → b < 2 ^ 28 → is_commit_word (commit_word s m b) ≡ true
unfolding is_commit_word
commit_kind s m b sl ml bl =
    let al : s * 262144 + m < 2 ^ 28 = omega arith in
    ap (λ o. has_class o class.Commit) (kind_of_parts kind.Commit 29 (s * 262144 + m) b refl al bl)

-- the counts after a word was put
puts_one : (e : ℕ) (log : List ℕ) (w : ℕ) (t : Tally) (f f' : (Tally → ℕ) → ℕ) → ((g : Tally → ℕ) → f' g + g t ≡ f g + g (counts_word w t)) → IsCounted e log f → ((s : ℕ) → AreNumbered s (f' (mine_of s)) (log ++ w ∷ []))
    → IsCounted e (log ++ w ∷ []) f'
puts_one e log w t f f' same c numbers = record {
  made = let q = same (λ t. t.made) in let p = c.made in omega (arith, length-append log (w ∷ []));
  many = let q = same (λ t. 1) in let p = c.many in omega arith;
  once = λ s. let q : f' (is_of s) + is_of s t ≡ f (is_of s) + is_of s t = same (is_of s) in let p = c.once s in omega arith;
  past = λ s lt. let q : f' (is_of s) + is_of s t ≡ f (is_of s) + is_of s t = same (is_of s) in let p = c.past s lt in omega arith;
  numbered = numbers;
}

mine_plain : (s w : ℕ) (t : Tally) → is_commit_word w ≡ false → mine_of s (counts_word w t) ≡ mine_of s t
mine_plain s w t e = ap (λ (b : Bool). mine_of s (record { session = t.session; made = t.made + 1; mine = t.mine + (if b then 1 else 0) })) e ∙ by (nat_eq t.session s) where
  by : (b : Bool) → (if b then t.mine + 0 else 0) ≡ (if b then t.mine else 0)
  by true = omega arith
  by false = refl

mine_other : (s : ℕ) (t : Tally) → t.session ≢ s → mine_of s t ≡ 0
mine_other s t ne = rw (ne_eqb t.session s ne) refl

mine_own : (s : ℕ) (t : Tally) → t.session ≡ s → mine_of s t ≡ t.mine
mine_own s t e = rw (eq-eqb t.session s e) refl

numbers_other : (s : ℕ) (c : PlainCommit) → c.session ≢ s → numbers_by s (c ∷ []) ≡ []
numbers_other s c ne = rw (ne_eqb c.session s ne) refl

-- the numbers of each session once a plain word was put
numbers_plain : (e : ℕ) (log : List ℕ) (w : ℕ) (t : Tally) (f f' : (Tally → ℕ) → ℕ) → ((g : Tally → ℕ) → f' g + g t ≡ f g + g (counts_word w t)) → IsCounted e log f → IsTrue (is_plain_word log w)
    → (s : ℕ) → AreNumbered s (f' (mine_of s)) (log ++ w ∷ [])
numbers_plain e log w t f f' same c plain s =
    let q = same (mine_of s) in
    let stays : mine_of s (counts_word w t) ≡ mine_of s t = mine_plain s w t (plain_kind log w plain) in
    let is : f (mine_of s) ≡ f' (mine_of s) = omega arith in
    ap (numbers_by s) (commits_plain log w plain) ∙ c.numbered s ∙ ap (range_with_len 0) is

-- the numbers of each session once a commit of this one was put
numbers_commit : (e : ℕ) (log : List ℕ) (w : ℕ) (t : Tally) (b : ℕ) (f f' : (Tally → ℕ) → ℕ) → ((g : Tally → ℕ) → f' g + g t ≡ f g + g (counts_word w t)) → IsCounted e log f
    → AreNumbered t.session t.mine log → t.session ≤ 1023 → t.mine < 2 ^ 18 → b < 2 ^ 28 → w ≡ commit_word t.session t.mine b → (s : ℕ) → AreNumbered s (f' (mine_of s)) (log ++ w ∷ [])
numbers_commit e log w t b f f' same c own sl ml bl is s = dite (ℕ_discrete t.session s)
    (λ here.
    let more : mine_of s (counts_word w t) ≡ t.mine + 1 = mine_own s (counts_word w t) here ∙ ap (λ (x : Bool). t.mine + (if x then 1 else 0)) commits in
    let was : mine_of s t ≡ t.mine = mine_own s t here in
    let count : f (mine_of s) ≡ t.mine =
    sym (length-range_with_len 0 (f (mine_of s))) ∙ ap length (sym (c.numbered s) ∙ ap (λ x. numbers_by x (commits_of log)) (sym here) ∙ own) ∙ length-range_with_len 0 t.mine in
    let q = same (mine_of s) in
    let now : f' (mine_of s) ≡ t.mine + 1 = omega arith in
    let before : numbers_by s (commits_of log) ≡ range_with_len 0 t.mine = c.numbered s ∙ ap (range_with_len 0) count in
    grows s ∙ (λ i. before i ++ numbers_own s (commit_of log t.session t.mine b) [] here i) ∙ range_next t.mine (f' (mine_of s)) now)
    (λ ne.
    let stays : mine_of s (counts_word w t) ≡ 0 = mine_other s (counts_word w t) ne in
    let was : mine_of s t ≡ 0 = mine_other s t ne in
    let q = same (mine_of s) in
    let now : f (mine_of s) ≡ f' (mine_of s) = omega arith in
    grows s ∙ ap (λ l. numbers_by s (commits_of log) ++ l) (numbers_other s (commit_of log t.session t.mine b) ne) ∙ append-nil (numbers_by s (commits_of log)) ∙ c.numbered s ∙ ap (range_with_len 0) now)
  where
    commits : is_commit_word w ≡ true
    commits = ap is_commit_word is ∙ commit_kind t.session t.mine b sl ml bl

    grows : (s : ℕ) → numbers_by s (commits_of (log ++ w ∷ [])) ≡ numbers_by s (commits_of log) ++ numbers_by s (commit_of log t.session t.mine b ∷ [])
    grows s = ap (λ x. numbers_by s (commits_of (log ++ x ∷ []))) is ∙ ap (numbers_by s) (commits_grow t.session t.mine b log sl ml bl) ∙ numbers_append s (commits_of log) (commit_of log t.session t.mine b ∷ [])

-- what a view weighs once its session put a word
put_weight : (g : Tally → ℕ) (v : View) (w : ℕ) (t : Tally) → v.guest ≡ Some t → load_of g (put_on v w) + g t ≡ load_of g v + g (counts_word w t)
put_weight g v w t is =
    let now : load_of g (put_on v w) ≡ total g (counts_word w t ∷ v.ended) = ap (λ o. total g (as_list (guest_after w o) ++ v.ended)) is in
    let was : load_of g v ≡ total g (t ∷ v.ended) = ap (λ o. total g (as_list o ++ v.ended)) is in
    omega arith

pub puts_word : (cap : ℕ) (log : List ℕ) (views : List View) (id : ℕ) (v : View) (w : ℕ) (t : Tally) → IsTied cap log views → get_elem? views id ≡ some v → length log < cap → v.seen ≡ log → v.guest ≡ Some t
    → IsTrue (is_plain_word v.seen w) ⊎ IsNextCommit v t w → IsTied cap (log ++ w ∷ []) (set views id (put_on v w))
puts_word cap log views id v w t tied at lt is guest which =
    let same : (g : Tally → ℕ) → weight g (set views id (put_on v w)) + g t ≡ weight g views + g (counts_word w t) =
    (λ g. omega (arith, total_set (load_of g) views id v (put_on v w) at, put_weight g v w t guest)) in
    let seen = tied.fronted.fronts id v at in record {
      enrolled = tied.enrolled;
      room = omega (arith, length-append log (w ∷ []));
      fronted = set_fronted cap tied.enrolled (log ++ w ∷ []) views id (put_on v w)
          (([], append-nil (v.seen ++ w ∷ []) ∙ ap (λ l. l ++ w ∷ []) is), prefix_push v.other log w seen.1)
          (λ k. let own = tied.fronted.keeper id v at k in (own.0, record { commits = ap (λ l. commits_of (l ++ w ∷ [])) is; many = own.1.many; room = own.1.room }))
          (λ j u ne there.
          let front = tied.fronted.fronts j u there in (
            (prefix_push u.seen log w front.0, prefix_push u.other log w front.1),
            (λ k. let own = tied.fronted.keeper j u there k in (own.0, record { commits = own.1.commits ∙ others j ne own.0 which; many = own.1.many; room = own.1.room })),
          ));
      counted = puts_one tied.enrolled log w t (λ g. weight g views) (λ g. weight g (set views id (put_on v w))) same tied.counted (numbers same which);
    }
  where
    others : (j : ℕ) → j ≢ id → j ≡ 0 → IsTrue (is_plain_word v.seen w) ⊎ IsNextCommit v t w → commits_of log ≡ commits_of (log ++ w ∷ [])
    others j ne first (inl plain) = sym (commits_plain log w (subst (λ l. IsTrue (is_plain_word l w)) is plain))
    others j ne first (inr next) = absurd (ne (first ∙ sym (tied.fronted.keeper id v at next.keeps).0))

    numbers : ((g : Tally → ℕ) → weight g (set views id (put_on v w)) + g t ≡ weight g views + g (counts_word w t)) → IsTrue (is_plain_word v.seen w) ⊎ IsNextCommit v t w
        → (s : ℕ) → AreNumbered s (weight (mine_of s) (set views id (put_on v w))) (log ++ w ∷ [])
    numbers same (inl plain) = numbers_plain tied.enrolled log w t (λ g. weight g views) (λ g. weight g (set views id (put_on v w))) same tied.counted (subst (λ l. IsTrue (is_plain_word l w)) is plain)
    numbers same (inr next) =
        numbers_commit tied.enrolled log w t next.changes (λ g. weight g views) (λ g. weight g (set views id (put_on v w))) same tied.counted (subst (λ l. AreNumbered t.session t.mine l) is next.numbered)
        next.session next.number next.small next.word
