-- The commits of a session round one of its replies: those before it stand up to the version of the reply, and those after
-- it later.
use Rattle.std.proofs.Common.{◌≡◌, ℕ, zero, suc, ◌+◌, ◌<◌, ◌≤◌, Bool, true, false, List, [], ◌∷◌, ◌++◌, length, take, drop, refl, ap, sym, subst, ◌∙◌, arith, inl, inr, append_assoc, length-append}
use Rattle.std.{specs.Prelude.{All, max, Option, Some, None, nat_eq, filter_map, if◌then◌else◌}, specs.Option.option_to_list, specs.List.cons_option}
use Rattle.std.proofs.lemmas.List.Elements.{All-nil, All-cons, All-head, All-tail, All-append, All-weaker}
use Rattle.ct_word.specs.Change.{PlainCommit}
use Rattle.ct_query.specs.Plain.{PlainAction, PlainStatement}
use Rattle.ct_transcript.{specs.declared.reply.Reply.Reply, specs.declared.reply.Refusal.Refusal}
use Rattle.ct_transaction.{specs.Answers.{committed_of, commits_by}, specs.Seeing.{Sees, SeesIn}, specs.LawfulRefusal.LawfulRefusal, specs.LawfulReply.LawfulReply}
use Rattle.ct_transaction.specs.State.{Transaction, SessionState, beginning, carried, with_transaction, opened, extended, extended_at}
use Rattle.ct_statement.specs.Drawing.{drawn}
use Rattle.ct_serve.{specs.Sessions.AreLawful, specs.Complete.IsCurrent}
use Rattle.ct_query.specs.Plain as plain
use Rattle.ct_transcript.specs.declared.reply.Reply.TheVariants as reply
use Rattle.ct_transcript.specs.declared.reply.Refusal.TheVariants as refusal

-- the version on which a session stands: the base of the transaction that is open, else the greatest that it has seen
abbrev settled : Option Transaction → ℕ → ℕ
settled None seen = seen
settled (Some t) seen = t.base

abbrev pub ground : SessionState → ℕ
ground s = settled s.transaction s.seen

pub ground_outside : (s : SessionState) → s.transaction ≡ None → ground s ≡ s.seen
ground_outside s e = ap (λ o. settled o s.seen) e

pub ground_inside : (s : SessionState) (t : Transaction) → s.transaction ≡ Some t → ground s ≡ t.base
ground_inside s t e = ap (λ o. settled o s.seen) e

-- a session that commits nothing comes to a later ground, which stays within what it has seen
record Keeps (s next : SessionState) : Type 0 where
  session : next.session ≡ s.session
  commits : next.commits ≡ s.commits
  later : ground s ≤ ground next
  within : ground next ≤ next.seen

keeps_trans : (s t u : SessionState) → Keeps s t → Keeps t u → Keeps s u
keeps_trans s t u k l = record {
  session = l.session ∙ k.session;
  commits = l.commits ∙ k.commits;
  later = let a = k.later in let b = l.later in omega (arith, a, b);
  within = l.within;
}

keeps_carried : (s : SessionState) (at : ℕ) → ground s ≤ s.seen → Keeps s (carried at s)
keeps_carried s at w = record { session = refl; commits = refl; later = (by_open s.transaction w).0; within = (by_open s.transaction w).1 } where
  by_open : (t : Option Transaction) → settled t s.seen ≤ s.seen → (settled t s.seen ≤ settled t (max s.seen at)) × (settled t (max s.seen at) ≤ max s.seen at)
  by_open None w = (omega arith, omega arith)
  by_open (Some t) w = (omega arith, omega (arith, w))

keeps_extended : (s : SessionState) (st : PlainStatement) → ground s ≤ s.seen → Keeps s (extended st s)
keeps_extended s st w = by_open s.transaction refl where
  by_open : (t : Option Transaction) → s.transaction ≡ t → Keeps s (extended_at t st s)
  by_open None e = record { session = refl; commits = refl; later = omega arith; within = w }
  by_open (Some t) e =
      let is : ground s ≡ t.base = ground_inside s t e in
      record { session = refl; commits = refl; later = omega (arith, is); within = omega (arith, is, w) }

keeps_ended : (s : SessionState) → ground s ≤ s.seen → Keeps s (with_transaction None s)
keeps_ended s w = record { session = refl; commits = refl; later = w; within = omega arith }

-- one reply more: its commit, if it has one, stands behind the ground before it and up to the one after
pub record Steps (s next : SessionState) (made : Option ℕ) : Type 0 where
  pub session : next.session ≡ s.session
  pub commits : next.commits ≡ s.commits + length (option_to_list made)
  pub own : All (λ m. (ground s < m) × (m ≤ ground next)) (option_to_list made)
  pub later : ground s ≤ ground next
  pub within : ground next ≤ next.seen

module _ (s next : SessionState) (w : ground s ≤ s.seen) where
  quiet : (mid : SessionState) → next ≡ mid → Keeps s mid → Steps s next None
  quiet mid e k = subst (λ n. Steps s n None) (sym e) (record {
    session = k.session;
    commits = let same = k.commits in omega (arith, same);
    own = All-nil (λ m. (ground s < m) × (m ≤ ground mid));
    later = k.later;
    within = k.within;
  })

  extending : (at : ℕ) (st : PlainStatement) → next ≡ carried at (extended st s) → Steps s next None
  extending at st e =
      let k = keeps_extended s st w in
      quiet (carried at (extended st s)) e (keeps_trans s (extended st s) (carried at (extended st s)) k (keeps_carried (extended st s) at k.within))

  ending : (at : ℕ) → next ≡ carried at (with_transaction None s) → Steps s next None
  ending at e =
      let k = keeps_ended s w in
      quiet (carried at (with_transaction None s)) e (keeps_trans s (with_transaction None s) (carried at (with_transaction None s)) k (keeps_carried (with_transaction None s) at k.within))

  beginning_at : (at : ℕ) → s.transaction ≡ None → s.seen ≤ at → next ≡ carried at (with_transaction (Some (opened at)) s) → Steps s next None
  beginning_at at none le e =
      let is : ground s ≡ s.seen = ground_outside s none in
      quiet (carried at (with_transaction (Some (opened at)) s)) e (record { session = refl; commits = refl; later = omega (arith, is, le); within = omega arith })

  -- the session after a commit: no transaction is open
  committing : (m fresh : ℕ) → ground s < m → next ≡ record { session = s.session; seen = max s.seen m; fresh = fresh; commits = s.commits + 1; transaction = None } → Steps s next (Some m)
  committing m fresh lt e = subst (λ n. Steps s n (Some m)) (sym e) (record {
    session = refl;
    commits = refl;
    own = All-cons (λ k. (ground s < k) × (k ≤ max s.seen m)) m [] (lt, omega arith) (All-nil (λ k. (ground s < k) × (k ≤ max s.seen m)));
    later = omega (arith, w);
    within = omega arith;
  })

module _ (H : List PlainCommit) (W : List ℕ) (N : ℕ) where
  module _ (s next : SessionState) (x : List ℕ) (w : ground s ≤ s.seen) where
    refused : (at : ℕ) (why : Refusal) → LawfulRefusal H W N s x at why next → Steps s next None
    refused at (refusal.Conflict table was now at') l = ending s next w at l.1.next_is
    refused at _ l = quiet s next w _ l.1 (keeps_carried s at w)

    -- a lawful reply leads from one ground to the next
    pub steps : (r : Reply) → LawfulReply H W N s x r next → Steps s next (committed_of r)
    steps (reply.Begun at) l = beginning_at s next w at l.none_open l.from_seen l.next_is
    steps reply.RolledBack l = quiet s next w _ l.next_is (keeps_ended s w)
    steps (reply.Pending at plus) l = extending s next w at (plain.Act l.action) l.next_is
    steps (reply.Committed m) (inl l) = committing s next w m _ (let is = ground_outside s l.none_open in let lt = l.later in omega (arith, is, lt)) (l.next_is ∙ ap (λ t. record { session = s.session; seen = max s.seen m; fresh = s.fresh + drawn l.action; commits = s.commits + 1; transaction = t }) l.none_open)
    steps (reply.Committed m) (inr l) = committing s next w m _ (let is = ground_inside s l.transaction l.is_open in let lt = l.later in omega (arith, is, lt)) l.next_is
    steps (reply.Nothing at) l = ending s next w at l.next_is
    steps (reply.Rows at plus answer) l = extending s next w at _ l.next_is
    steps (reply.Possible at plus columns rows) l = extending s next w at _ l.next_is
    steps (reply.Certain at plus columns rows) l = extending s next w at _ l.next_is
    steps (reply.Refused at why) l = refused at why l

  -- the commits of the replies that are to come stand behind the ground
  pub later_commits : (s last : SessionState) (xs : List (List ℕ)) (rs : List Reply) → ground s ≤ s.seen → AreLawful H W N s xs rs last → All (λ m. ground s < m) (filter_map committed_of rs)
  later_commits s last [] [] w l = All-nil (λ m. ground s < m)
  later_commits s last (x ∷ xs) (r ∷ rs) w l =
      let st = steps s l.0 x w r l.1 in by_reply (committed_of r) st.own (All-weaker (λ m. ground l.0 < m) (λ m. ground s < m) (λ m lt. let le = st.later in omega (arith, le, lt)) (filter_map committed_of rs) (later_commits l.0 last xs rs st.within l.2)) where
        by_reply : (o : Option ℕ) → All (λ m. (ground s < m) × (m ≤ ground l.0)) (option_to_list o) → All (λ m. ground s < m) (filter_map committed_of rs) → All (λ m. ground s < m) (cons_option o (filter_map committed_of rs))
        by_reply None own rest = rest
        by_reply (Some m) own rest = All-cons (λ k. ground s < k) m (filter_map committed_of rs) (All-head (λ k. (ground s < k) × (k ≤ ground l.0)) m [] own).0 rest
  later_commits s last [] (r ∷ rs) w l = absurd l
  later_commits s last (x ∷ xs) [] w l = absurd l

-- the commits of a session up to a version, and those after it
module _ (s : ℕ) where
  parted : (m at : ℕ) (cs : List PlainCommit) → commits_by s m cs ≡ commits_by s m (take at cs) ++ commits_by s (m + at) (drop at cs)
  parted m zero cs = ap (λ n. commits_by s n cs) (let z : m ≡ m + 0 = omega arith in z)
  parted m (suc at) [] = refl
  parted m (suc at) (c ∷ cs) = by_test (nat_eq c.session s) (parted (m + 1) at cs ∙ ap (λ n. commits_by s (m + 1) (take at cs) ++ commits_by s n (drop at cs)) (let e : (m + 1) + at ≡ m + suc at = omega arith in e)) where
    by_test : (b : Bool) → commits_by s (m + 1) cs ≡ commits_by s (m + 1) (take at cs) ++ commits_by s (m + suc at) (drop at cs)
        → (if b then m ∷ commits_by s (m + 1) cs else commits_by s (m + 1) cs) ≡ (if b then m ∷ commits_by s (m + 1) (take at cs) else commits_by s (m + 1) (take at cs)) ++ commits_by s (m + suc at) (drop at cs)
    by_test true e = ap (λ l. m ∷ l) e
    by_test false e = e

  from_first : (m : ℕ) (cs : List PlainCommit) → All (λ k. m ≤ k) (commits_by s m cs)
  from_first m [] = All-nil (λ k. m ≤ k)
  from_first m (c ∷ cs) = by_test (nat_eq c.session s) (All-weaker (λ k. m + 1 ≤ k) (λ k. m ≤ k) (λ k le. omega (arith, le)) (commits_by s (m + 1) cs) (from_first (m + 1) cs)) where
    by_test : (b : Bool) → All (λ k. m ≤ k) (commits_by s (m + 1) cs) → All (λ k. m ≤ k) (if b then m ∷ commits_by s (m + 1) cs else commits_by s (m + 1) cs)
    by_test true all = All-cons (λ k. m ≤ k) m (commits_by s (m + 1) cs) (omega arith) all
    by_test false all = all

  up_to : (m at : ℕ) (cs : List PlainCommit) → All (λ k. k < m + at) (commits_by s m (take at cs))
  up_to m zero cs = All-nil (λ k. k < m + 0)
  up_to m (suc at) [] = All-nil (λ k. k < m + suc at)
  up_to m (suc at) (c ∷ cs) = by_test (nat_eq c.session s) (All-weaker (λ k. k < (m + 1) + at) (λ k. k < m + suc at) (λ k lt. omega (arith, lt)) (commits_by s (m + 1) (take at cs)) (up_to (m + 1) at cs)) where
    by_test : (b : Bool) → All (λ k. k < m + suc at) (commits_by s (m + 1) (take at cs)) → All (λ k. k < m + suc at) (if b then m ∷ commits_by s (m + 1) (take at cs) else commits_by s (m + 1) (take at cs))
    by_test true all = All-cons (λ k. k < m + suc at) m (commits_by s (m + 1) (take at cs)) (omega arith) all
    by_test false all = all

-- a list is split in one way into numbers up to a bound and numbers past it
split_once : (n : ℕ) (xs ys before after : List ℕ) → xs ++ ys ≡ before ++ after → All (λ k. k ≤ n) xs → All (λ k. n < k) ys → All (λ k. k ≤ n) before → All (λ k. n < k) after
    → length xs ≡ length before
split_once n [] ys [] after e lx ly lb la = refl
split_once n [] ys (b ∷ before) after e lx ly lb la =
    absurd (let le = All-head (λ k. k ≤ n) b before lb in let lt = All-head (λ k. n < k) b (before ++ after) (subst (All (λ k. n < k)) e ly) in omega (arith, le, lt))
split_once n (x ∷ xs) ys [] after e lx ly lb la =
    absurd (let le = All-head (λ k. k ≤ n) x xs lx in let lt = All-head (λ k. n < k) x (xs ++ ys) (subst (All (λ k. n < k)) (sym e) la) in omega (arith, le, lt))
split_once n (x ∷ xs) ys (b ∷ before) after e lx ly lb la =
    ap suc (split_once n xs ys before after (cc) (All-tail (λ k. k ≤ n) x xs lx) ly (All-tail (λ k. k ≤ n) b before lb) la)

module _ (H : List PlainCommit) where
  -- a session in the midst of its replies: its commits are those before, up to its ground, and those of the replies to come
  pub record IsAmidst (s : SessionState) (rs : List Reply) : Type 0 where
    pub before : List ℕ
    pub split : commits_by s.session 1 H ≡ before ++ filter_map committed_of rs
    pub stand : All (λ m. m ≤ ground s) before
    pub count : length before ≡ s.commits
    pub within : ground s ≤ s.seen

  pub amidst_next : (s next : SessionState) (r : Reply) (rs : List Reply) → IsAmidst s (r ∷ rs) → Steps s next (committed_of r) → IsAmidst next rs
  amidst_next s next r rs a st = by_reply (committed_of r) a.split st where
    by_reply : (o : Option ℕ) → commits_by s.session 1 H ≡ a.before ++ cons_option o (filter_map committed_of rs) → Steps s next o → IsAmidst next rs
    by_reply o e st = record {
      before = a.before ++ option_to_list o;
      split = ap (λ n. commits_by n 1 H) st.session ∙ e ∙ ap (λ l. a.before ++ l) (listed o) ∙ sym (append_assoc a.before (option_to_list o) (filter_map committed_of rs));
      stand = All-append (λ m. m ≤ ground next) a.before (option_to_list o)
          (All-weaker (λ m. m ≤ ground s) (λ m. m ≤ ground next) (λ m le. let more = st.later in omega (arith, le, more)) a.before a.stand)
          (All-weaker (λ m. (ground s < m) × (m ≤ ground next)) (λ m. m ≤ ground next) (λ m p. p.1) (option_to_list o) st.own);
      count = let sum = length-append a.before (option_to_list o) in let more = st.commits in let n = a.count in omega (arith, sum, more, n);
      within = st.within;
    } where
      listed : (o : Option ℕ) → cons_option o (filter_map committed_of rs) ≡ option_to_list o ++ filter_map committed_of rs
      listed None = refl
      listed (Some m) = refl

  -- up to a version between the ground and that of the next state the session has made the commits before
  pub current : (s next : SessionState) (r : Reply) (rs : List Reply) (at : ℕ) → IsAmidst s (r ∷ rs) → committed_of r ≡ None → All (λ m. ground next < m) (filter_map committed_of rs)
      → ground s ≤ at → at ≤ ground next → IsCurrent H s at
  current s next r rs at a none later low high =
      split_once at (commits_by s.session 1 (take at H)) (commits_by s.session (1 + at) (drop at H)) a.before (filter_map committed_of rs)
      (sym (parted s.session 1 at H) ∙ a.split ∙ ap (λ o. a.before ++ cons_option o (filter_map committed_of rs)) none)
      (All-weaker (λ k. k < 1 + at) (λ k. k ≤ at) (λ k lt. omega (arith, lt)) (commits_by s.session 1 (take at H)) (up_to s.session 1 at H))
      (All-weaker (λ k. 1 + at ≤ k) (λ k. at < k) (λ k le. omega (arith, le)) (commits_by s.session (1 + at) (drop at H)) (from_first s.session (1 + at) (drop at H)))
      (All-weaker (λ m. m ≤ ground s) (λ m. m ≤ at) (λ m le. omega (arith, le, low)) a.before a.stand)
      (All-weaker (λ m. ground next < m) (λ m. at < m) (λ m lt. omega (arith, lt, high)) (filter_map committed_of rs) later)
      ∙ a.count

  -- what a refused statement saw stands there
  pub seen_current : (s next : SessionState) (r : Reply) (rs : List Reply) (at : ℕ) (actions : List PlainAction) → IsAmidst s (r ∷ rs) → committed_of r ≡ None
      → All (λ m. ground next < m) (filter_map committed_of rs) → next ≡ carried at s → Sees H s at actions → IsCurrent H s at
  seen_current s next r rs at actions a none later e sees =
      let p = by_open s.transaction sees in
      current s next r rs at a none later p.0 (subst (λ n. at ≤ ground n) (sym e) p.1) where
        by_open : (t : Option Transaction) → SeesIn H t s at actions → (settled t s.seen ≤ at) × (at ≤ settled t (max s.seen at))
        by_open None sees = let le = sees.0 in (omega (arith, le), omega arith)
        by_open (Some t) sees = let e = sees.0 in (omega (arith, e), omega (arith, e))

  -- so does the version at which a conflict was found
  pub conflict_current : (s next : SessionState) (r : Reply) (rs : List Reply) (base at : ℕ) → IsAmidst s (r ∷ rs) → committed_of r ≡ None
      → All (λ m. ground next < m) (filter_map committed_of rs) → next ≡ carried at (with_transaction None s) → ground s ≤ base → base < at → IsCurrent H s at
  conflict_current s next r rs base at a none later e low lt =
      current s next r rs at a none later (omega (arith, low, lt)) (subst (λ n. at ≤ ground n) (sym e) (omega arith))

  -- before its first reply
  pub amidst_first : (n : ℕ) (rs : List Reply) → commits_by n 1 H ≡ filter_map committed_of rs → IsAmidst (beginning n) rs
  amidst_first n rs e = record { before = []; split = e; stand = All-nil (λ m. m ≤ 0); count = refl; within = omega arith }
