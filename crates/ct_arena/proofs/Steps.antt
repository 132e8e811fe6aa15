-- Each step on the table keeps the rule of the shared log.
use Rattle.std.proofs.Common.{◌≡◌, ℕ, ◌<◌, List, [], ◌∷◌, ◌++◌, length, set, Bool, true, false, None, refl, sym, ap, ◌∙◌, subst, arith, length-append, eqb, eq-eqb, ne_eqb}
use Rattle.std.{specs.Prelude.{slice_index, slice_set, replicate, nat_lt, IsTrue, if◌then◌else◌}, proofs.lemmas.Bool.ltb-true}
use Rattle.std.proofs.lemmas.List.{length-replicate}
use Rattle.atomic_table.{specs.Table.{State, Me, keeps, Allows, Splits, Joins}, proofs.Lists.set_again}
use Rattle.ct_word.{specs.Reading.commits_of, specs.WellFormed.is_word_after, proofs.Packed.formed_snoc}
use Rattle.ct_arena.{specs.Counts.opening, specs.declared.sharing.View.View, proofs.Totals.total_append, proofs.Putting.puts_word, proofs.Sole.prefix_push}
use Rattle.ct_arena.specs.Sharing.{as_list, grown, put_on, settled, laid_by, joined, spent, kept, given, enrolled_by, enrolled, IsTied, IsShared, IsMoment, IsRead, IsPut, IsSeen, IsSettled, IsLaidBy, MayPut}
use Rattle.ct_arena.proofs.Fronts.{IsNext, Ends, Goes, next, set_same, shorter_front, commits_between}
use Rattle.ct_arena.proofs.Tied.{Sees, changes_view, cuts_guest, cuts_new, joins_views}
use mathlib.{Core.Option.some, Core.List.IsPrefix}
use prog.Atomic.{either}
use lib.ListN.{get_elem?}
use Rattle.atomic_table.specs.Table as table

-- the rule, as a fact of a state
abbrev pub Rule : ℕ → State ℕ View → Type 0
Rule cap s = IsShared cap s.words s.views

-- what the rule tells of one view
abbrev moment : (cap : ℕ) (words : List ℕ) (views : List View) (id : ℕ) (v : View) → IsShared cap words views → get_elem? views id ≡ some v → IsMoment v
moment cap words views id v shared at = record { cap = cap; log = shared.log; views = views; id = id; formed = shared.formed; begins = shared.begins; tied = shared.tied; at = at }

-- the same words, under other views
abbrev again : (cap : ℕ) (words words' : List ℕ) (views views' : List View) (shared : IsShared cap words views) → words' ≡ words → IsTied cap shared.log views' → IsShared cap words' views'
again cap words words' views views' shared same tied =
    record { log = shared.log; empty = shared.empty; are = same ∙ shared.are; size = ap length same ∙ shared.size; formed = shared.formed; begins = shared.begins; tied = tied }

grown_tied : (cap : ℕ) (log : List ℕ) (views : List View) (id : ℕ) (v : View) (w : ℕ) → IsTied cap log views → get_elem? views id ≡ some v → IsPrefix (v.seen ++ w ∷ []) log → IsTied cap log (set views id (grown v w))
grown_tied cap log views id v w tied at more =
    changes_view cap log views id v (grown v w) tied at (more, (tied.fronted.fronts id v at).1) (λ g. refl)
    (λ e own k.
    let was = own k in
    (was.0, record { commits = (commits_between v.seen (v.seen ++ w ∷ []) log (w ∷ [], refl) more was.1.commits) ∙ was.1.commits; many = was.1.many; room = was.1.room }))

abbrev seat : View → List (ℕ × ℕ) → Me ℕ View
seat v slots = (v, slots)

module _ (cap slots id : ℕ) (me : Me ℕ View) (free : me.1 ≡ []) where
  alone : (v : View) → seat v me.1 ≡ seat v []
  alone v = λ i. (v, free i)

  -- a load past what was seen
  pub reads : length me.0.seen < cap → Allows (Rule cap) slots id me (length me.0.seen) (λ n. n) (λ found after. IsRead me.0 found after)
  reads lt s shared homes at bound = go (next s.words me.0.seen shared.log shared.empty shared.are (shared.tied.fronted.fronts id me.0 at).0 within shared.formed) where
    within : length me.0.seen < length s.words
    within = omega (arith, lt, shared.size)

    same : slice_set s.words (length me.0.seen) (slice_index s.words (length me.0.seen)) ≡ s.words
    same = set_same s.words (length me.0.seen) within

    go : IsNext s.words me.0.seen shared.log shared.empty
        → (w : View) × (a : table.Act ℕ) × table.Valid s.homes me.1 a × IsShared cap (slice_set s.words (length me.0.seen) (slice_index s.words (length me.0.seen))) (set s.views id w) × IsRead me.0 (slice_index s.words (length me.0.seen)) (w, table.carried_after me.1 a)
    go (Ends rest zero_ whole _ _) = (
      me.0,
      keeps,
      tt,
      again cap s.words _ s.views _ shared same (subst (λ vs. IsTied cap shared.log vs) (sym (set_again s.views id me.0 at)) shared.tied),
      record { none = λ _. (alone me.0, (moment cap s.words s.views id me.0 shared at, sym whole)); some = λ ne. absurd (ne zero_) },
    )
    go (Goes nonzero more) =
        let n = slice_index s.words (length me.0.seen) in
        let tied : IsTied cap shared.log (set s.views id (grown me.0 n)) = grown_tied cap shared.log s.views id me.0 n shared.tied at more in (
          grown me.0 n,
          keeps,
          tt,
          again cap s.words (slice_set s.words (length me.0.seen) n) s.views (set s.views id (grown me.0 n)) shared same tied,
          record { none = λ z. absurd (nonzero z); some = λ _. (alone (grown me.0 n), (moment cap s.words s.views id me.0 shared at, more)) },
        )

  -- an exchange of an empty word past what was seen
  pub puts : (w : ℕ) → length me.0.seen < cap → MayPut me.0 w → Allows (Rule cap) slots id me (length me.0.seen) (λ n. either (eqb n 0) w n) (λ found after. IsPut me.0 w found after)
  puts w lt may s shared homes at bound = go (next s.words me.0.seen shared.log shared.empty shared.are (shared.tied.fronted.fronts id me.0 at).0 within shared.formed) where
    within : length me.0.seen < length s.words
    within = omega (arith, lt, shared.size)

    go : IsNext s.words me.0.seen shared.log shared.empty
        → (v : View) × (a : table.Act ℕ) × table.Valid s.homes me.1 a × IsShared cap (slice_set s.words (length me.0.seen) (either (eqb (slice_index s.words (length me.0.seen)) 0) w (slice_index s.words (length me.0.seen)))) (set s.views id v)
        × IsPut me.0 w (slice_index s.words (length me.0.seen)) (v, table.carried_after me.1 a)
    go (Ends rest zero_ whole some_ set_) =
        let n = slice_index s.words (length me.0.seen) in
        let new : either (eqb n 0) w n ≡ w = ap (λ b. either b w n) (eq-eqb n 0 zero_) in
        let words_are : slice_set s.words (length me.0.seen) (either (eqb n 0) w n) ≡ (shared.log ++ w ∷ []) ++ replicate rest 0 = ap (λ x. slice_set s.words (length me.0.seen) x) new ∙ set_ w in
        let room : length shared.log < cap = omega (arith, lt, ap length whole) in (
          put_on me.0 w,
          keeps,
          tt,
          record {
            log = shared.log ++ w ∷ [];
            empty = rest;
            are = words_are;
            size = ap length words_are ∙ omega (arith, ap length shared.are, shared.size, some_, length-append (shared.log ++ w ∷ []) (replicate rest 0), length-append shared.log (w ∷ []), length-append shared.log (replicate shared.empty 0), length-replicate {A = ℕ} rest 0, length-replicate {A = ℕ} shared.empty 0);
            formed = formed_snoc shared.log w shared.formed (subst (λ l. IsTrue (is_word_after l w)) whole may.after);
            begins = prefix_push opening shared.log w shared.begins;
            tied = puts_word cap shared.log s.views id me.0 w may.session shared.tied at room whole may.guest may.kind;
          },
          record { none = λ _. alone (put_on me.0 w); some = λ ne. absurd (ne zero_) },
        )
    go (Goes nonzero more) =
        let n = slice_index s.words (length me.0.seen) in
        let stays : either (eqb n 0) w n ≡ n = ap (λ b. either b w n) (ne_eqb n 0 nonzero) in
        let same : slice_set s.words (length me.0.seen) (either (eqb n 0) w n) ≡ s.words = ap (λ x. slice_set s.words (length me.0.seen) x) stays ∙ set_same s.words (length me.0.seen) within in
        let tied : IsTied cap shared.log (set s.views id (grown me.0 n)) = grown_tied cap shared.log s.views id me.0 n shared.tied at more in (
          grown me.0 n,
          keeps,
          tt,
          again cap s.words (slice_set s.words (length me.0.seen) (either (eqb n 0) w n)) s.views (set s.views id (grown me.0 n)) shared same tied,
          record { none = λ z. absurd (nonzero z); some = λ _. (alone (grown me.0 n), (moment cap s.words s.views id me.0 shared at, more)) },
        )

  -- a load of the first word, after which the seat has this view
  loads : (v : View) (Q : Me ℕ View → Type 0) → 0 < cap → ((log : List ℕ) (views : List View) → IsTied cap log views → get_elem? views id ≡ some me.0 → IsTied cap log (set views id v)) → (IsMoment me.0 → Q (seat v me.1))
      → Allows (Rule cap) slots id me 0 (λ n. n) (λ found after. Q after)
  loads v Q lt tied after s shared homes at bound =
      let same : slice_set s.words 0 (slice_index s.words 0) ≡ s.words = set_same s.words 0 (omega (arith, lt, shared.size)) in (
        v,
        keeps,
        tt,
        again cap s.words _ s.views _ shared same (tied shared.log s.views shared.tied at),
        after (moment cap s.words s.views id me.0 shared at),
      )

  -- a load that changes nothing
  pub looks : 0 < cap → Allows (Rule cap) slots id me 0 (λ n. n) (λ found after. IsSeen me.0 after)
  looks lt = loads me.0 (IsSeen me.0) lt (λ log views tied at. subst (λ vs. IsTied cap log vs) (sym (set_again views id me.0 at)) tied) (λ m. (alone me.0, m))

  longer_tied : (log : List ℕ) (views : List View) → IsTied cap log views → get_elem? views id ≡ some me.0 → IsTied cap log (set views id (settled me.0))
  longer_tied log views tied at =
      let sees = tied.fronted.fronts id me.0 at in
      changes_view cap log views id me.0 (settled me.0) tied at (one (nat_lt (length me.0.seen) (length me.0.other)) sees, (log, refl)) (λ g. refl)
      (λ e own k.
      let was = own k in
      (was.0, record { commits = commits_ (nat_lt (length me.0.seen) (length me.0.other)) refl sees was.1.commits ∙ was.1.commits; many = was.1.many; room = was.1.room }))
    where
      one : (b : Bool) → Sees log me.0 → IsPrefix (if b then me.0.other else me.0.seen) log
      one true sees = sees.1
      one false sees = sees.0

      commits_ : (b : Bool) → nat_lt (length me.0.seen) (length me.0.other) ≡ b → Sees log me.0 → commits_of me.0.seen ≡ commits_of log → commits_of (if b then me.0.other else me.0.seen) ≡ commits_of me.0.seen
      commits_ true is sees e =
          let lt : length me.0.seen < length me.0.other = ltb-true (length me.0.seen) (length me.0.other) is in
          commits_between me.0.seen me.0.other log (shorter_front me.0.seen me.0.other log sees.0 sees.1 (omega arith)) sees.1 e
      commits_ false is sees e = refl

  -- the keeper takes the longer of its lists
  pub settles : 0 < cap → Allows (Rule cap) slots id me 0 (λ n. n) (λ found after. IsSettled me.0 after)
  settles lt = loads (settled me.0) (IsSettled me.0) lt longer_tied (λ m. record { is = alone (settled me.0); moment = m })

  -- the guest is ended
  pub lays_by : 0 < cap → Allows (Rule cap) slots id me 0 (λ n. n) (λ found after. IsLaidBy me.0 after)
  lays_by lt =
      loads (laid_by me.0) (IsLaidBy me.0) lt
      (λ log views tied at.
      changes_view cap log views id me.0 (laid_by me.0) tied at (tied.fronted.fronts id me.0 at)
      (λ g. omega (arith, total_append g me.0.ended (as_list me.0.guest), total_append g (as_list me.0.guest) me.0.ended))
      (λ e own k. let was = own k in (was.0, record { commits = was.1.commits; many = was.1.many; room = was.1.room })))
      (λ m. alone (laid_by me.0))

-- the guest leaves
pub leaves : (cap id : ℕ) (v : View) → Splits (Rule cap) id v (kept v) (given v)
leaves cap id v s shared at = again cap s.words s.words s.views _ shared refl (cuts_guest cap shared.log s.views id v shared.tied at)

-- a session is enrolled
pub enrols : (cap id : ℕ) (v : View) → v.keeps ≡ true → Splits (Rule cap) id v (enrolled_by v) (enrolled v)
enrols cap id v keeper s shared at = again cap s.words s.words s.views _ shared refl (cuts_new cap shared.log s.views id v keeper shared.tied at)

-- a session is taken in
pub enters : (cap id other : ℕ) (k v : View) → k.guest ≡ None → v.ended ≡ [] → Joins (Rule cap) id k other v (joined k v) spent
enters cap id other k v none_ bare s shared at ne there =
    again cap s.words s.words s.views _ shared refl (joins_views cap shared.log s.views id other k v none_ bare ne shared.tied at there)
