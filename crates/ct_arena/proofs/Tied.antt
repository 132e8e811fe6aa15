-- The log and the views stay tied as one view changes, is cut in two or takes in another, and as a word is put.
use Rattle.std.proofs.Common.{◌≡◌, ◌≢◌, ℕ, ◌+◌, List, [], ◌∷◌, ◌++◌, set, Bool, true, false, None, refl, sym, ap, ◌∙◌, subst, ⊎_elim, arith, eq-eqb, ne_eqb, true≢false}
use Rattle.std.specs.Prelude.{nat_eq, if◌then◌else◌}
use Rattle.atomic_table.proofs.Lists.{at_set, at_snoc}
use Rattle.ct_arena.{specs.Counts.AreNumbered, specs.declared.sharing.View.View, specs.declared.tally.Tally.Tally, proofs.Totals.{total_append, total_set}}
use Rattle.ct_arena.specs.Sharing.{total, held, as_list, weight, is_of, mine_of, IsCounted, IsKept, IsFronted, IsTied, spent, newcomer, joined, kept, given, enrolled_by, enrolled}
use mathlib.{Core.Option.some, Core.List.IsPrefix, Core.Logic.dite}
use native.Mathlib.Decide.{ℕ_discrete}
use lib.ListN.{get_elem?}

-- what a view weighs
abbrev pub load_of : (Tally → ℕ) → View → ℕ
load_of g = λ v. total g (held v)

-- where each weight is as it was, the counts are
pub counts_same : (e : ℕ) (log : List ℕ) (f f' : (Tally → ℕ) → ℕ) → ((g : Tally → ℕ) → f' g ≡ f g) → IsCounted e log f → IsCounted e log f'
counts_same e log f f' same c =
    let is : f' ≡ f = (λ i g. same g i) in
    subst (λ (h : (Tally → ℕ) → ℕ). IsCounted e log h) (sym is) c

-- what a view may see
abbrev pub Sees : List ℕ → View → Type 0
Sees log v = IsPrefix v.seen log × IsPrefix v.other log

-- what the keeper's view is, where this is the keeper's
abbrev pub Keeps : ℕ → ℕ → List ℕ → ℕ → View → Type 0
Keeps cap e log id v = v.keeps ≡ true → (id ≡ 0) × IsKept cap e log v

-- the others stay, and this one is as it has to be
pub set_fronted : (cap e : ℕ) (log : List ℕ) (views : List View) (id : ℕ) (w : View) → Sees log w → Keeps cap e log id w
    → ((j : ℕ) (u : View) → j ≢ id → get_elem? views j ≡ some u → Sees log u × Keeps cap e log j u) → IsFronted cap e log (set views id w)
set_fronted cap e log views id w sees keeps others =
    let all : (j : ℕ) (u : View) → get_elem? (set views id w) j ≡ some u → Sees log u × Keeps cap e log j u =
    (λ j u at. ⊎_elim
    (λ (x : (j ≡ id) × (w ≡ u)). subst (λ (y : View). Sees log y × Keeps cap e log j y) x.1 (sees, λ k. let own = keeps k in (x.0 ∙ own.0, own.1)))
    (λ (x : (j ≢ id) × (get_elem? views j ≡ some u)). others j u x.0 x.1)
    (at_set views id j w u at)) in
    record { fronts = λ j u at. (all j u at).0; keeper = λ j u at. (all j u at).1 }

pub snoc_fronted : (cap e : ℕ) (log : List ℕ) (views : List View) (w : View) → Sees log w → w.keeps ≡ false → IsFronted cap e log views → IsFronted cap e log (views ++ w ∷ [])
snoc_fronted cap e log views w sees none fronted =
    let all : (j : ℕ) (u : View) → get_elem? (views ++ w ∷ []) j ≡ some u → Sees log u × Keeps cap e log j u =
    (λ j u at. ⊎_elim
    (λ (x : get_elem? views j ≡ some u). (fronted.fronts j u x, fronted.keeper j u x))
    (λ (x : w ≡ u). subst (λ (y : View). Sees log y × Keeps cap e log j y) x (sees, λ k. absurd (true≢false (sym k ∙ none))))
    (at_snoc views w u j at)) in
    record { fronts = λ j u at. (all j u at).0; keeper = λ j u at. (all j u at).1 }

-- the others, where nothing but one view changes
stay : (cap e : ℕ) (log : List ℕ) (views : List View) (id : ℕ) → IsFronted cap e log views → (j : ℕ) (u : View) → j ≢ id → get_elem? views j ≡ some u → Sees log u × Keeps cap e log j u
stay cap e log views id fronted j u ne at = (fronted.fronts j u at, fronted.keeper j u at)

-- one view is another, with fronts of the log and as much weight
pub changes_view : (cap : ℕ) (log : List ℕ) (views : List View) (id : ℕ) (v w : View) → IsTied cap log views → get_elem? views id ≡ some v → Sees log w
    → ((g : Tally → ℕ) → load_of g w ≡ load_of g v) → ((e : ℕ) → Keeps cap e log id v → Keeps cap e log id w) → IsTied cap log (set views id w)
changes_view cap log views id v w tied at sees same keeps = record {
  enrolled = tied.enrolled;
  room = tied.room;
  fronted = set_fronted cap tied.enrolled log views id w sees (keeps tied.enrolled (tied.fronted.keeper id v at)) (stay cap tied.enrolled log views id tied.fronted);
  counted = counts_same tied.enrolled log (λ g. weight g views) (λ g. weight g (set views id w)) (λ g. omega (arith, total_set (load_of g) views id v w at, same g)) tied.counted;
}

-- the guest leaves
pub cuts_guest : (cap : ℕ) (log : List ℕ) (views : List View) (id : ℕ) (v : View) → IsTied cap log views → get_elem? views id ≡ some v → IsTied cap log (set views id (kept v) ++ given v ∷ [])
cuts_guest cap log views id v tied at =
    let sees = tied.fronted.fronts id v at in record {
      enrolled = tied.enrolled;
      room = tied.room;
      fronted =
          snoc_fronted cap tied.enrolled log (set views id (kept v)) (given v) (sees.0, (log, refl)) refl
          (set_fronted cap tied.enrolled log views id (kept v) sees
          (λ k. let own = tied.fronted.keeper id v at k in (own.0, record { commits = own.1.commits; many = own.1.many; room = own.1.room }))
          (stay cap tied.enrolled log views id tied.fronted));
      counted = counts_same tied.enrolled log (λ g. weight g views) (λ g. weight g (set views id (kept v) ++ given v ∷ []))
          (λ g. omega (arith, total_append (load_of g) (set views id (kept v)) (given v ∷ []), total_set (load_of g) views id v (kept v) at, total_append g (as_list v.guest) v.ended, total_append g (as_list v.guest) []))
          tied.counted;
    }

-- the counts once one session more was enrolled
enrols_one : (e : ℕ) (log : List ℕ) (f f' : (Tally → ℕ) → ℕ) → ((g : Tally → ℕ) → f' g ≡ f g + g (newcomer (e + 1))) → IsCounted e log f → IsCounted (e + 1) log f'
enrols_one e log f f' same c = record {
  made = let q = same (λ t. t.made) in let p = c.made in omega arith;
  many = let q = same (λ t. 1) in let p = c.many in omega arith;
  once = λ s. dite (ℕ_discrete (e + 1) s)
      (λ is. let one = own s is in let p = c.past s (omega arith) in let q = same (is_of s) in omega arith)
      (λ ne. let none_ = other s ne in let q = same (is_of s) in let p = c.once s in omega arith);
  past = λ s lt. let none_ = other s (λ is. omega arith) in let q = same (is_of s) in let p = c.past s (omega arith) in omega arith;
  numbered = λ s.
      let q = same (mine_of s) in
      let z = zero_mine s in
      let now : f (mine_of s) ≡ f' (mine_of s) = omega arith in
      subst (λ n. AreNumbered s n log) now (c.numbered s);
} where
  own : (s : ℕ) → e + 1 ≡ s → is_of s (newcomer (e + 1)) ≡ 1
  own s is = rw (eq-eqb (e + 1) s is) refl

  other : (s : ℕ) → e + 1 ≢ s → is_of s (newcomer (e + 1)) ≡ 0
  other s ne = rw (ne_eqb (e + 1) s ne) refl

  zero_mine : (s : ℕ) → mine_of s (newcomer (e + 1)) ≡ 0
  zero_mine s = by (nat_eq (e + 1) s) 0 refl where
    by : (b : Bool) (n : ℕ) → n ≡ 0 → (if b then n else 0) ≡ 0
    by true n is = is
    by false n is = refl

-- a session is enrolled
pub cuts_new : (cap : ℕ) (log : List ℕ) (views : List View) (id : ℕ) (v : View) → v.keeps ≡ true → IsTied cap log views → get_elem? views id ≡ some v → IsTied cap log (set views id (enrolled_by v) ++ enrolled v ∷ [])
cuts_new cap log views id v keeper tied at =
    let sees = tied.fronted.fronts id v at in
    let own = tied.fronted.keeper id v at keeper in
    let is : v.enrolled ≡ tied.enrolled = own.1.many in record {
      enrolled = tied.enrolled + 1;
      room = tied.room;
      fronted =
          snoc_fronted cap (tied.enrolled + 1) log (set views id (enrolled_by v)) (enrolled v) (sees.0, (log, refl)) refl
          (set_fronted cap (tied.enrolled + 1) log views id (enrolled_by v) sees
          (λ k. (own.0, record { commits = own.1.commits; many = ap (λ n. n + 1) is; room = own.1.room }))
          (λ j u ne there. (tied.fronted.fronts j u there, λ k. absurd (ne ((tied.fronted.keeper j u there k).0 ∙ sym own.0)))));
      counted = enrols_one tied.enrolled log (λ g. weight g views) (λ g. weight g (set views id (enrolled_by v) ++ enrolled v ∷ []))
          (λ g.
          let new : g (newcomer (v.enrolled + 1)) ≡ g (newcomer (tied.enrolled + 1)) = ap (λ n. g (newcomer (n + 1))) is in
          omega (arith, total_append (load_of g) (set views id (enrolled_by v)) (enrolled v ∷ []), total_set (load_of g) views id v (enrolled_by v) at))
          tied.counted;
    }

-- the keeper takes a session in
pub joins_views : (cap : ℕ) (log : List ℕ) (views : List View) (id other : ℕ) (k v : View) → k.guest ≡ None → v.ended ≡ [] → other ≢ id → IsTied cap log views → get_elem? views id ≡ some k
    → get_elem? (set views id (joined k v)) other ≡ some v → IsTied cap log (set (set views id (joined k v)) other spent)
joins_views cap log views id other k v alone bare ne tied at there =
    let was : get_elem? views other ≡ some v = ⊎_elim (λ (x : (other ≡ id) × (joined k v ≡ v)). absurd (ne x.0)) (λ (x : (other ≢ id) × (get_elem? views other ≡ some v)). x.1) (at_set views id other (joined k v) v there) in
    let first = set_fronted cap tied.enrolled log views id (joined k v) ((tied.fronted.fronts id k at).0, (tied.fronted.fronts other v was).0)
    (λ keeps. let own = tied.fronted.keeper id k at keeps in (own.0, record { commits = own.1.commits; many = own.1.many; room = own.1.room }))
    (stay cap tied.enrolled log views id tied.fronted) in record {
      enrolled = tied.enrolled;
      room = tied.room;
      fronted = set_fronted cap tied.enrolled log (set views id (joined k v)) other spent ((log, refl), (log, refl)) (λ keeps. absurd (true≢false (sym keeps))) (stay cap tied.enrolled log (set views id (joined k v)) other first);
      counted = counts_same tied.enrolled log (λ g. weight g views) (λ g. weight g (set (set views id (joined k v)) other spent))
          (λ g.
          let a = total_set (load_of g) views id k (joined k v) at in
          let b = total_set (load_of g) (set views id (joined k v)) other v spent there in
          let held_k : total g (held k) ≡ total g k.ended = ap (λ o. total g (as_list o ++ k.ended)) alone in
          let held_v : total g (held v) ≡ total g (as_list v.guest ++ []) = ap (λ l. total g (as_list v.guest ++ l)) bare in
          let p = total_append g (as_list v.guest) k.ended in
          let q = total_append g (as_list v.guest) [] in
          omega arith)
          tied.counted;
    }
