-- What the steps of a search keep.
use Rattle.std.proofs.Common.{◌≡◌, ℕ, ◌<◌, ◌≤◌, true, List, [], ◌∷◌, ◌++◌, length, get_or, set, max, Option, Some, refl, ap, ◌∙◌, sym, subst, arith, ℤ, append_assoc}
use Rattle.std.{specs.Prelude.slice_get, specs.List.list_all, proofs.lemmas.List.{append-nil}, proofs.lemmas.Option.slice_get_read}
use Rattle.ct_trail.specs.declared.{look.Look.Look, trail.Put.Put, log.Rup.Rup, log.Entry.Entry, learning.Return.Return}
use Rattle.ct_trail.specs.{Literal.{Clause, is_literal, is_clause, place_of, has, numbered}, Assignment.{falsified, satisfied, IsUnit}, Log.clause_at, Look.{LookOf, IsUndecided, IsUnitAt}}
use Rattle.ct_trail.specs.{Log.{entry_clause, clauses_in, added_in, IsLog}, Trail.{truths_of, IsPutBy, IsTrail}, Learning.IsReturn}
use Rattle.ct_trail.specs.Standing.{Standing, IsStanding, truths_now, log_now, extended, shortened, entered, worth_of, Continues, Advances, SeenAt}
use Rattle.ct_trail.proofs.{Literals.literal_of, Logs.{clauses_more, added_more, none_more, clause_within, clause_wider, clauses_wider, all_push, all_parts, follow_added, follow_learned, entry_at}, Assignments.wider}
use Rattle.ct_trail.proofs.{Growth.{put_open, short, shorter, trail_push, trail_cut, trail_log, get_last, taken_back}, Worths.{worth_push, worth_back}}
use Rattle.ct_trail.specs.declared.log.Entry.TheVariants as entry
use Rattle.ct_trail.specs.declared.look.Look.TheVariants as look
use Rattle.ct_trail.specs.declared.assignment.Truth.TheVariants as truth
use Rattle.ct_derivation.specs.Propagation.{follows}

pub standing_put : (s : Standing) (l : ℤ) (r : Option ℕ) → IsStanding s → IsPutBy (log_now s) (truths_now s) l r → is_literal s.top l ≡ true → IsStanding (extended s l r)
standing_put s l r h by within = record {
  vars = h.vars;
  top = h.top;
  within = h.within;
  least = h.least;
  follow = h.follow;
  trail = trail_push s.vars s.top (log_now s) s.trail (record { literal = l; reason = r }) h.trail by within;
}

pub worth_put : (s : Standing) (l : ℤ) (r : Option ℕ) → IsStanding s → IsPutBy (log_now s) (truths_now s) l r → worth_of s < worth_of (extended s l r)
worth_put s l r h by =
    worth_push s.vars s.trail (record { literal = l; reason = r }) (shorter s.vars s.top (log_now s) s.trail l h.trail (put_open (log_now s) (truths_now s) l r by))

pub standing_cut : (s : Standing) (n : ℕ) → IsStanding s → IsStanding (shortened s n)
standing_cut s n h = record {
  vars = h.vars;
  top = h.top;
  within = h.within;
  least = h.least;
  follow = h.follow;
  trail = trail_cut s.vars s.top (log_now s) s.trail n h.trail;
}

pub standing_added : (s : Standing) (c : Clause) (t : ℕ) → IsStanding s → is_clause s.vars c ≡ true → is_clause t c ≡ true → ((k : ℕ) → is_clause k c ≡ true → t ≤ k)
    → IsStanding (record { vars = s.vars; top = max s.top t; entries = s.entries ++ entry.Added c ∷ []; trail = s.trail })
standing_added s c t h vars within least =
    let top = max s.top t in
    let wide : s.top ≤ top = omega arith in
    let wide_too : t ≤ top = omega arith in
    let more = clauses_more s.entries (entry.Added c ∷ []) in
    let here = least s.vars vars in
    record {
      vars = h.vars;
      top = let le = h.top in omega arith;
      within = ap (list_all (is_clause top)) more ∙ all_push top (clauses_in s.entries) c (clauses_wider s.top top (clauses_in s.entries) wide h.within) (clause_wider t top c wide_too within);
      least = λ k e.
          let parts = all_parts k (added_in s.entries) c (sym (ap (list_all (is_clause k)) (added_more s.entries (entry.Added c ∷ []))) ∙ e) in
          let a : s.top ≤ k = h.least k parts.0 in
          let b : t ≤ k = least k parts.1 in
          omega arith;
      follow = follow_added [] s.entries c h.follow;
      trail = subst (λ (log : List Clause). IsTrail s.vars top log s.trail) (sym more) (trail_log s.vars s.top top (clauses_in s.entries) (c ∷ []) s.trail wide h.trail);
    }

pub standing_learned : (s : Standing) (r : Rup) → IsStanding s → is_clause s.top r.clause ≡ true → follows numbered (clauses_in s.entries) r.clause r.hints ≡ true → IsStanding (entered s (entry.Learned r))
standing_learned s r h within follow =
    let more = clauses_more s.entries (entry.Learned r ∷ []) in
    record {
      vars = h.vars;
      top = h.top;
      within = ap (list_all (is_clause s.top)) more ∙ all_push s.top (clauses_in s.entries) r.clause h.within within;
      least = λ k e. h.least k (sym (ap (list_all (is_clause k)) (added_more s.entries (entry.Learned r ∷ []) ∙ append-nil (added_in s.entries))) ∙ e);
      follow = follow_learned [] s.entries r h.follow follow;
      trail = subst (λ (log : List Clause). IsTrail s.vars s.top log s.trail) (sym more) (trail_log s.vars s.top s.top (clauses_in s.entries) (r.clause ∷ []) s.trail (omega arith) h.trail);
    }

-- a board's log
pub standing_log : (s : Standing) → IsStanding s → IsLog s.vars s.entries
standing_log s h = record {
  within = clauses_wider s.top s.vars (clauses_in s.entries) h.top h.within;
  follow = h.follow;
  narrow = λ k e. clauses_wider s.top k (clauses_in s.entries) (h.least k e) h.within;
}

-- the literal of a unit has a variable of the added clauses
pub unit_within : (s : Standing) (l : ℤ) (k : ℕ) → IsStanding s → IsUnitAt (truths_now s) l (log_now s) k → is_literal s.top l ≡ true
unit_within s l k h u = literal_of s.top (clause_at (log_now s) k) l (clause_within s.top (log_now s) k h.within u.place) u.unit.member

pub continues_then : (s t u : Standing) → Continues s t → Continues t u → Continues s u
continues_then s t u a b = record {
  vars = b.vars ∙ a.vars;
  more = a.more ++ b.more;
  is = b.is ∙ ap (λ x. x ++ b.more) a.is ∙ append_assoc s.entries a.more b.more;
  none = none_more a.more b.more a.none b.none;
}

pub advances_then : (s t u : Standing) → Advances s t → Advances t u → Advances s u
advances_then s t u a b = record { continues = continues_then s t u a.continues b.continues; worth = let x = a.worth in let y = b.worth in omega arith }

pub worth_return : (s : Standing) (r : Return) (c : Clause) (k : ℕ) → IsStanding s → IsReturn s.vars s.trail c r → worth_of s < worth_of (extended (shortened s r.cut) r.literal (Some k))
worth_return s r c k h back =
    worth_back s.vars s.trail r.cut back.decision (record { literal = r.literal; reason = Some k }) k back.there back.decided refl
    (omega (arith, short s.vars s.top (log_now s) s.trail h.trail))

-- the last literal of a trail
pub last_within : (s : Standing) (ps : List Put) (x : Put) → IsStanding s → s.trail ≡ ps ++ x ∷ [] → is_literal s.vars x.literal ≡ true
last_within s ps x h is =
    wider s.top s.vars x.literal h.top (h.trail.narrow (length ps) x (subst (λ (q : List Put). slice_get q (length ps) ≡ Some x) (sym is) (get_last ps x)))

pub last_back : (s : Standing) (ps : List Put) (x : Put) → IsStanding s → s.trail ≡ ps ++ x ∷ [] → set (truths_now s) (place_of x.literal) truth.Open ≡ truths_of s.vars ps
last_back s ps x h is =
    subst (λ (q : List Put). set (truths_of s.vars q) (place_of x.literal) truth.Open ≡ truths_of s.vars ps) (sym is)
    (taken_back s.vars s.top (log_now s) ps x (subst (λ (q : List Put). IsTrail s.vars s.top (log_now s) q) is h.trail))

-- a clause of the log
pub seen_at : (s : Standing) (k : ℕ) (e : Entry) (look : Look) → IsStanding s → slice_get s.entries k ≡ Some e → LookOf (truths_now s) (entry_clause e) look → SeenAt s k look
seen_at s k e look.Satisfied h at l = λ lt. ap (satisfied (truths_now s)) (entry_at s.entries k e at).1 ∙ l
seen_at s k e look.Falsified h at l =
    let there = entry_at s.entries k e at in
    record { place = there.0; none = ap (falsified (truths_now s)) there.1 ∙ l }
seen_at s k e (look.Unit m) h at l =
    let there = entry_at s.entries k e at in
    record { place = there.0; unit = subst (λ (c : Clause). IsUnit (truths_now s) c m) (sym there.1) l }
seen_at s k e (look.Undecided m) h at l =
    let there = entry_at s.entries k e at in
    (there.0, subst (λ (c : Clause). IsUndecided (truths_now s) c m) (sym there.1) l, literal_of s.top (entry_clause e) m (ap (is_clause s.top) (sym there.1) ∙ clause_within s.top (log_now s) k h.within there.0) l.member)

pub worth_returned : (s t u : Standing) (r : Return) (k : ℕ) → IsStanding s → IsReturn s.vars s.trail (clause_at (log_now s) k) r → t ≡ shortened s r.cut → u ≡ extended t r.literal (Some k) → worth_of s < worth_of u
worth_returned s t u r k h back cut put =
    subst (λ (x : Standing). worth_of s < worth_of x) (sym (put ∙ ap (λ (x : Standing). extended x r.literal (Some k)) cut)) (worth_return s r (clause_at (log_now s) k) k h back)

-- what a look at an added clause tells of the log
pub scan_within : (n top : ℕ) (es : List Entry) (k : ℕ) (e : Entry) → k < length es → e ≡ get_or es k e → top ≤ n → list_all (is_clause top) (clauses_in es) ≡ true → is_clause n (entry_clause e) ≡ true
scan_within n top es k e lt is le all =
    let there = entry_at es k e (slice_get_read es (length es) k e refl lt is) in
    clause_wider top n (entry_clause e) le (ap (is_clause top) (sym there.1) ∙ clause_within top (clauses_in es) k all there.0)

pub scan_open : (top : ℕ) (es : List Entry) (k : ℕ) (e : Entry) (l : ℤ) → k < length es → e ≡ get_or es k e → list_all (is_clause top) (clauses_in es) ≡ true → has (entry_clause e) l ≡ true → is_literal top l ≡ true
scan_open top es k e l lt is all m = literal_of top (entry_clause e) l (scan_within top top es k e lt is (omega arith) all) m
