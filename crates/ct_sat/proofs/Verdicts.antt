-- From the end of the search to a verdict.
use Rattle.std.proofs.Common.{◌≡◌, ◌&&◌, ℕ, zero, suc, ◌+◌, ◌-◌, ◌<◌, take, arith, Option, Some, None, Bool, true, false, not, List, [], ◌∷◌, ◌++◌, length, get_or, map, refl, ap, ◌∙◌, sym, pos, negsuc, ℤ, inl, inr, append_assoc}
use Rattle.std.{specs.Prelude.{slice_get, IsTrue, ◌↔◌}, specs.List.list_all, proofs.lemmas.List.{length-map, append-nil, map-append, take_more}}
use Rattle.std.proofs.lemmas.Bool.{and_parts, and_from, or_cases, or_left, or_right, false≢true}
use Rattle.ct_derivation.{specs.declared.steps.Cnf.Cnf, specs.Propagation.follows}
use Rattle.ct_trail.specs.{declared.assignment.Truth.Truth, declared.log.Rup.Rup, declared.log.Entry.Entry, Literal.{Clause, numbered, is_clause}}
use Rattle.ct_trail.specs.Assignment.{truth_of, inverted, is_true, satisfied}
use Rattle.ct_sat.specs.Verdict.{clause_of, each_follows, holds, satisfies, IsModel, is_empty, ends_empty, IsRefutation}
use Rattle.ct_trail.specs.Log.{clauses_in, added_in, learned_in, each_learned_follows, IsLog}
use Rattle.ct_sat.specs.Log.{State, ends_refuted, Learns, IsModelOf}
use Rattle.ct_trail.proofs.Logs.{added_more}
use Rattle.ct_trail.specs.Standing.{Standing, Learned, truths_now}
use Rattle.ct_trail.specs.declared.assignment.Truth.TheVariants as truth
use Rattle.ct_trail.specs.declared.log.Entry.TheVariants as entry

truth_at_map : (ts : List Truth) (n : ℕ) → get_or (map is_true ts) n false ≡ is_true (get_or ts n truth.Open)
truth_at_map [] n = refl
truth_at_map (t ∷ ts) zero = refl
truth_at_map (t ∷ ts) (suc n) = truth_at_map ts n

inverted_true : (t : Truth) → is_true (inverted t) ≡ true → not (is_true t) ≡ true
inverted_true truth.Open e = absurd (false≢true e)
inverted_true truth.True e = absurd (false≢true e)
inverted_true truth.False e = refl

true_holds : (ts : List Truth) (l : ℤ) → is_true (truth_of ts l) ≡ true → holds (map is_true ts) l ≡ true
true_holds ts (pos zero) e = absurd (false≢true e)
true_holds ts (pos (suc n)) e = truth_at_map ts n ∙ e
true_holds ts (negsuc n) e = ap not (truth_at_map ts n) ∙ inverted_true (get_or ts n truth.Open) e

satisfied_holds : (ts : List Truth) (c : Clause) → satisfied ts c ≡ true → satisfies (map is_true ts) c ≡ true
unfolding satisfied satisfies
satisfied_holds ts [] e = absurd (false≢true e)
satisfied_holds ts (l ∷ c) e =
    elim (or_cases (is_true (truth_of ts l)) (satisfied ts c) e) [ inl y ↦ or_left _ _ (true_holds ts l y) | inr y ↦ or_right (holds (map is_true ts) l) _ (satisfied_holds ts c y) ]

-- what is true by the truths is so in their model
pub model_holds : (ts : List Truth) (cs : List Clause) → list_all (satisfied ts) cs ≡ true → list_all (satisfies (map is_true ts)) cs ≡ true
model_holds ts [] e = refl
model_holds ts (c ∷ cs) e =
    let parts = and_parts (satisfied ts c) (list_all (satisfied ts) cs) e in
    and_from _ _ (satisfied_holds ts c parts.0) (model_holds ts cs parts.1)

ends_more : (r : Rup) (steps : List Rup) → ends_empty steps ≡ true → ends_empty (r ∷ steps) ≡ true
ends_more r [] e = absurd (false≢true e)
ends_more r (s ∷ steps) e = e

ends_learned : (es : List Entry) → ends_refuted es ≡ true → ends_empty (learned_in es) ≡ true
ends_learned [] e = absurd (false≢true e)
ends_learned (entry.Added c ∷ []) e = absurd (false≢true e)
ends_learned (entry.Learned r ∷ []) e = e
ends_learned (entry.Added c ∷ f ∷ es) e = ends_learned (f ∷ es) e
ends_learned (entry.Learned r ∷ f ∷ es) e = ends_more r (learned_in (f ∷ es)) (ends_learned (f ∷ es) e)

-- the last entry of a log that has one more
ends_last : (es : List Entry) (r : Rup) → r.clause ≡ [] → ends_refuted (es ++ entry.Learned r ∷ []) ≡ true
ends_last [] r e = ap is_empty e
ends_last (entry.Added c ∷ []) r e = ap is_empty e
ends_last (entry.Learned s ∷ []) r e = ap is_empty e
ends_last (entry.Added c ∷ f ∷ es) r e = ends_last (f ∷ es) r e
ends_last (entry.Learned s ∷ f ∷ es) r e = ends_last (f ∷ es) r e

-- the empty clause was learned
pub refuted_learned : (s t : Standing) → Learned s t None → ends_refuted t.entries ≡ true
refuted_learned s t h = ap (λ (x : Standing). ends_refuted x.entries) h.is ∙ ends_last s.entries h.step h.returns

added_all : (cs : List Clause) → added_in (map entry.Added cs) ≡ cs
added_all [] = refl
added_all (c ∷ cs) = ap (λ x. c ∷ x) (added_all cs)

learned_past : (cs : List Clause) (more : List Entry) → learned_in (map entry.Added cs ++ more) ≡ learned_in more
learned_past [] more = refl
learned_past (c ∷ cs) more = learned_past cs more

follow_past : (log cs : List Clause) (more : List Entry) → each_learned_follows log (map entry.Added cs ++ more) ≡ each_learned_follows (log ++ cs) more
follow_past log [] more = ap (λ x. each_learned_follows x more) (sym (append-nil log))
follow_past log (c ∷ cs) more = follow_past (log ++ c ∷ []) cs more ∙ ap (λ x. each_learned_follows x more) (append_assoc log (c ∷ []) cs)

follow_steps : (log : List Clause) (more : List Entry) → added_in more ≡ [] → each_learned_follows log more ≡ each_follows log (learned_in more)
follow_steps log [] e = refl
follow_steps log (entry.Added c ∷ more) e = cc
follow_steps log (entry.Learned r ∷ more) e = ap (λ b. follows numbered log r.clause r.hints && b) (follow_steps (log ++ r.clause ∷ []) more e)

within_steps : (n : ℕ) (es : List Entry) → list_all (is_clause n) (clauses_in es) ≡ true → list_all (is_clause n) (map clause_of (learned_in es)) ≡ true
within_steps n [] e = refl
within_steps n (entry.Added c ∷ es) e = within_steps n es (and_parts (is_clause n c) _ e).1
within_steps n (entry.Learned r ∷ es) e =
    let parts = and_parts (is_clause n r.clause) _ e in
    and_from _ _ parts.0 (within_steps n es parts.1)

-- the learned clauses of a solver that was given these
pub refuted : (cnf : Cnf) (old new : State) → old ≡ record { vars = cnf.vars; entries = map entry.Added cnf.clauses; failed = false } → Learns old new → IsLog new.vars new.entries → ends_refuted new.entries ≡ true → IsRefutation cnf (learned_in new.entries)
refuted cnf old new was learns log ends =
    let is = learns.is ∙ ap (λ (s : State). s.entries ++ learns.more) was in
    let vars = learns.vars ∙ ap (λ (s : State). s.vars) was in
    let steps = ap learned_in is ∙ learned_past cnf.clauses learns.more in
    record {
      within = ap (λ n. list_all (is_clause n) (map clause_of (learned_in new.entries))) (sym vars) ∙ within_steps new.vars new.entries log.within;
      follow = ap (each_follows cnf.clauses) steps ∙ sym (follow_steps cnf.clauses learns.more learns.none)
          ∙ sym (ap (each_learned_follows []) is ∙ follow_past [] cnf.clauses learns.more) ∙ log.follow;
      empty = ends_learned new.entries ends;
    }

-- the model of a solver that was given these
pub modelled : (cnf : Cnf) (old new : State) (m : List Bool) → old ≡ record { vars = cnf.vars; entries = map entry.Added cnf.clauses; failed = false } → Learns old new → IsModelOf new.vars (added_in new.entries) m → IsModel cnf m
modelled cnf old new m was learns model =
    let is = learns.is ∙ ap (λ (s : State). s.entries ++ learns.more) was in
    let vars = learns.vars ∙ ap (λ (s : State). s.vars) was in
    let added = ap added_in is ∙ added_more (map entry.Added cnf.clauses) learns.more ∙ ap (λ x. added_in (map entry.Added cnf.clauses) ++ x) learns.none
    ∙ append-nil (added_in (map entry.Added cnf.clauses)) ∙ added_all cnf.clauses in
    record {
      truths = model.truths ∙ vars;
      satisfied = ap (list_all (satisfies m)) (sym added) ∙ model.satisfied;
    }

-- the model of a board whose added clauses are all true
pub model_of : (s : Standing) (m : List Bool) → m ≡ map is_true (truths_now s) → length (truths_now s) ≡ s.vars → list_all (satisfied (truths_now s)) (added_in s.entries) ≡ true → IsModelOf s.vars (added_in s.entries) m
model_of s m is vars all = record {
  truths = ap length is ∙ length-map (truths_now s) is_true ∙ vars;
  satisfied = ap (λ (x : List Bool). list_all (satisfies x) (added_in s.entries)) is ∙ model_holds (truths_now s) (added_in s.entries) all;
}

pub item_within : (n : ℕ) (cs : List Clause) (k : ℕ) (c : Clause) → list_all (is_clause n) cs ≡ true → k < length cs → c ≡ get_or cs k c → is_clause n c ≡ true
item_within n [] k c e lt is = absurd (omega arith)
item_within n (d ∷ cs) zero c e lt is = ap (is_clause n) is ∙ (and_parts (is_clause n d) _ e).0
item_within n (d ∷ cs) (suc k) c e lt is = item_within n cs k c (and_parts (is_clause n d) _ e).1 (omega arith) is

abbrev given_as : ℕ → List Entry → State
given_as vars es = record { vars = vars; entries = es; failed = false }

-- a solver that was given one more clause
pub given_more : (s t : State) (vars : ℕ) (cs : List Clause) (k : ℕ) (c d : Clause) → s ≡ record { vars = vars; entries = map entry.Added (take k cs); failed = false } → k < length cs → c ≡ get_or cs k c → d ≡ c
    → t ≡ record { vars = s.vars; entries = s.entries ++ entry.Added d ∷ []; failed = false } → t ≡ record { vars = vars; entries = map entry.Added (take (k + 1) cs); failed = false }
given_more s t vars cs k c d s_is lt c_is d_is t_is =
    let last : get_or cs k c ≡ d = sym c_is ∙ sym d_is in
    let all : map entry.Added (take (k + 1) cs) ≡ map entry.Added (take k cs) ++ entry.Added d ∷ [] =
    ap (map entry.Added) (take_more cs k c lt ∙ ap (λ x. take k cs ++ x ∷ []) last) ∙ map-append entry.Added (take k cs) (d ∷ []) in
    let now : record { vars = s.vars; entries = s.entries ++ entry.Added d ∷ []; failed = false } ≡ record { vars = vars; entries = map entry.Added (take k cs) ++ entry.Added d ∷ []; failed = false } =
    ap (λ (x : State). given_as x.vars (x.entries ++ entry.Added d ∷ [])) s_is in
    let done : given_as vars (map entry.Added (take k cs) ++ entry.Added d ∷ []) ≡ given_as vars (map entry.Added (take (k + 1) cs)) = ap (given_as vars) (sym all) in
    t_is ∙ now ∙ done

abbrev ends_in : Option Entry → Bool
ends_in None = false
ends_in (Some (entry.Added c)) = false
ends_in (Some (entry.Learned r)) = is_empty r.clause

ends_later : (e f : Entry) (es : List Entry) → ends_in (slice_get (f ∷ es) (length (f ∷ es) - 1)) ≡ ends_in (slice_get (e ∷ f ∷ es) (length (e ∷ f ∷ es) - 1))
ends_later e f es =
    let before : length (f ∷ es) - 1 ≡ length es = omega arith in
    let after : suc (length es) ≡ length (e ∷ f ∷ es) - 1 = omega arith in
    ap (λ k. ends_in (slice_get (f ∷ es) k)) before ∙ ap (λ k. ends_in (slice_get (e ∷ f ∷ es) k)) after

ends_at : (es : List Entry) → ends_refuted es ≡ ends_in (slice_get es (length es - 1))
ends_at [] = refl
ends_at (entry.Added c ∷ []) = refl
ends_at (entry.Learned r ∷ []) = refl
ends_at (entry.Added c ∷ f ∷ es) = ends_at (f ∷ es) ∙ ends_later (entry.Added c) f es
ends_at (entry.Learned r ∷ f ∷ es) = ends_at (f ∷ es) ∙ ends_later (entry.Learned r) f es

-- a test of the last entry's clause
pub refuted_at : (es : List Entry) (r : Rup) (b : Bool) → IsTrue b ↔ (r.clause ≡ []) → Some (entry.Learned r) ≡ slice_get es (length es - 1) → b ≡ true → ends_refuted es ≡ true
refuted_at es r b t at e = ends_at es ∙ ap ends_in (sym at) ∙ ap is_empty (t.0 e)
