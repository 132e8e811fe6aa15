-- A log that grows.
use Rattle.std.proofs.Common.{◌≡◌, ℕ, zero, suc, ◌+◌, ◌<◌, ◌≤◌, Bool, true, List, [], ◌∷◌, ◌++◌, length, get_or, take, max, Some, refl, ap, ◌∙◌, sym, arith, append_assoc, ℤ, pos, negsuc}
use Rattle.std.{specs.Prelude.{slice_get, option_map}, specs.List.list_all, proofs.lemmas.List.{append-nil, map-append, get_or_push, length_push, length-map, take_more}, proofs.lemmas.List.Folds.list_all-append}
use Rattle.std.proofs.lemmas.{Bool.{and_parts, and_from}, Bool.Decides.Decides-ltb, Option.{slice_get-map, slice_get_within, get_or_from_slice_get}}
use Rattle.ct_trail.specs.{declared.log.Rup.Rup, declared.log.Entry.Entry, Literal.{Clause, numbered, is_literal, is_clause, place_of}, Log.clause_at}
use Rattle.ct_trail.specs.Log.{entry_clause, clauses_in, added_in, learned_in, each_learned_follows}
use Rattle.ct_trail.proofs.{Assignments.{wider, place_within}, Literals.literal_at}
use Rattle.ct_trail.specs.declared.log.Entry.TheVariants as entry
use Rattle.ct_derivation.specs.Propagation.{follows}

pub clauses_more : (a b : List Entry) → clauses_in (a ++ b) ≡ clauses_in a ++ clauses_in b
clauses_more a b = map-append entry_clause a b

pub added_more : (a b : List Entry) → added_in (a ++ b) ≡ added_in a ++ added_in b
added_more [] b = refl
added_more (entry.Added c ∷ a) b = ap (λ x. c ∷ x) (added_more a b)
added_more (entry.Learned r ∷ a) b = added_more a b

pub none_more : (a b : List Entry) → added_in a ≡ [] → added_in b ≡ [] → added_in (a ++ b) ≡ []
none_more a b e f = added_more a b ∙ ap (λ x. x ++ added_in b) e ∙ f

pub clause_within : (vars : ℕ) (log : List Clause) (k : ℕ) → list_all (is_clause vars) log ≡ true → k < length log → is_clause vars (clause_at log k) ≡ true
clause_within vars [] k e lt = absurd (omega arith)
clause_within vars (c ∷ log) zero e lt = (and_parts (is_clause vars c) _ e).0
clause_within vars (c ∷ log) (suc k) e lt = clause_within vars log k (and_parts (is_clause vars c) _ e).1 (omega arith)

pub clause_wider : (n m : ℕ) (c : Clause) → n ≤ m → is_clause n c ≡ true → is_clause m c ≡ true
unfolding is_clause
clause_wider n m [] le e = refl
clause_wider n m (l ∷ c) le e =
    let parts = and_parts (is_literal n l) (is_clause n c) e in
    and_from _ _ (wider n m l le parts.0) (clause_wider n m c le parts.1)

pub clauses_wider : (n m : ℕ) (cs : List Clause) → n ≤ m → list_all (is_clause n) cs ≡ true → list_all (is_clause m) cs ≡ true
clauses_wider n m [] le e = refl
clauses_wider n m (c ∷ cs) le e =
    let parts = and_parts (is_clause n c) (list_all (is_clause n) cs) e in
    and_from _ _ (clause_wider n m c le parts.0) (clauses_wider n m cs le parts.1)

-- each of some clauses, and one more
pub all_push : (n : ℕ) (cs : List Clause) (c : Clause) → list_all (is_clause n) cs ≡ true → is_clause n c ≡ true → list_all (is_clause n) (cs ++ c ∷ []) ≡ true
all_push n cs c e f = list_all-append (is_clause n) cs (c ∷ []) ∙ and_from _ _ e (and_from _ true f refl)

pub all_parts : (n : ℕ) (cs : List Clause) (c : Clause) → list_all (is_clause n) (cs ++ c ∷ []) ≡ true → (list_all (is_clause n) cs ≡ true) × (is_clause n c ≡ true)
all_parts n cs c e =
    let parts = and_parts (list_all (is_clause n) cs) _ (sym (list_all-append (is_clause n) cs (c ∷ [])) ∙ e) in
    (parts.0, (and_parts (is_clause n c) true parts.1).0)

pub follow_added : (log : List Clause) (es : List Entry) (c : Clause) → each_learned_follows log es ≡ true → each_learned_follows log (es ++ entry.Added c ∷ []) ≡ true
follow_added log [] c e = refl
follow_added log (entry.Added d ∷ es) c e = follow_added (log ++ d ∷ []) es c e
follow_added log (entry.Learned r ∷ es) c e =
    let parts = and_parts (follows numbered log r.clause r.hints) _ e in
    and_from _ _ parts.0 (follow_added (log ++ r.clause ∷ []) es c parts.1)

pub follow_learned : (log : List Clause) (es : List Entry) (s : Rup) → each_learned_follows log es ≡ true → follows numbered (log ++ clauses_in es) s.clause s.hints ≡ true → each_learned_follows log (es ++ entry.Learned s ∷ []) ≡ true
follow_learned log [] s e f = and_from _ true (ap (λ x. follows numbered x s.clause s.hints) (sym (append-nil log)) ∙ f) refl
follow_learned log (entry.Added d ∷ es) s e f =
    follow_learned (log ++ d ∷ []) es s e (ap (λ x. follows numbered x s.clause s.hints) (append_assoc log (d ∷ []) (clauses_in es)) ∙ f)
follow_learned log (entry.Learned r ∷ es) s e f =
    let parts = and_parts (follows numbered log r.clause r.hints) _ e in
    and_from _ _ parts.0 (follow_learned (log ++ r.clause ∷ []) es s parts.1 (ap (λ x. follows numbered x s.clause s.hints) (append_assoc log (r.clause ∷ []) (clauses_in es)) ∙ f))

-- the last clause of a log that has one more
pub last_clause : (es : List Entry) (e : Entry) (k : ℕ) → k ≡ length es → (k < length (clauses_in (es ++ e ∷ []))) × (clause_at (clauses_in (es ++ e ∷ [])) k ≡ entry_clause e)
last_clause es e k is =
    let more = clauses_more es (e ∷ []) in
    let many = length-map es entry_clause in (
      omega (arith, ap length more, length_push (clauses_in es) (entry_clause e)),
      ap (λ x. get_or x k []) more ∙ get_or_push (clauses_in es) (entry_clause e) [] k (omega (arith, many)),
    )

-- the entry at a position
pub entry_at : (es : List Entry) (k : ℕ) (e : Entry) → slice_get es k ≡ Some e → (k < length (clauses_in es)) × (clause_at (clauses_in es) k ≡ entry_clause e)
entry_at es k e at =
    let there : slice_get (clauses_in es) k ≡ Some (entry_clause e) = slice_get-map entry_clause es k ∙ ap (option_map entry_clause) at in
    (slice_get_within (clauses_in es) k (entry_clause e) there, get_or_from_slice_get (clauses_in es) k (entry_clause e) [] there)

pub learned_more : (a b : List Entry) → learned_in (a ++ b) ≡ learned_in a ++ learned_in b
learned_more [] b = refl
learned_more (entry.Added c ∷ a) b = learned_more a b
learned_more (entry.Learned r ∷ a) b = ap (λ x. r ∷ x) (learned_more a b)

-- the clauses up to one more entry
pub added_take : (p : Clause → Bool) (es : List Entry) (k : ℕ) (e : Entry) → k < length es → e ≡ get_or es k e → list_all p (added_in (take k es)) ≡ true → list_all p (added_in (e ∷ [])) ≡ true → list_all p (added_in (take (k + 1) es)) ≡ true
added_take p es k e lt is a b =
    ap (λ x. list_all p (added_in x)) (take_more es k e lt ∙ ap (λ x. take k es ++ x ∷ []) (sym is))
    ∙ ap (list_all p) (added_more (take k es) (e ∷ [])) ∙ list_all-append p (added_in (take k es)) (added_in (e ∷ [])) ∙ and_from _ _ a b

-- the greatest variable of a clause, as far as its literals have been looked at
within_by : (n m : ℕ) (l : ℤ) → is_literal m l ≡ true → place_of l < n → is_literal n l ≡ true
within_by n m (pos zero) e lt = e
within_by n m (pos (suc k)) e lt = (Decides-ltb k n).1 lt
within_by n m (negsuc k) e lt = (Decides-ltb k n).1 lt

pub greatest_more : (m t a : ℕ) (c : Clause) (i : ℕ) → is_clause m c ≡ true → i < length c → is_clause t (take i c) ≡ true → a ≡ place_of (get_or c i (pos 0)) + 1 → is_clause (max t a) (take (i + 1) c) ≡ true
unfolding is_clause
greatest_more m t a c i all lt e is =
    let l = get_or c i (pos 0) in
    let low : t ≤ max t a = omega arith in
    let high : place_of l < max t a = omega (arith, is) in
    ap (is_clause (max t a)) (take_more c i (pos 0) lt) ∙ list_all-append (is_literal (max t a)) (take i c) (l ∷ [])
    ∙ and_from _ _ (clause_wider t (max t a) (take i c) low e) (and_from _ true (within_by (max t a) m l (literal_at m c i (pos 0) all lt) high) refl)

pub variable_least : (k a : ℕ) (c : Clause) (i : ℕ) → i < length c → a ≡ place_of (get_or c i (pos 0)) + 1 → is_clause k c ≡ true → a ≤ k
variable_least k a c i lt is e = let h = place_within k (get_or c i (pos 0)) (literal_at k c i (pos 0) e lt) in omega (arith, is)
