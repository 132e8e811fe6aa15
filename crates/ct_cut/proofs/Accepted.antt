-- The derivation that the log of a solver gives is accepted.
use Rattle.std.proofs.Common.{◌≡◌, ℕ, true, ◌&&◌, List, [], ◌∷◌, ◌++◌, ◌<◌, suc, length, map, drop, get_or, Some, refl, ap, ◌∙◌, sym, subst, arith, inl, inr, ℤ}
use Rattle.std.{specs.Prelude.Contains, specs.List.list_all, proofs.lemmas.Bool.{and_parts, and_from, false≢true, lt-ltb}, proofs.lemmas.Option.none-some}
use Rattle.std.{proofs.lemmas.List.{map-append, length-map}, proofs.lemmas.List.Folds.{list_all-append, list_any_at}}
use Rattle.std.proofs.lemmas.List.Sums.{list_all-from_AllPass}
use Rattle.ct_word.{specs.WellFormed.is_place_of, proofs.Items.{unmapped_item, item_cases, no_item}}
use Rattle.ct_derivation.{specs.declared.literals.Atom.Atom, specs.declared.literals.Lit.Lit, specs.declared.steps.Why.Why, specs.declared.steps.Step.Step}
use Rattle.ct_derivation.{specs.declared.steps.Derivation.Derivation, specs.Literal.{Clause, same_lit, has, same_members}, specs.Propagation.follows}
use Rattle.ct_derivation.specs.Variables.{signed}
use Rattle.ct_derivation.specs.Accepts.{over_atoms, clauses_of, fits_atom, fits_lit, hints_of, gives, is_right, all_right, ends_empty, is_empty, accepts, Accepts}
use Rattle.ct_trail.specs.{declared.log.Rup.Rup, declared.log.Entry.Entry, Literal.{is_literal, is_clause, numbered}}
use Rattle.ct_trail.specs.Log.{entry_clause, clauses_in, added_in, each_learned_follows}
use Rattle.ct_sat.{specs.Log.ends_refuted, proofs.Carried.follows_carried}
use Rattle.ct_cnf.specs.Encoding.{named, through, origin_clause, AreOrigins, AreDistinct, HasNodesBelow, HasPairsBelow}
use Rattle.ct_cut.specs.Translation.{step, entry_step, origin_count, origin_at, steps_of}
use Rattle.ct_cut.specs.Cut.{IsAtomBelow, IsHintOfLater, IsCut, ranks, step_by, all_hints, hints_at, HaveEarlier, AreNeeded, IsCutOf}
use Rattle.ct_cut.{proofs.Kept.{all_item, kept_item}, proofs.Cuts.{hints_in, right_earlier, right_kept, end_kept, hint_kept}}
use Rattle.ct_cut.proofs.Named.{same_lit_self, carries, atom_there}
use Rattle.ct_word.specs.declared.kinds.Class.TheVariants as class
use Rattle.ct_derivation.specs.declared.literals.Atom.TheVariants as atom
use Rattle.ct_derivation.specs.declared.steps.Why.TheVariants as why
use Rattle.ct_trail.specs.declared.log.Entry.TheVariants as entry
use Rattle.ct_derivation.specs.Accepts as accepted
use Rattle.ct_sat.specs.Verdict as verdict

same_members_self : (ls : Clause) → same_members ls ls ≡ true
unfolding same_members has
same_members_self ls =
    let all = list_all-from_AllPass (has ls) ls (λ k d lt. list_any_at (same_lit (get_or ls k d)) ls k d lt (same_lit_self (get_or ls k d))) in
    and_from _ _ all all

module _ (words : List ℕ) (root : ℕ) (atoms : List Atom) (nodes : HasNodesBelow words root atoms) (terms : HasPairsBelow words root atoms) where
  fits_there : (a : Atom) → Contains atoms a → fits_atom words a ≡ true
  unfolding fits_atom
  fits_there (atom.Node p) h = (nodes p h).condition
  fits_there (atom.Same s t) h =
      let pair = terms s t h in
      and_from _ _ (and_from (is_place_of words class.Term s) (is_place_of words class.Term t) pair.first.term pair.second.term) (lt-ltb s t pair.ordered)

  pub fits_through : (ls : List ℤ) → is_clause (length atoms) ls ≡ true → list_all (fits_lit words) (through atoms ls) ≡ true
  unfolding is_clause fits_lit
  fits_through [] e = refl
  fits_through (l ∷ ls) e =
      let parts = and_parts (is_literal (length atoms) l) _ e in
      and_from (fits_atom words (named atoms (signed l)).atom) _ (fits_there _ (atom_there atoms l parts.0)) (fits_through ls parts.1)

  origin_gives : (earlier : List Step) (w : Why) (c : Clause) → origin_clause words root w ≡ Some c → gives words root earlier w c ≡ true
  unfolding gives
  origin_gives earlier (why.Rup hs) c e = absurd (none-some c e)
  origin_gives earlier _ c e = ap (λ o. accepted.is_clause o c) e ∙ same_members_self c

  given_is_right : (earlier : List Step) (ls : List ℤ) (w : Why) → is_clause (length atoms) ls ≡ true → origin_clause words root w ≡ Some (through atoms ls)
      → is_right words root earlier (step (through atoms ls) w) ≡ true
  unfolding is_right
  given_is_right earlier ls w v e = and_from _ _ (fits_through ls v) (origin_gives earlier w (through atoms ls) e)

module _ (words : List ℕ) (root : ℕ) (atoms : List Atom) (nodes : HasNodesBelow words root atoms) (terms : HasPairsBelow words root atoms) (distinct : AreDistinct atoms) where
  abbrev vars : ℕ
  vars = length atoms

  abbrev AreWithin : List (List ℤ) → Type 0
  AreWithin log = list_all (is_clause vars) log ≡ true

  learned_is_right : (earlier : List Step) (log : List (List ℤ)) (w : Why) (r : Rup) → clauses_of earlier ≡ map (through atoms) log → AreWithin log
      → is_clause vars r.clause ≡ true → follows numbered log r.clause r.hints ≡ true → is_right words root earlier (entry_step atoms w (entry.Learned r)) ≡ true
  unfolding is_right gives
  learned_is_right earlier log x r is v w f =
      and_from _ _ (fits_through words root atoms nodes terms r.clause w)
      (ap (λ cs. follows over_atoms cs (through atoms r.clause) r.hints) is
      ∙ follows_carried vars over_atoms (λ l. named atoms (signed l)) (carries atoms distinct) log r.clause r.hints v w ∙ f)

  clauses_more : (earlier : List Step) (log : List (List ℤ)) (c : List ℤ) (w : Why) → clauses_of earlier ≡ map (through atoms) log → clauses_of (earlier ++ step (through atoms c) w ∷ []) ≡ map (through atoms) (log ++ c ∷ [])
  clauses_more earlier log c w is =
      map-append accepted.clause_of earlier (step (through atoms c) w ∷ []) ∙ ap (λ xs. xs ++ through atoms c ∷ []) is ∙ sym (map-append (through atoms) log (c ∷ []))

  within_more : (log : List (List ℤ)) (c : List ℤ) → AreWithin log → is_clause vars c ≡ true → AreWithin (log ++ c ∷ [])
  within_more log c v w = list_all-append (is_clause vars) log (c ∷ []) ∙ and_from _ _ v (and_from _ true w refl)

  -- each entry is right after those before it
  steps_right : (es : List Entry) (ws : List Why) (earlier : List Step) (log : List (List ℤ)) → clauses_of earlier ≡ map (through atoms) log → AreWithin log
      → AreOrigins words root atoms (added_in es) ws → AreWithin (clauses_in es) → each_learned_follows log es ≡ true → all_right words root earlier (steps_of atoms ws es) ≡ true
  steps_right [] ws earlier log is v o w f = refl
  steps_right (entry.Added c ∷ es) [] earlier log is v o w f = cc
  steps_right (entry.Added c ∷ es) (x ∷ ws) earlier log is v o w f =
      let parts = and_parts (is_clause vars c) _ w in
      and_from _ _ (given_is_right words root atoms nodes terms earlier c x parts.0 (cc))
      (steps_right es ws (earlier ++ step (through atoms c) x ∷ []) (log ++ c ∷ []) (clauses_more earlier log c x is) (within_more log c v parts.0) (cc) parts.1 f)
  steps_right (entry.Learned r ∷ es) ws earlier log is v o w f =
      let parts = and_parts (is_clause vars r.clause) _ w in
      let follow = and_parts (follows numbered log r.clause r.hints) _ f in
      and_from _ _ (learned_is_right earlier log (origin_at ws 0) r is v parts.0 follow.0)
      (steps_right es ws (earlier ++ step (through atoms r.clause) (why.Rup r.hints) ∷ []) (log ++ r.clause ∷ [])
      (clauses_more earlier log r.clause (why.Rup r.hints) is) (within_more log r.clause v parts.0) o parts.1 follow.1)

  empty_through : (ls : List ℤ) → verdict.is_empty ls ≡ true → is_empty (through atoms ls) ≡ true
  empty_through [] h = refl
  empty_through (l ∷ ls) h = absurd (false≢true h)

  steps_end : (es : List Entry) (ws : List Why) → ends_refuted es ≡ true → ends_empty (steps_of atoms ws es) ≡ true
  steps_end [] ws h = absurd (false≢true h)
  steps_end (entry.Added c ∷ []) ws h = absurd (false≢true h)
  steps_end (entry.Learned r ∷ []) ws h = empty_through r.clause h
  steps_end (entry.Added c ∷ f ∷ es) ws h = steps_end (f ∷ es) (drop 1 ws) h
  steps_end (entry.Learned r ∷ f ∷ es) ws h = steps_end (f ∷ es) ws h

  -- an origin has no hints
  plain : (w : Why) (c : Clause) → origin_clause words root w ≡ Some c → hints_of w ≡ []
  plain (why.Rup hs) c is = absurd (none-some c is)
  plain _ c is = refl

  hints_same : (es : List Entry) (ws : List Why) → AreOrigins words root atoms (added_in es) ws → map hints_in (steps_of atoms ws es) ≡ all_hints es
  hints_same [] ws o = refl
  hints_same (entry.Added c ∷ es) [] o = cc
  hints_same (entry.Added c ∷ es) (w ∷ ws) o = ap (λ hs. hs ∷ map hints_in (steps_of atoms ws es)) (plain w (through atoms c) (cc)) ∙ ap (λ hs. [] ∷ hs) (hints_same es ws (cc))
  hints_same (entry.Learned r ∷ es) ws o = ap (λ hs. r.hints ∷ hs) (hints_same es ws o)

  -- the clause of a step is over the variables
  record IsOver (s : Step) : Type 0 where
    literals : List ℤ
    within : is_clause vars literals ≡ true
    is : through atoms literals ≡ s.clause

  entry_over : (w : Why) (e : Entry) → is_clause vars (entry_clause e) ≡ true → IsOver (entry_step atoms w e)
  entry_over w (entry.Added c) v = record { literals = c; within = v; is = refl }
  entry_over w (entry.Learned r) v = record { literals = r.clause; within = v; is = refl }

  steps_over : (es : List Entry) (ws : List Why) → AreWithin (clauses_in es) → (s : Step) → Contains (steps_of atoms ws es) s → IsOver s
  steps_over [] ws w s h = absurd (no_item s h)
  steps_over (e ∷ es) ws w s h =
      let parts = and_parts (is_clause vars (entry_clause e)) _ w in
      elim (item_cases (steps_of atoms (drop (origin_count e) ws) es) (entry_step atoms (origin_at ws 0) e) s h) [
        | inl same ↦ subst IsOver same (entry_over (origin_at ws 0) e parts.0)
        | inr there ↦ steps_over es (drop (origin_count e) ws) parts.1 s there
      ]

  atom_below : (a : Atom) → Contains atoms a → IsAtomBelow words root a
  atom_below (atom.Node p) h = (nodes p h).below
  atom_below (atom.Same s t) h = let pair = terms s t h in (pair.first.below, pair.second.below)

  literal_in : (ls : List ℤ) (x : ℤ) → is_clause vars ls ≡ true → Contains ls x → is_literal vars x ≡ true
  unfolding is_clause
  literal_in ls x w i = all_item (is_literal vars) ls x w i

  over_below : (s : Step) → IsOver s → (l : Lit) → Contains s.clause l → IsAtomBelow words root l.atom
  over_below s o l h =
      let from = unmapped_item (λ x. named atoms (signed x)) o.literals l (subst (λ ls. Contains ls l) (sym o.is) h) in
      subst (λ (m : Lit). IsAtomBelow words root m.atom) from.2 (atom_below _ (atom_there atoms from.0 (literal_in o.literals from.0 o.within from.1)))

  module _ (ws : List Why) (es : List Entry) (o : AreOrigins words root atoms (added_in es) ws) (w : AreWithin (clauses_in es)) (f : each_learned_follows [] es ≡ true) where
    abbrev whole : List Step
    whole = steps_of atoms ws es

    right : all_right words root [] whole ≡ true
    right = steps_right es ws [] [] refl refl o w f

    whole_earlier : (k h : ℕ) → Contains (hints_at (map hints_in whole) k) h → h < k
    whole_earlier k h i = omega (arith, right_earlier words root [] whole right k h i)

    pub have_earlier : HaveEarlier (all_hints es)
    have_earlier = subst HaveEarlier (hints_same es ws o) whole_earlier

    -- what is cut from the log is accepted, and has no more than it needs
    pub cut_accepted : is_place_of words class.Cond root ≡ true → ends_refuted es ≡ true → (d : Derivation) → IsCutOf atoms ws es d → Accepts words root d × IsCut words root d
    unfolding accepts
    cut_accepted condition empty d c =
        let numbers = ranks 0 c.marks in
        let needed : AreNeeded (map hints_in whole) 0 c.marks = subst (λ hs. AreNeeded hs 0 c.marks) (sym (hints_same es ws o)) c.needed in
        let long : length c.marks ≡ length whole = needed.long ∙ length-map whole hints_in in
        let kept = right_kept words root c.marks [] c.marks [] whole refl refl (λ k m g i. needed.closed k g (omega arith) m i) right in
        let end = end_kept words root c.marks c.marks whole long (λ k l. needed.last k (l ∙ sym (length-map whole hints_in))) (steps_end es ws empty) in (
          subst (λ ss. ((is_place_of words class.Cond root && all_right words root [] ss) && ends_empty ss) ≡ true) (sym c.is)
              (and_from _ _ (and_from _ _ condition kept) end),
          record {
            below = λ s l i j.
                let from = unmapped_item (step_by numbers) whole s (kept_item c.marks _ s (subst (λ ss. Contains ss s) c.is i)) in
                over_below from.0 (steps_over es ws w from.0 from.1) l (subst (λ (x : Step). Contains x.clause l) (sym from.2) j);
            used = subst (λ ss. (k : ℕ) → suc k < length ss → IsHintOfLater ss k) (sym c.is) (hint_kept words root c.marks whole needed whole_earlier);
          },
        )

-- a log that ends in the empty clause has an entry
pub some_entries : (es : List Entry) → ends_refuted es ≡ true → 0 < length es
some_entries [] h = absurd (false≢true h)
some_entries (e ∷ es) h = omega arith
