-- A question stays one as the solver learns, and as clauses of paths are added.
use Rattle.std.proofs.Common.{◌≡◌, ℕ, ℤ, ◌<◌, ◌≤◌, Bool, true, false, List, [], ◌∷◌, ◌++◌, length, map, Some, refl, ap, ◌∙◌, sym, subst, arith, append-nil, append_assoc}
use Rattle.std.{specs.Prelude.Contains, specs.List.list_all, proofs.lemmas.Bool.and_from, proofs.lemmas.List.map-append, proofs.lemmas.List.Folds.list_all-append}
use Rattle.std.proofs.lemmas.List.Elements.{Contains-append_left}
use Rattle.ct_derivation.{specs.declared.literals.Atom.Atom, specs.declared.steps.Why.Why}
use Rattle.ct_derivation.specs.declared.steps.Why.TheVariants as why
use Rattle.ct_trail.specs.{declared.log.Entry.Entry, Literal.{Clause, is_clause}, Log.added_in}
use Rattle.ct_sat.specs.Log.{State, Learns, IsModelOf}
use Rattle.ct_trail.specs.declared.log.Entry.TheVariants as entry
use Rattle.ct_derivation.specs.Variables.{IsCnf, LARGEST}
use Rattle.ct_cnf.{specs.declared.encoding.Encoded.Encoded, specs.Encoding.{through, origin_clause, AreOrigins, HasDefinitions, AreDistinct, HasNodesBelow, HasPairsBelow}}
use Rattle.ct_decide.{specs.declared.asking.Aim.Aim, specs.declared.asking.Asking.Asking, specs.declared.asking.Posed.Posed, specs.Asking.{IsWhole, IsAsking, IsPosed, IsClauseOf, AddsPath, AddsAtom, RulesOut, left}, specs.Counting.models, proofs.Counts.{models_le, models_less}, proofs.Truths.false_path, proofs.Wider.wider_clause}
use Rattle.ct_sat.specs.Verdict.{satisfies}

pub added_more : (es fs : List Entry) → added_in (es ++ fs) ≡ added_in es ++ added_in fs
added_more [] fs = refl
added_more (entry.Added c ∷ es) fs = ap (λ cs. c ∷ cs) (added_more es fs)
added_more (entry.Learned r ∷ es) fs = added_more es fs

pub added_one : (es : List Entry) (c : Clause) (rest : List Clause) → added_in (es ++ entry.Added c ∷ []) ++ rest ≡ added_in es ++ c ∷ rest
added_one es c rest = ap (λ cs. cs ++ rest) (added_more es (entry.Added c ∷ [])) ∙ append_assoc (added_in es) (c ∷ []) rest

-- a log that only learned has the same added clauses
pub added_same : (old new : State) → Learns old new → added_in new.entries ≡ added_in old.entries
added_same old new l = ap added_in l.is ∙ added_more old.entries l.more ∙ ap (λ cs. added_in old.entries ++ cs) l.none ∙ append-nil (added_in old.entries)

-- more origins are no fewer
pub whole_more : (words : List ℕ) (root : ℕ) (ws more : List Why) → IsWhole words root ws → IsWhole words root (ws ++ more)
whole_more words root ws more w = record {
  asked = Contains-append_left ws more why.Root w.asked;
  definitions = λ p k c below is. Contains-append_left ws more (why.Def p k) (w.definitions p k c below is);
}

-- what changes nothing but what was learned
pub record OnlyLearns (old new : Asking) : Type 0 where
  pub atoms : new.atoms.items ≡ old.atoms.items
  pub origins : new.origins.items ≡ old.origins.items
  pub count : new.vars ≡ old.vars
  pub vars : new.solver.vars ≡ old.solver.vars
  pub added : added_in new.solver.entries ≡ added_in old.solver.entries

module _ (words : List ℕ) (aim : Aim) where
  -- a question by its parts
  abbrev Parts : List Atom → List (List ℤ) → List Why → ℕ → Type 0
  Parts atoms cs ws vars = (a : Asking) → a.atoms.items ≡ atoms → added_in a.solver.entries ≡ cs → a.origins.items ≡ ws → a.solver.vars ≡ vars → a.vars ≡ vars → IsAsking words aim a

  parts_of : (old : Asking) → IsAsking words aim old → Parts old.atoms.items (added_in old.solver.entries) old.origins.items old.solver.vars
  parts_of old ask a same_atoms same_added same_origins same_vars count = record {
    count = count ∙ sym same_vars;
    clauses = rw (same_atoms, same_added, same_origins) ask.clauses;
    within = rw (same_atoms, same_added) ask.within;
    room = rw (same_atoms, same_vars) ask.room;
    vars = rw same_vars ask.vars;
    whole = rw same_origins ask.whole;
    distinct = rw same_atoms ask.distinct;
    nodes = rw same_atoms ask.nodes;
    terms = rw same_atoms ask.terms;
  }

  pub learned_more : (old new : Asking) → OnlyLearns old new → IsAsking words aim old → IsAsking words aim new
  learned_more old new o ask = parts_of old ask new o.atoms o.added o.origins o.vars (o.count ∙ ask.count)

  pub origins_more : (atoms : List Atom) (cs : List (List ℤ)) (ws : List Why) (c : List ℤ) (w : Why) → AreOrigins words aim.root atoms cs ws → origin_clause words aim.root w ≡ Some (through atoms c) → AreOrigins words aim.root atoms (cs ++ c ∷ []) (ws ++ w ∷ [])
  origins_more atoms cs ws c w o is =
      map-append (origin_clause words aim.root) ws (w ∷ []) ∙ ap (λ xs. xs ++ origin_clause words aim.root w ∷ []) o ∙ ap (λ x. map (λ ls. Some (through atoms ls)) cs ++ x ∷ []) is
      ∙ sym (map-append (λ ls. Some (through atoms ls)) cs (c ∷ []))

  -- a path adds a clause with its origin
  pub path_added : (path : List ℕ) (old new : Asking) → AddsPath words path old new → new.origins.items ≡ old.origins.items ++ why.Path path ∷ [] → new.vars ≡ old.vars → IsAsking words aim old → IsAsking words aim new
  path_added path old new adds more count ask = record {
    count = count ∙ ask.count ∙ sym adds.vars;
    clauses = rw (adds.atoms, adds.added, more) (origins_more old.atoms.items (added_in old.solver.entries) old.origins.items adds.clause (why.Path path) ask.clauses adds.is.is);
    within = rw (adds.atoms, adds.added)
        (list_all-append (is_clause (length old.atoms.items)) (added_in old.solver.entries) (adds.clause ∷ []) ∙ and_from _ _ ask.within (and_from _ true adds.is.within refl));
    room = rw (adds.atoms, adds.vars) ask.room;
    vars = rw adds.vars ask.vars;
    whole = rw more (λ w. whole_more words aim.root old.origins.items (why.Path path ∷ []) (ask.whole w));
    distinct = rw adds.atoms ask.distinct;
    nodes = rw adds.atoms ask.nodes;
    terms = rw adds.atoms ask.terms;
  }

pub less_left : (words path : List ℕ) (old new : Asking) (m : List Bool) (adds : AddsPath words path old new) → IsModelOf old.solver.vars (added_in old.solver.entries) m → satisfies m adds.clause ≡ false → left new < left old
less_left words path old new m adds model broken =
    subst (λ n. models n (added_in new.solver.entries) < left old) (sym adds.vars)
    (subst (λ cs. models old.solver.vars cs < left old) (sym adds.added)
    (models_less old.solver.vars (added_in old.solver.entries) adds.clause m model.truths model.satisfied broken))

pub no_more_left : (words path : List ℕ) (old new : Asking) → AddsPath words path old new → left new ≤ left old
no_more_left words path old new adds =
    subst (λ n. models n (added_in new.solver.entries) ≤ left old) (sym adds.vars)
    (subst (λ cs. models old.solver.vars cs ≤ left old) (sym adds.added) (models_le old.solver.vars (added_in old.solver.entries) adds.clause))

-- a model of the clauses that makes that of a path false is none any more once it is added
pub path_out : (words : List ℕ) (aim : Aim) (path : List ℕ) (old new : Asking) → IsAsking words aim old → AddsPath words path old new → (m : List Bool) → RulesOut words path m old new
path_out words aim path old new ask adds m b =
    less_left words path old new m adds b.model (false_path words old.atoms.items path m ask.distinct (omega (arith, ask.room, b.model.truths)) adds.clause adds.is b.path_false)

pub same_left : (old new : Asking) → OnlyLearns old new → left new ≡ left old
same_left old new o = ap (λ n. models n (added_in new.solver.entries)) o.vars ∙ ap (models old.solver.vars) o.added

pub atom_left : (old new : Asking) → AddsAtom old new → left new ≡ left old
atom_left old new adds = ap (λ (s : State). models s.vars (added_in s.entries)) adds.solver

-- the question after a step of the solver
abbrev pub with_solver : Asking → State → Asking
with_solver old s = record { solver = s; vars = old.vars; atoms = old.atoms; own = old.own; pairs = old.pairs; triangles = old.triangles; origins = old.origins }

pub only_learns : (old : Asking) (s : State) → Learns old.solver s → OnlyLearns old (with_solver old s)
only_learns old s l = record { atoms = refl; origins = refl; count = refl; vars = l.vars; added = added_same old.solver s l }

pub after_step : (words : List ℕ) (aim : Aim) (old : Asking) (s : State) → Learns old.solver s → IsAsking words aim old → IsAsking words aim (with_solver old s)
after_step words aim old s l ask = learned_more words aim old (with_solver old s) (only_learns old s l) ask

-- a question as it begins
pub begun : (words : List ℕ) (aim : Aim) (p : Posed) (a : Asking) → IsPosed words aim p → a.atoms.items ≡ p.atoms.items → added_in a.solver.entries ≡ p.clauses.items
    → a.origins.items ≡ p.origins.items → a.vars ≡ a.solver.vars → length p.atoms.items ≤ a.solver.vars → a.solver.vars ≤ LARGEST → IsAsking words aim a
begun words aim p a posed same_atoms same_added same_origins count enough few = record {
  count = count;
  clauses = rw (same_atoms, same_added, same_origins) posed.clauses;
  within = rw (same_atoms, same_added) posed.within;
  room = rw same_atoms enough;
  vars = few;
  whole = rw same_origins posed.whole;
  distinct = rw same_atoms posed.distinct;
  nodes = rw same_atoms posed.nodes;
  terms = rw same_atoms posed.terms;
}

-- what `encode` returns
pub encoded : (words : List ℕ) (aim : Aim) (e : Encoded) (p : Posed) → AreOrigins words aim.root e.atoms e.cnf.clauses e.origins → Contains e.origins why.Root → HasDefinitions words aim.root e.origins
    → AreDistinct e.atoms → HasNodesBelow words aim.root e.atoms → HasPairsBelow words aim.root e.atoms → e.cnf.vars ≡ length e.atoms → IsCnf e.cnf
    → p.atoms.items ≡ e.atoms → p.clauses.items ≡ e.cnf.clauses → p.origins.items ≡ e.origins → IsPosed words aim p
encoded words aim e p clauses asked definitions distinct nodes terms variables cnf same_atoms same_clauses same_origins = record {
  clauses = rw (same_atoms, same_clauses, same_origins) clauses;
  within = rw (same_atoms, same_clauses) (subst (λ n. list_all (is_clause n) e.cnf.clauses ≡ true) variables cnf.clauses);
  few = omega (arith, ap length same_atoms, variables, cnf.vars);
  whole = λ w. rw same_origins (record { asked = asked; definitions = definitions });
  distinct = rw same_atoms distinct;
  nodes = rw same_atoms nodes;
  terms = rw same_atoms terms;
}

-- a clause over the atoms is one over all variables
pub clause_wider : (words : List ℕ) (aim : Aim) (a : Asking) (path : List ℕ) (c : List ℤ) → IsAsking words aim a → IsClauseOf words a.atoms.items path c → is_clause a.solver.vars c ≡ true
clause_wider words aim a path c ask is = wider_clause (length a.atoms.items) a.solver.vars ask.room c is.within

pub adds_path : (words path : List ℕ) (old new : Asking) (c : List ℤ) → IsClauseOf words old.atoms.items path c
    → new.solver ≡ record { vars = old.solver.vars; entries = old.solver.entries ++ entry.Added c ∷ []; failed = false } → new.atoms.items ≡ old.atoms.items → AddsPath words path old new
adds_path words path old new c is solver atoms = record {
  vars = ap (λ (s : State). s.vars) solver;
  atoms = atoms;
  clause = c;
  is = is;
  added = ap (λ (s : State). added_in s.entries) solver ∙ added_more old.solver.entries (entry.Added c ∷ []);
}
