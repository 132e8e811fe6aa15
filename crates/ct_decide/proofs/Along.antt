-- The clauses of a star rule its path out.
use Rattle.std.proofs.Common.{◌≡◌, ◌≤◌, ◌<◌, ◌⊎◌, ◌+◌, ◌-◌, ℕ, zero, suc, Bool, true, false, ◌&&◌, List, [], ◌∷◌, ◌++◌, length, get_or, refl, ap, ◌∙◌, sym, subst, arith, inl, inr, append_assoc, append-nil, length-append}
use Rattle.std.proofs.lemmas.Bool.{and_parts, false≢true}
use Rattle.ct_derivation.{specs.declared.literals.Atom.Atom, specs.Path.{pair_of, no_links, is_constant}}
use Rattle.ct_trail.specs.Log.{added_in}
use Rattle.ct_sat.specs.Log.{IsModelOf}
use Rattle.ct_equality.{specs.Assigned.{Gives, AreLinks, IsFalsePath}, proofs.FalsePaths.{FalseLinks, false_links}}
use Rattle.ct_decide.{specs.declared.asking.Aim.Aim, specs.declared.asking.Asking.Asking, specs.Asking.{IsAsking, is_atom, HasAtoms, IsPathOver, AddsTriangle, Breaks, RulesOut, left}}
use Rattle.ct_decide.{proofs.Clauses.{first_of, last_of, parts_of, last_is, rest_is}, proofs.Truths.one_truth, proofs.Wider.gives_more, proofs.Triangles.still_atom}

-- how far a star has come with a model: it is none any more, or it joins the first term with the one before this place
pub record IsAlong (words : List ℕ) (begin now : Asking) (path : List ℕ) (k : ℕ) (m : List Bool) : Type 0 where
  pub model : IsModelOf now.solver.vars (added_in now.solver.entries) m
  pub joined : Gives now.atoms.items m true (pair_of (get_or path 0 0) (get_or path (k - 1) 0))
  pub differ : 2 < k → (is_constant words (get_or path 0 0) && is_constant words (get_or path (k - 1) 0)) ≡ false

pub record IsStarTo (words : List ℕ) (aim : Aim) (m : List Bool) (begin now : Asking) (path : List ℕ) (k : ℕ) : Type 0 where
  pub asking : IsAsking words aim now
  pub vars : now.solver.vars ≡ begin.solver.vars
  pub more : List Atom
  pub atoms : now.atoms.items ≡ begin.atoms.items ++ more
  pub room : length now.atoms.items + (length path - k) ≤ now.solver.vars
  pub side : is_atom now.atoms.items (pair_of (get_or path 0 0) (get_or path (k - 1) 0)) ≡ true
  pub fewer : left now ≤ left begin
  pub along : Breaks words begin path m → (left now < left begin) ⊎ IsAlong words begin now path k m

-- a link of a path, by the place of its first term
link_there : (atoms : List Atom) (t : ℕ) (us : List ℕ) (j : ℕ) → HasAtoms atoms (no_links t us) → j < length us → is_atom atoms (pair_of (get_or (t ∷ us) j 0) (get_or us j 0)) ≡ true
link_there atoms t [] j h lt = absurd (omega (arith, lt))
link_there atoms t (u ∷ us) zero h lt = (and_parts (is_atom atoms (pair_of t u)) _ h).0
link_there atoms t (u ∷ us) (suc j) h lt = link_there atoms u us j (and_parts (is_atom atoms (pair_of t u)) _ h).1 (omega (arith, lt))

link_given : (atoms : List Atom) (m : List Bool) (t : ℕ) (us : List ℕ) (j : ℕ) → AreLinks atoms m t us → j < length us → Gives atoms m true (pair_of (get_or (t ∷ us) j 0) (get_or us j 0))
link_given atoms m t [] j h lt = absurd (omega (arith, lt))
link_given atoms m t (u ∷ us) zero h lt = h.0
link_given atoms m t (u ∷ us) (suc j) h lt = link_given atoms m u us j h.1 (omega (arith, lt))

module _ (words : List ℕ) (path : List ℕ) where
  abbrev at : ℕ → ℕ
  at k = get_or path k 0

  pub atom_of_link : (atoms : List Atom) → IsPathOver words atoms path → (k : ℕ) → 0 < k → k < length path → is_atom atoms (pair_of (at (k - 1)) (at k)) ≡ true
  atom_of_link atoms over k pos lt = by_path path over k pos lt where
    by_path : (p : List ℕ) → IsPathOver words atoms p → (k : ℕ) → 0 < k → k < length p → is_atom atoms (pair_of (get_or p (k - 1) 0) (get_or p k 0)) ≡ true
    by_path [] over k pos lt = absurd (omega (arith, lt))
    by_path (t ∷ us) over zero pos lt = absurd (omega (arith, pos))
    by_path (t ∷ us) over (suc j) pos lt =
        let links : HasAtoms atoms (no_links t us) = subst (λ xs. HasAtoms atoms (no_links t xs)) (rest_is t us) (parts_of words atoms (t ∷ us) over).links in
        let back : suc j - 1 ≡ j = omega arith in
        subst (λ n. is_atom atoms (pair_of (get_or (t ∷ us) n 0) (get_or us j 0)) ≡ true) (sym back) (link_there atoms t us j links (omega (arith, lt)))

  module _ (atoms : List Atom) (m : List Bool) (f : IsFalsePath words atoms m path) where
    abbrev parts : FalseLinks words atoms m path
    parts = false_links words atoms m path f

    truth_of_link : (k : ℕ) → 0 < k → k < length path → Gives atoms m true (pair_of (at (k - 1)) (at k))
    truth_of_link zero pos lt = absurd (omega (arith, pos))
    truth_of_link (suc j) pos lt =
        let back : suc j - 1 ≡ j = omega arith in
        subst (λ n. Gives atoms m true (pair_of (at n) (at (suc j)))) (sym back)
        (subst (λ (p : List ℕ). Gives atoms m true (pair_of (get_or p j 0) (get_or p (suc j) 0))) (sym parts.is)
        (link_given atoms m parts.first parts.rest j parts.links (omega (arith, lt, ap length parts.is))))

    ends_apart : ((is_constant words (at 0) && is_constant words (at (length path - 1))) ≡ true) ⊎ Gives atoms m false (pair_of (at 0) (at (length path - 1)))
    ends_apart =
        subst (λ (p : List ℕ). ((is_constant words (first_of p) && is_constant words (last_of p)) ≡ true) ⊎ Gives atoms m false (pair_of (first_of p) (last_of p))) (sym parts.is)
        (subst (λ (e : ℕ). ((is_constant words parts.first && is_constant words e) ≡ true) ⊎ Gives atoms m false (pair_of parts.first e)) (sym (last_is parts.first parts.rest)) parts.ends)

module _ (words : List ℕ) (aim : Aim) (m : List Bool) (begin : Asking) (path : List ℕ) (over : IsPathOver words begin.atoms.items path) (long : 2 < length path) where
  abbrev place : ℕ → ℕ
  place k = get_or path k 0

  pub star_begins : IsAsking words aim begin → length begin.atoms.items + length path ≤ begin.solver.vars → IsStarTo words aim m begin begin path 2
  star_begins ask room = record {
    asking = ask;
    vars = refl;
    more = [];
    atoms = sym (append-nil begin.atoms.items);
    room = omega (arith, room);
    side = atom_of_link words path begin.atoms.items over 1 (omega arith) (omega (arith, long));
    fewer = omega arith;
    along = λ b. inr (record {
      model = b.model;
      joined = truth_of_link words path begin.atoms.items m b.path_false 1 (omega arith) (omega (arith, long));
      differ = λ lt. absurd (omega (arith, lt));
    });
  }

  pub right_side : (now : Asking) (k : ℕ) → 2 ≤ k → k < length path → IsStarTo words aim m begin now path k → is_atom now.atoms.items (pair_of (place (k - 1)) (place k)) ≡ true
  right_side now k from lt star =
      ap (λ xs. is_atom xs (pair_of (place (k - 1)) (place k))) star.atoms
      ∙ still_atom begin.atoms.items star.more (pair_of (place (k - 1)) (place k)) (atom_of_link words path begin.atoms.items over k (omega (arith, from)) lt)

  module _ (now new : Asking) (k : ℕ) (from : 2 ≤ k) (lt : k < length path) (ended : Bool) (star : IsStarTo words aim m begin now path k) where
    module _ (t : AddsTriangle words aim m now new (place 0) (place (k - 1)) (place k) ended) where
      more_of : (b : Bool) (x : Atom) → Gives begin.atoms.items m b x → Gives now.atoms.items m b x
      more_of b x g = subst (λ xs. Gives xs m b x) (sym star.atoms) (gives_more begin.atoms.items star.more m b x g)

      abbrev Closed : Type 0
      Closed = (left new < left begin) ⊎ ((ended ≡ false) × IsModelOf new.solver.vars (added_in new.solver.entries) m × Gives new.atoms.items m true (pair_of (place 0) (place k)))

      turn : Breaks words begin path m → Closed
      turn b = elim (star.along b) [
        | inl less ↦ inl (omega (arith, less, t.fewer))
        | inr a ↦ elim (t.closes a.model a.joined (more_of true (pair_of (place (k - 1)) (place k)) (truth_of_link words path begin.atoms.items m b.path_false k (omega (arith, from)) lt))) [
          | inl less ↦ inl (omega (arith, less, star.fewer))
          | inr c ↦ inr c
        ]
      ]

      pub star_next : ended ≡ false → IsStarTo words aim m begin new path (k + 1)
      star_next e = let back : (k + 1) - 1 ≡ k = omega arith in record {
        asking = t.asking;
        vars = t.vars ∙ star.vars;
        more = star.more ++ t.more;
        atoms = t.atoms ∙ ap (λ xs. xs ++ t.more) star.atoms ∙ append_assoc begin.atoms.items star.more t.more;
        room = omega (arith, star.room, t.vars, t.one, ap length t.atoms, length-append now.atoms.items t.more, lt);
        side = subst (λ n. is_atom new.atoms.items (pair_of (place 0) (place n)) ≡ true) (sym back) (t.there e);
        fewer = omega (arith, t.fewer, star.fewer);
        along = λ b. elim (turn b) [
          | inl less ↦ inl less
          | inr c ↦ inr (record {
            model = c.1;
            joined = subst (λ n. Gives new.atoms.items m true (pair_of (place 0) (place n))) (sym back) c.2;
            differ = λ _. subst (λ n. (is_constant words (place 0) && is_constant words (place n)) ≡ false) (sym back) (sym t.is ∙ e);
          })
        ];
      }

      -- at two constants no model is left
      pub star_stops : ended ≡ true → RulesOut words path m begin new
      star_stops e b = elim (turn b) [ inl less ↦ less | inr c ↦ absurd (false≢true (sym c.0 ∙ e)) ]

  pub star_ends : (now : Asking) (k : ℕ) → k ≡ length path → IsStarTo words aim m begin now path k → RulesOut words path m begin now
  star_ends now k end star b = elim (star.along b) [
    | inl less ↦ less
    | inr a ↦ absurd (elim (ends_apart words path begin.atoms.items m b.path_false) [
      | inl c ↦ false≢true (sym (subst (λ n. (is_constant words (place 0) && is_constant words (place (n - 1))) ≡ false) end (a.differ (omega (arith, long, end)))) ∙ c)
      | inr g ↦ false≢true (one_truth now.atoms.items m false true (pair_of (place 0) (place (length path - 1))) star.asking.distinct
          (subst (λ xs. Gives xs m false (pair_of (place 0) (place (length path - 1)))) (sym star.atoms) (gives_more begin.atoms.items star.more m false (pair_of (place 0) (place (length path - 1))) g))
          (subst (λ n. Gives now.atoms.items m true (pair_of (place 0) (place (n - 1)))) end a.joined))
    ])
  ]
