-- A walk between two terms that have to differ is a path whose clause is false.
use Rattle.std.proofs.Common.{◌≡◌, ◌≢◌, ◌≤◌, ℕ, Bool, true, false, not, ◌&&◌, List, [], ◌∷◌, ◌++◌, length, Some, None, nat_eq, refl, ap, sym, ◌∙◌, subst, if◌then◌else◌, inl, inr, ◌⊎◌, arith}
use Rattle.std.{specs.List.list_all, specs.Cmp.nat_eq_equiv, proofs.lemmas.Map.Steps.length-le_from_distinct_below}
use Rattle.std.proofs.lemmas.Bool.{ne_eqb, eq-eqb, cases_Bool, both_ways, and_from, or_left, or_right}
use Rattle.ct_word.{specs.WellFormed.is_place_of, proofs.Splits.{place_within, some-injective}}
use Rattle.ct_derivation.{specs.declared.literals.Atom.Atom, specs.Literal.{Clause, yes_of}}
use Rattle.ct_derivation.specs.Path.{pair_of, end_of, no_links, moves, ends_clause, is_path, path_clause, is_constant}
use Rattle.ct_equality.{specs.Terms.{terms_of, is_among}, specs.Assigned.{Gives, IsLink, AreLinks, IsWalk, IsFalse, IsFalsePath, IsClash, are_plain}}
use Rattle.ct_equality.{proofs.Joins.link_cases, proofs.Steps.{PlainPair, plain_at, plain_place}, proofs.Listed.{among_terms, terms_distinct, plain_end}}
use Rattle.ct_word.specs.declared.kinds.Class.TheVariants as class

is_false_append : (atoms : List Atom) (truth : List Bool) (ls ms : Clause) → IsFalse atoms truth ls → IsFalse atoms truth ms → IsFalse atoms truth (ls ++ ms)
is_false_append atoms truth [] ms a b = b
is_false_append atoms truth (l ∷ ls) ms a b = (a.0, is_false_append atoms truth ls ms a.1 b)

module _ (words : List ℕ) (atoms : List Atom) (truth : List Bool) (plain : are_plain words atoms ≡ true) where
  -- a true equality joins two different terms
  record LinkEnds (s t : ℕ) : Type 0 where
    differ : nat_eq s t ≡ false
    left : is_place_of words class.Term s ≡ true
    right : is_place_of words class.Term t ≡ true

  ends_apart : (s t : ℕ) → PlainPair words s t → LinkEnds s t
  ends_apart s t pair = record { differ = ne_eqb s t (λ q. let lt = pair.below in omega (arith, q, lt)); left = plain_place words s pair.left; right = plain_place words t pair.right }

  link_ends : (s t : ℕ) → IsLink atoms truth s t → LinkEnds s t
  link_ends s t l = elim (link_cases atoms truth s t l) [
    | inl g ↦ ends_apart s t (plain_at words atoms g.place s t plain g.atom_at)
    | inr g ↦
        let e = ends_apart t s (plain_at words atoms g.place t s plain g.atom_at) in
        record { differ = nat_eq_equiv.symm s t ∙ e.differ; left = e.right; right = e.left }
  ]

  links_move : (s : ℕ) (us : List ℕ) → AreLinks atoms truth s us → moves s us ≡ true
  links_move s [] ls = refl
  links_move s (u ∷ us) ls = and_from _ _ (ap not (link_ends s u ls.0).differ) (links_move u us ls.1)

  links_terms : (s : ℕ) (us : List ℕ) → AreLinks atoms truth s us → list_all (is_place_of words class.Term) us ≡ true
  links_terms s [] ls = refl
  links_terms s (u ∷ us) ls = and_from _ _ (link_ends s u ls.0).right (links_terms u us ls.1)

  links_false : (s : ℕ) (us : List ℕ) → AreLinks atoms truth s us → IsFalse atoms truth (no_links s us)
  links_false s [] ls = tt
  links_false s (u ∷ us) ls = (ls.0, links_false u us ls.1)

  ends_false : (s t : ℕ) → IsClash words atoms truth s t → IsFalse atoms truth (ends_clause words s t)
  unfolding ends_clause
  ends_false s t clash = elim (cases_Bool (is_constant words s && is_constant words t)) [
    | inl c ↦ rw c tt
    | inr n ↦ rw n (elim clash.apart [ inl c ↦ absurd (both_ways _ n c) | inr g ↦ (g, tt) ])
  ]

  path_there : (s : ℕ) (us : List ℕ) → AreLinks atoms truth s us → s ≢ end_of s us → is_place_of words class.Term s ≡ true → is_path words s us ≡ true
  unfolding is_path
  path_there s us ls ne term =
      and_from _ _ (and_from _ _ (links_move s us ls) (ap not (ne_eqb s (end_of s us) ne))) (and_from _ _ term (links_terms s us ls))

  clause_there : (s : ℕ) (us : List ℕ) → is_path words s us ≡ true → path_clause words (s ∷ us) ≡ Some (no_links s us ++ ends_clause words s (end_of s us))
  clause_there s us e = ap (λ b. if b then Some (no_links s us ++ ends_clause words s (end_of s us)) else None) e

  pub false_path : (s t : ℕ) (path : List ℕ) → IsClash words atoms truth s t → IsWalk atoms truth s t path → IsFalsePath words atoms truth path
  false_path s t path clash walk =
      let us = walk.rest in
      let ends : end_of s us ≡ t = walk.ends in
      record {
        clause = no_links s us ++ ends_clause words s (end_of s us);
        clause_is = ap (path_clause words) walk.is ∙ clause_there s us (path_there s us walk.links (λ e. clash.differ (e ∙ ends)) clash.term);
        is_false = is_false_append atoms truth (no_links s us) (ends_clause words s (end_of s us)) (links_false s us walk.links)
            (subst (λ x. IsFalse atoms truth (ends_clause words s x)) (sym ends) (ends_false s t clash));
      }

  -- the terms are no more than the words
  pub few_terms : length (terms_of atoms) ≤ length words
  few_terms = length-le_from_distinct_below (terms_of atoms) (length words) (terms_distinct atoms)
      (λ p e. place_within words class.Term p (plain_place words p (plain_end words atoms p plain (sym (among_terms atoms p) ∙ e))))

  all_places : (ts : List ℕ) → ((p : ℕ) → is_among ts p ≡ true → is_place_of words class.Term p ≡ true) → list_all (is_place_of words class.Term) ts ≡ true
  all_places [] all = refl
  all_places (t ∷ ts) all = and_from _ _ (all t (or_left (nat_eq t t) _ (eq-eqb t t refl))) (all_places ts (λ p e. all p (or_right (nat_eq p t) _ e)))

  pub term_places : list_all (is_place_of words class.Term) (terms_of atoms) ≡ true
  term_places = all_places (terms_of atoms) (λ p e. plain_place words p (plain_end words atoms p plain (sym (among_terms atoms p) ∙ e)))

-- for callers: what a path with a false clause has
pub record FalseLinks (words : List ℕ) (atoms : List Atom) (truth : List Bool) (path : List ℕ) : Type 0 where
  pub first : ℕ
  pub rest : List ℕ
  pub is : path ≡ first ∷ rest
  pub is_path : is_path words first rest ≡ true
  pub links : AreLinks atoms truth first rest
  pub ends : (is_constant words first && is_constant words (end_of first rest) ≡ true) ⊎ Gives atoms truth false (pair_of first (end_of first rest))

front_false : (atoms : List Atom) (truth : List Bool) (ls ms : Clause) → IsFalse atoms truth (ls ++ ms) → IsFalse atoms truth ls
front_false atoms truth [] ms a = tt
front_false atoms truth (l ∷ ls) ms a = (a.0, front_false atoms truth ls ms a.1)

back_false : (atoms : List Atom) (truth : List Bool) (ls ms : Clause) → IsFalse atoms truth (ls ++ ms) → IsFalse atoms truth ms
back_false atoms truth [] ms a = a
back_false atoms truth (l ∷ ls) ms a = back_false atoms truth ls ms a.1

false_links_are : (atoms : List Atom) (truth : List Bool) (s : ℕ) (us : List ℕ) → IsFalse atoms truth (no_links s us) → AreLinks atoms truth s us
false_links_are atoms truth s [] f = tt
false_links_are atoms truth s (u ∷ us) f = (f.0, false_links_are atoms truth u us f.1)

ends_told : (words : List ℕ) (atoms : List Atom) (truth : List Bool) (s t : ℕ) → IsFalse atoms truth (ends_clause words s t) → (is_constant words s && is_constant words t ≡ true) ⊎ Gives atoms truth false (pair_of s t)
unfolding ends_clause
ends_told words atoms truth s t f = elim (cases_Bool (is_constant words s && is_constant words t)) [
  | inl c ↦ inl c
  | inr n ↦ let g : IsFalse atoms truth (yes_of (pair_of s t) ∷ []) = rw n at f in inr g.0
]

pub false_links : (words : List ℕ) (atoms : List Atom) (truth : List Bool) (path : List ℕ) → IsFalsePath words atoms truth path → FalseLinks words atoms truth path
false_links words atoms truth [] f = let e = f.clause_is in cc
false_links words atoms truth (s ∷ us) f = elim (cases_Bool (is_path words s us)) [
  | inl p ↦
      let whole = no_links s us ++ ends_clause words s (end_of s us) in
      let is : whole ≡ f.clause = some-injective whole f.clause (sym (ap (λ b. if b then Some whole else None) p) ∙ f.clause_is) in
      let all : IsFalse atoms truth whole = subst (IsFalse atoms truth) (sym is) f.is_false in
      record {
        first = s;
        rest = us;
        is = refl;
        is_path = p;
        links = false_links_are atoms truth s us (front_false atoms truth (no_links s us) (ends_clause words s (end_of s us)) all);
        ends = ends_told words atoms truth s (end_of s us) (back_false atoms truth (no_links s us) (ends_clause words s (end_of s us)) all);
      }
  | inr n ↦
      let e : None ≡ Some f.clause = sym (ap (λ b. if b then Some (no_links s us ++ ends_clause words s (end_of s us)) else None) n) ∙ f.clause_is in
      cc
]
