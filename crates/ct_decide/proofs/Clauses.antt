-- The clause of a path, over variables.
use Rattle.std.proofs.Common.{◌≡◌, ℕ, ℤ, suc, ◌-◌, ◌<◌, Bool, true, false, ◌&&◌, List, [], ◌∷◌, ◌++◌, length, take, drop, get_or, None, Some, refl, ap, ◌∙◌, sym, arith, pos, negsuc, append_assoc, append-nil, inl, inr, if◌then◌else◌}
use Rattle.std.{proofs.Common.{zero, ◌≤◌, to_z, of_z, w32}, proofs.Math.Seq.take-length, proofs.lemmas.Int.to_z-of_z}
use mir.{Val.SFits}
use Rattle.std.{specs.List.list_all, proofs.lemmas.Bool.{and_parts, and_from, false≢true, lt-ltb, ltb-true, cases_Bool}, proofs.lemmas.List.map-append, proofs.lemmas.List.Folds.list_all-append}
use Rattle.ct_derivation.{specs.declared.literals.Atom.Atom, specs.declared.literals.Lit.Lit, specs.Literal.{no_of, yes_of}, specs.Path.{pair_of, no_links, end_of, is_path, is_constant, ends_clause, path_clause}}
use Rattle.ct_word.proofs.Splits.{some-injective}
use Rattle.ct_derivation.{specs.Variables.signed}
use Rattle.ct_trail.specs.Literal.{is_literal, is_clause, LARGEST}
use Rattle.ct_cnf.specs.Encoding.{named, through}
use Rattle.ct_cut.proofs.Named.{named_pos, named_neg}
use Rattle.ct_decide.specs.Asking.{is_atom, HasAtoms, IsLiteralOf, IsPathOver, IsClauseOf}
use Rattle.ct_derivation.specs.declared.literals.Atom.TheVariants as atom

pub literal_yes : (atoms : List Atom) (k s t : ℕ) → k < length atoms → get_or atoms k (atom.Node 0) ≡ pair_of s t → IsLiteralOf atoms true s t (pos (suc k))
literal_yes atoms k s t lt e = record { within = lt-ltb k (length atoms) lt; is = named_pos atoms k ∙ ap (λ a. record { positive = true; atom = a }) e }

pub literal_no : (atoms : List Atom) (k s t : ℕ) → k < length atoms → get_or atoms k (atom.Node 0) ≡ pair_of s t → IsLiteralOf atoms false s t (negsuc k)
literal_no atoms k s t lt e = record { within = lt-ltb k (length atoms) lt; is = named_neg atoms k ∙ ap (λ a. record { positive = false; atom = a }) e }

-- a literal of these variables fits its type
fits : (n : ℕ) (l : ℤ) → n ≤ LARGEST → is_literal n l ≡ true → SFits w32 l
fits n (pos zero) few v = absurd (false≢true v)
fits n (pos (suc k)) few v = record { sfits = omega (arith, ltb-true k n v, few) }
fits n (negsuc k) few v = record { sfits = omega (arith, ltb-true k n v, few) }

-- so it is what is read of what is stored
pub stored_literal : (n : ℕ) (l : ℤ) (c : List ℤ) → n ≤ LARGEST → is_literal n l ≡ true → c ++ to_z w32 (of_z w32 l) ∷ [] ≡ c ++ l ∷ []
stored_literal n l c few within = ap (λ (x : ℤ). c ++ x ∷ []) (to_z-of_z w32 l (fits n l few within))

pub stored : (atoms : List Atom) (positive : Bool) (s t : ℕ) (l : ℤ) (c : List ℤ) → length atoms ≤ LARGEST → IsLiteralOf atoms positive s t l → c ++ to_z w32 (of_z w32 l) ∷ [] ≡ c ++ l ∷ []
stored atoms positive s t l c few is = stored_literal (length atoms) l c few is.within

-- clauses with one more literal
pub through_more : (atoms : List Atom) (c : List ℤ) (positive : Bool) (s t : ℕ) (l : ℤ) → IsLiteralOf atoms positive s t l
    → through atoms (c ++ l ∷ []) ≡ through atoms c ++ record { positive = positive; atom = pair_of s t } ∷ []
through_more atoms c positive s t l is = map-append (λ x. named atoms (signed x)) c (l ∷ []) ∙ ap (λ x. through atoms c ++ x ∷ []) is.is

pub within_more : (atoms : List Atom) (c : List ℤ) (positive : Bool) (s t : ℕ) (l : ℤ) → IsLiteralOf atoms positive s t l → is_clause (length atoms) c ≡ true → is_clause (length atoms) (c ++ l ∷ []) ≡ true
unfolding is_clause
within_more atoms c positive s t l is v = list_all-append (is_literal (length atoms)) c (l ∷ []) ∙ and_from _ _ v (and_from _ true is.within refl)

-- how far the clause of the links has come
pub record AreLinksSo (atoms : List Atom) (first : ℕ) (rest : List ℕ) (last : ℕ) (later : List ℕ) (c : List ℤ) : Type 0 where
  pub within : is_clause (length atoms) c ≡ true
  pub is : through atoms c ++ no_links last later ≡ no_links first rest
  pub there : HasAtoms atoms (no_links last later)

pub links_next : (atoms : List Atom) (first : ℕ) (rest : List ℕ) (last u : ℕ) (later : List ℕ) (c : List ℤ) (l : ℤ)
    → AreLinksSo atoms first rest last (u ∷ later) c → IsLiteralOf atoms false last u l → AreLinksSo atoms first rest u later (c ++ l ∷ [])
links_next atoms first rest last u later c l so is = record {
  within = within_more atoms c false last u l is so.within;
  is = ap (λ x. x ++ no_links u later) (through_more atoms c false last u l is) ∙ append_assoc (through atoms c) (no_of (pair_of last u) ∷ []) (no_links u later) ∙ so.is;
  there = (and_parts (is_atom atoms (pair_of last u)) _ so.there).1;
}

pub links_begin : (atoms : List Atom) (first : ℕ) (rest : List ℕ) (c : List ℤ) → c ≡ [] → HasAtoms atoms (no_links first rest) → AreLinksSo atoms first rest first rest c
unfolding is_clause
links_begin atoms first rest c none there = record { within = ap (list_all (is_literal (length atoms))) none; is = ap (λ x. through atoms x ++ no_links first rest) none; there = there }

-- the parts of a path
abbrev pub first_of : List ℕ → ℕ
first_of path = get_or path 0 0

abbrev pub rest_of : List ℕ → List ℕ
rest_of path = take (length path - 1) (drop 1 path)

abbrev pub last_of : List ℕ → ℕ
last_of path = get_or path (length path - 1) 0

pub rest_is : (t : ℕ) (us : List ℕ) → rest_of (t ∷ us) ≡ us
rest_is t us = let back : length (t ∷ us) - 1 ≡ length us = omega arith in ap (λ n. take n us) back ∙ take-length us

pub last_is : (t : ℕ) (us : List ℕ) → last_of (t ∷ us) ≡ end_of t us
last_is t us = let back : length (t ∷ us) - 1 ≡ length us = omega arith in ap (λ n. get_or (t ∷ us) n 0) back ∙ there t us where
  there : (t : ℕ) (us : List ℕ) → get_or (t ∷ us) (length us) 0 ≡ end_of t us
  there t [] = refl
  there t (u ∷ us) = there u us

-- the clause of a path by its parts
pub record PathParts (words : List ℕ) (atoms : List Atom) (path : List ℕ) : Type 0 where
  pub is : path_clause words path ≡ Some (no_links (first_of path) (rest_of path) ++ ends_clause words (first_of path) (last_of path))
  pub links : HasAtoms atoms (no_links (first_of path) (rest_of path))
  pub ends : HasAtoms atoms (ends_clause words (first_of path) (last_of path))

pub parts_of : (words : List ℕ) (atoms : List Atom) (path : List ℕ) → IsPathOver words atoms path → PathParts words atoms path
parts_of words atoms [] over = let e = over.clause_is in cc
parts_of words atoms (t ∷ us) over = elim (cases_Bool (is_path words t us)) [
  | inl p ↦
      let parts = no_links t us ++ ends_clause words t (end_of t us) in
      let new = no_links t (rest_of (t ∷ us)) ++ ends_clause words t (last_of (t ∷ us)) in
      let same : parts ≡ new = ap (λ xs. no_links t xs ++ ends_clause words t (end_of t us)) (sym (rest_is t us)) ∙ ap (λ x. no_links t (rest_of (t ∷ us)) ++ ends_clause words t x) (sym (last_is t us)) in
      let is : path_clause words (t ∷ us) ≡ Some new = ap (λ b. if b then Some parts else None) p ∙ ap Some same in
      let whole : new ≡ over.clause = some-injective new over.clause (sym is ∙ over.clause_is) in
      let all = and_parts _ _ (sym (list_all-append (λ (l : Lit). is_atom atoms l.atom) (no_links t (rest_of (t ∷ us))) (ends_clause words t (last_of (t ∷ us)))) ∙ ap (list_all (λ (l : Lit). is_atom atoms l.atom)) whole ∙ over.there) in
      record { is = is; links = all.0; ends = all.1 }
  | inr n ↦
      let e : None ≡ Some over.clause = sym (ap (λ b. if b then Some (no_links t us ++ ends_clause words t (end_of t us)) else None) n) ∙ over.clause_is in
      cc
]

abbrev both : List ℕ → ℕ → ℕ → Bool
both words s t = is_constant words s && is_constant words t

pub end_there : (words : List ℕ) (atoms : List Atom) (s t : ℕ) → both words s t ≡ false → HasAtoms atoms (ends_clause words s t) → is_atom atoms (pair_of s t) ≡ true
unfolding ends_clause
end_there words atoms s t n h = let g : (is_atom atoms (pair_of s t) && true) ≡ true = rw n at h in (and_parts (is_atom atoms (pair_of s t)) true g).0

pub clause_with_end : (words : List ℕ) (atoms : List Atom) (path : List ℕ) (c : List ℤ) (l : ℤ) → PathParts words atoms path → is_clause (length atoms) c ≡ true
    → through atoms c ≡ no_links (first_of path) (rest_of path) → both words (first_of path) (last_of path) ≡ false
    → IsLiteralOf atoms true (first_of path) (last_of path) l → IsClauseOf words atoms path (c ++ l ∷ [])
unfolding ends_clause
clause_with_end words atoms path c l parts within is n end =
    let s = first_of path in
    let t = last_of path in record {
      within = within_more atoms c true s t l end within;
      is =
          parts.is ∙ ap (λ b. Some (no_links s (rest_of path) ++ (if b then [] else yes_of (pair_of s t) ∷ []))) n
          ∙ ap (λ x. Some (x ++ yes_of (pair_of s t) ∷ [])) (sym is) ∙ ap Some (sym (through_more atoms c true s t l end));
    }

pub clause_without_end : (words : List ℕ) (atoms : List Atom) (path : List ℕ) (c : List ℤ) → PathParts words atoms path → is_clause (length atoms) c ≡ true
    → through atoms c ≡ no_links (first_of path) (rest_of path) → both words (first_of path) (last_of path) ≡ true → IsClauseOf words atoms path c
unfolding ends_clause
clause_without_end words atoms path c parts within is y =
    let s = first_of path in
    let t = last_of path in record {
      within = within;
      is = parts.is ∙ ap (λ b. Some (no_links s (rest_of path) ++ (if b then [] else yes_of (pair_of s t) ∷ []))) y ∙ ap Some (append-nil (no_links s (rest_of path)) ∙ sym is);
    }
