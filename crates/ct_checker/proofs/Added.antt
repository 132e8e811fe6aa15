-- Literals that are put into a list once have the members of the others, and are no more than a clause with them.
use Rattle.std.proofs.Common.{◌≡◌, ◌+◌, ◌≤◌, Bool, true, false, ◌&&◌, ◌||◌, cond, List, [], ◌∷◌, ◌++◌, length, length-append, refl, ap, sym, ◌∙◌, subst, arith, inl, inr}
use Rattle.std.{specs.List.{list_all, IsDistinct}, proofs.Math.Bool.{or_assoc, or-false}, proofs.lemmas.Bool.{and_parts, or_cases, false≢true}}
use Rattle.std.{proofs.lemmas.Map.Keys.IsDistinct-push, proofs.lemmas.Map.Made.length-le_from_is_member}
use Rattle.ct_derivation.{specs.declared.literals.Lit.Lit, specs.Literal.{same_lit, has}, proofs.Members.{same_lit_is, lit_laws}}
use Rattle.ct_checker.{specs.Added.{added, added_all}, proofs.Members.has_append}

-- a test that holds only where another does adds nothing to it
held : (a b : Bool) → (b ≡ true → a ≡ true) → a ≡ (a || b)
held true b f = refl
held false false f = refl
held false true f = f refl

added_has : (ls : List Lit) (m l : Lit) → has (added ls m) l ≡ (has ls l || same_lit l m)
unfolding has added
added_has ls m l = go (has ls m) refl
  where
    go : (b : Bool) → has ls m ≡ b → has (cond b ls (ls ++ m ∷ [])) l ≡ (has ls l || same_lit l m)
    go true e = held (has ls l) (same_lit l m) (λ s. subst (λ x. has ls x ≡ true) (sym (same_lit_is l m s)) e)
    go false e = has_append l ls (m ∷ []) ∙ ap (λ b. has ls l || b) (or-false (same_lit l m))

added_distinct : (ls : List Lit) (m : Lit) → IsDistinct same_lit ls → IsDistinct same_lit (added ls m)
unfolding has added
added_distinct ls m d = go (has ls m) refl
  where
    go : (b : Bool) → has ls m ≡ b → IsDistinct same_lit (cond b ls (ls ++ m ∷ []))
    go true e = d
    go false e = IsDistinct-push lit_laws ls m d e

added_length : (ls : List Lit) (m : Lit) → length ls ≤ length (added ls m)
unfolding added
added_length ls m = go (has ls m)
  where
    go : (b : Bool) → length ls ≤ length (cond b ls (ls ++ m ∷ []))
    go true = omega arith
    go false = omega (arith, length-append ls (m ∷ []))

all_has : (ls ms : List Lit) (l : Lit) → has (added_all ls ms) l ≡ (has ls l || has ms l)
unfolding has
all_has ls [] l = sym (or-false (has ls l))
all_has ls (m ∷ ms) l =
    all_has (added ls m) ms l ∙ ap (λ b. b || has ms l) (added_has ls m l) ∙ or_assoc (has ls l) (same_lit l m) (has ms l)

has_from_none : (ms : List Lit) (l : Lit) → has (added_all [] ms) l ≡ has ms l
unfolding has
has_from_none ms l = all_has [] ms l

all_distinct : (ls ms : List Lit) → IsDistinct same_lit ls → IsDistinct same_lit (added_all ls ms)
all_distinct ls [] d = d
all_distinct ls (m ∷ ms) d = all_distinct (added ls m) ms (added_distinct ls m d)

pub grows : (ls ms : List Lit) → length ls ≤ length (added_all ls ms)
grows ls [] = omega arith
grows ls (m ∷ ms) = omega (arith, added_length ls m, grows (added ls m) ms)

added_limit : (ls : List Lit) (m : Lit) → length (added ls m) ≤ length ls + 1
unfolding added
added_limit ls m = go (has ls m)
  where
    go : (b : Bool) → length (cond b ls (ls ++ m ∷ [])) ≤ length ls + 1
    go true = omega arith
    go false = omega (arith, length-append ls (m ∷ []))

pub limit : (ls ms : List Lit) → length (added_all ls ms) ≤ length ls + length ms
limit ls [] = omega arith
limit ls (m ∷ ms) = omega (arith, added_limit ls m, limit (added ls m) ms)

pub all_within : (ls ms : List Lit) → list_all (has (added_all [] ls)) ms ≡ list_all (has ls) ms
all_within ls [] = refl
all_within ls (m ∷ ms) =
    ap (λ b. b && list_all (has (added_all [] ls)) ms) (has_from_none ls m) ∙ ap (λ b. has ls m && b) (all_within ls ms)

none_distinct : IsDistinct same_lit []
unfolding IsDistinct
none_distinct = tt

within : (clause ms : List Lit) (l : Lit) → list_all (has clause) ms ≡ true → has ms l ≡ true → has clause l ≡ true
unfolding has
within clause [] l a h = absurd (false≢true h)
within clause (m ∷ ms) l a h =
    let parts = and_parts (has clause m) (list_all (has clause) ms) a in
    elim (or_cases (same_lit l m) (has ms l) h) [
      | inl s ↦ subst (λ x. has clause x ≡ true) (sym (same_lit_is l m s)) parts.0
      | inr t ↦ within clause ms l parts.1 t
    ]

-- literals of a clause, each once, are at most as many as the clause has
pub fits : (clause ms : List Lit) → list_all (has clause) ms ≡ true → length (added_all [] ms) ≤ length clause
unfolding has
fits clause ms a =
    length-le_from_is_member lit_laws (added_all [] ms) clause (all_distinct [] ms none_distinct) (λ l h. within clause ms l a (sym (has_from_none ms l) ∙ h))

has_parts : (ms ends : List Lit) (l : Lit) → has (added_all [] ms ++ ends) l ≡ has (ms ++ ends) l
unfolding has
has_parts ms ends l = has_append l (added_all [] ms) ends ∙ ap (λ b. b || has ends l) (has_from_none ms l) ∙ sym (has_append l ms ends)

pub all_parts : (ms ends ls : List Lit) → list_all (has (added_all [] ms ++ ends)) ls ≡ list_all (has (ms ++ ends)) ls
all_parts ms ends [] = refl
all_parts ms ends (l ∷ ls) =
    ap (λ b. b && list_all (has (added_all [] ms ++ ends)) ls) (has_parts ms ends l) ∙ ap (λ b. has (ms ++ ends) l && b) (all_parts ms ends ls)
