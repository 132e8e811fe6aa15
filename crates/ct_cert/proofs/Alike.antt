-- A clause without a literal that stands before in it is like the clause, and like derivations are both accepted or none.
use Rattle.std.{proofs.Common.{◌≡◌, ℕ, zero, suc, ◌+◌, ◌<◌, Bool, true, false, ◌&&◌, ◌||◌, List, [], ◌∷◌, ◌++◌, length, get_or, take, drop, drop-cons, add-one, append_assoc, Option, Some, None, refl, ap, sym, ◌∙◌, subst, inl, inr, if◌then◌else◌}, specs.Prelude.{slice_get, nat_lt}, specs.List.{list_all, AllZip}}
use Rattle.std.proofs.lemmas.Bool.{or_cases, cases_Bool, false≢true}
use Rattle.std.proofs.lemmas.List.Elements.{AllZip-push, all_zip_more}
use Rattle.std.proofs.lemmas.List.Folds.{list_any-append, list_any_at}
use Rattle.ct_word.specs.WellFormed.{is_place_of}
use Rattle.ct_word.specs.declared.kinds.Class.TheVariants as class
use Rattle.ct_derivation.{specs.declared.literals.Lit.Lit, specs.declared.steps.Why.Why, specs.declared.steps.Step.Step, specs.declared.steps.Derivation.Derivation}
use Rattle.ct_derivation.specs.declared.steps.Why.TheVariants as why
use Rattle.ct_derivation.specs.Literal.{Clause, same_lit, has, same_members, negated}
use Rattle.ct_derivation.specs.Propagation.{Look, Unfit, Falsified, Forces, look, look_at, meets, follows}
use Rattle.ct_derivation.specs.Definition.{definition}
use Rattle.ct_derivation.specs.Path.{path_clause}
use Rattle.ct_derivation.specs.Accepts.{over_atoms, clauses_of, fits_lit, is_clause, gives, is_right, all_right, is_empty, ends_empty, accepts}
use Rattle.ct_derivation.proofs.Members.{same_lit_is, same_lit_self}
use Rattle.ct_cert.specs.Alike.{Alike, AreAlike}

-- a literal that stands at a place is among them
pub at_has : (ls : Clause) (i : ℕ) (l m : Lit) → i < length ls → m ≡ get_or ls i m → same_lit l m ≡ true → has ls l ≡ true
unfolding has
at_has ls i l m lt at e = list_any_at (same_lit l) ls i m lt (subst (λ x. same_lit l x ≡ true) at e)

-- one turn of a look: whether the literal is false, whether it is true, the open one so far, and how it goes on
abbrev turn : Bool → Bool → Option Lit → Lit → (Option Lit → Look Lit) → Look Lit
turn a b rest y go =
    if a then go rest
    else (if b then Unfit
    else elim rest [ None ↦ go (Some y) | Some m ↦ if same_lit m y then go (Some m) else Unfit ])

turn_same : (a b : Bool) (rest : Option Lit) (y : Lit) (go on : Option Lit → Look Lit) → ((r : Option Lit) → go r ≡ on r) → turn a b rest y go ≡ turn a b rest y on
turn_same true b rest y go on e = e rest
turn_same false true rest y go on e = refl
turn_same false false None y go on e = e (Some y)
turn_same false false (Some m) y go on e = ap (λ z. if same_lit m y then z else Unfit) (e (Some m))

-- a literal that is not false goes on as the open one, or not at all
turn_open : (b : Bool) (rest : Option Lit) (y : Lit) (go on : Option Lit → Look Lit) → (b ≡ false → go (Some y) ≡ on (Some y)) → turn false b rest y go ≡ turn false b rest y on
turn_open true rest y go on e = refl
turn_open false None y go on e = e refl
turn_open false (Some m) y go on e = elim (cases_Bool (same_lit m y)) [
  | inl s ↦ rw s (subst (λ x. go (Some x) ≡ on (Some x)) (sym (same_lit_is m y s)) (e refl))
  | inr d ↦ rw d refl
]

own_turn : (a : Bool) (l : Look Lit) → (if a then l else (if false then Unfit else (if true then l else Unfit))) ≡ l
own_turn true l = refl
own_turn false l = refl

module _ (falses : Clause) (x : Lit) (back : Clause) where
  -- with a false literal and without it
  less_false : has falses x ≡ true → (front : Clause) (rest : Option Lit) → look over_atoms falses rest (front ++ x ∷ back) ≡ look over_atoms falses rest (front ++ back)
  unfolding has
  less_false e [] rest = ap (λ a. turn a (has falses (negated x)) rest x (λ r. look over_atoms falses r back)) e
  less_false e (y ∷ front) rest = turn_same (has falses y) (has falses (negated y)) rest y (λ r. look over_atoms falses r (front ++ x ∷ back)) (λ r. look over_atoms falses r (front ++ back)) (less_false e front)

  -- with the open literal once more and without that
  less_open : has falses (negated x) ≡ false → (front : Clause) → look over_atoms falses (Some x) (front ++ x ∷ back) ≡ look over_atoms falses (Some x) (front ++ back)
  unfolding has
  less_open e [] =
      let own = look over_atoms falses (Some x) back in
      ap (λ b. if has falses x then own else (if b then Unfit else (if same_lit x x then own else Unfit))) e
      ∙ ap (λ s. if has falses x then own else (if false then Unfit else (if s then own else Unfit))) (same_lit_self x)
      ∙ own_turn (has falses x) own
  less_open e (y ∷ front) =
      ap (λ z. if has falses y then z else (if has falses (negated y) then Unfit else (if same_lit x y then z else Unfit))) (less_open e front)

  less_look : (front : Clause) (rest : Option Lit) → has front x ≡ true → look over_atoms falses rest (front ++ x ∷ back) ≡ look over_atoms falses rest (front ++ back)
  unfolding has
  less_look [] rest h = absurd (false≢true h)
  less_look (y ∷ front) rest h = elim (or_cases (same_lit x y) (has front x) h) [
    | inr t ↦ turn_same (has falses y) (has falses (negated y)) rest y (λ r. look over_atoms falses r (front ++ x ∷ back)) (λ r. look over_atoms falses r (front ++ back)) (λ r. less_look front r t)
    | inl s ↦ subst (λ z. look over_atoms falses rest (z ∷ (front ++ x ∷ back)) ≡ look over_atoms falses rest (z ∷ (front ++ back))) (same_lit_is x y s) (elim (cases_Bool (has falses x)) [
      | inl f ↦ less_false f (x ∷ front) rest
      | inr o ↦
          let go : Option Lit → Look Lit = λ r. look over_atoms falses r (front ++ x ∷ back) in
          let on : Option Lit → Look Lit = λ r. look over_atoms falses r (front ++ back) in
          ap (λ a. turn a (has falses (negated x)) rest x go) o
          ∙ turn_open (has falses (negated x)) rest x go on (λ e. less_open e front)
          ∙ sym (ap (λ a. turn a (has falses (negated x)) rest x on) o)
    ])
  ]

-- a test that holds only where an earlier one does adds nothing
spare : (a b c : Bool) → (b ≡ true → a ≡ true) → (a || (b || c)) ≡ (a || c)
spare true b c e = refl
spare false true c e = absurd (false≢true (e refl))
spare false false c e = refl

less_has : (front : Clause) (x : Lit) (back : Clause) → has front x ≡ true → (l : Lit) → has (front ++ x ∷ back) l ≡ has (front ++ back) l
unfolding has
less_has front x back h l =
    list_any-append (same_lit l) front (x ∷ back)
    ∙ spare (has front l) (same_lit l x) (has back l) (λ s. subst (λ z. has front z ≡ true) (sym (same_lit_is l x s)) h)
    ∙ sym (list_any-append (same_lit l) front back)

-- a test that holds where others do, with it once more and without that
own_all : (a b : Bool) → a ≡ true → (a && b) ≡ b
own_all true b e = refl
own_all false b e = absurd (false≢true e)

less_all : (p : Lit → Bool) (front : Clause) (x : Lit) (back : Clause) → has front x ≡ true → list_all p (front ++ x ∷ back) ≡ list_all p (front ++ back)
unfolding has
less_all p [] x back h = absurd (false≢true h)
less_all p (y ∷ front) x back h = elim (or_cases (same_lit x y) (has front x) h) [
  | inr t ↦ ap (λ b. p y && b) (less_all p front x back t)
  | inl s ↦ subst (λ z. (p z && list_all p (front ++ x ∷ back)) ≡ (p z && list_all p (front ++ back))) (same_lit_is x y s) (under (p x) refl)
]
  where
    behind : p x ≡ true → (front : Clause) → list_all p (front ++ x ∷ back) ≡ list_all p (front ++ back)
    behind e [] = own_all (p x) (list_all p back) e
    behind e (y ∷ front) = ap (λ b. p y && b) (behind e front)

    under : (a : Bool) → p x ≡ a → (a && list_all p (front ++ x ∷ back)) ≡ (a && list_all p (front ++ back))
    under true e = behind e front
    under false e = refl

less_empty : (front : Clause) (x : Lit) (back : Clause) → has front x ≡ true → is_empty (front ++ x ∷ back) ≡ is_empty (front ++ back)
unfolding has
less_empty [] x back h = absurd (false≢true h)
less_empty (y ∷ front) x back h = refl

-- a clause is like itself
pub alike_self : (clause : Clause) → Alike clause clause
alike_self clause = record { members = λ l. refl; all = λ p. refl; looks = λ falses rest. refl; empty = refl }

-- a literal that stands in front may be left out
pub alike_less : (clause front : Clause) (x : Lit) (back : Clause) → has front x ≡ true → Alike clause (front ++ x ∷ back) → Alike clause (front ++ back)
alike_less clause front x back h a = record {
  members = λ l. a.members l ∙ less_has front x back h l;
  all = λ p. a.all p ∙ less_all p front x back h;
  looks = λ falses rest. a.looks falses rest ∙ less_look falses x back front rest h;
  empty = a.empty ∙ less_empty front x back h;
}

module _ (clause kept : Clause) (i : ℕ) (d : Lit) (lt : i < length clause) where
  behind : drop i clause ≡ get_or clause i d ∷ drop (i + 1) clause
  behind = drop-cons clause i d lt ∙ ap (λ n. get_or clause i d ∷ drop n clause) (sym (add-one i))

  -- the next literal is kept, or left out where it has been kept before
  pub alike_kept : Alike clause (kept ++ drop i clause) → Alike clause ((kept ++ get_or clause i d ∷ []) ++ drop (i + 1) clause)
  alike_kept a = subst (Alike clause) (ap (λ ls. kept ++ ls) behind ∙ sym (append_assoc kept (get_or clause i d ∷ []) (drop (i + 1) clause))) a

  pub alike_left : has kept (get_or clause i d) ≡ true → Alike clause (kept ++ drop i clause) → Alike clause (kept ++ drop (i + 1) clause)
  alike_left h a = alike_less clause kept (get_or clause i d) (drop (i + 1) clause) h (subst (Alike clause) (ap (λ ls. kept ++ ls) behind) a)

-- a look depends on which literals are false alone
look_by : (fs gs : Clause) → ((l : Lit) → has fs l ≡ has gs l) → (rest : Option Lit) (ls : Clause) → look over_atoms fs rest ls ≡ look over_atoms gs rest ls
unfolding has
look_by fs gs e rest [] = refl
look_by fs gs e rest (y ∷ ls) =
    turn_same (has fs y) (has fs (negated y)) rest y (λ r. look over_atoms fs r ls) (λ r. look over_atoms gs r ls) (λ r. look_by fs gs e r ls)
    ∙ (λ i. turn (e y i) (e (negated y) i) rest y (λ r. look over_atoms gs r ls))

looks_at : (fs gs : Clause) → ((l : Lit) → has fs l ≡ has gs l) → (ss ts : List Step) → AllZip AreAlike ss ts → (h : ℕ)
    → look_at over_atoms fs (slice_get (clauses_of ss) h) ≡ look_at over_atoms gs (slice_get (clauses_of ts) h)
looks_at fs gs e [] [] z h = refl
looks_at fs gs e [] (t ∷ ts) z h = absurd z
looks_at fs gs e (s ∷ ss) [] z h = absurd z
looks_at fs gs e (s ∷ ss) (t ∷ ts) z zero = z.0.clauses.looks fs None ∙ look_by fs gs e None t.clause
looks_at fs gs e (s ∷ ss) (t ∷ ts) z (suc h) = looks_at fs gs e ss ts z.1 h

more_has : (fs gs : Clause) (m : Lit) → ((l : Lit) → has fs l ≡ has gs l) → (l : Lit) → has (fs ++ m ∷ []) l ≡ has (gs ++ m ∷ []) l
unfolding has
more_has fs gs m e l = list_any-append (same_lit l) fs (m ∷ []) ∙ ap (λ b. b || has (m ∷ []) l) (e l) ∙ sym (list_any-append (same_lit l) gs (m ∷ []))

counts : (ss ts : List Step) → AllZip AreAlike ss ts → length (clauses_of ss) ≡ length (clauses_of ts)
counts [] [] z = refl
counts [] (t ∷ ts) z = absurd z
counts (s ∷ ss) [] z = absurd z
counts (s ∷ ss) (t ∷ ts) z = ap suc (counts ss ts z.1)

module _ (ss ts : List Step) (z : AllZip AreAlike ss ts) where
  abbrev after : List Clause → Clause → List ℕ → Look Lit → Bool
  after log falses hs k = elim k [ Unfit ↦ false | Falsified ↦ true | Forces l ↦ meets over_atoms log (falses ++ negated l ∷ []) hs ]

  on_look : (fs gs : Clause) (hs : List ℕ) → ((l : Lit) → meets over_atoms (clauses_of ss) (fs ++ negated l ∷ []) hs ≡ meets over_atoms (clauses_of ts) (gs ++ negated l ∷ []) hs)
      → (k : Look Lit) → after (clauses_of ss) fs hs k ≡ after (clauses_of ts) gs hs k
  on_look fs gs hs e Unfit = refl
  on_look fs gs hs e Falsified = refl
  on_look fs gs hs e (Forces l) = e l

  meets_alike : (fs gs : Clause) → ((l : Lit) → has fs l ≡ has gs l) → (hs : List ℕ) → meets over_atoms (clauses_of ss) fs hs ≡ meets over_atoms (clauses_of ts) gs hs
  meets_alike fs gs e [] = refl
  meets_alike fs gs e (h ∷ hs) =
      ap (after (clauses_of ss) fs hs) (looks_at fs gs e ss ts z h)
      ∙ on_look fs gs hs (λ l. meets_alike (fs ++ negated l ∷ []) (gs ++ negated l ∷ []) (more_has fs gs (negated l) e) hs) (look_at over_atoms gs (slice_get (clauses_of ts) h))

  follows_alike : (ls ms : Clause) → Alike ls ms → (hs : List ℕ) → follows over_atoms (clauses_of ss) ls hs ≡ follows over_atoms (clauses_of ts) ms hs
  follows_alike ls ms a hs = λ i. list_all (λ h. nat_lt h (counts ss ts z i)) hs && meets_alike ls ms a.members hs i

members_alike : (ls ms cs : Clause) → Alike ls ms → same_members ls cs ≡ same_members ms cs
unfolding same_members
members_alike ls ms cs a = λ i. a.all (has cs) i && list_all (λ l. a.members l i) cs

clause_alike : (o : Option Clause) (ls ms : Clause) → Alike ls ms → is_clause o ls ≡ is_clause o ms
clause_alike None ls ms a = refl
clause_alike (Some cs) ls ms a = members_alike ls ms cs a

module _ (words : List ℕ) (root : ℕ) where
  gives_alike : (ss ts : List Step) → AllZip AreAlike ss ts → (w : Why) (ls ms : Clause) → Alike ls ms → gives words root ss w ls ≡ gives words root ts w ms
  unfolding gives
  gives_alike ss ts z why.Root ls ms a = members_alike ls ms _ a
  gives_alike ss ts z (why.Def p k) ls ms a = clause_alike (definition (slice_get words p) p k) ls ms a
  gives_alike ss ts z (why.Path us) ls ms a = clause_alike (path_clause words us) ls ms a
  gives_alike ss ts z (why.Rup hs) ls ms a = follows_alike ss ts z ls ms a hs

  right_alike : (ss ts : List Step) → AllZip AreAlike ss ts → (s t : Step) → AreAlike s t → is_right words root ss s ≡ is_right words root ts t
  unfolding is_right
  right_alike ss ts z s t a =
      let given = gives_alike ss ts z s.why s.clause t.clause a.clauses ∙ ap (λ w. gives words root ts w t.clause) a.whys in
      λ i. a.clauses.all (fits_lit words) i && given i

  all_alike : (ss ts before after : List Step) → AllZip AreAlike before after → AllZip AreAlike ss ts → all_right words root before ss ≡ all_right words root after ts
  all_alike [] [] before after b z = refl
  all_alike [] (t ∷ ts) before after b z = absurd z
  all_alike (s ∷ ss) [] before after b z = absurd z
  all_alike (s ∷ ss) (t ∷ ts) before after b z =
      let own = right_alike before after b s t z.0 in
      let others = all_alike ss ts (before ++ s ∷ []) (after ++ t ∷ []) (AllZip-push AreAlike before after s t b z.0) z.1 in
      λ i. own i && others i

ends_alike : (ss ts : List Step) → AllZip AreAlike ss ts → ends_empty ss ≡ ends_empty ts
ends_alike [] [] z = refl
ends_alike [] (t ∷ ts) z = absurd z
ends_alike (s ∷ ss) [] z = absurd z
ends_alike (s ∷ []) (t ∷ []) z = z.0.clauses.empty
ends_alike (s ∷ []) (t ∷ u ∷ ts) z = absurd z.1
ends_alike (s ∷ r ∷ ss) (t ∷ []) z = absurd z.1
ends_alike (s ∷ r ∷ ss) (t ∷ u ∷ ts) z = ends_alike (r ∷ ss) (u ∷ ts) z.1

-- one more step, from a list that is the steps
pub more_alike : (R : Step → Step → Type 0) (steps items news : List Step) (i : ℕ) (s t : Step) → items ≡ steps → i < length items → s ≡ get_or items i s → AllZip R (take i steps) news → R s t
    → AllZip R (take (i + 1) steps) (news ++ t ∷ [])
more_alike R steps items news i s t e lt at z a =
    all_zip_more R steps news i s t (subst (λ ss. i < length ss) e lt) (subst (λ ss. s ≡ get_or ss i s) e at) z a

-- both are accepted or none
pub accepts_alike : (words : List ℕ) (root : ℕ) (d e : Derivation) → AllZip AreAlike d.steps e.steps → accepts words root d ≡ accepts words root e
unfolding accepts
accepts_alike words root d e z =
    let right = all_alike words root d.steps e.steps [] [] tt z in
    let ends = ends_alike d.steps e.steps z in
    λ i. (is_place_of words class.Cond root && right i) && ends i
