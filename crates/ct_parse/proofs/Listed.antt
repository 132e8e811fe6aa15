-- Lists of parts, each read in its turn, and pairs of parts: what loops keep, and what their ends show.
use Rattle.std.{proofs.Common.{◌≡◌, ◌≤◌, List, [], ◌∷◌, ◌++◌, length, refl, ap, ap₂, sym, subst, ◌∙◌, arith, append_assoc}, proofs.lemmas.List.append-nil}
use Rattle.ct_lex.specs.declared.token.Lexeme.{Lexeme}
use Rattle.ct_parse.{specs.Reads.{Reads, Never}, proofs.Fronts.{Same, tail, moved}}

-- a part behind a lexeme
abbrev pub Behind : {T : Type 0} → Lexeme → (List Lexeme → T → List Lexeme → Type 0) → List Lexeme → T → List Lexeme → Type 0
Behind w X ws x m = (behind : List Lexeme) × (ws ≡ w ∷ behind) × X behind x m

pub behind_reads : {T : Type 0} {w : Lexeme} {X : List Lexeme → T → List Lexeme → Type 0} {E : List Lexeme → Type 0} {ws rest m : List Lexeme} {x : T} → ws ≡ w ∷ rest → Reads X E rest x m
    → Reads (Behind w X) E ws x m
behind_reads {X = X} {rest = rest} e h = record {
  is = (rest, e, h.is);
  only = λ t r ends b. h.only t r ends (moved X (ap tail (sym b.1 ∙ e)) b.2);
  within = omega (arith, h.within, ap length e);
}

pub behind_never : {T : Type 0} {w : Lexeme} (X : List Lexeme → T → List Lexeme → Type 0) {E : List Lexeme → Type 0} {ws rest : List Lexeme} → ws ≡ w ∷ rest → Never X E rest → Never (Behind w X) E ws
behind_never X e never = λ t r ends b. never t r ends (moved X (ap tail (sym b.1 ∙ e)) b.2)

-- a list of parts has none, or a part and then others
pub data Cases {T : Type 0} (X : List Lexeme → T → List Lexeme → Type 0) (L : List Lexeme → List T → List Lexeme → Type 0) : List Lexeme → List T → List Lexeme → Type 0 where
  ended : {r : List Lexeme} → Cases X L r [] r
  split : {ws m r : List Lexeme} {x : T} {xs : List T} → X ws x m → L m xs r → Cases X L ws (x ∷ xs) r

-- L is a list of X; a part ends where another begins, and where the list ends; where the list ends no part stands
pub record Lists {T : Type 0} (X : List Lexeme → T → List Lexeme → Type 0) (EX EL : List Lexeme → Type 0) (L : List Lexeme → List T → List Lexeme → Type 0) : Type 0 where
  pub none : {r : List Lexeme} → L r [] r
  pub more : {ws m r : List Lexeme} {x : T} {xs : List T} → X ws x m → L m xs r → L ws (x ∷ xs) r
  pub cases : {ws r : List Lexeme} {xs : List T} → L ws xs r → Cases X L ws xs r
  pub before : {ws r : List Lexeme} {xs : List T} → L ws xs r → EL r → EX ws
  pub apart : {ws r : List Lexeme} {x : T} → X ws x r → EL ws → ⊥

-- what a loop over parts keeps: what completes the rest completes all, and what reads all reads the rest
pub record SoFar {T : Type 0} (EL : List Lexeme → Type 0) (L : List Lexeme → List T → List Lexeme → Type 0) (ws rest : List Lexeme) (xs : List T) : Type 0 where
  pub so_far : (us : List T) (r : List Lexeme) → L rest us r → L ws (xs ++ us) r
  pub only : (us : List T) (r : List Lexeme) → EL r → L ws us r → (vs : List T) × L rest vs r × (us ≡ xs ++ vs)
  pub within : length rest ≤ length ws

pub at_start : {T : Type 0} {EL : List Lexeme → Type 0} {L : List Lexeme → List T → List Lexeme → Type 0} {ws : List Lexeme} → SoFar EL L ws ws []
at_start = record { so_far = λ us r l. l; only = λ us r e l. (us, l, refl); within = omega arith }

module _ {T : Type 0} {X : List Lexeme → T → List Lexeme → Type 0} {EX EL : List Lexeme → Type 0} {L : List Lexeme → List T → List Lexeme → Type 0} (k : Lists X EX EL L) where
  step_only : {rest after r : List Lexeme} {us vs : List T} (xs : List T) (x : T) → Reads X EX rest x after → EL r → Cases X L rest vs r → us ≡ xs ++ vs
      → (vs' : List T) × L after vs' r × (us ≡ xs ++ x ∷ [] ++ vs')
  step_only xs x h e ended f = absurd (k.apart h.is e)
  step_only xs x h e (split {xs = vs'} y l) f =
      let s = h.only _ _ (k.before l e) y in
      (vs', moved L s.1 l, f ∙ ap (λ y. xs ++ y ∷ vs') s.0 ∙ sym (append_assoc xs (x ∷ []) vs'))

  step : {ws rest after : List Lexeme} {xs : List T} {x : T} → SoFar EL L ws rest xs → Reads X EX rest x after → SoFar EL L ws after (xs ++ x ∷ [])
  step {ws = ws} {xs = xs} {x = x} s h = record {
    so_far = λ us r l. subst (λ y. L ws y r) (sym (append_assoc xs (x ∷ []) us)) (s.so_far (x ∷ us) r (k.more h.is l));
    only = λ us r e l. let o = s.only us r e l in step_only xs x h e (k.cases o.1) o.2;
    within = omega (arith, s.within, h.within);
  }

  pub one_more : {ws rest after : List Lexeme} {xs ys : List T} {x : T} → SoFar EL L ws rest xs → Reads X EX rest x after → ys ≡ xs ++ x ∷ [] → SoFar EL L ws after ys
  one_more {ws = ws} {after = after} s h e = subst (SoFar EL L ws after) (sym e) (step s h)

  end_only : {rest r : List Lexeme} {us vs : List T} (xs : List T) → ((x : T) (m : List Lexeme) → X rest x m → ⊥) → Cases X L rest vs r → us ≡ xs ++ vs → Same us xs r rest
  end_only xs never ended f = (f ∙ append-nil xs, refl)
  end_only xs never (split y l) f = absurd (never _ _ y)

  pub at_end : {ws rest : List Lexeme} {xs : List T} → SoFar EL L ws rest xs → ((x : T) (m : List Lexeme) → X rest x m → ⊥) → Reads L EL ws xs rest
  at_end {ws = ws} {rest = rest} {xs = xs} s never = record {
    is = subst (λ y. L ws y rest) (append-nil xs) (s.so_far [] rest k.none);
    only = λ us r e l. let o = s.only us r e l in end_only xs never (k.cases o.1) o.2;
    within = s.within;
  }

  broken : {rest r : List Lexeme} {vs : List T} → (EL rest → ⊥) → Never X EX rest → EL r → Cases X L rest vs r → ⊥
  broken goes never e ended = goes e
  broken goes never e (split y l) = never _ _ (k.before l e) y

  pub no_list : {ws rest : List Lexeme} {xs : List T} → SoFar EL L ws rest xs → (EL rest → ⊥) → Never X EX rest → Never L EL ws
  no_list s goes never = λ us r e l. let o = s.only us r e l in broken goes never e (k.cases o.1)

  pub none_read : {r : List Lexeme} → EL r → Reads L EL r [] r
  none_read e = at_end at_start (λ x m y. k.apart y e)

  more_only : {ws m r r' : List Lexeme} {x : T} {xs us : List T} → Reads X EX ws x m → Reads L EL m xs r → EL r' → Cases X L ws us r' → Same us (x ∷ xs) r' r
  more_only h i e ended = absurd (k.apart h.is e)
  more_only h i e (split y l) =
      let s = h.only _ _ (k.before l e) y in
      let t = i.only _ _ e (moved L s.1 l) in
      (ap₂ (λ x y. x ∷ y) s.0 t.0, t.1)

  pub more_read : {ws m r : List Lexeme} {x : T} {xs : List T} → Reads X EX ws x m → Reads L EL m xs r → Reads L EL ws (x ∷ xs) r
  more_read h i = record { is = k.more h.is i.is; only = λ us r' e l. more_only h i e (k.cases l); within = omega (arith, h.within, i.within) }

-- C is an A and then a B
pub data Parts {S T U : Type 0} (A : List Lexeme → S → List Lexeme → Type 0) (B : List Lexeme → T → List Lexeme → Type 0) (f : S → T → U) : List Lexeme → U → List Lexeme → Type 0 where
  parts : {ws m r : List Lexeme} {x : S} {y : T} → A ws x m → B m y r → Parts A B f ws (f x y) r

pub record Pairs {S T U : Type 0} (A : List Lexeme → S → List Lexeme → Type 0) (EA : List Lexeme → Type 0) (B : List Lexeme → T → List Lexeme → Type 0) (EB : List Lexeme → Type 0)
    (f : S → T → U) (C : List Lexeme → U → List Lexeme → Type 0) : Type 0 where
  pub both : {ws m r : List Lexeme} {x : S} {y : T} → A ws x m → B m y r → C ws (f x y) r
  pub cases : {ws r : List Lexeme} {u : U} → C ws u r → Parts A B f ws u r
  pub before : {ws r : List Lexeme} {y : T} → B ws y r → EB r → EA ws

module _ {S T U : Type 0} {A : List Lexeme → S → List Lexeme → Type 0} {EA : List Lexeme → Type 0} {B : List Lexeme → T → List Lexeme → Type 0} {EB : List Lexeme → Type 0} {f : S → T → U}
    {C : List Lexeme → U → List Lexeme → Type 0} (k : Pairs A EA B EB f C) where
  both_only : {ws m r r' : List Lexeme} {x : S} {y : T} {u : U} → Reads A EA ws x m → Reads B EB m y r → EB r' → Parts A B f ws u r' → Same u (f x y) r' r
  both_only h i e (parts a b) =
      let s = h.only _ _ (k.before b e) a in
      let t = i.only _ _ e (moved B s.1 b) in
      (ap₂ f s.0 t.0, t.1)

  pub both_read : {ws m r : List Lexeme} {x : S} {y : T} → Reads A EA ws x m → Reads B EB m y r → Reads C EB ws (f x y) r
  both_read h i = record { is = k.both h.is i.is; only = λ u r' e c. both_only h i e (k.cases c); within = omega (arith, h.within, i.within) }

  none_first : {ws r : List Lexeme} {u : U} → Never A EA ws → EB r → Parts A B f ws u r → ⊥
  none_first never e (parts a b) = never _ _ (k.before b e) a

  pub no_first : {ws : List Lexeme} → Never A EA ws → Never C EB ws
  no_first never = λ u r e c. none_first never e (k.cases c)

  none_second : {ws m r : List Lexeme} {x : S} {u : U} → Reads A EA ws x m → Never B EB m → EB r → Parts A B f ws u r → ⊥
  none_second h never e (parts a b) = never _ _ e (moved B (h.only _ _ (k.before b e) a).1 b)

  pub no_second : {ws m : List Lexeme} {x : S} → Reads A EA ws x m → Never B EB m → Never C EB ws
  no_second h never = λ u r e c. none_second h never e (k.cases c)
