-- Members of lists that were filtered, joined or tested.
use Rattle.std.{proofs.Common.{◌≡◌, Bool, true, false, ◌||◌, List, [], ◌∷◌, cond, refl, ap, sym, subst, ◌∙◌, arith, inl, inr}, specs.Prelude.{filter, flat_map}}
use Rattle.std.{specs.List.{Contains, list_all, list_any}, proofs.lemmas.Bool.{and_parts, and_from, cases_Bool, false≢true}}
use Rattle.std.proofs.lemmas.List.Elements.{Contains-append_cases}
use Rattle.ct_operators.proofs.Reaching.{behind, foremost, first_or_behind}

-- what gives an item
pub unflat : {X Y : Type 0} (f : X → List Y) (xs : List X) (y : Y) → Contains (flat_map f xs) y → (x : X) × Contains xs x × Contains (f x) y
unflat f [] y h = absurd (omega (arith, h.1))
unflat f (x ∷ xs) y h = elim (Contains-append_cases (f x) (flat_map f xs) y h) [
  | inl a ↦ (x, foremost x xs, a)
  | inr b ↦ let r = unflat f xs y b in (r.0, behind x xs r.0 r.1, r.2)
]

module _ {X : Type 0} (p : X → Bool) where
  -- each item passes a test that all pass
  pub passes : (xs : List X) (x : X) → list_all p xs ≡ true → Contains xs x → p x ≡ true
  passes [] x e h = absurd (omega (arith, h.1))
  passes (y ∷ xs) x e h =
      let parts = and_parts (p y) (list_all p xs) e in
      elim (first_or_behind y xs x h) [ inl q ↦ subst (λ z. p z ≡ true) q parts.0 | inr i ↦ passes xs x parts.1 i ]

  -- all pass that each passes
  pub all_pass : (xs : List X) → ((x : X) → Contains xs x → p x ≡ true) → list_all p xs ≡ true
  all_pass [] each = refl
  all_pass (y ∷ xs) each = and_from (p y) (list_all p xs) (each y (foremost y xs)) (all_pass xs (λ x i. each x (behind y xs x i)))

  -- what is left by a filter was there, and passes
  pub left_by : (xs : List X) (x : X) → Contains (filter p xs) x → Contains xs x × (p x ≡ true)
  left_by [] x h = absurd (omega (arith, h.1))
  left_by (y ∷ ys) x h = by_test (p y) refl h (left_by ys x) where
    by_test : (b : Bool) → p y ≡ b → Contains (cond b (y ∷ filter p ys) (filter p ys)) x → (Contains (filter p ys) x → Contains ys x × (p x ≡ true)) → Contains (y ∷ ys) x × (p x ≡ true)
    by_test true e h rest = elim (first_or_behind y (filter p ys) x h) [
      | inl q ↦ (subst (Contains (y ∷ ys)) q (foremost y ys), subst (λ z. p z ≡ true) q e)
      | inr i ↦ let r = rest i in (behind y ys x r.0, r.1)
    ]
    by_test false e h rest = let r = rest h in (behind y ys x r.0, r.1)

  -- an item that passes, where one does
  pub one_of : (xs : List X) → list_any p xs ≡ true → (x : X) × Contains xs x × (p x ≡ true)
  one_of [] e = absurd (false≢true e)
  one_of (y ∷ ys) e = elim (cases_Bool (p y)) [
    | inl q ↦ (y, foremost y ys, q)
    | inr q ↦ let r = one_of ys (sym (ap (λ b. b || list_any p ys) q) ∙ e) in (r.0, behind y ys r.0 r.1, r.2)
  ]
