-- What holds of what is found, by what holds of its parts.
use Rattle.std.{proofs.Common.{◌≡◌, Bool, true, false, List, [], ◌∷◌, refl}, proofs.lemmas.List.Elements.{All-nil, All-cons}}
use Rattle.std.specs.Prelude.{All, Ok, Err, IfOk}
use Rattle.ct_resolve.{specs.declared.error.ResolveError.ResolveError, specs.Found.{Found, and_then, unless, in_front, each}}

module _ {A B : Type 0} (P : A → Type 0) (Q : B → Type 0) where
  pub and_then_has : (m : Found A) (f : A → Found B) → IfOk m P → ((a : A) → P a → IfOk (f a) Q) → IfOk (and_then m f) Q
  and_then_has (Ok a) f p h = h a p
  and_then_has (Err e) f p h = tt

-- what is found is so itself
pub itself : {A : Type 0} (m : Found A) → IfOk m (λ a. m ≡ Ok a)
itself (Ok a) = refl
itself (Err e) = tt

module _ {A : Type 0} (P : A → Type 0) where
  pub unless_has : (b : Bool) (e : ResolveError) (r : Found A) → (b ≡ true → IfOk r P) → IfOk (unless b e r) P
  unless_has true e r h = h refl
  unless_has false e r h = tt

  pub in_front_has : (m : Found A) (r : Found (List A)) → IfOk m P → IfOk r (All P) → IfOk (in_front m r) (All P)
  in_front_has m r p ps = and_then_has P (All P) m (λ x. and_then r (λ xs. Ok (x ∷ xs))) p (λ x px. and_then_has (All P) (All P) r (λ xs. Ok (x ∷ xs)) ps (λ xs pxs. All-cons P x xs px pxs))

  pub each_has : {B : Type 0} (f : B → Found A) → ((b : B) → IfOk (f b) P) → (bs : List B) → IfOk (each f bs) (All P)
  each_has f h [] = All-nil P
  each_has f h (b ∷ bs) = in_front_has (f b) (each f bs) (h b) (each_has f h bs)
