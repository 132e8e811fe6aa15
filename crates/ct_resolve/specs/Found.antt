-- What is found, or the first refusal.
use Rattle.std.specs.Prelude.{Bool, List, [], ◌∷◌, Result, Ok, Err, if◌then◌else◌}
use Rattle.ct_resolve.specs.declared.error.ResolveError.{ResolveError}

-- what is found, or the first refusal
abbrev pub Found : Type 0 → Type 0
Found A = Result A ResolveError

-- go on with what is found
abbrev pub and_then : {A B : Type 0} → Found A → (A → Found B) → Found B
and_then (Ok a) f = f a
and_then (Err e) f = Err e

-- the refusal where the test fails
abbrev pub unless : {A : Type 0} → Bool → ResolveError → Found A → Found A
unless b e r = if b then r else Err e

-- one in front of others, or the first refusal
abbrev pub in_front : {A : Type 0} → Found A → Found (List A) → Found (List A)
in_front a r = and_then a (λ x. and_then r (λ xs. Ok (x ∷ xs)))

-- each in order, or the first refusal
abbrev pub each : {A B : Type 0} → (A → Found B) → List A → Found (List B)
each f [] = Ok []
each f (x ∷ xs) = in_front (f x) (each f xs)
