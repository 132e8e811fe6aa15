-- The table of a log as it is made.
use Rattle.std.proofs.Common.{◌≡◌, ℕ, zero, suc, ◌+◌, ◌-◌, ◌≤◌, List, [], ◌∷◌, ◌++◌, length, refl, sym, ap, ◌∙◌, subst, arith, length-append, append-nil, append_assoc}
use Rattle.std.{specs.Prelude.replicate, proofs.lemmas.List.{length-replicate, replicate-append-replicate}}
use Rattle.ct_arena.{specs.Counts.{opening, numbers_by}, specs.declared.sharing.View.View, specs.Sharing.{first_view, IsKept, IsShared}, proofs.Tied.Sees}
use Rattle.ct_arena.proofs.Opening.{opening_formed, no_commits, two}
use mathlib.Core.Option.{some, some-injective, some-ne-none}
use lib.ListN.{get_elem?}

pub more_zeros : (xs : List ℕ) (k n : ℕ) → n ≡ k + 1 → (xs ++ replicate k 0) ++ 0 ∷ [] ≡ xs ++ replicate n 0
more_zeros xs k n e = append_assoc xs (replicate k 0) (0 ∷ []) ∙ ap (λ l. xs ++ l) (replicate-append-replicate k 1 0) ∙ ap (λ m. xs ++ replicate m 0) (sym e)

pub opening_size : (cap : ℕ) → 2 ≤ cap → length (opening ++ replicate (cap - 2) 0) ≡ cap
opening_size cap le = omega (arith, length-append opening (replicate (cap - 2) 0), two, length-replicate {A = ℕ} (cap - 2) 0)

pub makes : (cap : ℕ) (words : List ℕ) → 64 ≤ cap → words ≡ opening ++ replicate (cap - 2) 0 → IsShared cap words (first_view cap ∷ [])
makes cap words least are = record {
  log = opening;
  empty = cap - 2;
  are = are;
  size = ap length are ∙ opening_size cap (omega arith);
  formed = opening_formed;
  begins = ([], append-nil opening);
  tied = record {
    enrolled = 0;
    room = omega (arith, two, least);
    fronted = record {
      fronts = λ id v at. subst (λ (y : View). Sees opening y) (sole id v at).1 (([], append-nil opening), (opening, refl));
      keeper = λ id v at k. let is = sole id v at in (is.0, subst (λ (y : View). IsKept cap 0 opening y) is.1 (record { commits = refl; many = refl; room = refl }));
    };
    counted = record {
      made = sym two;
      many = refl;
      once = λ s. omega arith;
      past = λ s lt. refl;
      numbered = λ s. ap (numbers_by s) no_commits;
    };
  };
} where
  sole : (id : ℕ) (v : View) → get_elem? (first_view cap ∷ []) id ≡ some v → (id ≡ 0) × (first_view cap ≡ v)
  sole zero v e = (refl, some-injective (first_view cap) v e)
  sole (suc id) v e = absurd (some-ne-none v (sym e))
