-- The worlds that are kept for conditions.
use Rattle.std.proofs.Common.{◌≡◌, ℕ, Bool, true, false, cond, List, [], nat_eq, Some, refl, sym, subst}
use Rattle.std.{specs.Prelude.IfSome, specs.Map.lookup, proofs.lemmas.Bool.eqb-true}
use Rattle.ct_word.specs.Value.{World}
use Rattle.ct_certain.specs.Answered.{IsFound, AreFound}

pub none_found : (words : List ℕ) (global : ℕ) → AreFound words global []
none_found words global c = tt

-- one more world, for a condition
pub found_more : (words : List ℕ) (global c : ℕ) (v : World) (old after : List (ℕ × World)) → IsFound words global c v
    → ((q : ℕ) → lookup (nat_eq q) after ≡ cond (nat_eq c q) (Some v) (lookup (nat_eq q) old)) → AreFound words global old → AreFound words global after
found_more words global c v old after is put_in all q = subst (λ o. IfSome o (IsFound words global q)) (sym (put_in q)) (by (nat_eq c q) refl) where
  by : (b : Bool) → nat_eq c q ≡ b → IfSome (cond b (Some v) (lookup (nat_eq q) old)) (IsFound words global q)
  by true e = subst (λ k. IsFound words global k v) (eqb-true c q e) is
  by false e = all q
