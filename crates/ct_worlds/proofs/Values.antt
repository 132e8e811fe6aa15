-- The values of terms in a world.
use Rattle.std.proofs.Common.{◌≡◌, ℕ, suc, ◌<◌, Bool, true, false, cond, List, [], ◌∷◌, ◌++◌, length, drop, get_or, nat_eq, Option, Some, None, refl, ap, sym, subst, ◌∙◌, if◌then◌else◌}
use Rattle.std.{specs.Prelude.{IsTrue, IfSome}, specs.Map.lookup, proofs.Math.Seq.drop-cons, proofs.lemmas.Bool.{eqb-true, eq-eqb}, proofs.lemmas.Bool.Decides.same_from_decides, proofs.lemmas.Option.slice_get-get_or, proofs.lemmas.List.Elements.All-push}
use Rattle.ct_word.{specs.declared.values.Value.Value, specs.declared.values.Null.Null, specs.Value.{World, at, same_null, same_value, value_of_null}, specs.Reading.term_at}
use Rattle.ct_word.{specs.WellFormed.{IsWellFormed, is_place_of}, proofs.Alike.value_decides, proofs.Constants.one_term}
use Rattle.ct_worlds.specs.Valuation.{IsConstant, IsRead, AreRead, value_in, value_with, AreNumbers}
use Rattle.ct_word.specs.contracts.values.NullPartialEq.TheImpl as null_code
use Rattle.ct_word.specs.declared.kinds.Class.TheVariants as class
use Rattle.ct_word.specs.declared.values.Null.TheVariants as null
use Rattle.ct_word.specs.declared.values.Term.TheVariants as term

-- the code compares nulls as the definition does
null_compared : (m n : Null) → null_code.ghosts.eq m n ≡ same_null m n
null_compared (null.Named a) (null.Named b) = refl
null_compared (null.Fresh s m) (null.Fresh t n) = refl
null_compared (null.Named a) _ = refl
null_compared (null.Fresh s m) _ = refl

pub compared : null_code.ghosts.eq ≡ same_null
compared i m n = null_compared m n i

-- one more pair of the world has its number
pub numbers_turn : (listed : World) (before after : List (Null × ℕ)) (k : ℕ) (p : Null × Value) (key : Null) → k < length listed → p ≡ get_or listed k p → key ≡ (get_or listed k p).0
    → AreNumbers listed (drop (suc k) listed) before → ((q : Null) → lookup (null_code.ghosts.eq q) after ≡ cond (null_code.ghosts.eq key q) (Some k) (lookup (null_code.ghosts.eq q) before))
    → AreNumbers listed (drop k listed) after
numbers_turn listed before after k p key lt is copy so_far put_in =
    subst (λ v. AreNumbers listed v after) (ap (λ q. q ∷ drop (suc k) listed) is ∙ sym (drop-cons listed k p lt)) here where
      value : value_with listed (Some k) ≡ p.1
      value = ap value_in (slice_get-get_or listed k p lt ∙ ap Some (sym is))

      by : (n : Null) (b : Bool) → value_with listed (cond b (Some k) (lookup (same_null n) before)) ≡ (if b then p.1 else value_of_null (drop (suc k) listed) n)
      by n true = value
      by n false = so_far n

      here : AreNumbers listed (p ∷ drop (suc k) listed) after
      here n = ap (value_with listed) (subst (λ eq. lookup (eq n) after ≡ cond (eq key n) (Some k) (lookup (eq n) before)) compared (put_in n) ∙ ap (λ m. cond (same_null m n) (Some k) (lookup (same_null n) before)) (copy ∙ sym (ap (λ x. x.0) is))) ∙ by n (same_null p.0 n)

pub same_turned : (x y : Value) → same_value x y ≡ same_value y x
same_turned x y = same_from_decides (same_value x y) (same_value y x) (value_decides x y) (λ e. sym ((value_decides y x).0 e), λ e. (value_decides y x).1 (sym e))

-- two constants have one value where they have one place
pub constants_same : (ws : List ℕ) → IsWellFormed ws → (v : World) (s t : ℕ) → IsTrue (is_place_of ws class.Term s) → IsTrue (is_place_of ws class.Term t) → IsConstant (term_at ws s) → IsConstant (term_at ws t)
    → nat_eq s t ≡ same_value (at v [] (term_at ws s)) (at v [] (term_at ws t))
constants_same ws formed v s t es et cs ct =
    same_from_decides {P = nat_eq s t ≡ true} _ _ (λ e. e, λ e. e) (
      λ e.
          let same : cs.0 ≡ ct.0 = sym (ap (at v []) cs.1) ∙ (value_decides _ _).0 e ∙ ap (at v []) ct.1 in
          eq-eqb s t (one_term ws formed s t es et (cs.1 ∙ ap term.Value same ∙ sym ct.1)),
      λ e. (value_decides _ _).1 (ap (λ p. at v [] (term_at ws p)) (eqb-true s t e)),
    )

-- what was found for a null
pub number_is : (listed v : World) (numbers : List (Null × ℕ)) (n : Null) (o : Option ℕ) → o ≡ lookup (null_code.ghosts.eq n) numbers → AreNumbers listed v numbers
    → value_with listed o ≡ value_of_null v n
number_is listed v numbers n o e so_far = ap (value_with listed) (e ∙ (λ i. lookup (compared i n) numbers)) ∙ so_far n

-- one more slot has no null
pub reads_more : (words : List ℕ) (v : World) (reads more : List (Option (ℕ × ℕ))) → more ≡ reads ++ None ∷ [] → AreRead words v reads → AreRead words v more
reads_more words v reads more is are = subst (AreRead words v) (sym is) (All-push (λ o. IfSome o (IsRead words v)) reads None are tt)
