-- Rows and answers over words and over those that come first among them.
use Rattle.std.proofs.Common.{◌≡◌, ◌≤◌, ℕ, List, length, take, drop, [], ◌∷◌, Option, Some, None, refl, ap, sym, ◌∙◌, arith}
use Rattle.std.{specs.Prelude.{◌&&◌}, proofs.lemmas.List.{length-append, take-append-drop, take_at}, proofs.lemmas.List.Elements.All-weaker}
use Rattle.ct_word.{specs.declared.values.CRow.CRow, specs.Value.World, specs.Condition.holds_at}
use Rattle.ct_word.{specs.WellFormed.IsWellFormed, proofs.Prefixes.{condition_in_prefix, place_in_prefix, place_within}}
use Rattle.ct_condition.{specs.Terms.BelowEither, proofs.OnRows.{places_in_prefix, terms_in_prefix}, proofs.Reached.{either_before, terms_before}}
use Rattle.ct_certain.{specs.Answered.{AreOf, IsAnswer}, specs.Possible.{is_shown, listed}}
use mathlib.Core.List.{IsPrefix}
use Rattle.ct_word.specs.declared.kinds.Class.TheVariants as class
use Rattle.ct_word.specs.declared.values.Term.TheVariants as term

-- the first words
pub front : {A : Type 0} (n : ℕ) (xs : List A) → IsPrefix (take n xs) xs
front n xs = (drop n xs, take-append-drop n xs)

-- as many as there were are those that there were
pub front_is : {A : Type 0} (old new : List A) (n : ℕ) → IsPrefix old new → n ≡ length old → take n new ≡ old
front_is old new n longer e = sym (ap (take n) longer.1) ∙ take_at old longer.0 n (sym e)

pub prefix_long : {A : Type 0} (old new : List A) → IsPrefix old new → length old ≤ length new
prefix_long old new longer = let e = ap length longer.1 in let sum = length-append old longer.0 in omega (arith, e, sum)

module _ (words old : List ℕ) (grown : IsPrefix words old) (formed : IsWellFormed old) (global : ℕ) (r : CRow) (are : AreOf words global r) where
  -- a row, as words are added
  pub row_later : AreOf old global r
  row_later = record {
    global_is = place_in_prefix words old class.Cond global grown are.global_is;
    global_plain = λ k h. are.global_plain k (terms_before words old grown formed global (term.Column k) (place_within words class.Cond global are.global_is) h);
    condition = place_in_prefix words old class.Cond r.cond grown are.condition;
    plain = λ k h. are.plain k (terms_before words old grown formed r.cond (term.Column k) (place_within words class.Cond r.cond are.condition) h);
    terms = places_in_prefix words old r.cells grown are.terms;
  }

  shown_before : (v : World) → is_shown old global r v ≡ is_shown words global r v
  shown_before v i = holds_at v (condition_in_prefix words old global grown (place_within words class.Cond global are.global_is) i)
      && holds_at v (condition_in_prefix words old r.cond grown (place_within words class.Cond r.cond are.condition) i)

  -- an answer over the words now is one over those that came first
  pub answer_before : (o : Option World) → IsAnswer old global r o → IsAnswer words global r o
  answer_before (Some v) is = record {
    tidy = is.tidy;
    holds = sym (shown_before v) ∙ is.holds;
    own = All-weaker (λ p. BelowEither old global r.cond (term.Null p.0)) (λ p. BelowEither words global r.cond (term.Null p.0))
        (λ p. either_before words old grown formed global r.cond (term.Null p.0) (place_within words class.Cond global are.global_is) (place_within words class.Cond r.cond are.condition)) v is.own;
  }
  answer_before None is = λ v. sym (shown_before v) ∙ is v

  -- and so is what is listed
  pub listed_before : (o : Option World) → listed old r o ≡ listed words r o
  listed_before (Some v) = ap (λ cs. record { cells = cs; world = v } ∷ []) (terms_in_prefix words old r.cells grown are.terms)
  listed_before None = refl
