-- What stands between the quotes of a text literal.
use Rattle.std.proofs.Common.{◌≡◌, ◌≢◌, ℕ, ◌+◌, ◌<◌, true, false, List, [], ◌∷◌, ◌++◌, length, get_or, take, drop, refl, sym, subst, ◌∙◌, ap, arith, inl, inr, append_assoc, Some}
use Rattle.std.{specs.Prelude.nat_eq, specs.List.list_all, specs.Str.{IsUtf8, IsCharBoundary}, proofs.lemmas.Bool.cases_lt, proofs.lemmas.Grind.flat_map-append}
use Rattle.std.{proofs.lemmas.Bool.Decides.nat_tests, proofs.lemmas.List.{take_more, take_all, drop_more, drop_all, get_or_past}}
use Rattle.std.proofs.lemmas.Str.{IsCharBoundary-after_ascii}
use Rattle.ct_lex.{specs.declared.scan.Class.TheVariants.NotQuote, specs.Spelling.{text, starts, written, doubled}, specs.Scan.{IsFront, class_test}}
use Rattle.ct_lex.{specs.Tokens.{FaultsHere, open_text}, proofs.Fronts.take_add}
use Rattle.ct_lex.specs.declared.token.Lexeme.TheVariants as lexeme
use Rattle.ct_lex.specs.declared.token.LexError.TheVariants as fault

-- bytes without a quote are written as they are
plain : (t : List ℕ) → list_all (class_test NotQuote) t ≡ true → doubled t ≡ t
plain [] h = refl
plain (b ∷ t) h =
    let other : nat_eq b 39 ≡ false = grind (arith, nat_tests) in
    let rest : list_all (class_test NotQuote) t ≡ true = grind (arith, nat_tests) in
    rw other (ap (λ u. b ∷ u) (plain t rest))

-- a run without a quote goes on in the text
pub kept_more : (x kept : List ℕ) (from n : ℕ) → take from x ≡ 39 ∷ doubled kept → list_all (class_test NotQuote) (take n (drop from x)) ≡ true
    → take (from + n) x ≡ 39 ∷ doubled (kept ++ take n (drop from x))
kept_more x kept from n before all =
    let run = take n (drop from x) in
    take_add from n x ∙ ap (λ t. t ++ run) before ∙ ap (λ t. 39 ∷ t) (ap (λ t. doubled kept ++ t) (sym (plain run all)) ∙ sym (flat_map-append written kept run))

-- at the text's end it is open
pub open_at_end : (x t : List ℕ) (k : ℕ) → take k x ≡ 39 ∷ doubled t → k ≡ length x → FaultsHere x fault.OpenText
open_at_end x t k before all = open_text t (sym (take_all k x (omega arith)) ∙ before)

-- a run stops at a quote
pub quote_at : (x : List ℕ) (k : ℕ) → starts (class_test NotQuote) (drop k x) ≡ false → k < length x → get_or x k 0 ≡ 39
quote_at x k stops within =
    let seen : starts (class_test NotQuote) (get_or x k 0 ∷ drop (k + 1) x) ≡ false = subst (λ y. starts (class_test NotQuote) y ≡ false) (drop_more x k 0 within) stops in
    grind (arith, nat_tests)

no_quote : (x : List ℕ) (k : ℕ) → get_or x k 0 ≢ 39 → starts (nat_eq 39) (drop k x) ≡ false
no_quote x k other =
    elim (cases_lt k (length x)) [
      | inl within ↦ rw (drop_more x k 0 within) (grind (arith, nat_tests))
      | inr past ↦ rw (drop_all k x past)
    ]

-- the text t is read up to the quote at k
pub record AtQuote (x t : List ℕ) (k : ℕ) : Type 0 where
  pub before : take k x ≡ 39 ∷ doubled t
  pub quote : get_or x k 0 ≡ 39
  pub within : k < length x

-- the quote is read too
quote_read : (x t : List ℕ) (k : ℕ) → AtQuote x t k → take (k + 1) x ≡ 39 ∷ doubled t ++ 39 ∷ []
quote_read x t k at = take_more x k 0 at.within ∙ rw (at.before, at.quote)

-- a quote alone ends the text
pub closed : (x t : List ℕ) (k : ℕ) → IsUtf8 x → AtQuote x t k → get_or x (k + 1) 0 ≢ 39 → IsFront x (k + 1) (Some (lexeme.Text t))
closed x t k utf8 at other = record {
  some = omega arith;
  cut = IsCharBoundary-after_ascii x k utf8 at.within (omega (arith, at.quote));
  spells = text t (quote_read x t k at) (no_quote x (k + 1) other);
}

-- two quotes are one of the text
pub quote_kept : (x t : List ℕ) (k : ℕ) → IsUtf8 x → AtQuote x t k → get_or x (k + 1) 0 ≡ 39 → (take (k + 2) x ≡ 39 ∷ doubled (t ++ 39 ∷ [])) × IsCharBoundary x (k + 2)
quote_kept x t k utf8 at two =
    let within : k + 1 < length x = elim (cases_lt (k + 1) (length x)) [ inl lt ↦ lt | inr past ↦ absurd (omega (arith, get_or_past x (k + 1) 0 past)) ] in
    let more : (k + 1) + 1 ≡ k + 2 = omega arith in (
      ap (λ j. take j x) (sym more) ∙ take_more x (k + 1) 0 within ∙ rw (quote_read x t k at, two, flat_map-append written t (39 ∷ [])) (append_assoc (39 ∷ doubled t) (39 ∷ []) (39 ∷ [])),
      subst (IsCharBoundary x) more (IsCharBoundary-after_ascii x (k + 1) utf8 within (omega arith)),
    )
