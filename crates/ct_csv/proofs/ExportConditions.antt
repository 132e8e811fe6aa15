-- What a text is read as that spells a condition without names.
use Rattle.std.proofs.Common.{◌≡◌, ℕ, ◌≤◌, Bool, true, false, not, ◌&&◌, List, [], ◌∷◌, nat_lt, refl, arith, IsFalse}
use Rattle.std.{specs.Prelude.IsTrue, specs.List.{list_all, list_any}, proofs.lemmas.Bool.{and_parts, Decides.nat_tests}}
use Rattle.ct_word.specs.Condition.{Condition, SameTruth}
use Rattle.ct_lex.{specs.declared.token.Lexeme.Lexeme, specs.declared.token.Token.Token, proofs.Readings.read_tokens}
use Rattle.ct_parse.{specs.Grammar.said, specs.Nest.{nest, set_operators, is_set_operator, is_too_deep}}
use Rattle.ct_rewrite.specs.Sizes.{nest_of}
use Rattle.ct_reread.specs.Reread.{IsReadAs, is_inner}
use Rattle.ct_csv.specs.Fields.{is_name_word, HasCondition, spelled_condition}

one_inner : (n s : Bool) → (not n && not s) ≡ true → (n ≡ false) × (s ≡ false)
one_inner false false e = (refl, refl)
one_inner false true e = absurd (let f = e in cc)
one_inner true s e = absurd (let f = e in cc)

no_operators : (ls : List Lexeme) → IsTrue (list_all is_inner ls) → set_operators ls ≡ 0
no_operators [] h = refl
no_operators (l ∷ ls) h =
    let parts = and_parts (is_inner l) (list_all is_inner ls) h in
    let none = (one_inner (is_name_word l) (is_set_operator l) parts.0).1 in
    rw none (no_operators ls parts.1)

no_names : (ls : List Lexeme) → IsTrue (list_all is_inner ls) → IsFalse (list_any is_name_word ls)
no_names [] h = refl
no_names (l ∷ ls) h =
    let parts = and_parts (is_inner l) (list_all is_inner ls) h in
    let none = (one_inner (is_name_word l) (is_set_operator l) parts.0).0 in
    rw none (no_names ls parts.1)

not_deep : (ls : List Lexeme) → nest ls ≤ 64 → set_operators ls ≡ 0 → IsFalse (is_too_deep ls)
not_deep ls h e = let low : nat_lt 64 (nest ls) ≡ false = grind (arith, nat_tests) in rw (low, e) refl

-- a condition that a field says
pub record SaysCondition (field : List ℕ) (c : Condition) : Type 0 where
  pub tokens : List Token
  pub condition : Condition
  pub has : HasCondition field tokens condition
  pub same : SameTruth condition c

pub condition_back : (field : List ℕ) (c : Condition) → nest_of c ≤ 64 → IsReadAs field c → SaysCondition field c
condition_back field c h is = record {
  tokens = is.tokens;
  condition = is.found;
  has =
      spelled_condition is.tree (read_tokens is.lexes)
      (not_deep (said is.tokens) (omega (arith, h, is.shallow)) (no_operators (said is.tokens) is.inner)) is.spells (no_names (said is.tokens) is.inner) is.means;
  same = is.same;
}
