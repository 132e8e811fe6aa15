-- Why a text is read as no statement, and that it is read as one at most.
use Rattle.std.{proofs.Common.{◌≡◌, ◌≢◌, ℕ, Bool, true, false, List, refl, ap, sym, subst}, specs.Prelude.{IsTrue, IsFalse}, proofs.lemmas.Bool.false≢true}
use Rattle.ct_lex.{specs.declared.token.Token.Token, specs.declared.token.LexError.LexError, specs.Tokens.{Lexes, FaultsAt}, proofs.Written.tokens_written}
use Rattle.ct_parse.{specs.declared.error.ParseError.ParseError, specs.declared.tree.Statement.Statement, specs.Grammar.said, specs.Nest.is_too_deep}
use Rattle.ct_parse.specs.Parses.{Spells}
use Rattle.ct_transcript.specs.declared.reply.Refusal.{Refusal}
use Rattle.ct_transaction.specs.Statements.{ReadsAs, IsWritten, HasFault, IsTextFault, number_range, open_text, stray_byte, too_deep, unspelled, lexical_refusal, grammatical_refusal}
use Rattle.ct_lex.specs.declared.token.LexError.TheVariants as lexical
use Rattle.ct_parse.specs.declared.error.ParseError.TheVariants as grammatical
use Rattle.ct_transcript.specs.declared.reply.Refusal.TheVariants as refusal

not_both : (b : Bool) → IsTrue b → IsFalse b → ⊥
not_both true t f = absurd (false≢true (sym f))
not_both false t f = absurd (false≢true t)

-- a text without tokens
pub lexical_fault : (x : List ℕ) (e : LexError) → (e ≢ lexical.Memory → HasFault x e) → lexical_refusal e ≢ refusal.Memory → IsTextFault x (lexical_refusal e)
lexical_fault x lexical.OpenText f n = open_text (f (λ p. n (ap lexical_refusal p)))
lexical_fault x lexical.StrayByte f n = stray_byte (f (λ p. n (ap lexical_refusal p)))
lexical_fault x lexical.NumberRange f n = number_range (f (λ p. n (ap lexical_refusal p)))
lexical_fault x lexical.Memory f n = absurd (n refl)

-- a text with these tokens, which has no fault
module _ (x : List ℕ) (tokens : List Token) (lexes : Lexes x tokens) (only : (ts : List Token) → Lexes x ts → ts ≡ tokens) (clean : (place : ℕ) (e : LexError) → FaultsAt x place e → ⊥) where
  -- its statement
  pub only_reading : (st : Statement) → ((other : Statement) → Spells (said tokens) other → other ≡ st) → (other : Statement) → ReadsAs x other → other ≡ st
  only_reading st same other r = same other (subst (λ ts. Spells (said ts) other) (only r.tokens r.lexes) r.spells)

  pub no_text_fault : IsFalse (is_too_deep (said tokens)) → (st : Statement) → Spells (said tokens) st → (why : Refusal) → IsTextFault x why → ⊥
  no_text_fault shallow st spells why (number_range h) = clean h.0 _ h.1
  no_text_fault shallow st spells why (open_text h) = clean h.0 _ h.1
  no_text_fault shallow st spells why (stray_byte h) = clean h.0 _ h.1
  no_text_fault shallow st spells why (too_deep t) = not_both (is_too_deep (said tokens)) (subst (λ ts. IsTrue (is_too_deep (said ts))) (only t.tokens t.lexes) t.deep) shallow
  no_text_fault shallow st spells why (unspelled t) = t.none st (subst (λ ts. Spells (said ts) st) (sym (only t.tokens t.lexes)) spells)

  module _ (e : ParseError) (deep : e ≡ grammatical.TooDeep → IsTrue (is_too_deep (said tokens))) (shallow : e ≡ grammatical.NotAStatement → IsFalse (is_too_deep (said tokens)))
      (none : e ≡ grammatical.NotAStatement → (st : Statement) → Spells (said tokens) st → ⊥) where
    pub grammatical_fault : grammatical_refusal e ≢ refusal.Memory → IsTextFault x (grammatical_refusal e)
    grammatical_fault n = by_error e refl where
      by_error : (f : ParseError) → e ≡ f → IsTextFault x (grammatical_refusal f)
      by_error grammatical.NotAStatement p = unspelled (record { tokens = tokens; lexes = lexes; shallow = shallow p; none = none p })
      by_error grammatical.TooDeep p = too_deep (record { tokens = tokens; lexes = lexes; deep = deep p })
      by_error grammatical.Memory p = absurd (n (ap grammatical_refusal p))

    pub grammatical_none : grammatical_refusal e ≢ refusal.Memory → (st : Statement) → ReadsAs x st → ⊥
    grammatical_none n st r = by_error e refl where
      by_error : (f : ParseError) → e ≡ f → ⊥
      by_error grammatical.NotAStatement p = none p st (subst (λ ts. Spells (said ts) st) (only r.tokens r.lexes) r.spells)
      by_error grammatical.TooDeep p = not_both (is_too_deep (said tokens)) (deep p) (subst (λ ts. IsFalse (is_too_deep (said ts))) (only r.tokens r.lexes) r.shallow)
      by_error grammatical.Memory p = n (ap grammatical_refusal p)

    pub grammatical_first : grammatical_refusal e ≢ refusal.Memory → (other : Refusal) → IsTextFault x other → other ≡ grammatical_refusal e
    grammatical_first n other (number_range h) = absurd (clean h.0 _ h.1)
    grammatical_first n other (open_text h) = absurd (clean h.0 _ h.1)
    grammatical_first n other (stray_byte h) = absurd (clean h.0 _ h.1)
    grammatical_first n other (too_deep t) = by_error e refl where
      by_error : (f : ParseError) → e ≡ f → refusal.TooDeep ≡ grammatical_refusal f
      by_error grammatical.NotAStatement p = absurd (not_both (is_too_deep (said tokens)) (subst (λ ts. IsTrue (is_too_deep (said ts))) (only t.tokens t.lexes) t.deep) (shallow p))
      by_error grammatical.TooDeep p = refl
      by_error grammatical.Memory p = absurd (n (ap grammatical_refusal p))
    grammatical_first n other (unspelled t) = by_error e refl where
      by_error : (f : ParseError) → e ≡ f → refusal.NotAStatement ≡ grammatical_refusal f
      by_error grammatical.NotAStatement p = refl
      by_error grammatical.TooDeep p = absurd (not_both (is_too_deep (said tokens)) (deep p) (subst (λ ts. IsFalse (is_too_deep (said ts))) (only t.tokens t.lexes) t.shallow))
      by_error grammatical.Memory p = absurd (n (ap grammatical_refusal p))

-- the lexemes of a text that is read as a statement are such as a text writes
pub is_written : (x : List ℕ) (st : Statement) → ReadsAs x st → IsWritten st
is_written x st r = record { lexemes = said r.tokens; written = tokens_written r.lexes; spells = r.spells }
