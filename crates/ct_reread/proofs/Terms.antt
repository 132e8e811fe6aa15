-- The text of a term is one token.
use Rattle.std.proofs.Common.{◌≡◌, ℕ, suc, ℤ, pos, negsuc, ◌<◌, ◌≤◌, true, ◌||◌, List, [], ◌∷◌, ◌++◌, flat_map, refl, ap, sym, ◌∙◌, subst, append-nil, arith, Some, IsFalse, FitsSigned, codes, decimal, nat_eq, false}
use Rattle.std.{specs.List.list_all, specs.Char.{to_ascii_lowercase, digit_value}, specs.Fmt.signed_decimal, specs.Str.Parse.{AllDigits, IsNumeral}}
use Rattle.std.proofs.lemmas.{Bool.Decides.nat_tests, Fmt.decimal_is_IsNumeral}
use Rattle.ct_word.{specs.declared.values.Term.Term, specs.Names.{is_letter, is_digit, is_word}}
use Rattle.ct_lex.{specs.declared.token.Lexeme.Lexeme, specs.declared.token.Token.Token, specs.Tokens.Lexes}
use Rattle.ct_lex.specs.Spelling.{Spells, number, text, null as null_spelled, starts, are_digits, is_spelling, is_word_byte, begins_word, lowered, greatest, signed}
use Rattle.ct_parse.specs.Grammar.{said, IsTerm, number_term, text_term, null_term}
use Rattle.ct_print.specs.TermText.{term_text, quoted_byte}
use Rattle.ct_reread.specs.{Printed.IsPlain, Reread.IsOneToken}
use Rattle.ct_reread.proofs.{Lexemes.{AreLexemes, none_left, placed, moved, Stops, at_end, at_blank, at_parenthesis, GivesOne, gives_one, word_stops}, Factors.IsTokenOf}
use mir.Syntax.{w64}
use Rattle.ct_word.specs.declared.values.Value.TheVariants as val
use Rattle.ct_word.specs.declared.values.Null.TheVariants as null
use Rattle.ct_word.specs.declared.values.Term.TheVariants as term
use Rattle.ct_lex.specs.declared.token.Lexeme.TheVariants as lexeme
use Rattle.ct_parse.specs.declared.tree.Term.TheVariants as parsed

-- numbers
digit : (d : ℕ) → digit_value d < 10 → is_digit d ≡ true
digit d h = grind (arith, nat_tests)

pub digits_all : (ds : List ℕ) → AllDigits 10 ds → list_all is_digit ds ≡ true
digits_all [] h = refl
digits_all (d ∷ ds) h =
    let first : is_digit d ≡ true = digit d h.0 in
    let others = digits_all ds h.1 in
    rw (first, others)

numeral_digits : (ds : List ℕ) → IsNumeral 10 ds → are_digits ds ≡ true
numeral_digits [] h = absurd (omega (arith, h.0))
numeral_digits (d ∷ ds) h = let all = digits_all (d ∷ ds) h.1 in grind arith

digit_stops : (r : List ℕ) → Stops r → IsFalse (starts is_digit r)
digit_stops [] at_end = refl
digit_stops (b ∷ r) at_blank = refl
digit_stops (b ∷ r) at_parenthesis = refl

pub number_given : (i : ℤ) → FitsSigned w64 i → GivesOne (signed_decimal i) (lexeme.Number i)
number_given (pos n) h r stops =
    let small : n ≤ greatest false = omega (arith, h.sfits) in
    let value = decimal_is_IsNumeral n (omega (arith, small)) in
    subst (λ m. Spells (decimal n) (Some (lexeme.Number (signed false m))) r) value.1
    (number false (decimal n) refl (numeral_digits (decimal n) value.0) (digit_stops r stops) (subst (λ m. m ≤ greatest false) (sym value.1) small))
number_given (negsuc n) h r stops =
    let small : suc n ≤ greatest true = omega (arith, h.sfits) in
    let value = decimal_is_IsNumeral (suc n) (omega (arith, small)) in
    subst (λ m. Spells (45 ∷ decimal (suc n)) (Some (lexeme.Number (signed true m))) r) value.1
    (number true (decimal (suc n)) refl (numeral_digits (decimal (suc n)) value.0) (digit_stops r stops) (subst (λ m. m ≤ greatest true) (sym value.1) small))

-- texts
quote_stops : (r : List ℕ) → Stops r → IsFalse (starts (nat_eq 39) r)
quote_stops [] at_end = refl
quote_stops (b ∷ r) at_blank = refl
quote_stops (b ∷ r) at_parenthesis = refl

pub text_given : (t : List ℕ) → GivesOne (codes "'" ++ flat_map quoted_byte t ++ codes "'") (lexeme.Text t)
text_given t r stops = text t refl (quote_stops r stops)

-- nulls
byte_kept : (b : ℕ) → (is_letter b || is_digit b) ≡ true → to_ascii_lowercase b ≡ b
byte_kept b h = grind (arith, nat_tests)

byte_of_word : (b : ℕ) → (is_letter b || is_digit b) ≡ true → is_word_byte b ≡ true
byte_of_word b h = grind (arith, nat_tests)

module _ (b : ℕ) (w : List ℕ) (h : is_word (b ∷ w) ≡ true) where
  first_letter : is_letter b ≡ true
  first_letter = grind arith

  first_byte : (is_letter b || is_digit b) ≡ true
  first_byte = let is = first_letter in grind arith

  other_bytes : list_all (λ c. is_letter c || is_digit c) w ≡ true
  other_bytes = grind arith

bytes_kept : (w : List ℕ) → list_all (λ c. is_letter c || is_digit c) w ≡ true → lowered w ≡ w
bytes_kept [] h = refl
bytes_kept (b ∷ w) h =
    let first : (is_letter b || is_digit b) ≡ true = grind arith in
    let others : list_all (λ c. is_letter c || is_digit c) w ≡ true = grind arith in
    λ i. byte_kept b first i ∷ bytes_kept w others i

bytes_of_word : (w : List ℕ) → list_all (λ c. is_letter c || is_digit c) w ≡ true → list_all is_word_byte w ≡ true
bytes_of_word [] h = refl
bytes_of_word (b ∷ w) h =
    let first : (is_letter b || is_digit b) ≡ true = grind arith in
    let rest : list_all (λ c. is_letter c || is_digit c) w ≡ true = grind arith in
    let one = byte_of_word b first in
    let others = bytes_of_word w rest in
    rw (one, others)

pub word_kept : (w : List ℕ) → is_word w ≡ true → lowered w ≡ w
word_kept [] h = absurd (grind arith)
word_kept (b ∷ w) h = λ i. byte_kept b (first_byte b w h) i ∷ bytes_kept w (other_bytes b w h) i

word_spelled : (w : List ℕ) → is_word w ≡ true → is_spelling w ≡ true
word_spelled [] h = absurd (grind arith)
word_spelled (b ∷ w) h =
    let kept = byte_kept b (first_byte b w h) in
    let first : begins_word b ≡ true = ap is_letter kept ∙ first_letter b w h in
    let others = bytes_of_word w (other_bytes b w h) in
    rw (first, others)

pub null_given : (t : List ℕ) → is_word t ≡ true → GivesOne (codes "?" ++ t) (lexeme.Null t)
null_given t h r stops = subst (λ n. Spells (63 ∷ t) (Some (lexeme.Null n)) r) (word_kept t h) (null_spelled (word_spelled t h) (word_stops r stops))

-- the text of a term
pub token : (t : Term) → IsPlain t → IsTokenOf (term_text t) t
token (term.Column k) p = absurd p
token (term.Null (null.Named t)) p = record {
  word = lexeme.Null t;
  tree = parsed.Null t;
  given = null_given t p;
  is_term = λ r. null_term;
  means = refl;
  calm = record { stays = refl; inner = refl };
}
token (term.Null (null.Fresh s n)) p = absurd p
token (term.Value (val.Int i)) p = record {
  word = lexeme.Number i;
  tree = parsed.Number i;
  given = number_given i p;
  is_term = λ r. number_term;
  means = refl;
  calm = record { stays = refl; inner = refl };
}
token (term.Value (val.Text t)) p = record {
  word = lexeme.Text t;
  tree = parsed.Text t;
  given = text_given t;
  is_term = λ r. text_term;
  means = refl;
  calm = record { stays = refl; inner = refl };
}
token (term.Value (val.Other k)) p = absurd p

-- one token with its place
alone : (w : List ℕ) (l : Lexeme) (ts : List Token) → Lexes w ts → said ts ≡ l ∷ [] → (t : Token) × Lexes w (t ∷ []) × (t.word ≡ l)
alone w l [] lexes e = absurd (let f = e in cc)
alone w l (t ∷ []) lexes e = (t, lexes, let f = e in cc)
alone w l (t ∷ u ∷ us) lexes e = absurd (let f = e in cc)

pub one_placed : (w : List ℕ) (l : Lexeme) → GivesOne w l → (t : Token) × Lexes w (t ∷ []) × (t.word ≡ l)
one_placed w l given =
    let plain : AreLexemes w (l ∷ []) = moved (sym (append-nil w)) refl (gives_one w l given [] [] at_end none_left) in
    let at : (ts : List Token) × Lexes w ts × (said ts ≡ l ∷ []) = placed 0 plain in
    alone w l at.0 at.1 at.2

pub one_token : (t : Term) → IsPlain t → IsOneToken (term_text t) t
one_token t p =
    let is = token t p in
    let at = one_placed (term_text t) is.word is.given in
    record {
      token = at.0;
      tree = is.tree;
      lexes = at.1;
      spells = subst (λ l. IsTerm (l ∷ []) is.tree []) (sym at.2) (is.is_term []);
      means = is.means;
    }
