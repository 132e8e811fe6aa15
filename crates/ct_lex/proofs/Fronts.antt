-- What the byte tests and runs of `front` say of a text as a list.
use Rattle.std.proofs.Common.{◌≡◌, ℕ, zero, suc, ◌+◌, ◌<◌, ◌≢◌, Bool, true, false, List, [], ◌∷◌, ◌++◌, length, get_or, take, drop, refl, sym, subst, ◌∙◌, ap, arith, Option, Some, None, take-append-drop, get_or-drop, add-zero}
use Rattle.std.{specs.Prelude.{nat_eq, ℤ, Result, Ok, Err}, specs.Str.Parse.{ParsesSigned, digits_value}, proofs.lemmas.Int.to_z-of_z, specs.List.list_all}
use Rattle.std.{specs.Str.{IsUtf8, IsCharBoundary}, proofs.lemmas.Bool.Decides.nat_tests, proofs.lemmas.List.drop-drop}
use Rattle.std.proofs.lemmas.Str.{IsCharBoundary-after_ascii, IsCharBoundary-from_rest}
use Rattle.ct_lex.{specs.declared.token.Lexeme.Lexeme, specs.Scan.IsFront, specs.Tokens.{FaultsHere, stray_byte, number_range}}
use Rattle.ct_lex.specs.Spelling.{Spells, blank, comment, word, null, number, left_paren, right_paren, comma, dot, star, equal, unequal, not_equal, sign_text, signed, are_digits, starts, lowered, begins_word, begins_symbol, is_blank, is_word_byte, is_comment_byte, is_spelling}
use Rattle.ct_lex.proofs.Numbers.{parsed, not_parsed}
use Rattle.ct_word.specs.Writable.{is_digit}
use mir.{Syntax.w64, Val.{of_z, to_z}}
use Rattle.ct_lex.specs.declared.token.Lexeme.TheVariants as lexeme
use Rattle.ct_lex.specs.declared.token.Symbol.TheVariants as symbol
use Rattle.ct_lex.specs.declared.token.LexError.TheVariants as fault

-- one ASCII byte that is a token of its own
pub one : (x : List ℕ) (b : ℕ) (o : Option Lexeme) → IsUtf8 x → get_or x 0 0 ≡ b → 0 < b → b < 128 → ((r : List ℕ) → Spells (b ∷ []) o r) → IsFront x 1 o
one [] b o utf8 e some ascii spells = absurd (omega arith)
one (a ∷ x) b o utf8 e some ascii spells = record {
  some = omega arith;
  cut = IsCharBoundary-after_ascii (a ∷ x) 0 utf8 (omega arith) (omega arith);
  spells = subst (λ c. Spells (c ∷ []) o x) (sym e) (spells x);
}

-- behind one ASCII byte a text may be cut
pub first_byte : (x : List ℕ) (b : ℕ) → IsUtf8 x → get_or x 0 0 ≡ b → 0 < b → b < 128 → (take 1 x ≡ b ∷ []) × IsCharBoundary x 1
first_byte [] b utf8 e some ascii = absurd (omega arith)
first_byte (a ∷ x) b utf8 e some ascii = (ap (λ c. c ∷ []) e, IsCharBoundary-after_ascii (a ∷ x) 0 utf8 (omega arith) (omega arith))

-- two ASCII bytes that are a token
pub two : (x : List ℕ) (a b : ℕ) (o : Option Lexeme) → IsUtf8 x → get_or x 0 0 ≡ a → get_or x 1 0 ≡ b → 0 < b → b < 128 → ((r : List ℕ) → Spells (a ∷ b ∷ []) o r) → IsFront x 2 o
two [] a b o utf8 ea eb some ascii spells = absurd (omega arith)
two (c ∷ []) a b o utf8 ea eb some ascii spells = absurd (omega arith)
two (c ∷ d ∷ x) a b o utf8 ea eb some ascii spells = record {
  some = omega arith;
  cut = IsCharBoundary-after_ascii (c ∷ d ∷ x) 1 utf8 (omega arith) (omega arith);
  spells = subst (λ y. Spells (y ∷ d ∷ []) o x) (sym ea) (subst (λ y. Spells (a ∷ y ∷ []) o x) (sym eb) (spells x));
}

-- a symbol of one byte, and one of two
pub left_paren_front : (x : List ℕ) → IsUtf8 x → get_or x 0 0 ≡ 40 → IsFront x 1 (Some (lexeme.Symbol symbol.LeftParen))
left_paren_front x utf8 e = one x 40 _ utf8 e (omega arith) (omega arith) (λ r. left_paren)

pub right_paren_front : (x : List ℕ) → IsUtf8 x → get_or x 0 0 ≡ 41 → IsFront x 1 (Some (lexeme.Symbol symbol.RightParen))
right_paren_front x utf8 e = one x 41 _ utf8 e (omega arith) (omega arith) (λ r. right_paren)

pub comma_front : (x : List ℕ) → IsUtf8 x → get_or x 0 0 ≡ 44 → IsFront x 1 (Some (lexeme.Symbol symbol.Comma))
comma_front x utf8 e = one x 44 _ utf8 e (omega arith) (omega arith) (λ r. comma)

pub dot_front : (x : List ℕ) → IsUtf8 x → get_or x 0 0 ≡ 46 → IsFront x 1 (Some (lexeme.Symbol symbol.Dot))
dot_front x utf8 e = one x 46 _ utf8 e (omega arith) (omega arith) (λ r. dot)

pub star_front : (x : List ℕ) → IsUtf8 x → get_or x 0 0 ≡ 42 → IsFront x 1 (Some (lexeme.Symbol symbol.Star))
star_front x utf8 e = one x 42 _ utf8 e (omega arith) (omega arith) (λ r. star)

pub equal_front : (x : List ℕ) → IsUtf8 x → get_or x 0 0 ≡ 61 → IsFront x 1 (Some (lexeme.Symbol symbol.Equal))
equal_front x utf8 e = one x 61 _ utf8 e (omega arith) (omega arith) (λ r. equal)

pub unequal_front : (x : List ℕ) → IsUtf8 x → get_or x 0 0 ≡ 60 → get_or x 1 0 ≡ 62 → IsFront x 2 (Some (lexeme.Symbol symbol.Unequal))
unequal_front x utf8 e f = two x 60 62 _ utf8 e f (omega arith) (omega arith) (λ r. unequal)

pub not_equal_front : (x : List ℕ) → IsUtf8 x → get_or x 0 0 ≡ 33 → get_or x 1 0 ≡ 61 → IsFront x 2 (Some (lexeme.Symbol symbol.Unequal))
not_equal_front x utf8 e f = two x 33 61 _ utf8 e f (omega arith) (omega arith) (λ r. not_equal)

-- a blank
pub blank_front : (x : List ℕ) → IsUtf8 x → is_blank (get_or x 0 0) ≡ true → IsFront x 1 None
blank_front x utf8 h = one x (get_or x 0 0) None utf8 refl (grind (arith, nat_tests)) (grind (arith, nat_tests)) (λ r. blank h)

-- a comment, from its two minuses on
pub comment_front : (x : List ℕ) (n : ℕ) → get_or x 0 0 ≡ 45 → get_or x 1 0 ≡ 45 → list_all is_comment_byte (take n x) ≡ true
    → starts is_comment_byte (drop n x) ≡ false → IsCharBoundary x n → IsFront x n None
comment_front [] n ea eb all stops cut = absurd (omega arith)
comment_front (a ∷ []) n ea eb all stops cut = absurd (omega arith)
comment_front (a ∷ b ∷ x) zero ea eb all stops cut = absurd (grind (arith, nat_tests))
comment_front (a ∷ b ∷ x) (suc zero) ea eb all stops cut = absurd (grind (arith, nat_tests))
comment_front (a ∷ b ∷ x) (suc (suc n)) ea eb all stops cut =
    let inner : list_all is_comment_byte (take n x) ≡ true = grind (arith, nat_tests) in record {
      some = omega arith;
      cut = cut;
      spells = subst (λ y. Spells (y ∷ b ∷ take n x) None (drop n x)) (sym ea)
          (subst (λ y. Spells (45 ∷ y ∷ take n x) None (drop n x)) (sym eb) (comment inner stops));
    }

-- a word
pub word_front : (x : List ℕ) (n : ℕ) (name : List ℕ) → name ≡ lowered (take n x) → is_spelling (take n x) ≡ true → starts is_word_byte (drop n x) ≡ false
    → IsCharBoundary x n → IsFront x n (Some (lexeme.Word name))
word_front x zero name e spelled ends cut = absurd (grind arith)
word_front x (suc n) name e spelled ends cut = record {
  some = omega arith;
  cut = cut;
  spells = subst (λ t. Spells (take (suc n) x) (Some (lexeme.Word t)) (drop (suc n) x)) (sym e) (word spelled ends);
}

-- a null, from its question mark on
pub null_front : (x : List ℕ) (n : ℕ) (name : List ℕ) → get_or x 0 0 ≡ 63 → name ≡ lowered (take n (drop 1 x)) → is_spelling (take n (drop 1 x)) ≡ true
    → starts is_word_byte (drop n (drop 1 x)) ≡ false → IsCharBoundary (drop 1 x) n → IsFront x (1 + n) (Some (lexeme.Null name))
null_front [] n name e is spelled ends cut = absurd (omega arith)
null_front (b ∷ x) n name e is spelled ends cut =
    let more : suc n ≡ 1 + n = omega arith in subst (λ k. IsFront (b ∷ x) k (Some (lexeme.Null name))) more (record {
      some = omega arith;
      cut = subst (IsCharBoundary (b ∷ x)) (sym more) (IsCharBoundary-from_rest (b ∷ x) 1 n (omega arith) cut);
      spells = subst (λ t. Spells (b ∷ take n x) (Some (lexeme.Null t)) (drop n x)) (sym is) (subst (λ c. Spells (c ∷ take n x) (Some (lexeme.Null (lowered (take n x)))) (drop n x)) (sym e) (null spelled ends));
    })

-- a byte that begins nothing
pub stray_question : (x : List ℕ) → get_or x 0 0 ≡ 63 → begins_word (get_or x 1 0) ≡ false → FaultsHere x fault.StrayByte
stray_question [] e other = absurd (omega arith)
stray_question (b ∷ []) e other = stray_byte (rw e)
stray_question (b ∷ c ∷ x) e other = stray_byte (rw (e, other))

pub stray_minus : (x : List ℕ) → get_or x 0 0 ≡ 45 → get_or x 1 0 ≢ 45 → is_digit (get_or x 1 0) ≡ false → FaultsHere x fault.StrayByte
stray_minus [] e one other = absurd (omega arith)
stray_minus (b ∷ []) e one other = stray_byte (rw e)
stray_minus (b ∷ c ∷ x) e one other = let no_comment : nat_eq 45 c ≡ false = grind (arith, nat_tests) in stray_byte (rw (e, no_comment, other))

pub stray_other : (x : List ℕ) → 0 < length x → is_blank (get_or x 0 0) ≡ false → begins_word (get_or x 0 0) ≡ false → is_digit (get_or x 0 0) ≡ false
    → get_or x 0 0 ≢ 39 → get_or x 0 0 ≢ 45 → get_or x 0 0 ≢ 63 → begins_symbol (get_or x 0 0) (drop 1 x) ≡ false → FaultsHere x fault.StrayByte
stray_other [] some h1 h2 h3 quote minus question h4 = absurd (omega arith)
stray_other (b ∷ x) some h1 h2 h3 quote minus question h4 =
    let q : nat_eq b 39 ≡ false = grind (arith, nat_tests) in
    let m : nat_eq b 45 ≡ false = grind (arith, nat_tests) in
    let n : nat_eq b 63 ≡ false = grind (arith, nat_tests) in
    stray_byte (rw (h1, h2, h3, q, m, n) h4)

-- a number, from its sign on
pub take_add : (a b : ℕ) (x : List ℕ) → take (a + b) x ≡ take a x ++ take b (drop a x)
take_add zero b x = ap (λ k. take k x) (omega arith)
take_add (suc a) zero [] = let e : suc a + 0 ≡ suc a = omega arith in rw e
take_add (suc a) (suc b) [] = let e : suc a + suc b ≡ suc (a + suc b) = omega arith in rw e
take_add (suc a) b (c ∷ x) = let e : suc a + b ≡ suc (a + b) = omega arith in rw e (ap (λ t. c ∷ t) (take_add a b x))

digits_begin : (n : ℕ) (y : List ℕ) → is_digit (get_or y 0 0) ≡ true → list_all is_digit (take n y) ≡ true → starts is_digit (drop n y) ≡ false → are_digits (take n y) ≡ true
digits_begin n [] first all stops = absurd (grind (arith, nat_tests))
digits_begin zero (d ∷ y) first all stops = absurd (grind arith)
digits_begin (suc n) (d ∷ y) first all stops = let rest : list_all is_digit (take n y) ≡ true = grind arith in rw (first, rest)

-- behind the sign there are these digits, and no more
pub record HasDigits (x : List ℕ) (sign n : ℕ) : Type 0 where
  pub digits : are_digits (take n (drop sign x)) ≡ true
  pub stops : starts is_digit (drop n (drop sign x)) ≡ false

pub has_digits : (x : List ℕ) (sign n : ℕ) → is_digit (get_or x sign 0) ≡ true → list_all is_digit (take n (drop sign x)) ≡ true → starts is_digit (drop n (drop sign x)) ≡ false
    → HasDigits x sign n
has_digits x sign n first all stops = record {
  digits = digits_begin n (drop sign x) (let at : get_or (drop sign x) 0 0 ≡ get_or x sign 0 = rw (get_or-drop sign x 0 0, add-zero) in rw at first) all stops;
  stops = stops;
}

some_digits : (n : ℕ) (y : List ℕ) → are_digits (take n y) ≡ true → 0 < n
some_digits zero y h = absurd (grind arith)
some_digits (suc n) y h = omega arith

pub number_front : {E : Type 0} (x : List ℕ) (sign n : ℕ) (minus : Bool) (z : ℤ) (r : Result ℤ E) → take sign x ≡ sign_text minus
    → HasDigits x sign n → IsCharBoundary x (sign + n) → r ≡ Ok z
    → ParsesSigned w64 10 (take (sign + n) x) r → IsFront x (sign + n) (Some (lexeme.Number (to_z w64 (of_z w64 z))))
number_front x sign n minus z r signs has cut is parses =
    let ds = take n (drop sign x) in
    let w : take (sign + n) x ≡ sign_text minus ++ ds = take_add sign n x ∙ ap (λ t. t ++ ds) signs in
    let known = parsed minus ds z r has.digits is (subst (λ t. ParsesSigned w64 10 t r) w parses) in
    let value : signed minus (digits_value 10 ds) ≡ to_z w64 (of_z w64 z) = sym (to_z-of_z w64 z known.2 ∙ known.0) in record {
      some = omega (arith, some_digits n (drop sign x) has.digits);
      cut = cut;
      spells = subst (λ v. Spells (take (sign + n) x) (Some (lexeme.Number v)) (drop (sign + n) x)) value (number minus ds w has.digits (rw (← drop-drop n sign x) has.stops) known.1);
    }

pub range_front : {E : Type 0} (x : List ℕ) (sign n : ℕ) (minus : Bool) (e : E) (r : Result ℤ E) → take sign x ≡ sign_text minus
    → HasDigits x sign n → r ≡ Err e
    → ParsesSigned w64 10 (take (sign + n) x) r → FaultsHere x fault.NumberRange
range_front x sign n minus e r signs has is parses =
    let ds = take n (drop sign x) in
    let w : take (sign + n) x ≡ sign_text minus ++ ds = take_add sign n x ∙ ap (λ t. t ++ ds) signs in
    let whole : x ≡ (sign_text minus ++ ds) ++ drop (sign + n) x = sym (take-append-drop (sign + n) x) ∙ ap (λ t. t ++ drop (sign + n) x) w in
    number_range minus ds (drop (sign + n) x) whole has.digits (rw (← drop-drop n sign x) has.stops) (not_parsed minus ds e r has.digits is (subst (λ t. ParsesSigned w64 10 t r) w parses))
