-- What is read of a text are its tokens.
use Rattle.std.proofs.Common.{◌≡◌, ℕ, zero, suc, ◌+◌, ◌-◌, ◌<◌, ◌≤◌, Bool, true, false, ◌&&◌, ◌||◌, List, [], ◌∷◌, ◌++◌, length, take, drop, refl, ap, sym, ◌∙◌, subst, append_assoc, length-append, arith, Option, Some, None, Ok, Err, nat_eq, nat_le, if◌then◌else◌}
use Rattle.std.{specs.List.list_all, specs.Str.Parse.digits_value, proofs.lemmas.Bool.Decides.nat_tests}
use Rattle.ct_word.specs.Writable.{is_digit}
use Rattle.ct_lex.{specs.declared.token.Lexeme.Lexeme, specs.declared.token.Token.Token, proofs.Steps.some_spelled}
use Rattle.ct_lex.specs.Spelling.{Spells, blank, comment, word, number, text, null, left_paren, right_paren, comma, dot, star, equal, unequal, not_equal, starts, doubled, sign_text, greatest, are_digits, is_blank, begins_word, begins_symbol, is_word_byte, is_comment_byte, is_spelling}
use Rattle.ct_lex.specs.Tokens.{is_beginning, Lexes, LexesFrom, ended, skipped, taken}
use Rattle.ct_lex.specs.declared.token.Lexeme.TheVariants as lexeme
use Rattle.ct_lex.specs.declared.token.Symbol.TheVariants as symbol
use Rattle.ct_lex.specs.Reading.{Step, Found, Fault, Nothing, span, consed, close, word_of, null_of, comment_of, number_of, literal_of, minus_step, symbol_of, begun, step, Read, with_front, with_step, bytes_behind, read_from, read}

-- the longest front whose bytes pass, and what follows it
record IsSpan (p : ℕ → Bool) (x : List ℕ) (s : List ℕ × List ℕ) : Type 0 where
  whole : x ≡ s.0 ++ s.1
  inside : list_all p s.0 ≡ true
  stops : starts p s.1 ≡ false

one_more : (p : ℕ → Bool) (b : ℕ) (x : List ℕ) (q : Bool) → p b ≡ q → IsSpan p x (span p x) → IsSpan p (b ∷ x) (span p (b ∷ x))
one_more p b x true h rest = rw h (record { whole = ap (λ y. b ∷ y) rest.whole; inside = rw (h, rest.inside); stops = rest.stops })
one_more p b x false h rest = rw h (record { whole = refl; inside = refl; stops = h })

spanned : (p : ℕ → Bool) (x : List ℕ) → IsSpan p x (span p x)
spanned p [] = record { whole = refl; inside = refl; stops = refl }
spanned p (b ∷ x) = one_more p b x (p b) refl (spanned p x)

-- a text up to its closing quote
abbrev IsClosed : List ℕ → Option (List ℕ × List ℕ) → Type 0
IsClosed x None = Unit {0}
IsClosed x (Some s) = (x ≡ doubled s.0 ++ 39 ∷ s.1) × (starts (nat_eq 39) s.1 ≡ false)

quote_more : (b c : ℕ) (r : List ℕ) (o : Option (List ℕ × List ℕ)) → b ≡ 39 → c ≡ 39 → IsClosed r o → IsClosed (b ∷ c ∷ r) (consed 39 o)
quote_more b c r None e f h = tt
quote_more b c r (Some s) e f h = (λ i. e i ∷ f i ∷ h.0 i, h.1)

byte_more : (b : ℕ) (x : List ℕ) (o : Option (List ℕ × List ℕ)) → nat_eq b 39 ≡ false → IsClosed x o → IsClosed (b ∷ x) (consed b o)
byte_more b x None e h = tt
byte_more b x (Some s) e h = (rw e (ap (λ y. b ∷ y) h.0), h.1)

last_byte : (b : ℕ) (q : Bool) → nat_eq b 39 ≡ q → IsClosed (b ∷ []) (close (b ∷ []))
last_byte b true h = let is : b ≡ 39 = grind (arith, nat_tests) in rw h (ap (λ c. c ∷ []) is, refl)
last_byte b false h = rw h tt

two_bytes : (b c : ℕ) (r : List ℕ) (p q : Bool) → nat_eq b 39 ≡ p → nat_eq c 39 ≡ q → IsClosed r (close r) → IsClosed (c ∷ r) (close (c ∷ r)) → IsClosed (b ∷ c ∷ r) (close (b ∷ c ∷ r))
two_bytes b c r true true e f behind next =
    let one : b ≡ 39 = grind (arith, nat_tests) in
    let two : c ≡ 39 = grind (arith, nat_tests) in
    rw (e, f) (quote_more b c r (close r) one two behind)
two_bytes b c r true false e f behind next =
    let one : b ≡ 39 = grind (arith, nat_tests) in
    let other : nat_eq 39 c ≡ false = grind (arith, nat_tests) in
    rw (e, f) (ap (λ d. d ∷ c ∷ r) one, other)
two_bytes b c r false q e f behind next = rw e (byte_more b (c ∷ r) (close (c ∷ r)) e next)

closes : (x : List ℕ) → IsClosed x (close x)
closes [] = tt
closes (b ∷ []) = last_byte b (nat_eq b 39) refl
closes (b ∷ c ∷ r) = two_bytes b c r (nat_eq b 39) (nat_eq c 39) refl refl (closes r) (closes (c ∷ r))

-- what a step says of the bytes that it was found at
abbrev Says : List ℕ → Step → Type 0
Says x (Found o w r) = (x ≡ w ++ r) × Spells w o r
Says x (Fault e) = Unit {0}
Says x Nothing = x ≡ []

chosen : (x : List ℕ) (q : Bool) (s t : Step) → (q ≡ true → Says x s) → (q ≡ false → Says x t) → Says x (if q then s else t)
chosen x true s t f g = f refl
chosen x false s t f g = g refl

-- words and nulls
spelled : (b : ℕ) (r : List ℕ) → begins_word b ≡ true → is_spelling (span is_word_byte (b ∷ r)).0 ≡ true
spelled b r h = let rest = (spanned is_word_byte r).inside in rw h (rw (h, rest))

word_says : (b : ℕ) (r : List ℕ) → begins_word b ≡ true → Says (b ∷ r) (word_of (span is_word_byte (b ∷ r)))
word_says b r h = let s = spanned is_word_byte (b ∷ r) in (s.whole, word (spelled b r h) s.stops)

null_says : (r : List ℕ) → starts begins_word r ≡ true → Says (63 ∷ r) (null_of (span is_word_byte r))
null_says [] h = absurd (cc h)
null_says (b ∷ r) h = let s = spanned is_word_byte (b ∷ r) in (ap (λ y. 63 ∷ y) s.whole, null (spelled b r h) s.stops)

-- numbers
digits : (x : List ℕ) → starts is_digit x ≡ true → are_digits (span is_digit x).0 ≡ true
digits [] h = absurd (cc h)
digits (d ∷ x) h = let rest = (spanned is_digit x).inside in rw h (rw (h, rest))

number_says : (minus : Bool) (x : List ℕ) → starts is_digit x ≡ true → Says (sign_text minus ++ x) (number_of minus (span is_digit x))
number_says minus x h =
    let s = spanned is_digit x in
    let ds = (span is_digit x).0 in
    chosen (sign_text minus ++ x) (nat_le (digits_value 10 ds) (greatest minus)) _ _
    (λ e.
    let within : digits_value 10 ds ≤ greatest minus = grind (arith, nat_tests) in
    (ap (λ y. sign_text minus ++ y) s.whole ∙ sym (append_assoc (sign_text minus) ds (span is_digit x).1), number minus ds refl (digits x h) s.stops within))
    (λ e. tt)

-- comments
comment_says : (r : List ℕ) → starts (nat_eq 45) r ≡ true → Says (45 ∷ r) (comment_of (span is_comment_byte (drop 1 r)))
comment_says [] h = absurd (cc h)
comment_says (c ∷ r) h =
    let is : c ≡ 45 = grind (arith, nat_tests) in
    let s = spanned is_comment_byte r in
    (λ i. 45 ∷ is i ∷ s.whole i, comment s.inside s.stops)

minus_says : (r : List ℕ) → (starts (nat_eq 45) r || starts is_digit r) ≡ true → Says (45 ∷ r) (minus_step r)
minus_says r h =
    chosen (45 ∷ r) (starts (nat_eq 45) r) _ _ (λ e. comment_says r e) (λ e. number_says true r (rw e at h))

-- texts
literal_says : (r : List ℕ) (o : Option (List ℕ × List ℕ)) → IsClosed r o → Says (39 ∷ r) (literal_of o)
literal_says r None h = tt
literal_says r (Some s) h = (ap (λ y. 39 ∷ y) (h.0 ∙ sym (append_assoc (doubled s.0) (39 ∷ []) s.1)), text s.0 refl h.1)

-- symbols
symbol_at : (b c : ℕ) (r : List ℕ) (o : Option Lexeme) → Spells (c ∷ []) o r → nat_eq b c ≡ true → Says (b ∷ r) (Found o (b ∷ []) r)
symbol_at b c r o spells h = let is : c ≡ b = grind (arith, nat_tests) in (refl, subst (λ d. Spells (d ∷ []) o r) is spells)

unequal_at : (b : ℕ) (r : List ℕ) → (nat_eq b 60 && starts (nat_eq 62) r || nat_eq b 33 && starts (nat_eq 61) r) ≡ true
    → Says (b ∷ r) (Found (Some (lexeme.Symbol symbol.Unequal)) (b ∷ take 1 r) (drop 1 r))
unequal_at b [] h = absurd (grind arith)
unequal_at b (c ∷ r) h = one (nat_eq b 60) refl where
  one : (q : Bool) → nat_eq b 60 ≡ q → Says (b ∷ c ∷ r) (Found (Some (lexeme.Symbol symbol.Unequal)) (b ∷ c ∷ []) r)
  one true e =
      let first : 60 ≡ b = grind (arith, nat_tests) in
      let second : 62 ≡ c = grind (arith, nat_tests) in
      (refl, subst (λ w. Spells w (Some (lexeme.Symbol symbol.Unequal)) r) (λ i. first i ∷ second i ∷ []) unequal)
  one false e =
      let first : 33 ≡ b = grind (arith, nat_tests) in
      let second : 61 ≡ c = grind (arith, nat_tests) in
      (refl, subst (λ w. Spells w (Some (lexeme.Symbol symbol.Unequal)) r) (λ i. first i ∷ second i ∷ []) not_equal)

symbol_says : (b : ℕ) (r : List ℕ) → begins_symbol b r ≡ true → Says (b ∷ r) (symbol_of b r)
symbol_says b r h =
    chosen (b ∷ r) (nat_eq b 40) _ _ (symbol_at b 40 r _ left_paren) (λ e1.
    chosen (b ∷ r) (nat_eq b 41) _ _ (symbol_at b 41 r _ right_paren) (λ e2.
    chosen (b ∷ r) (nat_eq b 44) _ _ (symbol_at b 44 r _ comma) (λ e3.
    chosen (b ∷ r) (nat_eq b 46) _ _ (symbol_at b 46 r _ dot) (λ e4.
    chosen (b ∷ r) (nat_eq b 42) _ _ (symbol_at b 42 r _ star) (λ e5.
    chosen (b ∷ r) (nat_eq b 61) _ _ (symbol_at b 61 r _ equal) (λ e6.
    unequal_at b r (rw (e1, e2, e3, e4, e5, e6) at h)))))))

-- what stands at the front
minus_begins : (r : List ℕ) → is_beginning 45 r ≡ true → (starts (nat_eq 45) r || starts is_digit r) ≡ true
minus_begins r h = grind arith

null_begins : (r : List ℕ) → is_beginning 63 r ≡ true → starts begins_word r ≡ true
null_begins r h = grind arith

begun_says : (b : ℕ) (r : List ℕ) → is_beginning b r ≡ true → Says (b ∷ r) (begun b r)
begun_says b r h =
    chosen (b ∷ r) (is_blank b) _ _ (λ e. (refl, blank e)) (λ e1.
    chosen (b ∷ r) (begins_word b) _ _ (word_says b r) (λ e2.
    chosen (b ∷ r) (is_digit b) _ _ (λ e. number_says false (b ∷ r) e) (λ e3.
    chosen (b ∷ r) (nat_eq b 39) _ _ (λ e. let is : 39 ≡ b = grind (arith, nat_tests) in subst (λ c. Says (c ∷ r) (literal_of (close r))) is (literal_says r (close r) (closes r))) (λ e4.
    chosen (b ∷ r) (nat_eq b 45) _ _ (λ e. let is : b ≡ 45 = grind (arith, nat_tests) in subst (λ c. Says (c ∷ r) (minus_step r)) (sym is) (minus_says r (minus_begins r (subst (λ c. is_beginning c r ≡ true) is h)))) (λ e5.
    chosen (b ∷ r) (nat_eq b 63) _ _ (λ e. let is : b ≡ 63 = grind (arith, nat_tests) in subst (λ c. Says (c ∷ r) (null_of (span is_word_byte r))) (sym is) (null_says r (null_begins r (subst (λ c. is_beginning c r ≡ true) is h)))) (λ e6.
    symbol_says b r (rw (e1, e2, e3, e4, e5, e6) at h)))))))

says : (x : List ℕ) → Says x (step x)
says [] = refl
says (b ∷ r) = chosen (b ∷ r) (is_beginning b r) _ _ (begun_says b r) (λ e. tt)

-- what is read behind what stands at the front
skipped_on : (w r : List ℕ) (n : ℕ) → read_from (length w) n (w ++ r) ≡ read_from 0 (n + length w) r
skipped_on [] r n = ap (λ m. read_from 0 m r) (omega arith)
skipped_on (b ∷ w) r n = skipped_on w r (n + 1) ∙ ap (λ m. read_from 0 m r) (omega arith)

-- shorter bytes are read as their tokens
abbrev AreLexed : ℕ → Type 0
AreLexed m = (n : ℕ) (x : List ℕ) (ts : List Token) → length x < m → read_from 0 n x ≡ Ok ts → LexesFrom n x ts

front_lexed : (n : ℕ) (x w r : List ℕ) (o : Option Lexeme) (behind : Read) (ts : List Token) → x ≡ w ++ r → Spells w o r → with_front n (length w) o behind ≡ Ok ts
    → ((us : List Token) → behind ≡ Ok us → LexesFrom (n + length w) r us) → LexesFrom n x ts
front_lexed n x w r None behind ts is spells h rest = skipped w r is spells (rest ts h)
front_lexed n x w r (Some t) (Ok us) ts is spells h rest =
    let whole : record { word = t; start = n; end = n + length w } ∷ us ≡ ts = cc h in
    subst (LexesFrom n x) whole (taken w r t is spells (rest us refl))
front_lexed n x w r (Some t) (Err e) ts is spells h rest = absurd (cc h)

step_lexed : (m n b : ℕ) (r : List ℕ) (s : Step) (ts : List Token) → AreLexed m → length r < m → Says (b ∷ r) s → with_step n s (read_from (bytes_behind s) (n + 1) r) ≡ Ok ts → LexesFrom n (b ∷ r) ts
step_lexed m n b r (Found o [] y) ts shorter less says h = absurd (omega (arith, some_spelled says.1))
step_lexed m n b r (Found o (c ∷ w) y) ts shorter less says h =
    let tail : r ≡ w ++ y = ap (drop 1) says.0 in
    let size : suc (length w) - 1 ≡ length w = omega arith in
    let behind : read_from (suc (length w) - 1) (n + 1) r ≡ read_from 0 (n + suc (length w)) y =
    ap (λ k. read_from k (n + 1) r) size ∙ ap (read_from (length w) (n + 1)) tail ∙ skipped_on w y (n + 1) ∙ ap (λ k. read_from 0 k y) (omega arith) in
    let fits : length y < m = omega (arith, ap length tail, length-append w y) in
    front_lexed n (b ∷ r) (c ∷ w) y o (read_from (suc (length w) - 1) (n + 1) r) ts says.0 says.1 h (λ us e. shorter (n + suc (length w)) y us fits (sym behind ∙ e))
step_lexed m n b r (Fault e) ts shorter less says h = absurd (cc h)
step_lexed m n b r Nothing ts shorter less says h = absurd (cc says)

are_lexed : (m : ℕ) → AreLexed m
are_lexed zero n x ts less h = absurd (omega arith)
are_lexed (suc m) n [] ts less h = let none : [] ≡ ts = cc h in subst (LexesFrom n []) none ended
are_lexed (suc m) n (b ∷ r) ts less h = step_lexed m n b r (step (b ∷ r)) ts (are_lexed m) (omega arith) (says (b ∷ r)) h

-- what is read of a text are its tokens
pub lexed : (x : List ℕ) (ts : List Token) → read x ≡ Ok ts → Lexes x ts
lexed x ts h = are_lexed (suc (length x)) 0 x ts (omega arith) h
