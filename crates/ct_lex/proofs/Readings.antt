-- What bytes spell is what they are read as, so they have one reading: one list of tokens, or one leftmost fault.
use Rattle.std.proofs.Common.{◌≡◌, ℕ, suc, ◌+◌, ◌-◌, ◌≤◌, Bool, true, false, List, [], ◌∷◌, ◌++◌, length, refl, sym, ◌∙◌, ap, arith, append_assoc, Option, Some, None, Ok, Err}
use Rattle.std.{specs.Prelude.{nat_eq, nat_le}, specs.List.list_all, specs.Str.Parse.digits_value, proofs.lemmas.Bool.Decides.nat_tests}
use Rattle.ct_word.specs.Writable.{is_digit}
use Rattle.ct_lex.{specs.declared.token.Lexeme.Lexeme, specs.declared.token.LexError.LexError, specs.declared.token.Token.Token, proofs.Steps.some_spelled}
use Rattle.ct_lex.specs.Spelling.{Spells, blank, comment, word, number, text, null, starts, doubled, signed, sign_text, greatest, begins_word, is_blank, is_word_byte, is_comment_byte, is_spelling, are_digits}
use Rattle.ct_lex.specs.Tokens.{LexesFrom, ended, skipped, taken, FaultsFrom, here, later, FaultsHere, open_text, number_range, stray_byte}
use Rattle.ct_lex.specs.Reading.{Read, Found, Fault, Nothing, span, consed, close, word_of, null_of, comment_of, number_of, literal_of, step, with_front, with_step, bytes_behind, read_from}
use Rattle.ct_lex.specs.declared.token.Lexeme.TheVariants as lexeme
use Rattle.ct_lex.specs.declared.token.LexError.TheVariants as fault

span_stops : (p : ℕ → Bool) (r : List ℕ) → starts p r ≡ false → span p r ≡ ([], r)
span_stops p [] h = refl
span_stops p (b ∷ r) h = rw h

-- a run that stops is found whole
span_run : (p : ℕ → Bool) (w r : List ℕ) → list_all p w ≡ true → starts p r ≡ false → span p (w ++ r) ≡ (w, r)
span_run p [] r all stops = span_stops p r stops
span_run p (b ∷ w) r all stops =
    let first : p b ≡ true = grind arith in
    let rest : list_all p w ≡ true = grind arith in
    rw first (ap (λ s. (b ∷ s.0, s.1)) (span_run p w r rest stops))

close_other : (b : ℕ) (xs : List ℕ) → nat_eq b 39 ≡ false → close (b ∷ xs) ≡ consed b (close xs)
close_other b [] h = rw h
close_other b (c ∷ xs) h = rw h

closed_more : (b : ℕ) (t r : List ℕ) (q : Bool) → nat_eq b 39 ≡ q → close (doubled t ++ 39 ∷ r) ≡ Some (t, r) → close (doubled (b ∷ t) ++ 39 ∷ r) ≡ Some (b ∷ t, r)
closed_more b t r true h rest = let is : 39 ≡ b = grind (arith, nat_tests) in rw (h, rest) (ap (λ c. Some (c ∷ t, r)) is)
closed_more b t r false h rest = rw h (close_other b (doubled t ++ 39 ∷ r) h ∙ ap (consed b) rest)

-- a text that is closed ends at its closing quote
closed : (t r : List ℕ) → starts (nat_eq 39) r ≡ false → close (doubled t ++ 39 ∷ r) ≡ Some (t, r)
closed [] [] h = refl
closed [] (c ∷ r) h = let other : nat_eq c 39 ≡ false = grind (arith, nat_tests) in rw other
closed (b ∷ t) r h = closed_more b t r (nat_eq b 39) refl (closed t r h)

left_open_more : (b : ℕ) (t : List ℕ) (q : Bool) → nat_eq b 39 ≡ q → close (doubled t) ≡ None → close (doubled (b ∷ t)) ≡ None
left_open_more b t true h rest = rw (h, rest)
left_open_more b t false h rest = rw h (close_other b (doubled t) h ∙ ap (consed b) rest)

-- a text that is left open has no end
left_open : (t : List ℕ) → close (doubled t) ≡ None
left_open [] = refl
left_open (b ∷ t) = left_open_more b t (nat_eq b 39) refl (left_open t)

letter_no_blank : (b : ℕ) → begins_word b ≡ true → is_blank b ≡ false
letter_no_blank b h = grind (arith, nat_tests)

digit_no_blank : (b : ℕ) → is_digit b ≡ true → is_blank b ≡ false
digit_no_blank b h = grind (arith, nat_tests)

digit_no_letter : (b : ℕ) → is_digit b ≡ true → begins_word b ≡ false
digit_no_letter b h = grind (arith, nat_tests)

number_found : (minus : Bool) (ds r : List ℕ) → digits_value 10 ds ≤ greatest minus
    → number_of minus (ds, r) ≡ Found (Some (lexeme.Number (signed minus (digits_value 10 ds)))) (sign_text minus ++ ds) r
number_found minus ds r h = let below : nat_le (digits_value 10 ds) (greatest minus) ≡ true = grind (arith, nat_tests) in rw below

number_at : (minus : Bool) (ds r : List ℕ) → are_digits ds ≡ true → starts is_digit r ≡ false → step ((sign_text minus ++ ds) ++ r) ≡ number_of minus (ds, r)
number_at true [] r h stops = absurd (grind arith)
number_at true (d ∷ ds) r h stops =
    let first : is_digit d ≡ true = grind arith in
    let all : list_all is_digit ds ≡ true = grind arith in
    let no_minus : nat_eq 45 d ≡ false = grind (arith, nat_tests) in
    rw (no_minus, first) (ap (λ s. number_of true (d ∷ s.0, s.1)) (span_run is_digit ds r all stops))
number_at false [] r h stops = absurd (grind arith)
number_at false (d ∷ ds) r h stops =
    let first : is_digit d ≡ true = grind arith in
    let all : list_all is_digit ds ≡ true = grind arith in
    rw (digit_no_blank d first, digit_no_letter d first, first) (ap (λ s. number_of false (d ∷ s.0, s.1)) (span_run is_digit ds r all stops))

word_at : (w r : List ℕ) → is_spelling w ≡ true → starts is_word_byte r ≡ false → step (w ++ r) ≡ word_of (w, r)
word_at [] r h stops = absurd (grind arith)
word_at (b ∷ w) r h stops =
    let first : begins_word b ≡ true = grind arith in
    let all : list_all is_word_byte w ≡ true = grind arith in
    rw (letter_no_blank b first, first) (ap (λ s. word_of (b ∷ s.0, s.1)) (span_run is_word_byte w r all stops))

null_at : (w r : List ℕ) → is_spelling w ≡ true → starts is_word_byte r ≡ false → step (63 ∷ w ++ r) ≡ null_of (w, r)
null_at [] r h stops = absurd (grind arith)
null_at (b ∷ w) r h stops =
    let first : begins_word b ≡ true = grind arith in
    let all : list_all is_word_byte w ≡ true = grind arith in
    rw first (ap (λ s. null_of (b ∷ s.0, s.1)) (span_run is_word_byte w r all stops))

-- what bytes spell is found
found : {w r : List ℕ} {o : Option Lexeme} → Spells w o r → step (w ++ r) ≡ Found o w r
found (blank h) = rw h
found (comment {c} {r} all stops) = ap comment_of (span_run is_comment_byte c r all stops)
found (word {w} {r} spelled stops) = word_at w r spelled stops
found (number {w} {r} minus ds is digits stops within) = rw is (number_at minus ds r digits stops ∙ number_found minus ds r within)
found (text {w} {r} t is stops) = rw (is, append_assoc (doubled t) (39 ∷ []) r) (ap literal_of (closed t r stops))
found (null {w} {r} spelled stops) = null_at w r spelled stops
found _ = refl

-- the fault at the front is found
faulty : {x : List ℕ} {e : LexError} → FaultsHere x e → step x ≡ Fault e
faulty (open_text t is) = rw is (ap literal_of (left_open t))
faulty (number_range minus ds r is digits stops past) =
    let above : nat_le (digits_value 10 ds) (greatest minus) ≡ false = grind (arith, nat_tests) in
    rw is (number_at minus ds r digits stops ∙ rw above)
faulty (stray_byte other) = rw other

no_bytes : {w r : List ℕ} {o : Option Lexeme} → Spells w o r → w ≡ [] → ⊥
no_bytes spells e = absurd (omega (arith, some_spelled spells, ap length e))

skipped_on : (w r : List ℕ) (n : ℕ) → read_from (length w) n (w ++ r) ≡ read_from 0 (n + length w) r
skipped_on [] r n = ap (λ m. read_from 0 m r) (omega arith)
skipped_on (b ∷ w) r n = skipped_on w r (n + 1) ∙ ap (λ m. read_from 0 m r) (omega arith)

-- the front is read before what follows it
reads : {x : List ℕ} {o : Option Lexeme} (n : ℕ) (w r : List ℕ) → x ≡ w ++ r → Spells w o r → read_from 0 n x ≡ with_front n (length w) o (read_from 0 (n + length w) r)
reads n [] r is spells = absurd (no_bytes spells refl)
reads {o = o} n (b ∷ w) r is spells =
    let less : suc (length w) - 1 ≡ length w = omega arith in
    ap (read_from 0 n) is ∙ ap (λ s. with_step n s (read_from (bytes_behind s) (n + 1) (w ++ r))) (found spells)
    ∙ ap (with_front n (suc (length w)) o) (ap (λ k. read_from k (n + 1) (w ++ r)) less ∙ skipped_on w r (n + 1) ∙ ap (λ m. read_from 0 m r) (omega arith))

-- tokens are what is read
pub read_tokens : {n : ℕ} {x : List ℕ} {ts : List Token} → LexesFrom n x ts → read_from 0 n x ≡ Ok ts
read_tokens ended = refl
read_tokens (skipped {n} w r is spells more) = reads n w r is spells ∙ read_tokens more
read_tokens (taken {n} w r t is spells more) = reads n w r is spells ∙ ap (with_front n (length w) (Some t)) (read_tokens more)

fault_stays : (n len place : ℕ) (o : Option Lexeme) (e : LexError) → with_front n len o (Err (place, e)) ≡ Err (place, e)
fault_stays n len place None e = refl
fault_stays n len place (Some t) e = refl

fault_first : {n : ℕ} (x : List ℕ) {e : LexError} → FaultsHere x e → read_from 0 n x ≡ Err (n, e)
fault_first [] faults = absurd (let none : Nothing ≡ Fault _ = faulty faults in cc)
fault_first {n} (b ∷ r) faults = ap (λ s. with_step n s (read_from (bytes_behind s) (n + 1) r)) (faulty faults)

-- a fault is what is read
pub read_fault : {n place : ℕ} {x : List ℕ} {e : LexError} → FaultsFrom n x place e → read_from 0 n x ≡ Err (place, e)
read_fault (here {x = x} faults) = fault_first x faults
read_fault (later {n} {place} {e = e} w r o is spells more) = reads n w r is spells ∙ ap (with_front n (length w) o) (read_fault more) ∙ fault_stays n (length w) place o e

-- what is read is one thing
pub same_tokens : {r : Read} {ts us : List Token} → r ≡ Ok ts → r ≡ Ok us → ts ≡ us
same_tokens a b = let e = sym a ∙ b in cc

abbrev error_of : Read → LexError
error_of (Err x) = x.1
error_of (Ok ts) = fault.Memory

pub same_fault : {r : Read} {p q : ℕ} {e f : LexError} → r ≡ Err (p, e) → r ≡ Err (q, f) → f ≡ e
same_fault a b = ap error_of (sym b ∙ a)

pub never_both : {r : Read} {ts : List Token} {p : ℕ} {e : LexError} → r ≡ Ok ts → r ≡ Err (p, e) → ⊥
never_both a b = let e = sym a ∙ b in cc
