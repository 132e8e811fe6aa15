-- A generated script has few statement texts: each needs a semicolon, and each statement has one.
use Rattle.std.proofs.Common.{◌≡◌, ℕ, ◌+◌, ◌≤◌, ◌<◌, ◌%◌, ◌^◌, List, [], ◌∷◌, ◌++◌, length, refl, sym, ap, ap₂, subst, cond, true, false, zero, suc, ◌∙◌, arith, codes, length-append}
use Rattle.std.{specs.Prelude.{All, Bool, nat_eq, count_by, flat_map, decimal}, specs.List.{range_with_len, AllByRecursion}, proofs.lemmas.Fmt.decimal_by_steps}
use Rattle.std.{proofs.lemmas.Bool.{false≢true, eqb-true, ne_eqb}, proofs.lemmas.List.FromFn.length-map-range_with_len}
use Rattle.std.proofs.lemmas.List.Elements.{All-nil, All-cons, All-append, All-map, All-from_recursion, recursion_from_All}
use Rattle.std.proofs.lemmas.List.Sums.{sum_by-cons, sum_by-append, length-filter, count_by-le-length}
use Rattle.ct_lex.{specs.declared.splitting.Place.Place, specs.declared.splitting.Place.TheVariants.{Plain, InText, InComment}}
use Rattle.ct_lex.specs.Texts.{texts, pieces, pieces_from, ends_piece, place_after, onto_first, has_token}
use Rattle.ct_fill.specs.Script.{insertion, ending, insertions, statements, ended, script_of}
use Rattle.ct_run.specs.Promise.{generated}

-- how many semicolons bytes have
abbrev semicolons : List ℕ → ℕ
semicolons bytes = count_by (nat_eq 59) bytes

more : (b : ℕ) (r : List ℕ) → semicolons (b ∷ r) ≡ cond (nat_eq 59 b) 1 0 + semicolons r
more b r = sum_by-cons (λ c. cond (nat_eq 59 c) 1 0) b r

both : (x y : List ℕ) → semicolons (x ++ y) ≡ semicolons x + semicolons y
both x y = sum_by-append (λ c. cond (nat_eq 59 c) 1 0) x y

onto_one : (b n : ℕ) (pieces : List (List ℕ)) → length pieces ≤ 1 + n → length (onto_first b pieces) ≤ 1 + n
onto_one b n [] le = omega arith
onto_one b n (p ∷ ps) le = le

ends_at : (place : Place) (b : ℕ) → ends_piece place b ≡ true → nat_eq 59 b ≡ true
ends_at Plain b is = let e : b ≡ 59 = eqb-true b 59 is in subst (λ c. nat_eq 59 c ≡ true) (sym e) refl
ends_at InText b is = absurd (false≢true is)
ends_at InComment b is = absurd (false≢true is)

one_byte : (ends here : Bool) (b : ℕ) (r : List ℕ) (a p : List (List ℕ)) → (ends ≡ true → here ≡ true)
    → length a ≤ 1 + semicolons r → length p ≤ 1 + semicolons r
    → length (cond ends ([] ∷ a) (onto_first b p)) ≤ 1 + (cond here 1 0 + semicolons r)
one_byte true true b r a p is la lp = omega (arith, la)
one_byte true false b r a p is la lp = absurd (false≢true (is refl))
one_byte false true b r a p is la lp = let l = onto_one b (semicolons r) p lp in omega (arith, l)
one_byte false false b r a p is la lp = let l = onto_one b (semicolons r) p lp in omega (arith, l)

few_pieces : (place : Place) (bytes : List ℕ) → length (pieces_from place bytes) ≤ 1 + semicolons bytes
few_pieces place [] = omega arith
few_pieces place (b ∷ r) =
    subst (λ n. length (pieces_from place (b ∷ r)) ≤ 1 + n) (sym (more b r))
    (one_byte (ends_piece place b) (nat_eq 59 b) b r (pieces_from Plain r) (pieces_from (place_after place b r) r) (ends_at place b) (few_pieces Plain r) (few_pieces (place_after place b r) r))

-- a script has at most one text more than semicolons
few_texts : (script : List ℕ) → length (texts script) ≤ 1 + semicolons script
few_texts script =
    let kept : length (texts script) ≤ length (pieces script) = subst (λ n. n ≤ length (pieces script)) (sym (length-filter has_token (pieces script))) (count_by-le-length has_token (pieces script)) in
    let few = few_pieces Plain script in
    omega (arith, kept, few)

-- bytes without one
record HasNone (bytes : List ℕ) : Type 0 where
  none : semicolons bytes ≡ 0

text : {x : List ℕ} → semicolons x ≡ 0 → HasNone x
text e = record { none = e }

and_none : {x y : List ℕ} → HasNone x → HasNone y → HasNone (x ++ y)
and_none {x = x} {y = y} a b = record { none = both x y ∙ ap₂ (λ m n. m + n) a.none b.none }

digit : (k : ℕ) → k < 10 → HasNone ((48 + k) ∷ [])
digit k lt =
    let e : nat_eq 59 (48 + k) ≡ false = ne_eqb 59 (48 + k) (λ same. absurd (omega (arith, lt, same))) in
    text (more (48 + k) [] ∙ ap (λ b. cond b 1 0 + 0) e)

number : (n : ℕ) → n < 2 ^ 64 → HasNone (decimal n)
number n lt = decimal_by_steps (λ n ds. HasNone ds) (λ k small. digit k small) (λ k ds big none. and_none none (digit (k % 10) (omega arith))) n lt

then_text : {x : List ℕ} (y : List ℕ) → HasNone x → semicolons y ≡ 0 → HasNone (x ++ y)
then_text y h e = and_none h (text e)

then_number : {x : List ℕ} (n : ℕ) → n < 2 ^ 64 → HasNone x → HasNone (x ++ decimal n)
then_number n lt h = and_none h (number n lt)

-- a statement with its end has one
has_one : (statement : List ℕ) → HasNone statement → semicolons (ended statement) ≡ 1
has_one statement h =
    both (statement ++ codes ";") (10 ∷ []) ∙ ap (λ n. n + 0) (both statement (codes ";")) ∙ ap (λ n. n + 1 + 0) h.none

-- statements have one each
one_each : (sts : List (List ℕ)) → AllByRecursion HasNone sts → semicolons (flat_map ended sts) ≡ length sts
one_each [] h = refl
one_each (st ∷ sts) h = both (ended st) (flat_map ended sts) ∙ ap₂ (λ m n. m + n) (has_one st h.0) (one_each sts h.1) ∙ omega arith

module _ (s : ℕ) (s_is : s < 2 ^ 64) where
  with_table : (before after : List ℕ) → semicolons before ≡ 0 → semicolons after ≡ 0 → HasNone (before ++ decimal s ++ after)
  with_table before after a b = then_text after (then_number s s_is (text {x = before} a)) b

  inserted : (i : ℕ) → i < 2 ^ 64 → HasNone (insertion s i)
  inserted i lt =
      let first = then_number i lt (with_table (codes "insert into f") (codes " values (") refl refl) in
      let second = then_number s s_is (then_text (codes ", ?f") first refl) in
      let third = then_number (i % 8) (omega arith) (then_text (codes "_") second refl) in
      then_text (codes ")") third refl

  rows : (from n : ℕ) → from + n < 2 ^ 64 → All (λ i. HasNone (insertion s i)) (range_with_len from n)
  rows from zero lt = All-nil _
  rows from (suc n) lt = All-cons (λ i. HasNone (insertion s i)) from _ (inserted from (omega (arith, lt))) (rows (from + 1) n (omega (arith, lt)))

  last_five : AllByRecursion HasNone (ending s)
  last_five = (
    with_table (codes "insert into f") (codes " values (0, 0)") refl refl,
    (
      with_table (codes "delete from f") (codes " where b = 3") refl refl,
      (
        with_table (codes "select a from f") (codes " where b = 1") refl refl,
        (
          with_table (codes "possible select a from f") (codes " where b = 1") refl refl,
          (
            then_number s s_is (text {x = codes "certain select a from f"} refl),
            tt,
          ),
        ),
      ),
    ),
  )

  all_none : (n : ℕ) → 1 + n < 2 ^ 64 → AllByRecursion HasNone (statements s n)
  all_none n lt = (
    with_table (codes "create table f") (codes " (a, b)") refl refl,
    recursion_from_All HasNone (insertions s n ++ ending s) (All-append HasNone (insertions s n) (ending s) (All-map HasNone (insertion s) (range_with_len 1 n) (rows 1 n lt)) (All-from_recursion HasNone (ending s) last_five)),
  )

  in_script : (n : ℕ) → 1 + n < 2 ^ 64 → semicolons (script_of s n) ≡ n + 6
  in_script n lt =
      let many = length-append (insertions s n) (ending s) in
      let inner = length-map-range_with_len (insertion s) 1 n in
      one_each (statements s n) (all_none n lt) ∙ omega (arith, many, inner)

  -- it has at most one text more than statements
  few_generated : (n : ℕ) → 1 + n < 2 ^ 64 → length (texts (script_of s n)) ≤ n + 7
  few_generated n lt = let a = few_texts (script_of s n) in let b = in_script n lt in omega (arith, a, b)

abbrev IsShort : List ℕ → Type 0
IsShort script = length (texts script) ≤ 65535

short : (s n : ℕ) → s ≤ 4 → n ≤ 2000 → IsShort (script_of s n)
short s n small le = let few = few_generated s (omega (arith, small)) n (omega (arith, le)) in omega (arith, few, le)

pub four_generated : (n : ℕ) → length (generated n) ≡ 4
unfolding generated
four_generated n = refl

-- the scripts that are made with n have no more statements than a script may have
pub short_generated : (n : ℕ) → n ≤ 2000 → All (λ script. length (texts script) ≤ 65535) (generated n)
unfolding generated
short_generated n le =
    All-from_recursion IsShort (generated n)
    (short 1 n (omega arith) le, (short 2 n (omega arith) le, (short 3 n (omega arith) le, (short 4 n (omega arith) le, tt))))
