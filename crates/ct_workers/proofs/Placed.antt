-- Rows of answers, and where each question's answer stands.
use Rattle.std.proofs.Common.{◌≡◌, ◌<◌, ◌≤◌, ◌+◌, ◌*◌, ◌/◌, ◌%◌, Vec, Global, append-nil, take, drop, add-mul, one-mul, ℕ, zero, suc, Bool, true, false, ltb, ltb-true, ltb-false, List, [], ◌∷◌, ◌++◌, length, map, get_or, None, Some, arith, refl, ap, sym, subst, ◌∙◌, mod-lt, div-add-mod', lt_of_mul-lt-mul_right}
use Rattle.std.{specs.Prelude.{Option, IsSome, IfOk, Result, Ok}, specs.List.AllZip, proofs.lemmas.List.{drop_all, get_or-map, get_or_push, get_or_append_left, length-map, take_all}}
use Rattle.ct_decide.specs.declared.deciding.Decision.{Decision}
use Rattle.ct_workers.{specs.Dealing.{AreDealt, item_at}, specs.Known.IsRightAnswer, specs.Right.IsRight, specs.Rows.{AreRows, HasWorked, IsAnswerTo, IsRow}, proofs.Dealt.at_row}
use Rattle.ct_workers.specs.declared.{known.Answer.Answer, sides.Slot.Slot}

module _ {V : Type 0} (items : V → List (Option Answer)) (words roots : List ℕ) (w : ℕ) (some : 0 < w) where
  -- the answer to each question stands in the row and at the place where it was dealt
  pub answered : (rows : List V) → length rows ≡ w → AreRows items words roots w rows → (q : ℕ) → q < length roots → IsAnswerTo words roots q (item_at items rows (q % w) (q / w))
  answered [] count are q lt = absurd (omega (arith, some, count))
  answered (r ∷ rows) count are q lt =
      let all = r ∷ rows in
      let k = q % w in
      let j = q / w in
      let whole = div-add-mod' q w in
      let there : k < length all = omega (arith, mod-lt q some, count) in
      let row = are k r there in
      let within : j < length (items (get_or all k r)) = lt_of_mul-lt-mul_right w (omega (arith, row.all, whole, lt)) in
      let number : k + j * w ≡ q = omega (arith, whole) in
      subst (λ o. IsAnswerTo words roots q o) (sym (at_row items all k j r there)) (subst (λ n. IsAnswerTo words roots n (get_or (items (get_or all k r)) j None)) number (row.each j within))

  -- so each was dealt
  pub all_dealt : (rows : List V) → length rows ≡ w → AreRows items words roots w rows → AreDealt items rows w (length roots)
  all_dealt rows count are q lt = let a = answered rows count are q lt in subst IsSome (sym a.there) refl

-- an answer that is there is right for the root
pub answer_right : (words roots : List ℕ) (q : ℕ) (o : Option Answer) (a : Answer) → IsAnswerTo words roots q o → o ≡ Some a → (a.root ≡ get_or roots q 0) × IsRightAnswer words a
answer_right words roots q o a is e = subst (λ b. (b.root ≡ get_or roots q 0) × IsRightAnswer words b) (some_same (sym is.there ∙ e)) (is.root, is.right) where
  or_this : Answer → Option Answer → Answer
  or_this d (Some x) = x
  or_this d None = d

  some_same : {x y : Answer} → Some x ≡ Some y → x ≡ y
  some_same {x} e = ap (or_this x) e

-- answers that are right for roots, one after another
pub zipped : (words roots : List ℕ) (answers : List Answer) → length answers ≡ length roots → ((q : ℕ) (d : Answer) → q < length roots → ((get_or answers q d).root ≡ get_or roots q 0) × IsRightAnswer words (get_or answers q d))
    → AllZip (IsRight words) roots (map (λ a. a.decision) answers)
zipped words [] [] n each = tt
zipped words (r ∷ roots) (a ∷ answers) n each =
    let here = each 0 a (omega arith) in
    (subst (λ x. IsRight words x a.decision) here.0 here.1, zipped words roots answers (omega (arith, n)) (λ q d lt. each (suc q) d (omega (arith, lt))))
zipped words [] (a ∷ answers) n each = absurd (omega (arith, n))
zipped words (r ∷ roots) [] n each = absurd (omega (arith, n))

-- one more answer in a row
pub row_more : (words roots : List ℕ) (step first : ℕ) (row : List (Option Answer)) (a : Answer) → ((j : ℕ) → j < length row → IsAnswerTo words roots (first + j * step) (get_or row j None))
    → a.root ≡ get_or roots (first + length row * step) 0 → IsRightAnswer words a → (j : ℕ) → j < length row + 1 → IsAnswerTo words roots (first + j * step) (get_or (row ++ Some a ∷ []) j None)
row_more words roots step first row a each root right j lt = by (ltb j (length row)) refl where
  by : (b : Bool) → ltb j (length row) ≡ b → IsAnswerTo words roots (first + j * step) (get_or (row ++ Some a ∷ []) j None)
  by true e = let before = ltb-true _ _ e in subst (IsAnswerTo words roots (first + j * step)) (sym (get_or_append_left row (Some a ∷ []) None j before)) (each j before)
  by false e =
      let last : j ≡ length row = omega (arith, ltb-false _ _ e, lt) in
      record {
        answer = a;
        there = get_or_push row (Some a) None j (sym last);
        root = root ∙ ap (λ n. get_or roots (first + n * step) 0) (sym last);
        right = right;
      }

-- the rows of workers that have their answers
pub rows_worked : (words roots : List ℕ) (w : ℕ) (slots : List Slot) (rows : List (Vec (Option Answer) Global)) → map (λ (s : Slot). s.row) slots ≡ map Ok rows → ((k : ℕ) (d : Slot) → k < length slots → HasWorked words roots w k (get_or slots k d))
    → AreRows (λ r. r.items) words roots w rows
rows_worked words roots w slots rows same worked k d lt =
    let s : Slot = record { row = Ok d } in
    let long : length slots ≡ length rows = sym (length-map slots (λ (s : Slot). s.row)) ∙ ap length same ∙ length-map rows Ok in
    let lt' : k < length slots = omega (arith, lt, long) in
    let there : (get_or slots k s).row ≡ Ok (get_or rows k d) = sym (get_or-map (λ (s : Slot). s.row) slots k s (Ok d) lt') ∙ ap (λ l. get_or l k (Ok d)) same ∙ get_or-map Ok rows k d (Ok d) lt in
    subst (λ r. IfOk r (λ row. IsRow words roots w k row.items)) there (worked k s lt')

-- a list whose items were all written back
pub written_back : {A : Type 0} (n : ℕ) (new old : List A) → length new ≡ length old → n ≡ length old → take n (new ++ drop (length new) old) ≡ new
written_back n new old e is =
    ap (λ l. take n (new ++ l)) (drop_all (length new) old (omega (arith, e))) ∙ ap (take n) (append-nil new) ∙ take_all n new (omega (arith, e, is))

-- where a worker begins
pub start_here : (first step len : ℕ) → len ≡ 0 → first ≡ first + len * step
start_here first step len e = subst (λ n. first ≡ first + n * step) (sym e) (omega arith)

-- and goes on
pub next_here : (n first step len number next : ℕ) → number ≡ first + len * step → (next < n → next ≡ number + step) → next < n → next ≡ first + (len + 1) * step
next_here n first step len number next here on lt = let is = on lt in omega (arith, here, is, add-mul len 1 step, one-mul step)

pub next_past : (n first step len number next : ℕ) → number ≡ first + len * step → (n ≤ next → n ≤ number + step) → n ≤ next → n ≤ first + (len + 1) * step
next_past n first step len number next here past le = let is = past le in omega (arith, here, is, add-mul len 1 step, one-mul step)

-- the rows of all workers, whose number they give
pub rows_done : (words roots : List ℕ) (w m : ℕ) (slots : List Slot) (rows : List (Vec (Option Answer) Global)) → map (λ (s : Slot). s.row) slots ≡ map Ok rows
    → ((k : ℕ) (d : Slot) → k < length slots → HasWorked words roots w k (get_or slots k d)) → length slots ≡ w → length rows ≡ m → AreRows (λ r. r.items) words roots m rows
rows_done words roots w m slots rows same worked of_slots of_rows =
    let long : length slots ≡ length rows = sym (length-map slots (λ (s : Slot). s.row)) ∙ ap length same ∙ length-map rows Ok in
    subst (λ n. AreRows (λ r. r.items) words roots n rows) (sym of_slots ∙ long ∙ of_rows) (rows_worked words roots w slots rows same worked)
