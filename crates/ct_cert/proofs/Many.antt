-- Items that stand one behind the other are read as they are written.
use Rattle.std.{proofs.Common.{◌≡◌, ℕ, zero, suc, ◌+◌, ◌<◌, ◌≤◌, Bool, true, false, List, [], ◌∷◌, ◌++◌, length, flat_map, refl, sym, ap, ◌∙◌, arith}, specs.List.list_all}
use Rattle.std.proofs.lemmas.Bool.{and_parts, false≢true}
use Rattle.std.proofs.lemmas.List.{length-append}
use mathlib.Core.List.{append_assoc, append-nil}
use Rattle.ct_cert.specs.Reading.{begins, many}

-- one that fits is read behind its first byte, where the bytes behind it do not go on with it
pub record Reads {A : Type 0} (fits : A → Bool) (text : A → List ℕ) (starts : ℕ → Bool) (ends : List ℕ → Bool) (one : List ℕ → A × List ℕ) : Type 0 where
  pub read : (a : A) (rest : List ℕ) → fits a ≡ true → ends rest ≡ true → one (text a ++ rest) ≡ (a, rest)
  pub begin : (a : A) (rest : List ℕ) → begins starts (text a ++ rest) ≡ true
  pub apart : (a : A) (rest : List ℕ) → ends (text a ++ rest) ≡ true

begin_some : (starts : ℕ → Bool) (bytes : List ℕ) → begins starts bytes ≡ true → 0 < length bytes
begin_some starts [] e = absurd (false≢true e)
begin_some starts (b ∷ bytes) e = omega arith

module _ {A : Type 0} (fits : A → Bool) (text : A → List ℕ) (starts : ℕ → Bool) (ends : List ℕ → Bool) (one : List ℕ → A × List ℕ) (r : Reads fits text starts ends one) where
  all_apart : (xs : List A) (rest : List ℕ) → ends rest ≡ true → ends (flat_map text xs ++ rest) ≡ true
  all_apart [] rest end = end
  all_apart (x ∷ xs) rest end = ap ends (append_assoc (text x) (flat_map text xs) rest) ∙ r.apart x (flat_map text xs ++ rest)

  -- there are no more of them than bytes
  pub few : (xs : List A) (rest : List ℕ) → length xs ≤ length (flat_map text xs ++ rest)
  few [] rest = omega arith
  few (x ∷ xs) rest =
      let some = begin_some starts (text x ++ []) (r.begin x []) in
      let own : length (text x ++ []) ≡ length (text x) = ap length (append-nil (text x)) in
      let whole : length ((text x ++ flat_map text xs) ++ rest) ≡ length (text x) + length (flat_map text xs ++ rest) =
      ap length (append_assoc (text x) (flat_map text xs) rest) ∙ length-append (text x) (flat_map text xs ++ rest) in
      let others = few xs rest in omega arith

  pub many_read : (xs : List A) (k : ℕ) (rest : List ℕ) → length xs ≤ k → (length xs < k → begins starts rest ≡ false)
      → list_all fits xs ≡ true → ends rest ≡ true → many starts one k (flat_map text xs ++ rest) ≡ (xs, rest)
  many_read [] zero rest le none fit end = refl
  many_read [] (suc k) rest le none fit end = let e = none (omega arith) in rw e refl
  many_read (x ∷ xs) zero rest le none fit end = absurd (omega arith)
  many_read (x ∷ xs) (suc k) rest le none fit end =
      let parts = and_parts (fits x) (list_all fits xs) fit in
      let behind : List ℕ = flat_map text xs ++ rest in
      let begin : begins starts (text x ++ (flat_map text xs ++ rest)) ≡ true = r.begin x (flat_map text xs ++ rest) in
      let own : one (text x ++ (flat_map text xs ++ rest)) ≡ (x, flat_map text xs ++ rest) = r.read x (flat_map text xs ++ rest) parts.0 (all_apart xs rest end) in
      let others : many starts one k (flat_map text xs ++ rest) ≡ (xs, rest) = many_read xs k rest (omega arith) (λ l. none (omega arith)) parts.1 end in
      ap (many starts one (suc k)) (append_assoc (text x) (flat_map text xs) rest) ∙ (rw (begin, own, others) refl)

-- what is read of no bytes at all, of bytes that begin none, and of bytes that begin one
pub nothing_in : {A : Type 0} (starts : ℕ → Bool) (one : List ℕ → A × List ℕ) (k : ℕ) (bytes : List ℕ) → k ≡ 0 → many starts one k bytes ≡ ([], bytes)
nothing_in starts one k bytes none = ap (λ n. many starts one n bytes) none

pub none_in : {A : Type 0} (starts : ℕ → Bool) (one : List ℕ → A × List ℕ) (k : ℕ) (bytes : List ℕ) → begins starts bytes ≡ false → many starts one k bytes ≡ ([], bytes)
none_in starts one zero bytes e = refl
none_in starts one (suc k) bytes e = rw e refl

one_in : {A : Type 0} (starts : ℕ → Bool) (one : List ℕ → A × List ℕ) (k : ℕ) (bytes : List ℕ) → begins starts bytes ≡ true
    → many starts one (suc k) bytes ≡ ((one bytes).0 ∷ (many starts one k (one bytes).1).0, (many starts one k (one bytes).1).1)
one_in starts one k bytes e = rw e refl

-- what has been read, and what is read of the bytes that are left, are the whole
pub record Continues {A : Type 0} (starts : ℕ → Bool) (one : List ℕ → A × List ℕ) (items : List A) (k : ℕ) (rest : List ℕ) (whole : List A × List ℕ) : Type 0 where
  pub read : items ++ (many starts one k rest).0 ≡ whole.0
  pub left : (many starts one k rest).1 ≡ whole.1

module _ {A : Type 0} (starts : ℕ → Bool) (one : List ℕ → A × List ℕ) (items : List A) (rest : List ℕ) where
  pub begun : (k m : ℕ) → items ≡ [] → k ≡ m → Continues starts one items k rest (many starts one m rest)
  begun k m none same = record {
    read = ap (λ xs. xs ++ (many starts one k rest).0) none ∙ ap (λ n. (many starts one n rest).0) same;
    left = ap (λ n. (many starts one n rest).1) same;
  }

  module _ (whole : List A × List ℕ) where
    pub ended : (k : ℕ) → many starts one k rest ≡ ([], rest) → Continues starts one items k rest whole → (items ≡ whole.0) × (rest ≡ whole.1)
    ended k is so_far =
        (sym (append-nil items) ∙ sym (ap (λ p. items ++ p.0) is) ∙ so_far.read, sym (ap (λ p. p.1) is) ∙ so_far.left)

    pub continued : (k j : ℕ) (item : A) (behind : List ℕ) (grown : List A) → k ≡ suc j → begins starts rest ≡ true → item ≡ (one rest).0 → behind ≡ (one rest).1
        → grown ≡ items ++ item ∷ [] → Continues starts one items k rest whole → Continues starts one grown j behind whole
    continued k j item behind grown turn begin is is_behind is_grown so_far =
        let all : many starts one k rest ≡ (item ∷ (many starts one j behind).0, (many starts one j behind).1) =
        ap (λ n. many starts one n rest) turn ∙ one_in starts one j rest begin ∙ (λ i. (sym is i ∷ (many starts one j (sym is_behind i)).0, (many starts one j (sym is_behind i)).1)) in
        record {
          read = ap (λ xs. xs ++ (many starts one j behind).0) is_grown ∙ append_assoc items (item ∷ []) (many starts one j behind).0 ∙ sym (ap (λ p. items ++ p.0) all) ∙ so_far.read;
          left = sym (ap (λ p. p.1) all) ∙ so_far.left;
        }
