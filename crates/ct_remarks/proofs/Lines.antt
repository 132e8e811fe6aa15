-- Lines and columns, byte by byte.
use Rattle.std.proofs.Common.{◌≡◌, ℕ, ◌+◌, ◌<◌, ◌≤◌, Bool, true, false, List, [], ◌∷◌, length, get_or, take, refl, sym, ap, ◌∙◌, arith, length-take}
use Rattle.std.{specs.Prelude.{fold, count_by, if◌then◌else◌}, proofs.lemmas.List.take_more}
use Rattle.std.proofs.lemmas.List.Sums.{count_by-le-length, count_by_more_yes, count_by_more_no, fold-append}
use Rattle.ct_remarks.specs.Standing.{is_line_end, is_inner, line_at, column_after, column_at, IsSpot}
use Rattle.ct_remarks.specs.declared.places.Spot.{Spot}

pub line_le : (script : List ℕ) (at : ℕ) → line_at script at ≤ at + 1
line_le script at = omega (arith, count_by-le-length is_line_end (take at script), length-take at script)

column_after_in : (c b : ℕ) (p q : Bool) → is_line_end b ≡ p → is_inner b ≡ q → column_after c b ≤ c + 1
column_after_in c b true q e f = rw e (omega arith)
column_after_in c b false true e f = rw (e, f) (omega arith)
column_after_in c b false false e f = rw (e, f) (omega arith)

columns_le : (c : ℕ) (xs : List ℕ) → fold column_after c xs ≤ c + length xs
columns_le c [] = omega arith
columns_le c (b ∷ xs) = omega (arith, columns_le (column_after c b) xs, column_after_in c b _ _ refl refl)

pub column_le : (script : List ℕ) (at : ℕ) → column_at script at ≤ at + 1
column_le script at = omega (arith, columns_le 1 (take at script), length-take at script)

line_more_in : (script : List ℕ) (at : ℕ) (q : Bool) → at < length script → is_line_end (get_or script at 0) ≡ q
    → line_at script (at + 1) ≡ (if is_line_end (get_or script at 0) then line_at script at + 1 else line_at script at)
line_more_in script at true within e = rw e (omega (arith, count_by_more_yes is_line_end script at 0 within e))
line_more_in script at false within e = rw e (omega (arith, count_by_more_no is_line_end script at 0 within e))

line_more : (script : List ℕ) (at : ℕ) → at < length script
    → line_at script (at + 1) ≡ (if is_line_end (get_or script at 0) then line_at script at + 1 else line_at script at)
line_more script at within = line_more_in script at _ within refl

column_more : (script : List ℕ) (at : ℕ) → at < length script → column_at script (at + 1) ≡ column_after (column_at script at) (get_or script at 0)
column_more script at within = ap (fold column_after 1) (take_more script at 0 within) ∙ fold-append column_after 1 (take at script) (get_or script at 0 ∷ [])

-- the spot behind a byte
pub spot_more : (script : List ℕ) (s t : Spot) (b : ℕ) → s.at < length script → b ≡ get_or script s.at 0 → IsSpot script s
    → t.at ≡ s.at + 1 → t.line ≡ (if is_line_end b then s.line + 1 else s.line) → t.column ≡ column_after s.column b → IsSpot script t
spot_more script s t b within is spot at line column = record {
  line = line ∙ ap (λ n. if is_line_end b then n + 1 else n) spot.line ∙ ap (λ y. if is_line_end y then line_at script s.at + 1 else line_at script s.at) is
      ∙ sym (line_more script s.at within) ∙ ap (line_at script) (sym at);
  column = column ∙ ap (λ n. column_after n b) spot.column ∙ ap (column_after (column_at script s.at)) is ∙ sym (column_more script s.at within) ∙ ap (column_at script) (sym at);
}

-- past the script lines and columns are those of its end
pub spot_past : (script : List ℕ) (s t : Spot) → IsSpot script s → take s.at script ≡ take t.at script → t.line ≡ s.line → t.column ≡ s.column → IsSpot script t
spot_past script s t spot same line column = record {
  line = line ∙ spot.line ∙ ap (λ xs. 1 + count_by is_line_end xs) same;
  column = column ∙ spot.column ∙ ap (fold column_after 1) same;
}

pub start_spot : (script : List ℕ) (s : Spot) → s.at ≡ 0 → s.line ≡ 1 → s.column ≡ 1 → IsSpot script s
start_spot script s at line column = record {
  line = line ∙ ap (line_at script) (sym at);
  column = column ∙ ap (column_at script) (sym at);
}
