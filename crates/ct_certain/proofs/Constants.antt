-- The tuple of a row under the word true whose cells are constants.
use Rattle.std.proofs.Common.{◌≡◌, ℕ, true, ◌&&◌, List, [], ◌∷◌, ◌++◌, map, ap, sym, if◌then◌else◌}
use Rattle.std.specs.Prelude.{nat_eq}
use Rattle.ct_word.{specs.declared.values.Value.Value, specs.declared.values.CRow.CRow, specs.Reading.term_at, specs.Value.tuple_at}
use Rattle.ct_certain.specs.Constants.{are_constants, is_sure, sure_of}

pub under_true : (words : List ℕ) (r : CRow) → r.cond ≡ 0 → is_sure words r ≡ are_constants words r.cells
under_true words r is = ap (λ n. nat_eq n 0 && are_constants words r.cells) is

pub sure_one : (words : List ℕ) (r : CRow) (ts : List (List Value)) → is_sure words r ≡ true → ts ++ tuple_at [] (map (term_at words) r.cells) ∷ [] ≡ ts ++ sure_of words (r ∷ [])
sure_one words r ts e = ap (λ b. ts ++ map (λ q. tuple_at [] (map (term_at words) q.cells)) (if b then r ∷ [] else [])) (sym e)
