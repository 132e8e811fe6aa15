-- What is imported, by the records that were read.
use Rattle.std.proofs.Common.{◌≡◌, ℕ, List, [], ◌∷◌, map, drop, sym, ap, ◌∙◌}
use Rattle.std.specs.Prelude.{Result, Ok, Err, Some, IfOk, IfErr, slice_get}
use Rattle.csv.specs.Records.{Row, fields_of}
use Rattle.ct_csv.specs.declared.error.ImportError.{ImportError}
use Rattle.ct_csv.specs.declared.error.ImportError.TheVariants as fault
use Rattle.ct_csv.{specs.Csv.{IsCsv, AreEven}, specs.Fields.{columns_of, header}, specs.Script.script_of, specs.Importing.IsImported}
use Rattle.ct_csv.specs.Refusing.{AreRows, HaveSome, WhyNoFile, Refuses}
use Rattle.ct_csv.proofs.Rows.{have_some, all_rows}

pub imported : (name bytes : List ℕ) (rs : List (List (List ℕ))) (r : Result (List ℕ) ImportError) → IsCsv bytes rs
    → IfOk r (λ t. (columns : List (List ℕ)) × (header rs ≡ Some columns) × (t ≡ script_of name columns (drop 1 rs))) → IfOk r (λ _. AreRows rs)
    → IfOk r (λ t. IsImported name bytes t)
imported name bytes rs (Ok t) csv script right =
    let rows = all_rows rs (have_some rs script.0 csv.even script.1) right in
    record { columns = script.0; rows = rows.0; file = record { records = rs; csv = csv; names = script.1; says = rows.1 }; script = script.2 }
imported name bytes rs (Err e) csv script right = tt

no_file : (bytes : List ℕ) (rs : List (List (List ℕ))) (e : ImportError) → IsCsv bytes rs → WhyNoFile rs e → Refuses bytes e
no_file bytes rs fault.NotCsv csv h = absurd h
no_file bytes rs fault.BadHeader csv h = (rs, csv, h)
no_file bytes rs (fault.BadCell n k) csv h = (rs, csv, h)
no_file bytes rs fault.Memory csv h = tt

pub not_imported : (bytes : List ℕ) (rs : List (List (List ℕ))) (r : Result (List ℕ) ImportError) → IsCsv bytes rs → IfErr r (λ e. WhyNoFile rs e) → IfErr r (λ e. Refuses bytes e)
not_imported bytes rs (Ok t) csv h = tt
not_imported bytes rs (Err e) csv h = no_file bytes rs e csv h

-- where the first record names columns, each has a field
pub some_first : (rows : List Row) (first : Row) (cs : List (List ℕ)) → Some first ≡ slice_get rows 0 → AreEven (map fields_of rows) → columns_of (fields_of first) ≡ Some cs
    → HaveSome (map fields_of rows)
some_first [] first cs e even named = cc e
some_first (r ∷ rs) first cs e even named =
    let same : first ≡ r = cc in
    have_some (map fields_of (r ∷ rs)) cs even (ap (λ x. columns_of (fields_of x)) (sym same) ∙ named)
