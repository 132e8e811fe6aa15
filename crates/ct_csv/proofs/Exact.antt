-- Bytes have one list of records, and are refused for one cause.
use Rattle.std.proofs.Common.{◌≡◌, ℕ, List, refl, sym, ap, ap₂, subst, ◌∙◌}
use Rattle.std.specs.Prelude.{Option, Some, None, IsSome}
use Rattle.csv.specs.Reading.{default_config, strip_bom}
use Rattle.csv.specs.declared.parser.State.TheVariants.{StartRecord}
use Rattle.ct_csv.specs.declared.error.ImportError.TheVariants as fault
use Rattle.ct_csv.{specs.Fields.header}
use Rattle.ct_csv.specs.Refusing.{AreRows, IsFirstBad}
use Rattle.ct_csv.specs.Importing.{HaveOneList, RefusesNoFile, RefusesForOne}
use Rattle.ct_csv.{proofs.Reached.one_list, proofs.Rows.{file_right, none_bad, same_bad}}

pub have_one_list : HaveOneList
have_one_list bytes rs ss a b = one_list default_config StartRecord (strip_bom bytes) rs ss a.all b.all

named_or_not : {o : Option (List (List ℕ))} {cs : List (List ℕ)} → o ≡ Some cs → o ≡ None → ⊥
named_or_not p q = cc (sym p ∙ q)

some_or_not : (o : Option (List (List ℕ))) → IsSome o → o ≡ None → ⊥
some_or_not None h e = cc h
some_or_not (Some cs) h e = cc e

pub refuses_no_file : RefusesNoFile
refuses_no_file bytes columns rows fault.NotCsv file r = absurd (r file.records file.csv)
refuses_no_file bytes columns rows fault.BadHeader file (rs, csv, none) =
    absurd (named_or_not file.names (ap header (have_one_list bytes file.records rs file.csv csv) ∙ none))
refuses_no_file bytes columns rows (fault.BadCell n k) file (rs, csv, (some, bad)) =
    absurd (none_bad (subst AreRows (have_one_list bytes file.records rs file.csv csv) (file_right file.records rows file.says)) bad)
refuses_no_file bytes columns rows fault.Memory file r = refl

pub refuses_for_one : RefusesForOne
refuses_for_one bytes fault.NotCsv fault.NotCsv r s m n = refl
refuses_for_one bytes fault.NotCsv fault.BadHeader r (rs, csv, why) m n = absurd (r rs csv)
refuses_for_one bytes fault.NotCsv (fault.BadCell a b) r (rs, csv, why) m n = absurd (r rs csv)
refuses_for_one bytes fault.BadHeader fault.NotCsv (rs, csv, why) s m n = absurd (s rs csv)
refuses_for_one bytes fault.BadHeader fault.BadHeader r s m n = refl
refuses_for_one bytes fault.BadHeader (fault.BadCell a b) (rs, csv, none) (ss, csv', (some, bad)) m n =
    absurd (some_or_not (header ss) some (ap header (have_one_list bytes ss rs csv' csv) ∙ none))
refuses_for_one bytes (fault.BadCell a b) fault.NotCsv (rs, csv, why) s m n = absurd (s rs csv)
refuses_for_one bytes (fault.BadCell a b) fault.BadHeader (ss, csv', (some, bad)) (rs, csv, none) m n =
    absurd (some_or_not (header ss) some (ap header (have_one_list bytes ss rs csv' csv) ∙ none))
refuses_for_one bytes (fault.BadCell a b) (fault.BadCell c d) (rs, csv, (some, bad)) (ss, csv', (some', bad')) m n =
    let same = same_bad bad (subst (λ x. IsFirstBad x c d) (have_one_list bytes ss rs csv' csv) bad') in
    ap₂ fault.BadCell same.0 same.1
refuses_for_one bytes fault.Memory f r s m n = absurd (m refl)
refuses_for_one bytes e fault.Memory r s m n = absurd (n refl)
