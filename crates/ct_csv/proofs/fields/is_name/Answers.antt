use Rattle.std.proofs.Common.{◌∙◌}
use Rattle.ct_csv.proofs.Named.{word_named}
use Rattle.ct_csv.proofs.fields.is_name.Goals as goal

pub returns-in_ok-name_of-in-Word : goal.returns-in_ok-name_of-in-Word
returns-in_ok-name_of-in-Word c =
    let some = rw c.as_str.ensures at c.in_ok-name_of-in-Word.ensures.some in
    let none = rw c.as_str.ensures at c.in_ok-name_of-in-Word.ensures.none in
    rw c.in-Word.is (λ low. c.is_some.ensures ∙ word_named c.in-Word.word c.in_ok-name_of-in-Word.field-0 some none low)
