use Rattle.std.proofs.lemmas.Result.{on_ok_weaker}
use Rattle.ct_csv.proofs.Appended.{five}
use Rattle.ct_csv.proofs.lines.push_create.Goals as goal

pub returns : goal.returns
returns c =
    on_ok_weaker c.push_text.result
    (λ put. five _ _ _ _ _ _ _ _ _ _ _ c.in_ok-push_str.ensures.bytes c.in_ok-push_str-2.ensures.bytes c.in_ok-push_str-3.ensures.bytes c.in_ok-push_names.ensures put)
    c.push_text.ensures
