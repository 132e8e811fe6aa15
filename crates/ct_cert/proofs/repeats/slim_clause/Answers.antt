use Rattle.std.{proofs.Common.{◌≡◌, length, sym, subst, true}, specs.Prelude.nat_lt, specs.List.{IsDistinct, each_same}}
use Rattle.ct_derivation.specs.Literal.{same_lit}
use Rattle.ct_cert.{specs.{Alike.Alike, Numbered.AreLow}, proofs.{Alike.alike_self, Noted.for_ok}}
use Rattle.ct_cert.proofs.repeats.slim_clause.Goals as goal

pub returns-then-len-gt-FEW-clause-once : goal.returns-then-len-gt-FEW-clause-once
returns-then-len-gt-FEW-clause-once c =
    let clause = c.args.clause.now in
    for_ok (λ ls. AreLow c.as_slice.result.now → IsDistinct same_lit ls) (λ ls. nat_lt 16 (length clause) ≡ true → AreLow clause → IsDistinct same_lit ls) c.distinct.result
    (λ ls once long low. once (subst AreLow (sym c.as_slice.ensures) low)) c.distinct.ensures.once

pub returns-in_ok-clone-clause-alike : goal.returns-in_ok-clone-clause-alike
returns-in_ok-clone-clause-alike c = subst (Alike c.args.clause.now) (sym (each_same c.args.clause.now c.in_ok-clone.field-0 c.in_ok-clone.ensures.cases)) (alike_self c.args.clause.now)
