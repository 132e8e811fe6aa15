use Rattle.std.{proofs.Common.arith, proofs.lemmas.Result.IfOk-weaker}
use Rattle.ct_cnf.proofs.Numbered.{few_places, places_within, is_numbering}
use Rattle.ct_cnf.proofs.encoding.number_below.Goals as goal

pub number-requires-clause-few : goal.number-requires-clause-few
number-requires-clause-few c = omega (arith, few_places c.args.words.now c.args.root _ c.in_ok-conditions.ensures, c.requires.few)

pub number-requires-clause-within : goal.number-requires-clause-within
number-requires-clause-within c = places_within c.args.words.now c.args.root _ c.in_ok-conditions.ensures

pub returns : goal.returns
returns c =
    IfOk-weaker c.number.result _ _
    (λ n are. is_numbering c.args.words.now c.args.root _ c.in_ok-conditions.ensures c.requires.formed c.requires.few c.requires.condition n are) c.number.ensures
