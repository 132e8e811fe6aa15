use Rattle.std.{specs.Prelude.{IsTrue}, proofs.lemmas.List.Elements.All-weaker}
use Rattle.ct_word.specs.WellFormed.{is_place_of}
use Rattle.ct_workers.specs.Right.{IsQuestion}
use Rattle.ct_word.specs.declared.kinds.Class.TheVariants as class
use Rattle.ct_deciding_tests.proofs.tests.sides.all_decided.Goals as goal

pub decide_all-requires-clause-questions : goal.decide_all-requires-clause-questions
decide_all-requires-clause-questions g c κs within =
    let words = c.args.words.now in
    All-weaker (λ p. IsTrue (is_place_of words class.Cond p)) (IsQuestion words)
    (λ p h. record { condition = h; plain = c.no_columns.ensures c.if-not-no_columns.false p }) c.args.roots.now (c.are_places.ensures c.if-not-are_places.false)
