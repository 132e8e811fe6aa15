use Rattle.std.proofs.Common.{◌≤◌, refl, ap, ◌∙◌, ◌+◌, take, pos, arith}
use Rattle.ct_trail.{specs.Literal.{is_clause, LARGEST}, proofs.Literals.literal_at, proofs.Logs.{greatest_more, variable_least}}
use Rattle.ct_trail.proofs.board.greatest.Goals as goal

pub loop-l-init : goal.loop-l-init
unfolding is_clause
loop-l-init c = record { within = refl; least = λ k e. omega arith }

pub variable-requires : goal.variable-requires
variable-requires c = literal_at LARGEST c.args.clause.now c.loop-l.l-index (pos 0) c.requires c.loop-l-test.true

pub loop-l-preserved : goal.loop-l-preserved
loop-l-preserved c = record {
  within = ap (λ n. is_clause n (take (c.loop-l.l-index + 1) c.args.clause.now)) c.greater-top.ensures
      ∙ greatest_more LARGEST c.loop-l.top c.variable.result c.args.clause.now c.loop-l.l-index c.requires c.loop-l-test.true c.loop-l.invariant.within c.variable.ensures;
  least = λ k e.
      let a : c.variable.result ≤ k = variable_least k c.variable.result c.args.clause.now c.loop-l.l-index c.loop-l-test.true c.variable.ensures e in
      let b : c.loop-l.top ≤ k = c.loop-l.invariant.least k e in
      omega (arith, c.greater-top.ensures);
}
