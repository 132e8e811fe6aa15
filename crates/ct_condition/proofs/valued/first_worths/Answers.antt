use Rattle.std.proofs.Common.{◌≡◌, ◌∷◌, ◌∙◌, [], ap, sym, arith, length, length-append, rules, subst}
use Rattle.ct_condition.{specs.Worth.HaveWorths, proofs.Values.have_more}
use Rattle.ct_condition.proofs.valued.first_worths.Goals as goal

pub loop-earlier-preserved : goal.loop-earlier-preserved
loop-earlier-preserved c =
    let loop = c.loop-earlier.invariant in
    let more = c.push_reserved.ensures.items in
    let room = loop.room in
    record {
      count = ap length more ∙ omega (arith, loop.count, length-append c.loop-earlier.worths.items (c.in_ok-worth.worth ∷ []));
      worths = subst (HaveWorths c.args.words.now c.args.nulls.now.steps.keys c.args.world.now) (sym more)
          (have_more c.args.words.now c.args.nulls.now.steps.keys c.args.world.now c.loop-earlier.worths.items c.in_ok-worth.worth c.loop-earlier.earlier loop.count loop.worths c.in_ok-worth.ensures);
      room = omega (arith, room, c.push_reserved.ensures.capacity);
    }

pub worth_at-requires-clause-worths : goal.worth_at-requires-clause-worths
worth_at-requires-clause-worths c =
    let same : c.loop-earlier.worths.items ≡ c.as_slice.result.now = search rules in
    subst (HaveWorths c.args.words.now c.args.nulls.now.steps.keys c.args.world.now) same c.loop-earlier.invariant.worths
