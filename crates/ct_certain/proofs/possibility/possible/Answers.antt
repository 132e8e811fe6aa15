use Rattle.std.{proofs.Common.{length, sym, subst}, specs.Prelude.All}
use Rattle.ct_certain.{specs.Answered.AreOf, proofs.Listing.all_of}
use Rattle.ct_certain.proofs.possibility.possible.Goals as goal

pub each_possible-requires-clause-rows : goal.each_possible-requires-clause-rows
each_possible-requires-clause-rows g c =
    let words = c.args.pass.now.words in
    let rows = c.args.table.now.rows in
    subst (λ rs. All (AreOf words c.args.global) rs) (sym c.as_slice.ensures)
    (all_of words c.args.global (length c.args.table.now.columns) rows c.requires.global c.requires.plain c.requires.rows.each)
