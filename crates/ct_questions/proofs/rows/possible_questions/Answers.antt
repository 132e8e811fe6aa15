use Rattle.std.{proofs.Common.{length, sym, subst}, specs.Prelude.All}
use Rattle.ct_certain.{specs.Answered.AreOf, proofs.Listing.all_of}
use Rattle.ct_questions.proofs.rows.possible_questions.Goals as goal

pub row_roots-requires : goal.row_roots-requires
row_roots-requires g c =
    let words = c.args.pass.now.words in
    subst (λ rs. All (AreOf words c.args.global) rs) (sym c.as_slice.ensures) (all_of words c.args.global (length c.args.table.now.columns) c.args.table.now.rows c.requires.global c.requires.plain c.requires.rows.each)
