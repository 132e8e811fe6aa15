use Rattle.std.proofs.Common.{ap, ◌∙◌}
use Rattle.ct_equality.specs.Assigned.{are_plain}
use Rattle.ct_decide.proofs.Worlds.{atoms_plain, closes, ok_more}
use Rattle.ct_decide.proofs.deciding.closed.Goals as goal

pub close-requires-clause-plain : goal.close-requires-clause-plain
close-requires-clause-plain c =
    ap (are_plain c.args.words.now) c.as_slice-atoms.ensures.value ∙ atoms_plain c.args.words.now c.requires.formed c.args.aim c.args.asking.now c.requires.asking c.requires.columns

pub returns : goal.returns
returns c =
    ok_more c.close.result _ _ (closes c.args.words.now c.requires.formed c.args.aim c.args.asking.now c.requires.asking c.args.model.now c.requires.model)
    (rw c.as_slice-atoms.ensures.value at c.close.ensures)
