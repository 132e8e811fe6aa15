use Rattle.std.proofs.Common.{refl}
use Rattle.ct_decide.{specs.Asking.{IsClauseOf}, proofs.Askings.{path_added, adds_path, clause_wider}}
use Rattle.ct_decide.proofs.asking.add_path.Goals as goal

pub add-requires : goal.add-requires
add-requires c =
    let is : IsClauseOf c.args.words.now c.args.asking.now.atoms.items c.args.path c.from_vec.result = rw (c.from_vec.ensures, ← c.as_slice.ensures.value, ← c.as_slice-2.ensures) c.in_ok-clause.ensures in
    clause_wider c.args.words.now c.args.aim c.args.asking.now c.args.path c.from_vec.result c.requires.asking is

pub returns-clause-adds : goal.returns-clause-adds
returns-clause-adds c =
    let is : IsClauseOf c.args.words.now c.args.asking.now.atoms.items c.args.path c.from_vec.result = rw (c.from_vec.ensures, ← c.as_slice.ensures.value, ← c.as_slice-2.ensures) c.in_ok-clause.ensures in
    adds_path c.args.words.now c.args.path c.args.asking.now _ c.from_vec.result is c.in_ok-add.ensures.added refl

pub returns-clause-asking : goal.returns-clause-asking
returns-clause-asking c = path_added c.args.words.now c.args.aim c.args.path c.args.asking.now _ (returns-clause-adds c) c.in_ok-push.ensures.items refl c.requires.asking
