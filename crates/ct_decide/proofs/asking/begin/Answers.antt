use Rattle.ct_decide.proofs.Askings.{encoded}
use Rattle.ct_decide.proofs.asking.begin.Goals as goal

pub pose-requires : goal.pose-requires
pose-requires c =
    let told = c.in_ok-cnf.ensures in
    encoded c.args.words.now c.args.aim c.in_ok-cnf.field-0 _ told.clauses told.root told.definitions told.distinct told.nodes told.terms told.variables told.cnf c.into_vec.ensures c.into_vec-2.ensures c.into_vec-3.ensures
