use Rattle.std.{proofs.Common.{subst, sym}, specs.List.AllZip}
use Rattle.ct_certain.specs.Answered.{IsSettled}
use Rattle.ct_statement.proofs.Sides.{rows_asked, rows_placed, as_many, roots_settled}
use Rattle.ct_statement.proofs.workers.possible_decided.Goals as goal

pub decide_all-requires-clause-questions : goal.decide_all-requires-clause-questions
decide_all-requires-clause-questions g c κs within = let r = c.requires.roots in rows_asked r.0 c.args.words.now r.1 c.args.table.now.rows c.args.roots.now r.2

pub possible_list-requires-clause-roots : goal.possible_list-requires-clause-roots
possible_list-requires-clause-roots g c = let r = c.requires.roots in rows_placed r.0 c.args.words.now r.1 c.args.table.now.rows c.args.roots.now r.2

pub possible_list-requires-clause-count : goal.possible_list-requires-clause-count
possible_list-requires-clause-count g c = let r = c.requires.roots in as_many r.0 c.args.words.now r.1 c.args.table.now.rows c.args.roots.now r.2

pub possible_list-requires-clause-right : goal.possible_list-requires-clause-right
possible_list-requires-clause-right g c =
    subst (AllZip (IsSettled c.args.words.now) c.args.roots.now) (sym c.as_slice.ensures)
    (roots_settled c.args.words.now c.args.roots.now c.in-Ok.decisions c.in-Ok.ensures.decided)
