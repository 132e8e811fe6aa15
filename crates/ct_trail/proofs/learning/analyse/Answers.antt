use Rattle.std.proofs.Common.{ap, sym, ◌∙◌, subst, length}
use Rattle.ct_trail.specs.{Literal.is_clause, Log.{clauses_in, clause_at}, Marks.{IsClosed, Resolves, with_kept}}
use Rattle.ct_trail.proofs.{Resolved.{begins, begun, resolves_more}, Trails.conflict_within}
use Rattle.ct_trail.proofs.learning.analyse.Goals as goal

pub keep_all-requires-clause-within : goal.keep_all-requires-clause-within
keep_all-requires-clause-within c =
    let d = clause_at (clauses_in c.args.entries.now) c.args.conflict in
    ap (is_clause (length c.args.marks.now)) c.clause.ensures ∙ conflict_within (length c.args.marks.now) c.args.trail.now d c.requires.falsified.none

pub resolve_all-requires-clause-closed : goal.resolve_all-requires-clause-closed
resolve_all-requires-clause-closed c =
    let n = length c.args.marks.now in
    let log = clauses_in c.args.entries.now in
    let d = clause_at log c.args.conflict in
    let w = conflict_within n c.args.trail.now d c.requires.falsified.none in
    let is = c.keep_all.ensures ∙ ap (with_kept c.args.marks.now) c.clause.ensures in
    subst (IsClosed log c.args.trail.now) (sym is) (begins log c.args.trail.now n c.args.marks.now c.requires.unmarked d w)

pub returns-clause-marked : goal.returns-clause-marked
returns-clause-marked c =
    let n = length c.args.marks.now in
    let log = clauses_in c.args.entries.now in
    let trail = c.args.trail.now in
    let d = clause_at log c.args.conflict in
    let w = conflict_within n trail d c.requires.falsified.none in
    let is = c.keep_all.ensures ∙ ap (with_kept c.args.marks.now) c.clause.ensures in
    let all = resolves_more log trail c.keep_all.new.marks c.shorten_all.new.marks c.resolve_all-2.new.marks
    (resolves_more log trail c.keep_all.new.marks c.resolve_all.new.marks c.shorten_all.new.marks c.resolve_all.ensures.resolves c.shorten_all.ensures) c.resolve_all-2.ensures.resolves in
    begun log trail n c.args.marks.now c.requires.unmarked d w c.resolve_all-2.new.marks (subst (λ m. Resolves log trail m c.resolve_all-2.new.marks) is all)
