use Rattle.std.specs.Prelude.{⊤}
use Rattle.std.proofs.Common.{◌*◌, ◌+◌, [], ◌∷◌, ◌++◌, append-nil, cond, length, ap, sym, subst, ◌∙◌}
use Rattle.std.proofs.lemmas.{List.map-append, Result.err_from_is_err_and}
use Rattle.ct_condition.specs.Writes.{Writes}
use Rattle.ct_certain.{specs.Missing.IsRootOf, proofs.Roots.{handed_on, root_from}}
use Rattle.ct_questions.{specs.Candidates.tuples_of, proofs.Listing.candidates_more}
use Rattle.ct_questions.proofs.tuples.add_candidate.Goals as goal

pub returns-then-not-is_everywhere-clause-tuples : goal.returns-then-not-is_everywhere-clause-tuples
returns-then-not-is_everywhere-clause-tuples g c =
    let before = tuples_of c.args.list.now.items in
    sym (append-nil before) ∙ ap (λ b. before ++ cond b (c.args.tuple.now ∷ []) []) (sym c.if-not-is_everywhere.true ∙ c.is_everywhere.ensures)

pub returns-then-not-is_everywhere-clause-roots : goal.returns-then-not-is_everywhere-clause-roots
returns-then-not-is_everywhere-clause-roots g c = λ words asked all. all

pub returns-clause-tuples : goal.returns-clause-tuples
returns-clause-tuples g c =
    let list = c.args.list.now.items in
    ap tuples_of c.in_ok-push.ensures.items ∙ map-append (λ c. c.tuple) list _ ∙ ap (λ t. tuples_of list ++ t ∷ []) c.in_ok-tuple.ensures
    ∙ ap (λ b. tuples_of list ++ cond b (c.args.tuple.now ∷ []) []) (sym c.if-not-is_everywhere.false ∙ c.is_everywhere.ensures)

pub returns-clause-roots : goal.returns-clause-roots
returns-clause-roots g c = λ words asked all.
    let old = g.I.Interner.list c.args.pass.now in
    let new = g.I.Interner.list c.missing_root.new.pass in
    let global = c.args.global in
    let rows = c.args.table.now.rows in
    let root = c.in_ok-root.root in
    candidates_more words old new global rows c.in_ok-root.ensures.writes.longer c.in_ok-root.ensures.writes.formed c.args.list.now.items c.push.new.self.items (record { tuple = c.in_ok-tuple.tuple; root = root }) c.in_ok-push.ensures.items all
    (subst (λ t. IsRootOf words new global rows t root) (sym c.in_ok-tuple.ensures)
    (root_from words old new global (length c.args.table.now.columns) rows c.args.tuple.now root asked c.in_ok-root.ensures.root))

pub returns-in_err-root-clause-writes : goal.returns-in_err-root-clause-writes
returns-in_err-root-clause-writes g c =
    let k = length c.args.table.now.columns in
    let r = length c.args.table.now.rows in
    let exit = err_from_is_err_and c.from_residual.result c.from_residual.ensures.1 in
    rw (exit.1, exit.2) (subst (λ b. Writes g.I.Interner.list g.I.Interner.made g.I.Interner.kept g.I.Interner.lent g.N.Site.log.cap c.args.pass.now c.missing_root.new.pass (r * (2 * k + 2) + k + 1) b) (handed_on ⊤ c.in_err-root.field-0.0) c.in_err-root.ensures.writes)
