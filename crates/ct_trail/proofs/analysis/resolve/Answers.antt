use Rattle.std.{proofs.Common.{◌∙◌, ap, sym, subst, length}, proofs.lemmas.Option.get_or_from_slice_get}
use Rattle.ct_trail.specs.{Literal.{is_literal, is_clause}, Log.clauses_in, Marks.{replaced, Resolves}, Analysis.NoneKept}
use Rattle.ct_trail.proofs.{Resolved.{literal_within, unit, clause_in, resolved, none_above}, Trails.nothing}
use Rattle.ct_trail.proofs.analysis.resolve.Goals as goal

pub clause-requires : goal.clause-requires
clause-requires c =
    (unit (clauses_in c.args.entries.now) c.args.trail.now c.args.marks.now c.requires.trail c.args.place c.requires.there.put c.requires.there.there c.args.reason c.requires.there.reasoned).place

pub replace-requires-clause-literal : goal.replace-requires-clause-literal
replace-requires-clause-literal c =
    let p = c.requires.there.put in
    let is = get_or_from_slice_get c.args.trail.now c.args.place p nothing c.requires.there.there in
    ap (λ x. is_literal (length c.args.marks.now) x.literal) is
    ∙ literal_within (clauses_in c.args.entries.now) c.args.trail.now c.args.marks.now c.requires.trail c.args.place p c.requires.there.there c.args.reason c.requires.there.reasoned

pub replace-requires-clause-within : goal.replace-requires-clause-within
replace-requires-clause-within c =
    let p = c.requires.there.put in
    ap (is_clause (length c.args.marks.now)) c.clause.ensures
    ∙ clause_in (clauses_in c.args.entries.now) c.args.trail.now c.args.marks.now c.requires.trail c.args.place p c.requires.there.there c.args.reason c.requires.there.reasoned

pub returns-clause-resolves : goal.returns-clause-resolves
returns-clause-resolves c =
    let log = clauses_in c.args.entries.now in
    let trail = c.args.trail.now in
    let marks = c.args.marks.now in
    let p = c.requires.there.put in
    let is = get_or_from_slice_get trail c.args.place p nothing c.requires.there.there in
    let new_is = c.replace.ensures ∙ ap (λ x. replaced marks x.literal c.clause.result.now) is ∙ ap (replaced marks p.literal) c.clause.ensures in
    subst (Resolves log trail marks) (sym new_is)
    (resolved log trail marks c.requires.trail c.args.place p c.requires.there.there c.args.reason c.requires.there.reasoned c.requires.closed)

pub returns-clause-above : goal.returns-clause-above
returns-clause-above c = λ end none.
    let log = clauses_in c.args.entries.now in
    let trail = c.args.trail.now in
    let marks = c.args.marks.now in
    let p = c.requires.there.put in
    let is = get_or_from_slice_get trail c.args.place p nothing c.requires.there.there in
    let new_is = c.replace.ensures ∙ ap (λ x. replaced marks x.literal c.clause.result.now) is ∙ ap (replaced marks p.literal) c.clause.ensures in
    subst (λ m. NoneKept m trail c.args.place end) (sym new_is)
    (none_above log trail marks c.requires.trail c.args.place p c.requires.there.there c.args.reason c.requires.there.reasoned end none)
