use Rattle.std.{proofs.Common.{◌≡◌, ◌<◌, ◌≤◌, ap, ◌∙◌, sym, pos, length, take, arith}, specs.List.list_all, proofs.lemmas.List.{length-map, take_all}}
use Rattle.ct_trail.specs.{Literal.has, Log.{clauses_in, entry_clause, clause_at}, Standing.log_now}
use Rattle.ct_sat.proofs.Ways.{known_more, arrives}
use Rattle.ct_sat.proofs.units.hints_by.Goals as goal

pub loop-l-preserved : goal.loop-l-preserved
loop-l-preserved c =
    let log = log_now c.args.board.now in
    let on = c.in_ok-go_on.ensures c.if-not-branch.false in
    record {
      leads = on.leads c.args.literal.now c.loop-l.invariant.leads;
      known = known_more log c.loop-l.way c.go_on.new.way c.clause-literals.result.now c.loop-l.l-index (pos 0) c.loop-l-test.true on c.loop-l.invariant.known;
    }

pub returns : goal.returns
returns c =
    let log = log_now c.args.board.now in
    let same = c.entries-entries.ensures.entries in
    let many = ap length same in
    let within : c.args.reason < length log = omega (arith, c.if-reason-entries.false, many, length-map c.args.board.now.entries entry_clause) in
    let is : c.clause-literals.result.now ≡ clause_at log c.args.reason = c.clause-literals.ensures ∙ ap (λ es. clause_at (clauses_in es) c.args.reason) same in
    let literals = c.clause-literals.result.now in
    let end : length literals ≤ c.loop-l.l-index = omega (arith, c.loop-l-test.false) in
    let whole : take c.loop-l.l-index literals ≡ literals = take_all c.loop-l.l-index literals end in
    arrives log c.args.literal.now c.loop-l.way c.args.reason c.push.new.self.items c.loop-l.invariant.leads within (ap (list_all (has c.loop-l.way.known.items)) (sym is) ∙ ap (list_all (has c.loop-l.way.known.items)) (sym whole) ∙ c.loop-l.invariant.known) c.in_ok-push.ensures.items
