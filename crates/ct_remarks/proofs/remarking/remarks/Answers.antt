use Rattle.std.{proofs.Common.{◌≡◌, ◌++◌, ◌∙◌, ap, sym, arith, take, length}, specs.Prelude.map, proofs.lemmas.List.length-map}
use Rattle.ct_remarks.{specs.RefusedStatements.{case_of, cases}, specs.Remarks.more_lines, proofs.Told.{kept_stands, kept_marked, one_more, all_told}}
use Rattle.ct_remarks.proofs.remarking.remarks.Goals as goal

pub remark-requires-clause-standing : goal.remark-requires-clause-standing
remark-requires-clause-standing c =
    kept_stands c.args.transcript.now.sessions c.in_ok-refused.refused.cases.items c.first_cases-first.result.now c.loop-case.case-index c.case-item.result _
    (c.in_ok-refused.ensures.cases ∙ ap (cases 0) c.as_slice-sessions.ensures) (c.first_cases-first.ensures ∙ ap (take 100) c.as_slice-cases.ensures.value) (omega (arith, c.loop-case-test.true)) c.case-item.is

pub remark-requires-clause-marked : goal.remark-requires-clause-marked
remark-requires-clause-marked c =
    kept_marked c.in_ok-refused.refused.cases.items c.first_cases-first.result.now c.loop-case.case-index c.case-item.result _
    c.in_ok-refused.ensures.marked (c.first_cases-first.ensures ∙ ap (take 100) c.as_slice-cases.ensures.value) (omega (arith, c.loop-case-test.true)) c.case-item.is

pub loop-case-preserved : goal.loop-case-preserved
loop-case-preserved c =
    one_more (map (λ n. n.now) c.args.names.now) c.first_cases-first.result.now c.loop-case.case-index c.case-item.result _ c.loop-case.lines.items c.push.new.self.items c.in_ok-remark.field-0
    (omega (arith, c.loop-case-test.true)) c.case-item.is c.loop-case.invariant c.in_ok-remark.ensures c.in_ok-push.ensures.items

pub returns : goal.returns
returns c =
    let all : map case_of c.in_ok-refused.refused.cases.items ≡ cases 0 c.args.transcript.now.sessions = c.in_ok-refused.ensures.cases ∙ ap (cases 0) c.as_slice-sessions.ensures in
    record {
      remarks = c.loop-case.lines.items;
      each =
          all_told (map (λ n. n.now) c.args.names.now) c.args.transcript.now.sessions c.in_ok-refused.refused.cases.items c.first_cases-first.result.now c.loop-case.lines.items c.loop-case.case-index
          all (c.first_cases-first.ensures ∙ ap (take 100) c.as_slice-cases.ensures.value) (omega (arith, c.loop-case-test.false)) c.loop-case.invariant;
      are =
          c.from_vec.ensures ∙ c.in_ok-push_more.ensures
          ∙ ap (λ n. c.loop-case.lines.items ++ more_lines n) (ap length c.as_slice-cases.ensures.value ∙ sym (length-map c.in_ok-refused.refused.cases.items case_of) ∙ ap length all);
    }
