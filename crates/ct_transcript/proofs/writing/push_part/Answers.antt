use Rattle.std.{proofs.Common.{ap, ◌∙◌}, specs.Prelude.{Some, string_bytes}}
use Rattle.ct_transcript.{specs.NodeText.with_names, specs.Owed.printed_at, proofs.Owing.{part_written, part_paid, none_written, on_both}}
use Rattle.ct_transcript.proofs.writing.push_part.Goals as goal

pub returns-in-Some-default-None-clause-written : goal.returns-in-Some-default-None-clause-written
returns-in-Some-default-None-clause-written c =
    let ps = with_names c.args.nodes.now c.args.names.now in
    let unnamed = ap (λ name. Some (printed_at ps c.args.k name c.in-Some-default-None.node.now)) c.in-Some-default-None.field-0-1-is in
    on_both c.begin.result
    (part_written c.args.nodes.now ps c.args.before c.args.k c.in-Some-default-None.node.now (string_bytes c.args.out.now) (string_bytes c.begin.new.out) c.args.runs.now.items
    c.begin.new.runs.items c.if-k-before.false c.in-Some-default-None.ensures.node (c.in-Some-default-None.ensures.printed ∙ unnamed)) c.begin.ensures.text c.begin.ensures.opened

pub returns-in-Some-default-None-clause-paid : goal.returns-in-Some-default-None-clause-paid
returns-in-Some-default-None-clause-paid c =
    on_both c.begin.result
    (part_paid c.args.nodes.now c.args.k c.in-Some-default-None.node.now (string_bytes c.args.out.now) (string_bytes c.begin.new.out) c.args.runs.now.items c.begin.new.runs.items)
    c.begin.ensures.text c.begin.ensures.opened

pub returns-in-None-clause-written : goal.returns-in-None-clause-written
returns-in-None-clause-written c =
    none_written c.args.nodes.now (with_names c.args.nodes.now c.args.names.now) c.args.before c.args.k (string_bytes c.args.out.now) c.args.runs.now.items c.if-k-before.false c.in-None.ensures.none
