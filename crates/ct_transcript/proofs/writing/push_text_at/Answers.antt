use Rattle.std.specs.Prelude.{string_bytes}
use Rattle.ct_transcript.{specs.NodeText.with_names, proofs.Owing.{root_written, less_owed}}
use Rattle.ct_transcript.proofs.writing.push_text_at.Goals as goal

pub loop-last-init : goal.loop-last-init
loop-last-init c =
    root_written c.args.nodes.now (with_names c.args.nodes.now c.args.names.now) c.args.k c.in-Some.field-0-1 c.in-Some.node.now (string_bytes c.args.out.now) (string_bytes c.begin.new.out) c.new-runs.result.items
    c.begin.new.runs.items c.in-Some.ensures.node c.in-Some.ensures.printed c.new-runs.ensures.items c.in_ok-begin.ensures.text c.in_ok-begin.ensures.opened

pub loop-last-smaller : goal.loop-last-smaller
loop-last-smaller c =
    less_owed c.args.nodes.now (with_names c.args.nodes.now c.args.names.now) (string_bytes c.loop-last.out) (string_bytes c.push_next.new.out) c.loop-last.runs.items c.push_next.new.runs.items c.pop.new.self.items
    c.in-Some-pop.last c.in-Some-pop.ensures.items c.in_ok-push_next.ensures.written c.in_ok-push_next.ensures.paid
