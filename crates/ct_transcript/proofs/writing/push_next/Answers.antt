use Rattle.std.{proofs.Common.{◌<◌, ◌^◌, length, get_or, ap, arith, rules}, specs.Prelude.string_bytes, proofs.lemmas.Result.on_ok_weaker}
use Rattle.ct_transcript.{specs.NodeText.with_names, proofs.Owing.{closed_written, closed_paid, next_written, next_paid}}
use Rattle.ct_transcript.proofs.writing.push_next.Goals as goal

pub returns-then-last-parts-clause-written : goal.returns-then-last-parts-clause-written
returns-then-last-parts-clause-written c =
    on_ok_weaker c.push_parenthesis.result
    (closed_written c.args.nodes.now (with_names c.args.nodes.now c.args.names.now) (string_bytes c.args.out.now) (string_bytes c.push_parenthesis.new.out) c.args.runs.now.items c.args.last
    (omega (arith, ap length c.parts_at-parts.ensures, c.if-last-parts.true))) c.push_parenthesis.ensures

pub returns-then-last-parts-clause-paid : goal.returns-then-last-parts-clause-paid
returns-then-last-parts-clause-paid c =
    on_ok_weaker c.push_parenthesis.result
    (closed_paid c.args.nodes.now (string_bytes c.args.out.now) (string_bytes c.push_parenthesis.new.out) _ c.args.runs.now.items c.args.last) c.push_parenthesis.ensures

pub returns-clause-written : goal.returns-clause-written
returns-clause-written c =
    on_ok_weaker c.push_part.result
    (next_written c.args.nodes.now (with_names c.args.nodes.now c.args.names.now) c.args.last (get_or c.parts_at-parts.result.now c.args.last.written 0) c.between_at.result.now (string_bytes c.args.out.now)
    (string_bytes c.push_separator.new.out) (string_bytes c.push_part.new.out) c.args.runs.now.items c.push.new.self.items c.push_part.new.runs.items
    (omega (arith, ap length c.parts_at-parts.ensures, c.if-last-parts.false)) (ap (λ ks. get_or ks c.args.last.written 0) c.parts_at-parts.ensures) c.between_at.ensures c.in_ok-push_separator.ensures
    c.in_ok-push.ensures.items) c.push_part.ensures.written

pub returns-clause-paid : goal.returns-clause-paid
returns-clause-paid c =
    let few : length c.parts_at-parts.result.now < 2 ^ 64 = search rules in
    on_ok_weaker c.push_part.result
    (next_paid c.args.nodes.now c.args.last (string_bytes c.args.out.now) (string_bytes c.push_separator.new.out) (string_bytes c.push_part.new.out) _ c.args.runs.now.items c.push.new.self.items c.push_part.new.runs.items
    (omega (arith, ap length c.parts_at-parts.ensures, c.if-last-parts.false)) (omega (arith, ap length c.parts_at-parts.ensures, few)) c.in_ok-push_separator.ensures c.in_ok-push.ensures.items) c.push_part.ensures.paid
