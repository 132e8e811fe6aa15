use Rattle.std.{proofs.Common.{sym, ap, ◌∙◌}, specs.Prelude.option_copied}
use Rattle.ct_transcript.proofs.Prints.{printed_there, no_node, no_name}
use Rattle.ct_transcript.proofs.nodes.named_at.Goals as goal

pub returns-in_err-node-clause-none : goal.returns-in_err-node-clause-none
returns-in_err-node-clause-none c = rw c.from_residual.ensures (no_node c.args.nodes.now c.args.names.now c.args.k (sym c.at.ensures ∙ ap option_copied c.in_err-node.was))

pub returns-in_err-name-clause-none : goal.returns-in_err-name-clause-none
returns-in_err-name-clause-none c = rw c.from_residual-in_err-name.ensures (no_name c.args.nodes.now c.args.names.now c.args.k (sym c.at-2.ensures ∙ ap option_copied c.in_err-name.was))

pub returns-clause-printed : goal.returns-clause-printed
returns-clause-printed c =
    printed_there c.args.nodes.now c.args.names.now c.args.k c.in_ok-name.name.now c.in_ok-node.node.now (sym c.at-2.ensures ∙ ap option_copied c.in_ok-name.was)
    (sym c.at.ensures ∙ ap option_copied c.in_ok-node.was)
