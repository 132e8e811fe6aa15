use Rattle.std.{proofs.Common.{◌≡◌, ◌+◌, ◌*◌, ◌++◌, take}, specs.Prelude.string_bytes, specs.List.join_by}
use Rattle.ct_rewrite.specs.Nodes.{node_condition}
use Rattle.ct_csv.{specs.Exported.renamed_text, proofs.ExportTexts.part_text}
use Rattle.ct_csv.proofs.printing.+condition.Given as goal

abbrev pub decreases-push_condition : goal.decreases-push_condition
decreases-push_condition l = 3 * l.position + 1

abbrev pub decreases-push_part : goal.decreases-push_part
decreases-push_part l = 3 * l.position + 2

abbrev pub decreases-push_parts : goal.decreases-push_parts
decreases-push_parts l = 3 * l.bound

abbrev pub invariant-push_parts-loop-i : goal.invariant-push_parts-loop-i
invariant-push_parts-loop-i l =
    string_bytes l.out ≡ string_bytes l.initial.out ++ join_by (part_text (renamed_text l.underscores) l.between (node_condition l.nodes)) l.between (take l.i l.positions)
