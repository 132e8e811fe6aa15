use Rattle.std.proofs.Common.{◌+◌, ◌*◌}
use Rattle.ct_query.specs.Views.{query_of}
use Rattle.ct_algebra.proofs.Parts.{count_parts}
use Rattle.ct_algebra.proofs.answering.+answer.Given as goal

abbrev pub decreases-answer : goal.decreases-answer
decreases-answer g l = 4 * count_parts (query_of l.query.now)

abbrev pub decreases-operand : goal.decreases-operand
decreases-operand g l = 4 * count_parts (query_of l.part.now) + 1

abbrev pub decreases-sides : goal.decreases-sides
decreases-sides g l = 4 * (count_parts (query_of l.left.now) + count_parts (query_of l.right.now)) + 2

abbrev pub decreases-side_and_table : goal.decreases-side_and_table
decreases-side_and_table g l = 4 * (count_parts (query_of l.left.now) + count_parts (query_of l.right.now)) + 3

abbrev pub decreases-selected : goal.decreases-selected
decreases-selected g l = 4 * count_parts (query_of l.part.now) + 3

abbrev pub decreases-selected_rows : goal.decreases-selected_rows
decreases-selected_rows g l = 4 * count_parts (query_of l.part.now) + 2

abbrev pub decreases-projected : goal.decreases-projected
decreases-projected g l = 4 * count_parts (query_of l.part.now) + 3

abbrev pub decreases-projected_rows : goal.decreases-projected_rows
decreases-projected_rows g l = 4 * count_parts (query_of l.part.now) + 2
