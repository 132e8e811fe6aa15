use Rattle.ct_arena.proofs.Steps.{leaves}
use Rattle.ct_arena.proofs.sharing.leave_seat.Goals as goal

pub split_seat-requires : goal.split_seat-requires
split_seat-requires c = (c.requires.table, c.requires.some, leaves _ _ _)
