use Rattle.ct_arena.proofs.Steps.{enrols}
use Rattle.ct_arena.proofs.sharing.enrol_seat.Goals as goal

pub split_seat-requires : goal.split_seat-requires
split_seat-requires c = (c.requires.table, c.requires.some, enrols _ _ _ c.requires.keeps)
