use Rattle.std.proofs.Common.{◌<◌}
use Rattle.ct_arena.proofs.Steps.{lays_by}
use Rattle.ct_arena.proofs.sharing.lay_by.Goals as goal

pub load-requires : goal.load-requires
load-requires c =
    let some : 0 < c.args.words.now.shared.table_id.words = rw (c.requires.room) c.requires.some in
    (c.requires.table, some, lays_by _ _ _ c.args.keeper.now.me c.requires.free c.requires.some)
