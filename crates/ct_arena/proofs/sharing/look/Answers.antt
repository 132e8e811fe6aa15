use Rattle.std.proofs.Common.{◌<◌}
use Rattle.ct_arena.proofs.Steps.{looks}
use Rattle.ct_arena.proofs.sharing.look.Goals as goal

pub load-requires : goal.load-requires
load-requires c =
    let some : 0 < c.args.words.now.shared.table_id.words = rw (c.requires.room) c.requires.some in
    (c.requires.table, some, looks _ _ _ c.args.token.now.me c.requires.free c.requires.some)
