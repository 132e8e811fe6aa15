use Rattle.ct_arena.proofs.Steps.{reads}
use Rattle.ct_arena.proofs.sharing.read.Goals as goal

pub load-requires : goal.load-requires
load-requires c = (c.requires.table, rw (c.requires.room) (c.requires.within), rw (c.requires.next) (reads _ _ _ c.args.token.now.me c.requires.free (rw (c.requires.next) at c.requires.within)))
