use Rattle.ct_arena.proofs.Handover.{keeper_first}
use Rattle.ct_arena.proofs.keepers.KeeperPass.from_parts.Goals as goal

pub invariant_of-result : goal.invariant_of-result
invariant_of-result g c =
    (keeper_first g.N.Site.log c.args.token.table_id c.args.token.me c.args.words.items c.requires.named c.requires.seat c.requires.words, c.requires.room, tt)
