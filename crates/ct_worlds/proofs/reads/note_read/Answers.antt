use Rattle.std.{proofs.Common.{Some}, specs.Prelude.IfSome, proofs.lemmas.List.Elements.All-set}
use Rattle.ct_worlds.specs.Valuation.{IsRead}
use Rattle.ct_worlds.proofs.reads.note_read.Goals as goal

pub returns-then-slot-len : goal.returns-then-slot-len
returns-then-slot-len c = λ words v are is. All-set (λ o. IfSome o (IsRead words v)) c.args.reads.now.items c.args.slot (Some (c.args.place, c.args.number)) is are
