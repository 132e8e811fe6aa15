use Rattle.std.proofs.Common.{◌<◌, ap, ◌∙◌, subst}
use Rattle.ct_arena.{specs.Sharing.IsSettled, proofs.Steps.{enters, settles}}
use Rattle.ct_arena.proofs.sharing.take_in.Goals as goal

pub join_seat-requires : goal.join_seat-requires
join_seat-requires c =
    let some : 0 < c.args.words.now.shared.table_id.words = rw (c.requires.room) c.requires.some in
    (c.requires.table, c.requires.session, c.requires.session_free, some, enters _ _ _ _ _ c.requires.guest c.requires.bare)

pub load-requires : goal.load-requires
load-requires c =
    let some : 0 < c.args.words.now.shared.table_id.words = rw (c.requires.room) c.requires.some in
    (c.join_seat.ensures.0 ∙ c.requires.table, some, settles _ _ _ c.join_seat.new.seat.me (ap (λ m. m.1) c.join_seat.ensures.2 ∙ c.requires.free) c.requires.some)

pub returns : goal.returns
returns c = record {
  table = c.load.ensures.0 ∙ c.join_seat.ensures.0;
  taken = subst (λ v. IsSettled v c.load.new.seat.me) (ap (λ m. m.0) c.join_seat.ensures.2) c.load.ensures.2;
}
