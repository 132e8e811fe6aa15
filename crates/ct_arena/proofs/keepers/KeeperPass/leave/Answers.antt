use Rattle.std.proofs.Common.{◌≡◌, ◌≤◌, ap, ◌∙◌, sym, subst, Some, None, refl}
use Rattle.ct_arena.{specs.Kept.{IsKeeper, IsLent, list_of}, proofs.Handover.{keeper_left, keeper_with, lent_with, pass_left}}
use Rattle.ct_arena.proofs.keepers.KeeperPass.leave.Goals as goal

pub from_parts-requires : goal.from_parts-requires
from_parts-requires g c =
    let there : c.self.inside.list ≡ Some c.in-Some.list = sym c.take.ensures.value ∙ c.in-Some.is in
    let keeper = keeper_with g.N.Site.log c.self.inside.token.table_id c.self.inside.token.me c.self.inside.words.items c.self.inside.list c.in-Some.list c.self.inside.enrolled c.self.inside.guest there c.self.invariant.0 in
    let entered : c.self.inside.guest ≡ Some c.guest.inside.tally = ap (λ v. v.guest) c.self.view_is ∙ c.requires ∙ sym (ap Some c.guest.view_is) in (
      pass_left g.N.Site.log c.self.inside.token.table_id c.leave_seat-token.result.table_id c.self.inside.token.me c.leave_seat-token.result.me c.in-Some.list.words c.in-Some.list.words c.self.inside.enrolled c.self.inside.guest c.guest.inside.tally keeper entered
          c.leave_seat-token.ensures.left_table c.leave_seat-token.ensures.left refl,
      (lent_with g.N.Site.log.cap c.self.inside.words.items c.self.inside.list c.in-Some.list c.self.inside.guest there c.self.invariant.2).0,
    )

pub invariant_of-self : goal.invariant_of-self
invariant_of-self g c =
    let there : c.self.inside.list ≡ Some c.in-Some.list = sym c.take.ensures.value ∙ c.in-Some.is in
    let keeper = keeper_with g.N.Site.log c.self.inside.token.table_id c.self.inside.token.me c.self.inside.words.items c.self.inside.list c.in-Some.list c.self.inside.enrolled c.self.inside.guest there c.self.invariant.0 in
    let words : c.note.new.words.items ≡ c.in-Some.list.words = c.note.ensures.words ∙ c.words.ensures.words in
    let left =
    keeper_left g.N.Site.log c.self.inside.token.table_id c.leave_seat-token.new.keeper.table_id c.self.inside.token.me c.leave_seat-token.new.keeper.me c.in-Some.list.words c.self.inside.enrolled c.self.inside.guest keeper c.leave_seat-token.ensures.table
    c.leave_seat-token.ensures.keeper in (
      subst (λ o. IsKeeper g.N.Site.log c.leave_seat-token.new.keeper.table_id c.leave_seat-token.new.keeper.me (list_of c.note.new.words.items o) c.self.inside.enrolled None) (sym c.take.ensures.after)
          (subst (λ l. IsKeeper g.N.Site.log c.leave_seat-token.new.keeper.table_id c.leave_seat-token.new.keeper.me l c.self.inside.enrolled None) (sym words) left),
      subst (λ n. g.N.Site.log.cap ≤ n) (sym c.note.ensures.room) c.self.invariant.1,
      subst (λ o. IsLent g.N.Site.log.cap c.note.new.words.items None o) (sym c.take.ensures.after) tt,
    )
