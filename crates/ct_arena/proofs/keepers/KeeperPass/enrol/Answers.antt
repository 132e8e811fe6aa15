use Rattle.std.proofs.Common.{◌<◌, ap, ◌∙◌, refl}
use Rattle.ct_arena.{proofs.Handover.{keeper_enrolled, pass_enrolled, words_alone}, specs.Kept.list_of}
use Rattle.ct_arena.proofs.keepers.KeeperPass.enrol.Goals as goal

pub from_parts-requires : goal.from_parts-requires
from_parts-requires g c =
    let few : c.self.inside.enrolled < 1023 = rw (ap (λ v. v.enrolled) c.self.view_is) c.requires.number in (
      pass_enrolled g.N.Site.log c.self.inside.token.table_id c.enrol_seat-token.result.table_id c.self.inside.token.me c.enrol_seat-token.result.me (list_of c.self.inside.words.items c.self.inside.list) c.in_ok-seen.seen.words c.self.inside.enrolled c.self.inside.guest c.self.invariant.0 few
          c.enrol_seat-token.ensures.new_table c.enrol_seat-token.ensures.new
          (ap (λ v. v.words) c.in_ok-seen.ensures ∙ c.as_slice.ensures.value ∙ words_alone g.N.Site.log.cap c.self.inside.words.items c.self.inside.list c.self.inside.guest (list_of c.self.inside.words.items c.self.inside.list) (ap (λ v. v.guest) c.self.view_is ∙ c.requires.guest) c.self.invariant.2 refl),
      ap (λ v. v.room) c.in_ok-seen.ensures ∙ c.args.arena.now.room,
    )

pub invariant_of-self : goal.invariant_of-self
invariant_of-self g c =
    let few : c.self.inside.enrolled < 1023 = rw (ap (λ v. v.enrolled) c.self.view_is) c.requires.number in (
      keeper_enrolled g.N.Site.log c.self.inside.token.table_id c.enrol_seat-token.new.keeper.table_id c.self.inside.token.me c.enrol_seat-token.new.keeper.me (list_of c.self.inside.words.items c.self.inside.list) c.self.inside.enrolled c.self.inside.guest c.self.invariant.0 few
          c.enrol_seat-token.ensures.table c.enrol_seat-token.ensures.keeper,
      c.self.invariant.1,
      c.self.invariant.2,
    )
