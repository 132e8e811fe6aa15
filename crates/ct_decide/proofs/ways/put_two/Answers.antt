use Rattle.std.proofs.Common.{inl, inr}
use Rattle.ct_decide.proofs.Nearby.{put_in}
use Rattle.ct_decide.proofs.ways.put_two.Goals as goal

pub returns : goal.returns
returns c p h =
    elim (put_in c.insert.new.self.keys c.insert-2.new.self.keys c.args.right c.in_ok-insert-2.ensures.keys p h) [
      | inl before ↦ elim (put_in c.args.run.now.keys c.insert.new.self.keys c.args.left c.in_ok-insert.ensures.keys p before) [ inl there ↦ inl there | inr e ↦ inr (inl e) ]
      | inr e ↦ inr (inr e)
    ]
