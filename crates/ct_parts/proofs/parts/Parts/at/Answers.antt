use Rattle.std.proofs.Common.{arith}
use Rattle.ct_parts.proofs.Cut.{in_part, in_place, read}
use Rattle.ct_parts.proofs.parts.Parts.at.Goals as goal

pub index-requires : goal.index-requires
index-requires g c = omega (arith, c.self.inside.parts.ok.0, in_part _ _ c.args.place c.self.invariant.0 c.self.view_is c.requires.place)

pub at-requires : goal.at-requires
at-requires g c = record { place = in_place _ _ c.args.place c.self.invariant.0 c.self.view_is c.requires.place _ c.index.ensures }

pub returns : goal.returns
returns g c = read _ _ c.args.place c.self.invariant.0 c.self.view_is c.requires.place _ c.index.ensures _ c.at.ensures
