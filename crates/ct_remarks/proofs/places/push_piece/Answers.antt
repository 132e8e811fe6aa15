use Rattle.std.{proofs.Common.{arith, refl}, specs.Prelude.map}
use Rattle.ct_remarks.{specs.Standing.placed_of, proofs.Tokens.{one_placed, none_placed}}
use Rattle.ct_remarks.proofs.places.push_piece.Goals as goal

pub returns-in_ok-push : goal.returns-in_ok-push
returns-in_ok-push c =
    one_placed c.args.piece.now c.args.at _ c.args.texts.now.items c.push.new.self.items (omega (arith, c.lead-before.ensures, c.if-before-piece.true))
    refl (omega (arith, c.lead-before.ensures)) refl c.in_ok-push.ensures.items

pub returns-else-before-piece : goal.returns-else-before-piece
returns-else-before-piece c =
    none_placed c.args.piece.now c.args.at (map placed_of c.args.texts.now.items) (omega (arith, c.lead-before.ensures, c.if-before-piece.false))
