use Rattle.std.proofs.Common.{arith}
use Rattle.ct_lex.proofs.Pieces.{behind_cut}
use Rattle.ct_remarks.proofs.places.statement_texts.Goals as goal

pub range_from-rest-requires : goal.range_from-rest-requires
range_from-rest-requires c _ =
    let rest = c.loop-texts.rest.now in
    let behind = c.split_at.result.1.now in
    behind_cut rest behind c.piece_len.result c.loop-texts.invariant.0 c.piece_len.ensures.cut c.piece_len.ensures.ends c.split_at.ensures.back (grind (arith))
