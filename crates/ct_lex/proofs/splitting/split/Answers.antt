use Rattle.std.{proofs.Common.{arith, rules, sym, subst, ◌∙◌}, proofs.lemmas.Grind.common_steps}
use Rattle.ct_lex.{specs.Splitting.Splits, proofs.Pieces.behind_cut, proofs.Scripts.{splits_texts, splits_only}}
use Rattle.ct_lex.proofs.splitting.split.Goals as goal

pub range_from-rest-requires : goal.range_from-rest-requires
range_from-rest-requires c _ =
    let rest = c.loop-texts.rest.now in
    let behind = c.split_at.result.1.now in
    behind_cut rest behind c.piece_len.result c.loop-texts.invariant.0 c.piece_len.ensures.cut c.piece_len.ensures.ends c.split_at.ensures.back (grind (arith))

pub returns-then-is_empty-clause-value : goal.returns-then-is_empty-clause-value
returns-then-is_empty-clause-value c = first_of (search rules, grind (arith, common_steps))

pub returns-then-is_empty-clause-splits : goal.returns-then-is_empty-clause-splits
returns-then-is_empty-clause-splits c = subst (Splits c.args.script.now) (sym (returns-then-is_empty-clause-value c)) (splits_texts c.args.script.now)

pub returns-then-is_empty-clause-only : goal.returns-then-is_empty-clause-only
returns-then-is_empty-clause-only c = λ ts splits. splits_only splits ∙ sym (returns-then-is_empty-clause-value c)
