use Rattle.std.proofs.Common.{◌≡◌, true, sym, ap, ◌∙◌}
use Rattle.ct_word.specs.Word.{kind_of, left_of, right_of}
use Rattle.ct_word.specs.WellFormed.{is_formed_as, is_word_after}
use Rattle.ct_cert.proofs.Judged.{none_found}
use Rattle.ct_cert.proofs.well_formed.is_word_after.Goals as goal

pub returns-then-is_formed-clause-value : goal.returns-then-is_formed-clause-value
unfolding is_word_after
returns-then-is_formed-clause-value c =
    let good : is_formed_as (kind_of c.args.w) c.args.chain.now.words (left_of c.args.w) (right_of c.args.w) ≡ true =
    ap (λ words. is_formed_as (kind_of c.args.w) words (left_of c.args.w) (right_of c.args.w)) (sym c.words.ensures.words) ∙ sym c.is_formed.ensures ∙ c.if-is_formed.true in
    rw good (none_found c.find.result c.is_none.result c.args.w c.args.chain.now.words c.find.ensures c.is_none.ensures)
