use Rattle.std.{proofs.Common.{sym, ◌∙◌, ap, ◌++◌, rules}, specs.Prelude.encode_utf8}
use Rattle.ct_word.{specs.Value.same_text, specs.WordAt.text_at, proofs.Spelling.longer}
use Rattle.ct_history.proofs.Writers.{same_front, other_end, emptied, no_text}
use Rattle.ct_history.proofs.latest.is_text.Goals as goal

pub loop-front-preserved : goal.loop-front-preserved
loop-front-preserved c =
    let words = c.args.words.now in
    let more = longer words c.loop-front.at c.word_at-word.result c.word_at-word.ensures c.in-TextCharacter.is in
    let last = encode_utf8 c.word_at-word.result.right in
    record {
      is_text = search rules;
      placed = more.placed;
      same = c.loop-front.invariant.same ∙ ap (same_text (text_at words c.loop-front.at)) (c.in-Some.ensures) ∙ ap (λ t. same_text t (c.in-Some.front.now ++ last)) more.text
          ∙ same_front (text_at words c.word_at-word.result.left) c.in-Some.front.now last;
    }

pub returns-in-None : goal.returns-in-None
returns-in-None c =
    let words = c.args.words.now in
    let more = longer words c.loop-front.at c.word_at-word.result c.word_at-word.ensures c.in-TextCharacter.is in
    sym (c.loop-front.invariant.same ∙ ap (λ t. same_text t c.loop-front.rest.now) more.text
    ∙ other_end (text_at words c.word_at-word.result.left) c.loop-front.rest.now (encode_utf8 c.word_at-word.result.right) (c.in-None.ensures))

pub returns-in_default : goal.returns-in_default
returns-in_default c =
    let words = c.args.words.now in
    let none = emptied words c.loop-front.at c.word_at-word.result c.word_at-word.ensures c.loop-front.invariant.placed c.in_default.not-TextCharacter in
    sym (c.loop-front.invariant.same ∙ ap (λ t. same_text t c.loop-front.rest.now) none ∙ no_text c.loop-front.rest.now c.is_empty.result c.is_empty.ensures)
