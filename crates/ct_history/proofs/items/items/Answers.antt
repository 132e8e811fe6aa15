use Rattle.std.proofs.Common.{[], sym, subst, ◌∙◌}
use Rattle.ct_history.{specs.Items.{AreItems, ended}, proofs.ItemLists.{behind, items_behind}}
use Rattle.ct_history.proofs.items.items.Goals as goal

pub loop-word-preserved : goal.loop-word-preserved
loop-word-preserved c =
    let words = c.args.words.now in
    let word = c.word_at-word.result in
    let more = sym c.is_longer.ensures ∙ c.if-not-is_longer.false in
    rw c.in_ok-push.ensures.items
    record {
      placed = (behind words c.loop-word.rest word c.word_at-word.ensures more).list;
      items = items_behind words c.args.place c.loop-word.rest word c.loop-word.items.items c.word_at-word.ensures more c.loop-word.invariant.items;
    }

pub returns : goal.returns
returns c =
    let end = ended c.word_at-word.result c.word_at-word.ensures (sym c.is_longer.ensures ∙ c.if-not-is_longer.true) in
    subst (AreItems c.args.words.now c.args.place) (sym c.reverse.ensures.items) (c.loop-word.invariant.items [] end)
