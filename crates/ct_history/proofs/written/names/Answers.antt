use Rattle.std.{proofs.Common.{◌∙◌, ap, map, sym, subst}, specs.Prelude.IsTrue, proofs.lemmas.List.take_all, proofs.lemmas.List.Elements.All-get_or}
use Rattle.ct_word.{specs.WellFormed.is_place_of, specs.WordAt.text_at}
use Rattle.ct_history.{specs.Items.AreItems, proofs.ItemLists.names_read}
use Rattle.ct_word.specs.declared.kinds.Class.TheVariants as class
use Rattle.ct_history.proofs.written.names.Goals as goal

pub text_at-requires-clause-text : goal.text_at-requires-clause-text
text_at-requires-clause-text c =
    let slice = c.as_slice-item-items.result.now in
    let read = names_read c.args.words.now c.args.place slice (subst (AreItems c.args.words.now c.args.place) (sym c.as_slice-item-items.ensures.value) c.in_ok-places.ensures) c.requires.place in
    All-get_or (λ i. IsTrue (is_place_of c.args.words.now class.Text i)) slice c.loop-item.item-index 0 c.loop-item-test.true read.1

pub returns : goal.returns
returns c =
    let slice = c.as_slice-item-items.result.now in
    let read = names_read c.args.words.now c.args.place slice (subst (AreItems c.args.words.now c.args.place) (sym c.as_slice-item-items.ensures.value) c.in_ok-places.ensures) c.requires.place in
    c.from_vec.ensures ∙ c.loop-item.invariant ∙ ap (map (text_at c.args.words.now)) (take_all c.loop-item.item-index slice c.loop-item-test.false) ∙ sym read.0
