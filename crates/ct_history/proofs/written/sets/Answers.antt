use Rattle.std.{proofs.Common.{◌∙◌, ◌++◌, ◌∷◌, [], ap, map, subst, sym}, specs.Prelude.{IsTrue, get_or}, proofs.lemmas.List.{map_more, map_push, take_all}}
use Rattle.std.proofs.lemmas.List.Elements.{All-get_or, All-push}
use Rattle.ct_word.{specs.WellFormed.is_place_of, proofs.Growth.place_within}
use Rattle.ct_history.{specs.Items.AreItems, specs.Places.set_at, specs.Written.plain_set, proofs.ItemLists.{set_word, sets_read}}
use Rattle.ct_word.specs.declared.kinds.Class.TheVariants as class
use Rattle.ct_history.proofs.written.sets.Goals as goal

pub word_at-word-requires-clause-within : goal.word_at-word-requires-clause-within
word_at-word-requires-clause-within c =
    let words = c.args.words.now in
    let slice = c.as_slice-item-items.result.now in
    let at = c.loop-item.item-index in
    let read = sets_read words c.args.place slice (subst (AreItems words c.args.place) (sym c.as_slice-item-items.ensures.value) c.in_ok-places.ensures) c.requires.place in
    place_within words class.Set (get_or slice at 0) (All-get_or (λ i. IsTrue (is_place_of words class.Set i)) slice at 0 c.loop-item-test.true read.1)

pub loop-item-preserved : goal.loop-item-preserved
loop-item-preserved c =
    let words = c.args.words.now in
    let slice = c.as_slice-item-items.result.now in
    let at = c.loop-item.item-index in
    let so_far = c.loop-item.sets.items in
    let word = c.word_at-word.result in
    let read = sets_read words c.args.place slice (subst (AreItems words c.args.place) (sym c.as_slice-item-items.ensures.value) c.in_ok-places.ensures) c.requires.place in
    let says =
    set_word words (get_or slice at 0) word c.word_at-word.ensures (All-get_or (λ i. IsTrue (is_place_of words class.Set i)) slice at 0 c.loop-item-test.true read.1) in
    rw c.in_ok-push.ensures.items
    record {
      same =
          map_push (plain_set words) so_far (word.left, word.right)
          ∙ (λ i. c.loop-item.invariant.same i ++ sym says.0 i ∷ [])
          ∙ sym (map_more (set_at words) slice at 0 c.loop-item-test.true);
      placed = All-push (λ s. IsTrue (is_place_of words class.Term s.1)) so_far (word.left, word.right) c.loop-item.invariant.placed says.1;
    }

pub returns-clause-same : goal.returns-clause-same
returns-clause-same c =
    let words = c.args.words.now in
    let slice = c.as_slice-item-items.result.now in
    let read = sets_read words c.args.place slice (subst (AreItems words c.args.place) (sym c.as_slice-item-items.ensures.value) c.in_ok-places.ensures) c.requires.place in
    ap (map (plain_set words)) c.from_vec.ensures ∙ c.loop-item.invariant.same ∙ ap (map (set_at words)) (take_all c.loop-item.item-index slice c.loop-item-test.false) ∙ sym read.0
