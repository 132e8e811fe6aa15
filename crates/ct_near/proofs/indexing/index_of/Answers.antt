use Rattle.std.{proofs.Common.{◌+◌, get_or, inl, inr, arith}, proofs.lemmas.List.Elements.Contains-get_or}
use Rattle.ct_near.{specs.Walks.IsEntryFrom, proofs.Entries.{entry_below, indexed_more, listed_below}, proofs.Listing.{extends_cases, extends_keeps}}
use Rattle.ct_near.specs.declared.walking.Way.TheVariants as way
use Rattle.ct_near.proofs.indexing.index_of.Goals as goal

pub walk-requires-clause-room : goal.walk-requires-clause-room
walk-requires-clause-room c =
    let place = get_or c.args.places.now c.loop-number.number 0 in
    let under = c.requires.under place (Contains-get_or c.args.places.now c.loop-number.number 0 c.loop-number-test.true) in
    let within = under.within in
    omega (arith, within, c.requires.room, c.loop-number.invariant.room)

pub loop-number-preserved : goal.loop-number-preserved
loop-number-preserved c =
    let words = c.args.words.now in
    let number = c.loop-number.number in
    let place = get_or c.args.places.now number 0 in
    let under = c.requires.under place (Contains-get_or c.args.places.now number 0 c.loop-number-test.true) in
    record {
      room = omega (arith, c.in_ok-walk.ensures.room, c.loop-number.invariant.room);
      old = c.in_ok-walk.ensures.old (number + 1 + 2) (omega arith);
      indexed = indexed_more words c.args.places.now c.loop-number.found.index.entries.items c.walk.new.found.index.entries.items number (extends_keeps (IsEntryFrom words (way.All number) place) c.loop-number.found.index.entries.items c.walk.new.found.index.entries.items c.in_ok-walk.ensures.added) c.loop-number.invariant.indexed
          (listed_below words place (number + 2) number c.walk.new.walks.marks.items c.walk.new.found c.requires.formed under.placed c.in_ok-walk.ensures.walked);
      only = λ e h. elim (extends_cases (IsEntryFrom words (way.All number) place) c.loop-number.found.index.entries.items c.walk.new.found.index.entries.items c.in_ok-walk.ensures.added e h) [
        | inl there ↦ c.loop-number.invariant.only e there
        | inr new ↦ entry_below words c.args.places.now number e c.requires.formed c.loop-number-test.true under.placed new
      ];
    }
