use Rattle.std.{proofs.Common.{get_or, false}, proofs.lemmas.List.Elements.Contains-get_or}
use Rattle.ct_worlds.{specs.declared.wishing.Wish.Wish, proofs.Drawing.{links_more, links_nulls}}
use Rattle.ct_worlds.proofs.drafts.links.Goals as goal

-- what stands past the last equality
abbrev none : Wish
none = record { left = 0; right = 0; is_equal = false }

pub loop-wish-preserved : goal.loop-wish-preserved
loop-wish-preserved c =
    let words = c.args.words.now in
    let wishes = c.args.wishes.now in
    let at = c.loop-wish.wish-index in
    let wish = get_or wishes at none in
    let among = Contains-get_or wishes at none c.loop-wish-test.true in
    let first = c.args.draft.now in
    let old = c.loop-wish.draft in
    let one = c.side_of.new.draft in
    let new = c.side_of-in-loop-wish.new.draft in
    let left = c.in_ok-first.ensures in
    let right = c.in_ok-second.ensures in
    record {
      values = links_more words wishes wish first.values.keys old.values.keys one.values.keys new.values.keys among c.loop-wish.invariant.values left.values right.values;
      nulls = links_nulls words wishes wish first.nulls.keys old.nulls.keys one.nulls.keys new.nulls.keys among c.loop-wish.invariant.nulls left.nulls right.nulls;
    }
