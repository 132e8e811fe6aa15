use Rattle.std.proofs.Common.{sym, subst}
use Rattle.ct_worlds.{specs.Repaired.{Adds, IsDrawn, IsNullOf, IsValueOf}, proofs.Drawing.{drawn_nulls, drawn_values}}
use Rattle.ct_worlds.proofs.drafts.drawn.Goals as goal

pub returns : goal.returns
returns c =
    let words = c.args.words.now in
    let wishes = c.args.wishes.now in
    let world = c.args.world.now in
    let made = c.in_ok-pairs.pairs.items in
    let first = c.in_ok-draft.draft in
    let mid = c.put_pairs.new.draft in
    let last = c.fulfil.new.draft in
    let put = c.in_ok-put_pairs.ensures in
    subst (IsDrawn words wishes c.args.next world) (sym c.from_vec.ensures) (record {
      values = drawn_values words wishes world made c.args.next first.values.keys mid.values.keys last.values.keys c.in_ok-draft.ensures.values
          (subst (λ v. Adds (IsValueOf v) first.values.keys mid.values.keys) c.as_slice-pairs.ensures put.values) c.in_ok-fulfil.ensures.values c.in_ok-pairs.ensures.values;
      nulls = drawn_nulls words wishes world made first.nulls.keys mid.nulls.keys last.nulls.keys c.in_ok-draft.ensures.nulls
          (subst (λ v. Adds (IsNullOf v) first.nulls.keys mid.nulls.keys) c.as_slice-pairs.ensures put.nulls) c.in_ok-fulfil.ensures.nulls c.in_ok-pairs.ensures.nulls;
      once = c.in_ok-pairs.ensures.once;
    })
