use Rattle.std.{proofs.Common.{ℕ, Bool, true, refl, ◌∙◌}, proofs.lemmas.Bool.and_from, proofs.lemmas.List.Sums.AllPass-from_list_all}
use Rattle.ct_rewrite.{specs.Nodes.is_position, proofs.Openings.{read_settles, members_more}, proofs.Sizes.no_more_again}
use Rattle.ct_rewrite.proofs.builder.Builder.merged.Goals as goal

pub returns-then-clashes-clause-members : goal.returns-then-clashes-clause-members
returns-then-clashes-clause-members c =
    read_settles c.args.connective c.args.self.now c.loop-child.children.items _ c.args.children.items c.args.added.now c.loop-child.child-index 0
    c.loop-child-test.true c.loop-child.invariant.members c.as_slice.ensures.value (c.clashes.ensures c.if-clashes.true)

pub loop-child-preserved : goal.loop-child-preserved
loop-child-preserved c =
    let loop = c.loop-child.invariant in
    let is_in : ℕ → Bool = is_position c.args.self.now in
    record {
      placed =
          c.in_ok-add.ensures.members is_in
          ∙ and_from _ _ loop.placed (and_from _ true (AllPass-from_list_all is_in c.args.added.now c.requires.added c.loop-child.child-index 0 c.loop-child-test.true) refl);
      distinct = c.in_ok-add.ensures.distinct loop.distinct;
      members = members_more c.add.new.children.items c.loop-child.children.items c.args.children.items c.args.added.now c.loop-child.child-index 0 c.loop-child-test.true loop.members c.in_ok-add.ensures.members;
      once = no_more_again c.add.new.children.items c.loop-child.children.items c.args.children.items c.args.added.now c.loop-child.child-index 0 c.loop-child-test.true loop.once c.in_ok-add.ensures.once;
    }
