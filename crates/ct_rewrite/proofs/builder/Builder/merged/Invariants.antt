use Rattle.std.{proofs.Common.take, specs.Prelude.IsTrue, specs.List.list_all}
use Rattle.ct_rewrite.{specs.Nodes.is_position, specs.Rules.are_distinct, specs.Joining.{HasMembersOf, HasNoMoreThan}}
use Rattle.ct_rewrite.proofs.builder.Builder.merged.Given as goal

abbrev pub invariant-loop-child : goal.invariant-loop-child
invariant-loop-child l = record {
  placed : IsTrue (list_all (is_position l.self) l.children.items);
  distinct : IsTrue (are_distinct l.children.items);
  members : HasMembersOf l.children.items l.fn.children.items (take l.child-index l.added);
  once : HasNoMoreThan l.children.items l.fn.children.items (take l.child-index l.added);
}
