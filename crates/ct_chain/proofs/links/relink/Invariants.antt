use Rattle.std.{proofs.Common.{◌≡◌}, specs.Prelude.{vec_capacity, vec_len}}
use Rattle.ct_chain.specs.Linked.{IsLinked}
use Rattle.ct_chain.proofs.links.relink.Given as goal

abbrev pub invariant-loop-place : goal.invariant-loop-place
invariant-loop-place l = record {
  linked : IsLinked (vec_len l.heads) l.words l.heads.items l.next.items l.place;
  links : vec_len l.next ≡ vec_len l.fn.next;
  heads_room : vec_capacity l.heads ≡ vec_capacity l.fn.heads;
  next_room : vec_capacity l.next ≡ vec_capacity l.fn.next;
}
