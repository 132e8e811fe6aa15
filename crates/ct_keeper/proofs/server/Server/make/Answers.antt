use Rattle.std.{proofs.Common.{◌≡◌, ◌+◌, ◌++◌, ◌∷◌, [], length, map, ap, sym, ◌∙◌, arith}, specs.Prelude.None, specs.List.range_with_len}
use Rattle.std.proofs.lemmas.List.FromFn.{length-map-range_with_len, map-range_with_len_more}
use Rattle.ct_word.specs.Reading.{commits_of}
use Rattle.ct_arena.{specs.Seen.Keeping, proofs.Opening.no_commits}
use Rattle.ct_keeper.specs.Served.{first_pass}
use Rattle.ct_keeper.proofs.server.Server.make.Goals as goal

pub loop-preserved : goal.loop-preserved
loop-preserved g c =
    let i = c.loop.invariant in
    let n = c.loop.counter in
    let pass : c.in_ok-pass.pass ≡ first_pass (n + 1) =
    c.in_ok-pass.ensures.pass ∙ ap (λ (k : Keeping). record { session = k.enrolled + 1; words = k.words; made = 0; mine = 0 }) i.keeper in
    record {
      keeper = c.in_ok-pass.ensures.ok ∙ ap (λ (k : Keeping). record { words = k.words; enrolled = k.enrolled + 1; guest = None; ended = k.ended }) i.keeper;
      passes = c.push_reserved.ensures.items ∙ (λ j. i.passes j ++ pass j ∷ []) ∙ sym (map-range_with_len_more first_pass 1 n (n + 1) (omega arith));
      room = let capacity = c.push_reserved.ensures.capacity in let room = i.room in omega (arith, capacity, room);
    }

pub push_reserved-requires : goal.push_reserved-requires
push_reserved-requires g c =
    let i = c.loop.invariant in
    let many = ap (λ l. length l) i.passes ∙ length-map-range_with_len first_pass 1 c.loop.counter in
    let room = i.room in
    let kept = c.loop.passes.ok.0 in
    omega (arith, many, room, kept)

pub make-requires-clause-none : goal.make-requires-clause-none
make-requires-clause-none g c = ap (λ (k : Keeping). commits_of k.words) c.loop.invariant.keeper ∙ no_commits

pub returns : goal.returns
returns g c =
    let done : c.loop.counter ≡ c.args.sessions = omega arith in
    record { passes = c.loop.invariant.passes ∙ ap (λ n. map first_pass (range_with_len 1 n)) done }
