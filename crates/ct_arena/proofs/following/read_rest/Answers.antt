use Rattle.std.proofs.Common.{◌≡◌, ◌<◌, ◌≤◌, [], ◌∷◌, ◌++◌, length, ap, sym, subst, ◌∙◌, arith, length-append}
use Rattle.ct_word.specs.Reading.{commits_of}
use Rattle.ct_arena.{specs.Counts.IsLog, specs.Own.with_seen, proofs.Sole.prefix_push, proofs.Told.{IsGrown, read_found, read_none, looked_full}}
use mathlib.Core.List.{IsPrefix}
use Rattle.ct_arena.proofs.following.read_rest.Goals as goal

pub returns-then-found-eq0-clause-whole : goal.returns-then-found-eq0-clause-whole
returns-then-found-eq0-clause-whole c =
    λ k room. (read_none c.args.token.now.me.0 c.loop-place.seen.items c.read-found.result c.loop-place.token.me c.read-found.new.token.me c.loop-place.invariant.seat c.read-found.ensures.read c.if-found-eq0.true).1 k

pub loop-place-preserved : goal.loop-place-preserved
loop-place-preserved c =
    let lt : length c.loop-place.seen.items < c.args.cap = omega (arith, c.loop-place.invariant.place, c.loop-place-test.true) in
    let grown : IsGrown c.args.cap c.args.token.now.me.0 c.loop-place.seen.items c.read-found.result c.read-found.new.token.me =
    read_found c.args.cap c.args.token.now.me.0 c.loop-place.seen.items c.read-found.result c.loop-place.token.me c.read-found.new.token.me c.loop-place.invariant.seat c.read-found.ensures.read c.if-found-eq0.false c.loop-place.invariant.log lt in
    let is : c.push_reserved.new.self.items ≡ c.loop-place.seen.items ++ c.read-found.result ∷ [] = c.push_reserved.ensures.items in
    record {
      table = c.read-found.ensures.table ∙ c.loop-place.invariant.table;
      list = c.push_reserved.ensures.capacity ∙ c.loop-place.invariant.list;
      place = omega (arith, c.loop-place.invariant.place, ap length is, length-append c.loop-place.seen.items (c.read-found.result ∷ []));
      seat = subst (λ l. c.read-found.new.token.me ≡ (with_seen c.args.token.now.me.0 l, [])) (sym is) grown.seat;
      longer = subst (λ l. IsPrefix c.args.seen.now.items l) (sym is) (prefix_push c.args.seen.now.items c.loop-place.seen.items c.read-found.result c.loop-place.invariant.longer);
      log = subst (λ l. IsLog c.args.cap l) (sym is) grown.log;
      commits = λ k. ap commits_of is ∙ grown.commits k ∙ c.loop-place.invariant.commits k;
    }

pub returns-clause-whole : goal.returns-clause-whole
returns-clause-whole c =
    let le : c.args.cap ≤ length c.loop-place.seen.items = omega (arith, c.loop-place.invariant.place, c.loop-place-test.false) in
    λ k room. (looked_full c.args.cap c.args.token.now.me.0 c.loop-place.seen.items c.loop-place.token.me c.look.new.token.me c.loop-place.invariant.seat c.look.ensures.seen).1 le k room
