use Rattle.std.proofs.Common.{nat_eq, sym, subst, take}
use Rattle.ct_word.specs.WellFormed.{IsWellFormed}
use Rattle.ct_condition.proofs.Reached.{formed_before}
use Rattle.ct_certain.{specs.Answered.{IsAnswer, IsNever}, proofs.{Always.all_put, Earlier.front, Short.found_shows}}
use Rattle.ct_certain.proofs.showing.show.Goals as goal

pub find-requires-clause-formed : goal.find-requires-clause-formed
find-requires-clause-formed g c =
    let old = g.I.Interner.list c.args.pass.now in
    subst IsWellFormed (sym c.first_words-words.ensures) (formed_before (take c.args.count old) old (front c.args.count old) c.words.ensures.formed)

pub learn-requires-clause-formed : goal.learn-requires-clause-formed
learn-requires-clause-formed g c =
    let new = g.I.Interner.list c.look_for.new.pass in
    subst IsWellFormed (sym c.first_words-words-in-Some-2.ensures) (formed_before (take c.args.count new) new (front c.args.count new) c.in_ok-look_for.ensures.writes.formed)

pub returns-in_ok-insert-in-None-clause-pool : goal.returns-in_ok-insert-in-None-clause-pool
returns-in_ok-insert-in-None-clause-pool g c =
    let words = take c.args.count (g.I.Interner.list c.args.pass.now) in
    let global = c.args.global in
    let row = c.args.row.now in
    let pool = c.in_ok-look_for.ensures.pool in
    record {
      near = pool.near;
      worlds = pool.worlds;
      found = pool.found;
      never = all_put (IsNever words global) nat_eq c.look_for.new.pool.never.keys c.insert.new.self.keys row.cond c.in_ok-insert-in-None.ensures.keys
          (subst (IsAnswer words global row) c.in-None.is c.in_ok-look_for.ensures.answer) pool.never;
      nulls = pool.nulls;
      conjuncts = pool.conjuncts;
    }

pub returns-in_ok-learn-in-Some-2-clause-answer : goal.returns-in_ok-learn-in-Some-2-clause-answer
returns-in_ok-learn-in-Some-2-clause-answer g c =
    let words = take c.args.count (g.I.Interner.list c.args.pass.now) in
    let row = c.args.row.now in
    found_shows words c.args.global row c.in-Some-2.world (subst (IsAnswer words c.args.global row) c.in-Some-2.is c.in_ok-look_for.ensures.answer)
