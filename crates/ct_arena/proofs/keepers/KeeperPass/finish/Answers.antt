use Rattle.std.{proofs.Common.{◌≡◌, ◌+◌, length, ap, sym, subst, ◌∙◌}, specs.Prelude.{All, sum_by}}
use Rattle.ct_word.specs.Reading.{commits_of}
use Rattle.ct_arena.{specs.Counts.{IsLog, AreNumbered, AreOfSessions}, specs.Kept.IsKeeper, specs.Seen.Keeping, proofs.Keeping.{keeper_seen, known_stays}}
use Rattle.ct_arena.{proofs.Handover.keeper_alone, proofs.keepers.KeeperPass.finish.Goals.{After-self, After-read_rest}}
use Rattle.ct_arena.proofs.keepers.KeeperPass.finish.Given as given
use Rattle.ct_arena.proofs.keepers.KeeperPass.finish.Goals as goal

-- no guest is entered, and the keeper's list is its own
keeper : (g : given.Over) (c : After-self g) → IsKeeper g.N.Site.log c.self.inside.token.table_id c.self.inside.token.me c.self.inside.words.items c.self.inside.enrolled c.self.inside.guest
keeper g c =
    keeper_alone g.N.Site.log c.self.inside.token.table_id c.self.inside.token.me c.self.inside.words.items c.self.inside.list c.self.inside.enrolled c.self.inside.guest
    (ap (λ v. v.guest) c.self.view_is ∙ c.requires.guest) c.self.invariant.2 c.self.invariant.0

-- the log was read to its end, and each session was ended
whole : (g : given.Over) (c : After-read_rest g) → IsKeeper g.N.Site.log c.self.inside.token.table_id c.self.inside.token.me c.self.inside.words.items c.self.inside.enrolled c.self.inside.guest
    → (length c.read_rest.new.seen.items ≡ 2 + sum_by (λ t. t.made) c.self.inside.token.me.0.ended) × All (λ t. AreNumbered t.session t.mine c.read_rest.new.seen.items) c.self.inside.token.me.0.ended
whole g c keeper =
    c.read_rest.ensures.whole (ap (λ m. m.0.keeps) keeper.seat) (ap (λ m. m.0.room) keeper.seat ∙ sym c.args.arena.room)
    (ap (λ v. length v.ended) c.self.view_is ∙ c.requires.ended ∙ sym (ap (λ v. v.enrolled) c.self.view_is) ∙ sym (ap (λ m. m.0.enrolled) keeper.seat))
    (ap (λ m. m.0.guest) keeper.seat ∙ ap (λ v. v.guest) c.self.view_is ∙ c.requires.guest)

pub read_rest-requires-clause-seat : goal.read_rest-requires-clause-seat
read_rest-requires-clause-seat g c =
    keeper_seen c.self.inside.token.me g.N.Site.log.cap c.self.inside.enrolled c.self.inside.guest c.self.inside.token.me.0.ended c.self.inside.words.items (keeper g (goal.at.read_rest-requires-clause-seat g c).After-self).seat

pub read_rest-requires-clause-log : goal.read_rest-requires-clause-log
read_rest-requires-clause-log g c = subst (λ n. IsLog n c.self.inside.words.items) (sym c.args.arena.room) (keeper g (goal.at.read_rest-requires-clause-log g c).After-self).list

pub returns-clause-counted : goal.returns-clause-counted
returns-clause-counted g c =
    let at = goal.at.returns-clause-counted g c in
    subst (λ (v : Keeping). length c.from_parts.result ≡ 2 + sum_by (λ t. t.made) v.ended) c.self.view_is (ap length c.from_parts.ensures ∙ (whole g at.After-read_rest (keeper g at.After-self)).0)

pub returns-clause-numbered : goal.returns-clause-numbered
returns-clause-numbered g c =
    let at = goal.at.returns-clause-numbered g c in
    subst (λ (v : Keeping). All (λ t. AreNumbered t.session t.mine c.from_parts.result) v.ended) c.self.view_is
    (subst (λ l. All (λ t. AreNumbered t.session t.mine l) c.self.inside.token.me.0.ended) (sym c.from_parts.ensures) (whole g at.After-read_rest (keeper g at.After-self)).1)

pub returns-clause-known : goal.returns-clause-known
returns-clause-known g c =
    let keeper = keeper g (goal.at.returns-clause-known g c).After-self in
    subst (λ (v : Keeping). AreOfSessions v.enrolled c.from_parts.result) c.self.view_is
    (known_stays c.self.inside.enrolled c.self.inside.words.items c.from_parts.result (ap commits_of c.from_parts.ensures ∙ c.read_rest.ensures.commits (ap (λ m. m.0.keeps) keeper.seat)) keeper.known)

pub returns-clause-formed : goal.returns-clause-formed
returns-clause-formed g c =
    let log : IsLog c.args.arena.cap c.from_parts.result = subst (λ l. IsLog c.args.arena.cap l) (sym c.from_parts.ensures) c.read_rest.ensures.log in
    log.formed
