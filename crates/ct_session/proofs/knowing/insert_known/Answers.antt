use Rattle.std.{proofs.Common.{◌+◌, ◌∷◌, [], false, ap₂, arith, sym, subst, ◌∙◌}, specs.Prelude.{None, IfSome}}
use Rattle.ct_arena.specs.Seen.{Seen}
use Rattle.ct_condition.specs.Writes.{charge}
use Rattle.ct_query.specs.Views.{action_of}
use Rattle.ct_query.specs.Plain as plain
use Rattle.ct_word.proofs.Prefixes.{prefix_of_prefix}
use Rattle.ct_statement.{specs.Making.says_full, proofs.Sights.sight_grows}
use Rattle.ct_transaction.{specs.Answers.is_full, specs.Bounded.Makes, specs.Sessions.state_of, proofs.Bounded.performs_less, proofs.Called.called, proofs.Going.version_within}
use Rattle.ct_session.{specs.Known.SeesAlone, specs.Outcomes.IsCommittedOr, proofs.Bounded.{charged_less, makes_longer}}
use Rattle.ct_session.proofs.Again.{known_seen, known_executes, none_committed, outcome_wants, offer_wanted, session_stays, rows_literal, unmade_makes, unmade_insertion, offered_commits, offered_insertion, offered_makes}
use Rattle.ct_transcript.specs.declared.reply.Reply.TheVariants as reply
use Rattle.ct_session.proofs.knowing.insert_known.Goals as goal

pub insertion_at-requires-clause-sees : goal.insertion_at-requires-clause-sees
insertion_at-requires-clause-sees g c = subst (λ o. IfSome o (SeesAlone c.args.session.pass.words)) (sym c.take.ensures.value ∙ c.in-Some.is) c.requires.known

pub commit-pass-requires-clause-offer : goal.commit-pass-requires-clause-offer
commit-pass-requires-clause-offer g c = (c.in-Ok-offering.ensures.ok c.args.statement.now c.in-Ok.ensures.found).takes

pub literal_offer-offering-requires-clause-found : goal.literal_offer-offering-requires-clause-found
literal_offer-offering-requires-clause-found g c = (c.args.statement.now, c.in-Ok.ensures.found)

pub literal_offer-offering-requires-clause-literal : goal.literal_offer-offering-requires-clause-literal
literal_offer-offering-requires-clause-literal g c = rows_literal (plain.Act (action_of c.in-Ok.action)) c.in-Ok.ensures.rows

pub wanting-requires-clause-seen : goal.wanting-requires-clause-seen
wanting-requires-clause-seen g c = version_within c.args.session.pass.words c.literal_offer-offering.new.pass.words c.literal_offer-offering.ensures.longer c.args.session.seen c.requires.seen

pub returns-in-Err-clause-makes : goal.returns-in-Err-clause-makes
returns-in-Err-clause-makes g c =
    let pass = c.args.session.pass in
    let now = c.literal_offer-offering in
    let w = c.wanting in
    let after = w.result.0.pass in
    let why = c.in-Err.why in
    let more = charged_less (is_full w.result.1) (says_full why) w.ensures.full in
    let made = w.ensures.made in
    makes_longer (state_of pass c.args.session.seen c.args.session.fresh None) now.new.pass.words after.words c.args.statement.now pass.made (after.made + charge (is_full w.result.1)) w.ensures.longer
    (unmade_makes pass now.new.pass now.ensures.longer (session_stays pass now.new.pass now.ensures.kept) c.args.session.seen c.args.session.fresh c.in-Some.sight.version
    c.requires.seen c.args.statement.now (plain.Act (action_of c.in-Ok.action)) c.in-Ok.ensures.found c.in-Ok.ensures.rows
    (now.new.pass.made + charge (says_full why)) (after.made + charge (is_full w.result.1)) c.in-Err.ensures.made (omega (arith, more, made)))

pub returns-in-Err-clause-executes : goal.returns-in-Err-clause-executes
returns-in-Err-clause-executes g c =
    let now = c.literal_offer-offering in
    c.wanting.ensures.executes c.args.session.pass c.args.statement.now (record { longer = now.ensures.longer; kept = now.ensures.kept; numbered = c.words-begun.ensures.numbered })
    (unmade_insertion c.args.session.pass now.new.pass now.ensures.longer (session_stays c.args.session.pass now.new.pass now.ensures.kept) c.args.session.seen c.args.session.fresh c.in-Some.sight.version c.requires.seen c.args.statement.now
    (plain.Act (action_of c.in-Ok.action)) c.in-Ok.ensures.found c.in-Ok.ensures.rows)

pub committed_or-requires : goal.committed_or-requires
committed_or-requires g c =
    let pass = c.args.session.pass in
    let now = c.literal_offer-offering in
    let made = c.in-Ok-offering in
    record {
      settled = offered_commits pass now.new.pass now.ensures.longer (session_stays pass now.new.pass now.ensures.kept) c.args.session.seen c.args.session.fresh c.in-Some.sight.version c.requires.seen c.args.statement.now
          (plain.Act (action_of c.in-Ok.action)) c.in-Ok.ensures.found c.in-Ok.ensures.rows made.offering (made.ensures.ok c.args.statement.now c.in-Ok.ensures.found) made.ensures.base c.commit-pass.result.0 c.commit-pass.ensures.longer c.commit-pass.ensures.session
          g.N.Site.log.cap c.commit-pass.result.1 c.commit-pass.ensures.outcome;
    }

pub returns-in-Ok-committed_or-clause-session : goal.returns-in-Ok-committed_or-clause-session
returns-in-Ok-committed_or-clause-session g c =
    let N = g.N.Site.log.cap in
    let now = c.literal_offer-offering in
    let made = c.in-Ok-offering in
    let after = c.commit-pass.result.0 in
    let k = called N c.args.session.pass now.new.pass after now.ensures.longer now.ensures.kept c.words-begun.ensures.numbered c.words-now.ensures.numbered c.commit-pass.ensures.longer c.commit-pass.ensures.session c.words-after.ensures.numbered c.words-after.ensures.room in
    c.carrying.ensures.session (record {
      seen_is = known_seen c.args.session.pass now.new.pass now.ensures.kept c.args.session.fresh made.offering c.args.statement.now (made.ensures.ok c.args.statement.now c.in-Ok.ensures.found) N c.args.session.seen c.requires.seen after k
          c.commit-pass.result.1 c.in-Ok-committed_or.at (subst (IsCommittedOr c.commit-pass.result.1) c.in-Ok-committed_or.is c.committed_or.ensures) c.commit-pass.ensures.outcome;
      open_is = tt;
    })

pub returns-in-Ok-committed_or-clause-executes : goal.returns-in-Ok-committed_or-clause-executes
returns-in-Ok-committed_or-clause-executes g c =
    let N = g.N.Site.log.cap in
    let now = c.literal_offer-offering in
    let made = c.in-Ok-offering in
    let st = c.args.statement.now in
    let after = c.commit-pass.result.0 in
    let k = called N c.args.session.pass now.new.pass after now.ensures.longer now.ensures.kept c.words-begun.ensures.numbered c.words-now.ensures.numbered c.commit-pass.ensures.longer c.commit-pass.ensures.session c.words-after.ensures.numbered c.words-after.ensures.room in
    c.carrying.ensures.executes N (state_of c.args.session.pass c.args.session.seen c.args.session.fresh None) c.args.session.pass.words st (reply.Committed c.in-Ok-committed_or.at)
    (known_executes c.args.session.pass now.new.pass now.ensures.kept c.args.session.fresh made.offering st (made.ensures.ok c.args.statement.now c.in-Ok.ensures.found) N c.args.session.seen c.requires.seen after k
    c.commit-pass.result.1 c.in-Ok-committed_or.at (subst (IsCommittedOr c.commit-pass.result.1) c.in-Ok-committed_or.is c.committed_or.ensures) c.commit-pass.ensures.outcome)

pub returns-in-Ok-committed_or-clause-known : goal.returns-in-Ok-committed_or-clause-known
returns-in-Ok-committed_or-clause-known g c =
    let begun = c.args.session.pass.words in
    let now = c.literal_offer-offering in
    let after = c.commit-pass.result.0.words in
    let s = c.in-Some.sight in
    let sees = subst (λ o. IfSome o (SeesAlone begun)) (sym c.take.ensures.value ∙ c.in-Some.is) c.requires.known in
    subst (λ q. SeesAlone q.words s) (sym c.carrying.ensures.pass) (record {
      sight = sight_grows begun after (prefix_of_prefix begun now.new.pass.words after now.ensures.longer c.commit-pass.ensures.longer) s c.words-after.ensures.formed sees.sight;
      none = sees.none;
    })

pub returns-in-Ok-committed_or-clause-makes : goal.returns-in-Ok-committed_or-clause-makes
returns-in-Ok-committed_or-clause-makes g c =
    let pass = c.args.session.pass in
    let now = c.literal_offer-offering in
    let made = c.in-Ok-offering in
    let after = c.commit-pass.result.0 in
    let few = c.commit-pass.ensures.made in
    subst (λ (p : Seen). Makes (state_of pass c.args.session.seen c.args.session.fresh None) p.words c.args.statement.now pass.made (p.made + 0)) (sym c.carrying.ensures.pass)
    (offered_makes pass now.new.pass now.ensures.longer (session_stays pass now.new.pass now.ensures.kept) c.args.session.seen c.args.session.fresh c.in-Some.sight.version c.requires.seen c.args.statement.now
    (plain.Act (action_of c.in-Ok.action)) c.in-Ok.ensures.found c.in-Ok.ensures.rows made.offering (made.ensures.ok c.args.statement.now c.in-Ok.ensures.found) made.ensures.base after c.commit-pass.ensures.longer c.commit-pass.ensures.session
    (after.made + 0) (λ counts widths. performs_less false counts widths (plain.Act (action_of c.in-Ok.action)) pass.made (now.new.pass.made + 0) now.new.pass.made (omega arith) (made.ensures.made counts widths)) (omega (arith, few)))

pub wanting-requires-in-Err-committed_or-clause-seen : goal.wanting-requires-in-Err-committed_or-clause-seen
wanting-requires-in-Err-committed_or-clause-seen g c =
    let now = c.literal_offer-offering in
    version_within c.args.session.pass.words c.commit-pass.result.0.words (prefix_of_prefix c.args.session.pass.words now.new.pass.words c.commit-pass.result.0.words now.ensures.longer c.commit-pass.ensures.longer) c.args.session.seen c.requires.seen

pub wanting-requires-in-Err-committed_or-clause-want : goal.wanting-requires-in-Err-committed_or-clause-want
wanting-requires-in-Err-committed_or-clause-want g c =
    outcome_wants g.N.Site.log.cap c.literal_offer-offering.new.pass c.commit-pass.result.0 c.in-Ok-offering.offering.offer c.commit-pass.result.1 c.in-Err-committed_or.why (subst (IsCommittedOr c.commit-pass.result.1) c.in-Err-committed_or.is c.committed_or.ensures)
    c.commit-pass.ensures.outcome

pub returns-in-Err-committed_or-clause-executes : goal.returns-in-Err-committed_or-clause-executes
returns-in-Err-committed_or-clause-executes g c =
    let pass = c.args.session.pass in
    let now = c.literal_offer-offering in
    let after = c.commit-pass.result.0 in
    let mine = none_committed g.N.Site.log.cap now.new.pass after c.in-Ok-offering.offering.offer c.commit-pass.result.1 c.in-Err-committed_or.why (subst (IsCommittedOr c.commit-pass.result.1) c.in-Err-committed_or.is c.committed_or.ensures)
    c.commit-pass.ensures.outcome in
    let made = c.in-Ok-offering in
    c.wanting-in-Err-committed_or.ensures.executes pass c.args.statement.now (record {
      longer = prefix_of_prefix pass.words now.new.pass.words after.words now.ensures.longer c.commit-pass.ensures.longer;
      kept = ap₂ (λ s m. s ∷ m ∷ []) c.commit-pass.ensures.session mine ∙ now.ensures.kept;
      numbered = c.words-begun.ensures.numbered;
    }) (offered_insertion pass now.new.pass now.ensures.longer (session_stays pass now.new.pass now.ensures.kept) c.args.session.seen c.args.session.fresh c.in-Some.sight.version c.requires.seen c.args.statement.now
    (plain.Act (action_of c.in-Ok.action)) c.in-Ok.ensures.found c.in-Ok.ensures.rows made.offering (made.ensures.ok c.args.statement.now c.in-Ok.ensures.found) made.ensures.base after c.commit-pass.ensures.longer c.commit-pass.ensures.session)

pub returns-in-Err-committed_or-clause-makes : goal.returns-in-Err-committed_or-clause-makes
returns-in-Err-committed_or-clause-makes g c =
    let pass = c.args.session.pass in
    let now = c.literal_offer-offering in
    let made = c.in-Ok-offering in
    let offered = c.commit-pass.result.0 in
    let w = c.wanting-in-Err-committed_or in
    let after = w.result.0.pass in
    let few =
    offer_wanted offered.words now.new.pass made.offering.offer c.commit-pass.result.1 offered.made c.commit-pass.ensures.made c.commit-pass.ensures.fewer c.in-Err-committed_or.why
    (subst (IsCommittedOr c.commit-pass.result.1) c.in-Err-committed_or.is c.committed_or.ensures) in
    let more = charged_less (is_full w.result.1) (says_full c.in-Err-committed_or.why) w.ensures.full in
    let same = w.ensures.made in
    makes_longer (state_of pass c.args.session.seen c.args.session.fresh None) offered.words after.words c.args.statement.now pass.made (after.made + charge (is_full w.result.1)) w.ensures.longer
    (offered_makes pass now.new.pass now.ensures.longer (session_stays pass now.new.pass now.ensures.kept) c.args.session.seen c.args.session.fresh c.in-Some.sight.version c.requires.seen c.args.statement.now
    (plain.Act (action_of c.in-Ok.action)) c.in-Ok.ensures.found c.in-Ok.ensures.rows made.offering (made.ensures.ok c.args.statement.now c.in-Ok.ensures.found) made.ensures.base offered c.commit-pass.ensures.longer c.commit-pass.ensures.session
    (after.made + charge (is_full w.result.1)) (λ counts widths. performs_less false counts widths (plain.Act (action_of c.in-Ok.action)) pass.made (now.new.pass.made + 0) now.new.pass.made (omega arith) (made.ensures.made counts widths)) (omega (arith, few, more, same)))
