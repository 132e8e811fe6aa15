use Rattle.std.{proofs.Common.{length, refl}, specs.Prelude.map, proofs.lemmas.Option.slice_get_read}
use Rattle.ct_remarks.{specs.RefusedStatements.case_of, proofs.Told.{none_case, some_case}}
use Rattle.ct_remarks.proofs.cases.push_refused.Goals as goal

pub returns-in-None-clause-pushed : goal.returns-in-None-clause-pushed
returns-in-None-clause-pushed c =
    none_case c.args.source.session c.args.i c.args.source.script.now c.args.source.texts.now (map case_of c.args.cases.now.items) c.args.reply.now _ _ c.in-Refused.is c.in-None.ensures.lookup.3

pub returns-in_ok-push-in-Some-clause-pushed : goal.returns-in_ok-push-in-Some-clause-pushed
returns-in_ok-push-in-Some-clause-pushed c =
    let found = c.in-Some.ensures.lookup.3 in
    some_case c.args.source.session c.args.i c.args.source.script.now c.args.source.texts.now c.args.cases.now.items c.push.new.self.items _ c.args.reply.now _ _ c.in-Some.text.now c.in-Refused.is
    (slice_get_read c.args.source.texts.now (length c.args.source.texts.now) c.args.i c.in-Some.text.now refl found.0 (cc (found.1 c.in-Some.text.now)))
    c.in_ok-push-in-Some.ensures.items refl
