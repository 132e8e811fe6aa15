use Rattle.std.{proofs.Common.{sym, subst}, specs.Prelude.{IfOk, IfErr}}
use Rattle.ct_arena.specs.Seen.{Seen}
use Rattle.ct_session.specs.Exporting.{IsFileOf}
use Rattle.ct_serve.specs.TableFiles.{IsAfterAll, WhyNone}
use Rattle.ct_serve.proofs.client.Client.execute_and_export.Goals as goal

pub returns-clause-file : goal.returns-clause-file
returns-clause-file g c =
    subst (λ (p : Seen). IfOk c.answer_and_export-replies.result.1 (λ r. IsAfterAll g.N.Site.log.cap p r.0 (λ h. IsFileOf p.words h c.args.name.now r.1.items))) (sym c.finish.ensures) c.answer_and_export-replies.ensures.file

pub returns-clause-none : goal.returns-clause-none
returns-clause-none g c =
    subst (λ (p : Seen). IfErr c.answer_and_export-replies.result.1 (WhyNone g.N.Site.log.cap p c.args.name.now)) (sym c.finish.ensures) c.answer_and_export-replies.ensures.none
