use Rattle.std.{proofs.Common.{ap, sym, ◌∙◌, map}, specs.List.range_with_len, proofs.lemmas.Result.IfOk-weaker}
use Rattle.ct_transcript.specs.declared.reply.SessionLog.{SessionLog}
use Rattle.ct_serve.proofs.serving.end.Goals as goal

pub closed-requires-clause-numbers : goal.closed-requires-clause-numbers
closed-requires-clause-numbers g c κs within = c.in_ok-passes.ensures.numbers ∙ c.requires.numbers ∙ ap (range_with_len 1) (sym c.requires.number)

pub returns-clause-scripts : goal.returns-clause-scripts
returns-clause-scripts g c = IfOk-weaker c.closed.result _ _ (λ t e. ap (map (λ (l : SessionLog). l.script)) e ∙ c.in_ok-passes.ensures.scripts) c.closed.ensures.sessions
