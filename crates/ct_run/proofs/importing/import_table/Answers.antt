use Rattle.std.proofs.Common.{sym, ◌∙◌}
use Rattle.ct_run.{specs.Runs.{Asking, Taking}, proofs.Behind.{left_alone, unserved_promise}}
use Rattle.ct_run.proofs.importing.import_table.Goals as goal

pub returns-in-Err-clause-promise : goal.returns-in-Err-clause-promise
returns-in-Err-clause-promise g c =
    let S = g.S.Scripts in
    let K = g.K.Sink in
    let old = c.args.scripts.now in
    let new = c.served_behind.new.source in
    let out = c.args.out.now in
    let a : Asking = record { held = S.held old; faults = S.faults old; faults' = S.faults new; asked = S.names old; asked' = S.names new } in
    let k : Taking = record { faults = K.faults out; faults' = K.faults out; taken = K.taken out; taken' = K.taken out; calls = K.calls out; calls' = K.calls out } in
    let e = c.in-Err.ensures in
    let s = c.status_of.ensures in
    let is = sym c.no_run.ensures.status in
    unserved_promise c.args.name.now c.args.csv.now c.args.file.now a k c.no_run.result.status c.no_run.result.transcript
    (record { empty = c.no_run.ensures.empty; untouched = left_alone (K.faults out) (K.faults out) (K.taken out) (K.calls out) })
    (λ p. (e.unread (s.read.0 (is ∙ p)), e.rose (s.read.0 (is ∙ p)))) (λ p. e.no_script (s.script.0 (is ∙ p)))
    (λ p. s.done.0 (is ∙ p), λ p. s.done.1 (is ∙ p), λ p. s.done.2 (is ∙ p), λ p. s.done.3 (is ∙ p))
