use Rattle.std.{proofs.Common.{◌≡◌, length, map, ap, sym, subst, ◌∙◌}, specs.Prelude.All, specs.List.range_with_len, proofs.lemmas.List.length-map}
use Rattle.std.{proofs.lemmas.List.FromFn.length-map-range_with_len, proofs.lemmas.Result.IfOk-weaker}
use Rattle.ct_keeper.specs.Served.{first_pass}
use Rattle.ct_serve.{specs.Progress.{ClientView, HasRun}, proofs.Clients.{all_ready, written_back, scripts_stay, numbers_stay, all_run}}
use Rattle.ct_serve.proofs.serving.serve_named.Goals as goal

pub clients_of-requires : goal.clients_of-requires
clients_of-requires g c = record { count = ap length c.in_ok-server.ensures.passes ∙ length-map-range_with_len first_pass 1 _ }

pub execute_all-requires-clause-ready : goal.execute_all-requires-clause-ready
execute_all-requires-clause-ready g c κs within =
    let value = c.as_mut_slice.ensures.value in
    all_ready c.as_mut_slice.result.now _ _
    (ap (map (λ (x : ClientView). x.pass)) value ∙ c.in_ok-clients.ensures.passes ∙ c.in_ok-server.ensures.passes)
    (ap (map (λ (x : ClientView). x.script)) value ∙ c.in_ok-clients.ensures.scripts) c.requires.few

pub end-requires-clause-numbers : goal.end-requires-clause-numbers
end-requires-clause-numbers g c κs within =
    let now = c.as_mut_slice.result.now in
    let new = c.execute_all.new.clients in
    let value = c.as_mut_slice.ensures.value in
    let count = c.execute_all.ensures.count in
    let scripts = ap (map (λ (x : ClientView). x.script)) value ∙ c.in_ok-clients.ensures.scripts in
    let back = written_back c.in_ok-clients.clients.len new c.in_ok-clients.clients.items (count ∙ ap length value) c.in_ok-clients.clients.ok.0 in
    let many : length c.args.scripts.now ≡ length new = sym (ap length scripts) ∙ length-map now (λ (x : ClientView). x.script) ∙ sym count in
    subst (λ l. map (λ (x : ClientView). x.pass.session) l ≡ range_with_len 1 (length l)) (sym back)
    (numbers_stay g.N.Site.log.cap now new count c.execute_all.ensures.each _
    (ap (map (λ (x : ClientView). x.pass)) value ∙ c.in_ok-clients.ensures.passes ∙ c.in_ok-server.ensures.passes)
    ∙ ap (range_with_len 1) many)

pub end-requires-clause-run : goal.end-requires-clause-run
end-requires-clause-run g c κs within =
    let value = c.as_mut_slice.ensures.value in
    let count = c.execute_all.ensures.count in
    let back = written_back c.in_ok-clients.clients.len c.execute_all.new.clients c.in_ok-clients.clients.items (count ∙ ap length value) c.in_ok-clients.clients.ok.0 in
    subst (All (HasRun g.N.Site.log.cap)) (sym back)
    (all_run g.N.Site.log.cap c.as_mut_slice.result.now c.execute_all.new.clients count c.execute_all.ensures.each _
    (ap (map (λ (x : ClientView). x.pass)) value ∙ c.in_ok-clients.ensures.passes ∙ c.in_ok-server.ensures.passes))

pub returns-clause-scripts : goal.returns-clause-scripts
returns-clause-scripts g c =
    let value = c.as_mut_slice.ensures.value in
    let count = c.execute_all.ensures.count in
    let back = written_back c.in_ok-clients.clients.len c.execute_all.new.clients c.in_ok-clients.clients.items (count ∙ ap length value) c.in_ok-clients.clients.ok.0 in
    IfOk-weaker c.end.result _ _
    (λ t e.
    e ∙ ap (map (λ (x : ClientView). x.script)) back
    ∙ scripts_stay g.N.Site.log.cap c.as_mut_slice.result.now c.execute_all.new.clients count c.execute_all.ensures.each
    ∙ ap (map (λ (x : ClientView). x.script)) value ∙ c.in_ok-clients.ensures.scripts) c.end.ensures.scripts
