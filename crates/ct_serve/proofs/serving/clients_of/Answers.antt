use Rattle.std.proofs.Common.{◌≡◌, ◌<◌, ◌+◌, ◌∷◌, [], ap, ◌∙◌, length, get_or, arith, length-append}
use Rattle.ct_serve.{specs.Progress.ClientView, proofs.Clients.{moved_whole, more_scripts}}
use Rattle.ct_serve.proofs.serving.clients_of.Goals as goal

pub loop-pass-preserved : goal.loop-pass-preserved
loop-pass-preserved g c =
    let i = c.loop-pass.invariant in
    let steps = c.in-Some.ensures.steps in
    let pushed = c.in_ok-push.ensures.items in
    let xs = c.loop-pass.clients.items in
    let scripts = c.args.scripts.now in
    let d = c.index-scripts-len.result in
    let grown : length c.push.new.self.items ≡ length xs + 1 = ap length pushed ∙ length-append xs (_ ∷ []) in
    let shorter = ap length steps.0 in
    let lt : length xs < length scripts = let n = i.count in omega (arith, n, shorter) in
    record {
      passes = moved_whole (λ (x : ClientView). x.pass) _ _ _ _ _ _ _ i.passes steps.0 pushed (ap (λ (x : ClientView). x.pass) c.make.ensures);
      scripts = more_scripts _ _ xs _ _ d i.scripts pushed lt
          (ap (λ (x : ClientView). x.script) c.make.ensures ∙ c.in_ok-script.ensures.cases ∙ c.index-scripts-len.is ∙ ap (λ n. get_or scripts n d) (c.len.ensures ∙ c.loop-pass.clients.ok.0));
      count = let n = i.count in omega (arith, n, grown, shorter);
      len = let n = i.len in omega (arith, n, steps.1, shorter);
    }
