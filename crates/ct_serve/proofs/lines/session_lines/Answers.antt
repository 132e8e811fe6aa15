use Rattle.std.{proofs.Common.{◌≡◌, ◌+◌, length, IfOk, refl, subst, arith}, specs.Prelude.Ok, proofs.lemmas.Result.IfOk-weaker}
use Rattle.ct_transcript.{specs.Text.sessions_from, proofs.Counted.sessions_after}
use Rattle.ct_serve.{specs.Joined.{bound_of, part_of}, proofs.InParts.numbered_in_parts}
use Rattle.ct_serve.proofs.lines.session_lines.Goals as goal

pub returns : goal.returns
returns g c =
    let xs = c.args.sessions.now in
    let parts = c.args.parts in
    let count = c.in_ok-made.ensures.len in
    IfOk-weaker c.joined.result _ _
    (λ all joined. numbered_in_parts (λ v. v.items) sessions_from sessions_after refl xs parts c.requires.some c.in_ok-made.made.items all.items joined (omega (arith, count))
    (λ k part lt is. subst (λ r. IfOk r (λ p. p.items ≡ sessions_from (bound_of (length xs) parts k + 1) (part_of parts k xs))) is ((c.in_ok-made.ensures.each k (Ok part) lt).1.met))) c.joined.ensures
