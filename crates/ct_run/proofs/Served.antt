-- How a run of files that are scripts ends.
use Rattle.std.{proofs.Common.{◌≡◌, ℕ, List, ◌++◌, subst}, specs.Prelude.{All, Option, Some, None, MatchOption}}
use Rattle.ct_outside.specs.Outside.{Held, Rose}
use Rattle.ct_transcript.specs.declared.transcript.Transcript.{Transcript}
use Rattle.ct_serve.proofs.Complete.{of_one}
use Rattle.ct_run.{specs.Scripts.{IsScript, HoldsScript, HoldsNoScript, IsNoScript}, specs.Runs.{Asking, Taking, RunPromise, IsServedEnd}, specs.declared.ending.Status.Status}
use Rattle.ct_run.specs.declared.ending.Status.TheVariants as status

-- bytes are not both a script and none
not_both : (bytes : Option (List ℕ)) → MatchOption bytes ⊥ IsScript → MatchOption bytes ⊥ (λ b. IsScript b → ⊥) → ⊥
not_both None a b = a
not_both (Some bytes) a b = b a

-- where all files are scripts, a run does not end for one that is none
pub scripts_served : (N : ℕ) (files : List (List ℕ)) (a : Asking) (k : Taking) (t : Transcript) (held : Held) → a.held ≡ Some held → All (HoldsScript a.held) files → RunPromise N files a k status.Script t → ⊥
scripts_served N files a k t held told all p =
    let found : IsNoScript a.held a.asked a.asked' files = p.1 in
    let reached = found.2 in
    let is : HoldsScript a.held found.0 = of_one (HoldsScript a.held) reached.before (found.1 ++ reached.after) found.0 (subst (All (HoldsScript a.held)) reached.split all) in
    not_both (held found.0) (subst (λ h. HoldsScript h found.0) told is) (subst (λ h. HoldsNoScript h found.0) told found.3)

-- without a failure of source and sink, a run of files that are scripts ends with its transcript, or for want of memory
pub faultless_served : (N : ℕ) (files : List (List ℕ)) (a : Asking) (k : Taking) (s : Status) (t : Transcript) (held : Held) → a.held ≡ Some held → All (HoldsScript a.held) files
    → (Rose a.faults a.faults' → ⊥) → (Rose k.faults k.faults' → ⊥) → RunPromise N files a k s t → IsServedEnd s
faultless_served N files a k status.Done t held told all read write p = tt
faultless_served N files a k status.Refused t held told all read write p = tt
faultless_served N files a k status.Memory t held told all read write p = tt
faultless_served N files a k status.Words t held told all read write p = p
faultless_served N files a k status.ReadFault t held told all read write p = read p.2
faultless_served N files a k status.WriteFault t held told all read write p = write p.1.rose
faultless_served N files a k status.Script t held told all read write p = scripts_served N files a k t held told all p
