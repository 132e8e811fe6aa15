-- Closed tests: what the definition says of some words.
use Rattle.std.proofs.Common.{◌≡◌, true, false, [], ◌∷◌, Some, None, codes, refl}
use Rattle.clap.proofs.OnLiterals.{clap_on_literals}
use Rattle.ct_words.{specs.Numbers.number_of, specs.Commands.{run_app, fill_app, check_app, prove_app, import_app, export_app, found}, specs.Asked.{run, fill, check, prove, import, export, task}}

a_run : task (codes "run" ∷ codes "f" ∷ codes "g" ∷ []) ≡ Some (run 262144 (codes "f" ∷ codes "g" ∷ []) false 1)
unfolding clap_on_literals number_of run_app found
a_run = refl

a_capacity : task (codes "run" ∷ codes "--arena" ∷ codes "0000064" ∷ codes "f" ∷ []) ≡ Some (run 64 (codes "f" ∷ []) false 1)
unfolding clap_on_literals number_of run_app found
a_capacity = refl

a_first : task (codes "run" ∷ codes "--first" ∷ codes "f" ∷ codes "g" ∷ []) ≡ Some (run 262144 (codes "f" ∷ codes "g" ∷ []) true 1)
unfolding clap_on_literals number_of run_app found
a_first = refl

first_twice : task (codes "run" ∷ codes "--first" ∷ codes "--first" ∷ codes "f" ∷ []) ≡ None
unfolding clap_on_literals number_of run_app found
first_twice = refl

workers : task (codes "run" ∷ codes "f" ∷ codes "--workers" ∷ codes "04" ∷ codes "--arena" ∷ codes "64" ∷ []) ≡ Some (run 64 (codes "f" ∷ []) false 4)
unfolding clap_on_literals number_of run_app found
workers = refl

no_worker : task (codes "run" ∷ codes "--workers" ∷ codes "0" ∷ codes "f" ∷ []) ≡ None
unfolding clap_on_literals number_of run_app found
no_worker = refl

many_workers : task (codes "run" ∷ codes "--workers" ∷ codes "17" ∷ codes "f" ∷ []) ≡ None
unfolding clap_on_literals number_of run_app found
many_workers = refl

a_fill : task (codes "fill" ∷ codes "2000" ∷ []) ≡ Some (fill 2000)
unfolding clap_on_literals number_of fill_app found
a_fill = refl

small_capacity : task (codes "run" ∷ codes "--arena" ∷ codes "63" ∷ codes "f" ∷ []) ≡ None
unfolding clap_on_literals number_of run_app found
small_capacity = refl

a_large_log : task (codes "run" ∷ codes "--arena" ∷ codes "4194304" ∷ codes "f" ∷ []) ≡ Some (run 4194304 (codes "f" ∷ []) false 1)
unfolding clap_on_literals number_of run_app found
a_large_log = refl

too_large_a_log : task (codes "run" ∷ codes "--arena" ∷ codes "4194305" ∷ codes "f" ∷ []) ≡ None
unfolding clap_on_literals number_of run_app found
too_large_a_log = refl

no_file : task (codes "run" ∷ []) ≡ None
unfolding clap_on_literals number_of run_app found
no_file = refl

eight_digits : task (codes "fill" ∷ codes "00000003" ∷ []) ≡ None
unfolding clap_on_literals number_of fill_app found
eight_digits = refl

a_check : task (codes "check" ∷ codes "f" ∷ []) ≡ Some (check (codes "f"))
unfolding clap_on_literals check_app found
a_check = refl

two_certificates : task (codes "check" ∷ codes "f" ∷ codes "g" ∷ []) ≡ None
unfolding clap_on_literals check_app found
two_certificates = refl

a_proof : task (codes "prove" ∷ codes "065535" ∷ codes "f" ∷ []) ≡ Some (prove 65535 (codes "f"))
unfolding clap_on_literals number_of prove_app found
a_proof = refl

no_reply : task (codes "prove" ∷ codes "0" ∷ codes "f" ∷ []) ≡ None
unfolding clap_on_literals number_of prove_app found
no_reply = refl

late_reply : task (codes "prove" ∷ codes "65536" ∷ codes "f" ∷ []) ≡ None
unfolding clap_on_literals number_of prove_app found
late_reply = refl

a_flag : task (codes "run" ∷ codes "--help" ∷ codes "f" ∷ []) ≡ None
unfolding clap_on_literals number_of run_app found
a_flag = refl

an_import : task (codes "import" ∷ codes "T" ∷ codes "f" ∷ codes "g" ∷ []) ≡ Some (import (codes "t") (codes "f") (codes "g"))
unfolding clap_on_literals import_app found
an_import = refl

no_name : task (codes "import" ∷ codes "a-b" ∷ codes "f" ∷ codes "g" ∷ []) ≡ None
unfolding clap_on_literals import_app found
no_name = refl

an_export : task (codes "export" ∷ codes "T" ∷ codes "f" ∷ []) ≡ Some (export (codes "t") (codes "f"))
unfolding clap_on_literals export_app found
an_export = refl
