-- What clap asks of the commands before it says what they find.
use Rattle.std.proofs.Common.{◌≡◌, true, refl}
use Rattle.clap.{specs.Words.is_simple_and_free, proofs.OnLiterals.clap_on_literals}
use Rattle.ct_words.specs.Commands.{run_app, fill_app, check_app, prove_app, import_app, export_app}

pub run_is_plain : is_simple_and_free run_app ≡ true
unfolding clap_on_literals run_app
run_is_plain = refl

pub fill_is_plain : is_simple_and_free fill_app ≡ true
unfolding clap_on_literals fill_app
fill_is_plain = refl

pub check_is_plain : is_simple_and_free check_app ≡ true
unfolding clap_on_literals check_app
check_is_plain = refl

pub prove_is_plain : is_simple_and_free prove_app ≡ true
unfolding clap_on_literals prove_app
prove_is_plain = refl

pub import_is_plain : is_simple_and_free import_app ≡ true
unfolding clap_on_literals import_app
import_is_plain = refl

pub export_is_plain : is_simple_and_free export_app ≡ true
unfolding clap_on_literals export_app
export_is_plain = refl
