-- What a command finds, by what clap says of its result.
use Rattle.std.{proofs.Common.{◌≡◌, ◌∙◌, ◌&&◌, Bool, true, false, List, [], ◌∷◌, Option, Some, None, ap, sym, refl, inl, inr}, specs.Prelude.option_and_then}
use Rattle.clap.specs.Words.{App, Row, Text, HasKind, Kinds, IsAmong, fault_of, is_simple, is_simple_and_free, kind_of, matches_of}
use Rattle.clap.{specs.declared.parser.matches.ArgMatches.ArgMatches, specs.declared.error.Error.Error}
use Rattle.ct_words.{specs.Commands.{found, rows_in}, specs.Asked.Task}
use Rattle.clap.specs.declared.error.kind.ErrorKind.TheVariants as kind

both_left : (a b : Bool) → (a && b) ≡ true → a ≡ true
both_left true b h = refl
both_left false b h = h

pub simple : (app : App) → is_simple_and_free app ≡ true → is_simple app ≡ true
simple app h = both_left _ _ h

pub found_rows : (app : App) (words : List Text) (rows : List Row) → fault_of app words ≡ [] → rows ≡ matches_of app words
    → Some rows ≡ found app words
unfolding found
found_rows app words rows none is = rw none (ap Some is)

no_rows : (app : App) (words : List Text) (e : Error) (kinds : Kinds) → fault_of app words ≡ kinds → IsAmong (kind_of e) kinds
    → None ≡ found app words
unfolding found
no_rows app words e [] is among = absurd among
no_rows app words e (k ∷ ks) is among = rw is refl

pub found_fault : (app : App) (words : List Text) (e : Error) → HasKind (fault_of app words) e
    → (kind_of e ≡ kind.OutOfMemory → ⊥) → None ≡ found app words
found_fault app words e (inl memory) other = absurd (other memory)
found_fault app words e (inr among) other = no_rows app words e _ refl among

-- what is made of what was found
pub made_of_found : (make : List Row → Option Task) (matches known : Option ArgMatches) (app told : App) (words : List Text)
    → matches ≡ known → rows_in matches ≡ found app words → app ≡ told
    → option_and_then make (rows_in known) ≡ option_and_then make (found told words)
made_of_found make matches known app told words known_is is same =
    ap (option_and_then make) (ap rows_in (sym known_is) ∙ is ∙ ap (λ a. found a words) same)
