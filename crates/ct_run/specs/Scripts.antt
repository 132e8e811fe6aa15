-- What a script is, and which files were read.
use Rattle.std.specs.Prelude.{◌≡◌, ℕ, ◌≤◌, List, [], ◌∷◌, ◌++◌, length, All, Option, IfSome, MatchOption}
use Rattle.std.specs.Str.{IsUtf8}
use Rattle.ct_lex.specs.Texts.{texts}
use Rattle.ct_outside.specs.Outside.{Held, Added}
use Rattle.ct_outside.specs.Reads.{HoldsAll}

-- the greatest number of bytes, and of statements, of a script
abbrev pub SCRIPT_BYTES : ℕ
SCRIPT_BYTES = 1048576

abbrev pub SCRIPT_STATEMENTS : ℕ
SCRIPT_STATEMENTS = 65535

-- bytes are a script: not too many, text in UTF-8, and not too many statements
pub record IsScript (bytes : List ℕ) : Type 0 where
  pub short : length bytes ≤ SCRIPT_BYTES
  pub utf8 : IsUtf8 bytes
  pub few : length (texts bytes) ≤ SCRIPT_STATEMENTS

-- one of these texts is no script, and those before it are
pub record HasNoScript (texts : List (List ℕ)) : Type 0 where
  pub before : List (List ℕ)
  pub text : List ℕ
  pub after : List (List ℕ)
  pub split : texts ≡ before ++ text ∷ after
  pub scripts : All IsScript before
  pub none : IsScript text → ⊥

-- where a source tells, bytes are held under the name, and they are a script
abbrev pub HoldsScript : Option Held → List ℕ → Type 0
HoldsScript told name = IfSome told (λ held. MatchOption (held name) ⊥ IsScript)

-- where a source tells, bytes are held under the name, and they are no script
abbrev pub HoldsNoScript : Option Held → List ℕ → Type 0
HoldsNoScript told name = IfSome told (λ held. MatchOption (held name) ⊥ (λ bytes. IsScript bytes → ⊥))

-- there is a script for each file, and where a source tells, it is what the source holds under the file's name
pub record AreScriptsOf (told : Option Held) (files scripts : List (List ℕ)) : Type 0 where
  pub count : length scripts ≡ length files
  pub held : HoldsAll told files scripts
  pub are_scripts : All IsScript scripts

-- a file was asked, and those before it are scripts where the source tells; where it tells the names, these were asked
-- in their order, then the file, and then those ahead of it
pub record IsReached (told : Option Held) (asked asked' : Option (List (List ℕ))) (files : List (List ℕ)) (file : List ℕ) (ahead : List (List ℕ)) : Type 0 where
  pub before : List (List ℕ)
  pub after : List (List ℕ)
  pub split : files ≡ before ++ file ∷ (ahead ++ after)
  pub scripts : All (HoldsScript told) before
  pub asked_in_order : Added asked asked' (before ++ file ∷ ahead)

-- a file was the last that was asked, and those before it are scripts
abbrev pub IsUnread : Option Held → Option (List (List ℕ)) → Option (List (List ℕ)) → List (List ℕ) → Type 0
IsUnread told asked asked' files = (file : List ℕ) × IsReached told asked asked' files file []

-- a file that was asked is no script, and those before it are scripts
abbrev pub IsNoScript : Option Held → Option (List (List ℕ)) → Option (List (List ℕ)) → List (List ℕ) → Type 0
IsNoScript told asked asked' files = (file : List ℕ) × (ahead : List (List ℕ)) × IsReached told asked asked' files file ahead × HoldsNoScript told file
