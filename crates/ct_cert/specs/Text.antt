-- The text of a certificate: one function a line.
use Rattle.std.specs.Prelude.{ℕ, ◌-◌, false, List, ◌++◌, length, replicate, flat_map, codes, decimal, if◌then◌else◌}
use Rattle.std.specs.Fmt.{digits}
use Rattle.ct_derivation.specs.declared.literals.Atom.{Atom}
use Rattle.ct_derivation.specs.declared.literals.Atom.TheVariants as atom
use Rattle.ct_derivation.specs.declared.literals.Lit.{Lit}
use Rattle.ct_derivation.specs.declared.steps.Why.{Why}
use Rattle.ct_derivation.specs.declared.steps.Why.TheVariants as why
use Rattle.ct_derivation.specs.declared.steps.Step.{Step}
use Rattle.ct_derivation.specs.declared.steps.Proof.{Proof}
use Rattle.ct_cert.specs.declared.certificate.Certificate.{Certificate}

-- a number of 64 bits in 16 hexadecimal digits, in lower case
unfoldable pub hex16 : ℕ → List ℕ
hex16 n = replicate (16 - length (digits 16 false n)) 48 ++ digits 16 false n

-- a line: its bytes and a line end
abbrev pub line : List ℕ → List ℕ
line bytes = bytes ++ codes "\n"

-- a number of a path or of hints
abbrev pub item_text : ℕ → List ℕ
item_text n = codes " " ++ decimal n

-- an atom
abbrev pub atom_text : Atom → List ℕ
atom_text (atom.Node p) = codes "n" ++ decimal p
atom_text (atom.Same s t) = codes "s" ++ decimal s ++ codes "," ++ decimal t

-- a literal and the blank behind it
abbrev pub lit_text : Lit → List ℕ
lit_text l = (if l.positive then codes "+" else codes "-") ++ atom_text l.atom ++ codes " "

-- a reason
abbrev pub why_text : Why → List ℕ
why_text why.Root = codes "root"
why_text (why.Def p k) = codes "def " ++ decimal p ++ codes " " ++ decimal k
why_text (why.Path ts) = codes "path" ++ flat_map item_text ts
why_text (why.Rup hs) = codes "rup" ++ flat_map item_text hs

-- the line of a step
abbrev pub step_text : Step → List ℕ
step_text s = line (flat_map lit_text s.clause ++ codes ": " ++ why_text s.why)

-- the lines of a proof
abbrev pub proof_text : Proof → List ℕ
proof_text p = line (codes "proof " ++ decimal p.root ++ codes " " ++ decimal (length p.derivation.steps)) ++ flat_map step_text p.derivation.steps

-- the line of a word
abbrev pub word_text : ℕ → List ℕ
word_text w = line (hex16 w)

-- the text of a certificate
unfoldable pub cert_text : Certificate → List ℕ
cert_text c =
    line (codes "ct-certificate 1")
    ++ line (codes "words " ++ decimal (length c.words)) ++ flat_map word_text c.words
    ++ line (codes "proofs " ++ decimal (length c.proofs)) ++ flat_map proof_text c.proofs
    ++ line (codes "end")
