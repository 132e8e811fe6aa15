-- The ranges of the numbers of a certificate: those of their types.
use Rattle.std.specs.Prelude.{ℕ, Bool, true, ◌&&◌, List, length, nat_lt, IsTrue}
use Rattle.std.specs.List.{list_all}
use Rattle.ct_derivation.specs.declared.literals.Atom.{Atom}
use Rattle.ct_derivation.specs.declared.literals.Atom.TheVariants as atom
use Rattle.ct_derivation.specs.declared.literals.Lit.{Lit}
use Rattle.ct_derivation.specs.declared.steps.Why.{Why}
use Rattle.ct_derivation.specs.declared.steps.Why.TheVariants as why
use Rattle.ct_derivation.specs.declared.steps.Step.{Step}
use Rattle.ct_derivation.specs.declared.steps.Proof.{Proof}
use Rattle.ct_cert.specs.declared.certificate.Certificate.{Certificate}

-- whether a number has 64 bits, as words and the lengths of lists have
abbrev pub is_word : ℕ → Bool
is_word n = nat_lt n 18446744073709551616

-- whether a number has 32 bits
abbrev pub is_place : ℕ → Bool
is_place n = nat_lt n 4294967296

-- whether the numbers of an atom have 32 bits
abbrev pub atom_fits : Atom → Bool
atom_fits (atom.Node p) = is_place p
atom_fits (atom.Same s t) = is_place s && is_place t

abbrev pub lit_fits : Lit → Bool
lit_fits l = atom_fits l.atom

-- whether those of a reason have, and the number of a clause 8
abbrev pub why_fits : Why → Bool
why_fits why.Root = true
why_fits (why.Def p k) = is_place p && nat_lt k 256
why_fits (why.Path ts) = list_all is_place ts
why_fits (why.Rup hs) = list_all is_place hs

abbrev pub step_fits : Step → Bool
step_fits s = list_all lit_fits s.clause && why_fits s.why

abbrev pub steps_fit : List Step → Bool
steps_fit ss = is_word (length ss) && list_all step_fits ss

abbrev pub proof_fits : Proof → Bool
proof_fits p = is_place p.root && steps_fit p.derivation.steps

-- whether every number and every length has the range of its type
abbrev pub fits : Certificate → Bool
fits c = (is_word (length c.words) && list_all is_word c.words) && (is_word (length c.proofs) && list_all proof_fits c.proofs)

-- a certificate as the program can hold it
abbrev pub IsCertificate : Certificate → Type 0
IsCertificate c = IsTrue (fits c)
