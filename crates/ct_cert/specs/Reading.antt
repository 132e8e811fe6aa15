-- A reading of any bytes, which reads the text of a certificate as the certificate. It refuses nothing.
use Rattle.std.specs.Prelude.{ℕ, min, Bool, true, false, List, [], ◌∷◌, drop, take, length, zero, suc, nat_eq, slice_index, if◌then◌else◌, ◌||◌}
use Rattle.std.specs.List.{prefix_len}
use Rattle.std.specs.Str.Parse.{digits_value}
use Rattle.ct_word.specs.Names.{is_digit}
use Rattle.ct_derivation.specs.declared.literals.Atom.{Atom}
use Rattle.ct_derivation.specs.declared.literals.Atom.TheVariants as atom
use Rattle.ct_derivation.specs.declared.literals.Lit.{Lit}
use Rattle.ct_derivation.specs.declared.steps.Why.{Why}
use Rattle.ct_derivation.specs.declared.steps.Why.TheVariants as why
use Rattle.ct_derivation.specs.declared.steps.Step.{Step}
use Rattle.ct_derivation.specs.declared.steps.Proof.{Proof}
use Rattle.ct_cert.specs.declared.certificate.Certificate.{Certificate}

-- the number that digits write, or the largest of 64 bits where it is greater
unfoldable pub value_of : ℕ → List ℕ → ℕ
value_of base digits = min (digits_value base digits) 18446744073709551615

-- the number that the digits in front write, and the bytes behind them
unfoldable pub number_in : List ℕ → ℕ × List ℕ
number_in bytes = let n = prefix_len is_digit bytes in (value_of 10 (take n bytes), drop n bytes)

-- such a number, or the largest of 32 bits where it is greater
unfoldable pub place_in : List ℕ → ℕ × List ℕ
place_in bytes = (min (number_in bytes).0 4294967295, (number_in bytes).1)

-- whether there is a first byte, and it passes
abbrev pub begins : (ℕ → Bool) → List ℕ → Bool
begins starts [] = false
begins starts (b ∷ bytes) = starts b

-- at most so many items, as long as they begin as one does
abbrev pub many : {A : Type 0} → (ℕ → Bool) → (List ℕ → A × List ℕ) → ℕ → List ℕ → List A × List ℕ
many starts one zero bytes = ([], bytes)
many starts one (suc k) bytes =
    if begins starts bytes then (let item = one bytes in let others = many starts one k item.1 in (item.0 ∷ others.0, others.1))
    else ([], bytes)

abbrev pub starts_anyhow : ℕ → Bool
starts_anyhow b = true

-- the word of a line
unfoldable pub word_in : List ℕ → ℕ × List ℕ
word_in bytes = (value_of 16 (take 16 bytes), drop 17 bytes)

-- a blank begins an item of a path or of hints
abbrev pub starts_item : ℕ → Bool
starts_item b = nat_eq b 32

unfoldable pub item_in : List ℕ → ℕ × List ℕ
item_in bytes = place_in (drop 1 bytes)

-- an atom: of two places where its letter is s
unfoldable pub atom_in : List ℕ → Atom × List ℕ
atom_in bytes =
    let p = place_in (drop 1 bytes) in
    if nat_eq (slice_index bytes 0) 115 then (let q = place_in (drop 1 p.1) in (atom.Same p.0 q.0, q.1))
    else (atom.Node p.0, p.1)

-- a sign, + or -, begins a literal
abbrev pub starts_lit : ℕ → Bool
starts_lit b = nat_eq b 43 || nat_eq b 45

-- a literal and the byte behind it
unfoldable pub lit_in : List ℕ → Lit × List ℕ
lit_in bytes = let a = atom_in (drop 1 bytes) in (record { positive = nat_eq (slice_index bytes 0) 43; atom = a.0 }, drop 1 a.1)

-- the number of a defining clause
unfoldable pub clause_in : List ℕ → ℕ × List ℕ
clause_in bytes = (min (number_in bytes).0 255, (number_in bytes).1)

-- the items in front
unfoldable pub items_in : List ℕ → List ℕ × List ℕ
items_in bytes = many starts_item item_in (length bytes) bytes

-- a reason, by its first letter, d or p, or its second one, o
unfoldable pub why_in : List ℕ → Why × List ℕ
why_in bytes =
    if nat_eq (slice_index bytes 0) 100 then (let p = place_in (drop 4 bytes) in let k = clause_in (drop 1 p.1) in (why.Def p.0 k.0, k.1))
    else (if nat_eq (slice_index bytes 0) 112 then (let ts = items_in (drop 4 bytes) in (why.Path ts.0, ts.1))
    else (if nat_eq (slice_index bytes 1) 111 then (why.Root, drop 4 bytes)
    else (let hs = items_in (drop 3 bytes) in (why.Rup hs.0, hs.1))))

-- a step and its line end
unfoldable pub step_in : List ℕ → Step × List ℕ
step_in bytes =
    let clause = many starts_lit lit_in (length bytes) bytes in
    let reason = why_in (drop 2 clause.1) in
    (record { clause = clause.0; why = reason.0 }, drop 1 reason.1)

-- a proof
unfoldable pub proof_in : List ℕ → Proof × List ℕ
proof_in bytes =
    let root = place_in (drop 6 bytes) in
    let count = number_in (drop 1 root.1) in
    let steps = many starts_anyhow step_in count.0 (drop 1 count.1) in
    (record { root = root.0; derivation = record { steps = steps.0 } }, steps.1)

-- a certificate
unfoldable pub cert_in : List ℕ → Certificate
cert_in bytes =
    let words = number_in (drop 23 bytes) in
    let ws = many starts_anyhow word_in words.0 (drop 1 words.1) in
    let proofs = number_in (drop 7 ws.1) in
    let ps = many starts_anyhow proof_in proofs.0 (drop 1 proofs.1) in
    record { words = ws.0; proofs = ps.0 }
