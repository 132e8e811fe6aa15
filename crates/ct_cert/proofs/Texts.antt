-- The text of a certificate is read as the certificate.
use Rattle.std.{proofs.Common.{◌≡◌, ℕ, ◌^◌, ◌+◌, ◌<◌, ◌≤◌, Bool, true, false, not, ◌&&◌, List, [], ◌∷◌, ◌++◌, length, flat_map, drop, refl, sym, ap, ◌∙◌, arith}, specs.Prelude.{decimal, codes}, specs.List.list_all}
use Rattle.std.proofs.lemmas.Bool.{and_parts}
use Rattle.std.proofs.lemmas.List.{length-append}
use Rattle.std.proofs.lemmas.Bool.Decides.{nat_tests}
use mathlib.Core.List.{append_assoc}
use Rattle.ct_word.specs.Names.{is_digit}
use Rattle.ct_derivation.specs.{declared.literals.Atom.Atom, declared.steps.Why.Why, declared.steps.Step.Step, declared.steps.Proof.Proof}
use Rattle.ct_derivation.specs.declared.literals.Atom.TheVariants as atom
use Rattle.ct_derivation.specs.declared.steps.Why.TheVariants as why
use Rattle.ct_cert.specs.declared.certificate.Certificate.{Certificate}
use Rattle.ct_cert.specs.Text.{hex16, line, item_text, atom_text, lit_text, why_text, step_text, proof_text, word_text, cert_text}
use Rattle.ct_cert.specs.Ranges.{is_word, is_place, atom_fits, lit_fits, why_fits, step_fits, steps_fit, proof_fits, IsCertificate}
use Rattle.ct_cert.specs.Reading.{begins, many, starts_anyhow, starts_item, starts_lit, word_in, item_in, place_in, number_in, clause_in, atom_in, lit_in, items_in, why_in, step_in, proof_in, cert_in}
use Rattle.ct_cert.proofs.{Numbers.{decimal_read, place_read, clause_read, word_read}, Many.{Reads, few, many_read}}

-- bytes that no digit goes on with, and bytes of any kind
abbrev no_digit : List ℕ → Bool
no_digit bytes = not (begins is_digit bytes)

abbrev anything : List ℕ → Bool
anything bytes = true

line_begins : (front rest : List ℕ) (b : ℕ) → begins starts_anyhow ((front ++ b ∷ []) ++ rest) ≡ true
line_begins [] rest b = refl
line_begins (x ∷ front) rest b = refl

words : Reads is_word word_text starts_anyhow anything word_in
words = record {
  read = λ w rest fit end. ap word_in (append_assoc (hex16 w) (10 ∷ []) rest) ∙ word_read w rest (grind (arith, nat_tests));
  begin = λ w rest. line_begins (hex16 w) rest 10;
  apart = λ w rest. refl;
}

items : Reads is_place item_text starts_item no_digit item_in
unfolding item_in
items = record {
  read = λ n rest fit end. place_read n rest (grind (arith, nat_tests)) (grind (arith, nat_tests));
  begin = λ n rest. refl;
  apart = λ n rest. refl;
}

items_read : (ns : List ℕ) (rest : List ℕ) → list_all is_place ns ≡ true → items_in (flat_map item_text ns ++ 10 ∷ rest) ≡ (ns, 10 ∷ rest)
unfolding items_in
items_read ns rest fit =
    many_read is_place item_text starts_item no_digit item_in items ns (length (flat_map item_text ns ++ 10 ∷ rest)) (10 ∷ rest)
    (few is_place item_text starts_item no_digit item_in items ns (10 ∷ rest)) (λ l. refl) fit refl

-- an atom of two places, by what its second place and then its first one are read as
abbrev by_second : ℕ → ℕ × List ℕ → Atom × List ℕ
by_second s second = (atom.Same s second.0, second.1)

abbrev by_first : ℕ × List ℕ → Atom × List ℕ
by_first first = by_second first.0 (place_in (drop 1 first.1))

atom_read : (a : Atom) (rest : List ℕ) → atom_fits a ≡ true → begins is_digit rest ≡ false → atom_in (atom_text a ++ rest) ≡ (a, rest)
unfolding atom_in
atom_read (atom.Node p) rest fit none = let read = place_read p rest (grind (arith, nat_tests)) none in ap (λ x. (atom.Node x.0, x.1)) read
atom_read (atom.Same s t) rest fit none =
    let parts = and_parts (is_place s) (is_place t) fit in
    let spread : ((decimal s ++ (44 ∷ [])) ++ decimal t) ++ rest ≡ decimal s ++ (44 ∷ (decimal t ++ rest)) = simp append_assoc in
    let first = place_read s (44 ∷ (decimal t ++ rest)) (grind (arith, nat_tests)) refl in
    let second = place_read t rest (grind (arith, nat_tests)) none in
    ap (λ x. by_first (place_in x)) spread ∙ ap by_first first ∙ ap (by_second s) second

lit_read : (positive : Bool) (a : Atom) (rest : List ℕ) → atom_fits a ≡ true
    → lit_in (lit_text (record { positive = positive; atom = a }) ++ rest) ≡ (record { positive = positive; atom = a }, rest)
unfolding lit_in
lit_read true a rest fit =
    let read : atom_in ((atom_text a ++ 32 ∷ []) ++ rest) ≡ (a, 32 ∷ rest) = ap atom_in (append_assoc (atom_text a) (32 ∷ []) rest) ∙ atom_read a (32 ∷ rest) fit refl in
    ap (λ x. (record { positive = true; atom = x.0 }, drop 1 x.1)) read
lit_read false a rest fit =
    let read : atom_in ((atom_text a ++ 32 ∷ []) ++ rest) ≡ (a, 32 ∷ rest) = ap atom_in (append_assoc (atom_text a) (32 ∷ []) rest) ∙ atom_read a (32 ∷ rest) fit refl in
    ap (λ x. (record { positive = false; atom = x.0 }, drop 1 x.1)) read

lit_begins : (positive : Bool) (a : Atom) (rest : List ℕ) → begins starts_lit (lit_text (record { positive = positive; atom = a }) ++ rest) ≡ true
lit_begins true a rest = refl
lit_begins false a rest = refl

literals : Reads lit_fits lit_text starts_lit anything lit_in
literals = record {
  read = λ l rest fit end. lit_read l.positive l.atom rest fit;
  begin = λ l rest. lit_begins l.positive l.atom rest;
  apart = λ l rest. refl;
}

-- the number of a defining clause, by what this and then its place are read as
abbrev by_number : ℕ → ℕ × List ℕ → Why × List ℕ
by_number p number = (why.Def p number.0, number.1)

abbrev by_place : ℕ × List ℕ → Why × List ℕ
by_place place = by_number place.0 (clause_in (drop 1 place.1))

why_read : (w : Why) (rest : List ℕ) → why_fits w ≡ true → why_in (why_text w ++ 10 ∷ rest) ≡ (w, 10 ∷ rest)
unfolding why_in
why_read why.Root rest fit = refl
why_read (why.Def p k) rest fit =
    let parts = and_parts (is_place p) _ fit in
    let spread : ((decimal p ++ (32 ∷ [])) ++ decimal k) ++ (10 ∷ rest) ≡ decimal p ++ (32 ∷ (decimal k ++ (10 ∷ rest))) = simp append_assoc in
    let place = place_read p (32 ∷ (decimal k ++ (10 ∷ rest))) (grind (arith, nat_tests)) refl in
    let number = clause_read k (10 ∷ rest) (grind (arith, nat_tests)) refl in
    ap (λ x. by_place (place_in x)) spread ∙ ap by_place place ∙ ap (by_number p) number
why_read (why.Path ts) rest fit = ap (λ x. (why.Path x.0, x.1)) (items_read ts rest fit)
why_read (why.Rup hs) rest fit = ap (λ x. (why.Rup x.0, x.1)) (items_read hs rest fit)

step_read : (s : Step) (rest : List ℕ) → step_fits s ≡ true → step_in (step_text s ++ rest) ≡ (s, rest)
unfolding step_in
step_read s rest fit =
    let parts = and_parts (list_all lit_fits s.clause) (why_fits s.why) fit in
    let spread : step_text s ++ rest ≡ flat_map lit_text s.clause ++ (58 ∷ 32 ∷ (why_text s.why ++ (10 ∷ rest))) = simp append_assoc in
    let clause : many starts_lit lit_in (length (flat_map lit_text s.clause ++ (58 ∷ 32 ∷ (why_text s.why ++ (10 ∷ rest))))) (flat_map lit_text s.clause ++ (58 ∷ 32 ∷ (why_text s.why ++ (10 ∷ rest))))
    ≡ (s.clause, 58 ∷ 32 ∷ (why_text s.why ++ (10 ∷ rest))) =
    many_read lit_fits lit_text starts_lit anything lit_in literals s.clause _ (58 ∷ 32 ∷ (why_text s.why ++ (10 ∷ rest)))
    (few lit_fits lit_text starts_lit anything lit_in literals s.clause (58 ∷ 32 ∷ (why_text s.why ++ (10 ∷ rest)))) (λ l. refl) parts.0 refl in
    let reason = why_read s.why rest parts.1 in
    ap step_in spread
    ∙ ap (λ x. (record { clause = x.0; why = (why_in (drop 2 x.1)).0 }, drop 1 (why_in (drop 2 x.1)).1)) clause
    ∙ ap (λ x. (record { clause = s.clause; why = x.0 }, drop 1 x.1)) reason

steps : Reads step_fits step_text starts_anyhow anything step_in
steps = record {
  read = λ s rest fit end. step_read s rest fit;
  begin = λ s rest. line_begins ((flat_map lit_text s.clause ++ codes ": ") ++ why_text s.why) rest 10;
  apart = λ s rest. refl;
}

-- a proof, by what its first number and then its second one are read as
abbrev by_steps : ℕ → ℕ × List ℕ → Proof × List ℕ
by_steps root count =
    let steps = many starts_anyhow step_in count.0 (drop 1 count.1) in
    (record { root = root; derivation = record { steps = steps.0 } }, steps.1)

abbrev by_root : ℕ × List ℕ → Proof × List ℕ
by_root root = by_steps root.0 (number_in (drop 1 root.1))

proof_read : (p : Proof) (rest : List ℕ) → proof_fits p ≡ true → proof_in (proof_text p ++ rest) ≡ (p, rest)
unfolding proof_in
proof_read p rest fit =
    let outer = and_parts (is_place p.root) (steps_fit p.derivation.steps) fit in
    let inner = and_parts (is_word (length p.derivation.steps)) (list_all step_fits p.derivation.steps) outer.1 in
    let spread : ((((decimal p.root ++ (32 ∷ [])) ++ decimal (length p.derivation.steps)) ++ (10 ∷ [])) ++ flat_map step_text p.derivation.steps) ++ rest
    ≡ decimal p.root ++ (32 ∷ (decimal (length p.derivation.steps) ++ (10 ∷ (flat_map step_text p.derivation.steps ++ rest)))) = simp append_assoc in
    let small : p.root < 2 ^ 32 = grind (arith, nat_tests) in
    let few : length p.derivation.steps < 2 ^ 64 = grind (arith, nat_tests) in
    let root = place_read p.root (32 ∷ (decimal (length p.derivation.steps) ++ (10 ∷ (flat_map step_text p.derivation.steps ++ rest)))) small refl in
    let count = decimal_read (length p.derivation.steps) (10 ∷ (flat_map step_text p.derivation.steps ++ rest)) few refl in
    let all = many_read step_fits step_text starts_anyhow anything step_in steps p.derivation.steps (length p.derivation.steps) rest (omega arith) (λ l. absurd (omega arith)) inner.1 refl in
    ap (λ x. by_root (place_in x)) spread ∙ ap by_root root ∙ ap (by_steps p.root) count
    ∙ ap (λ x. (record { root = p.root; derivation = record { steps = x.0 } }, x.1)) all

proofs : Reads proof_fits proof_text starts_anyhow anything proof_in
proofs = record {
  read = λ p rest fit end. proof_read p rest fit;
  begin = λ p rest. refl;
  apart = λ p rest. refl;
}

-- a certificate, by what its first number, its words and its second number are read as
abbrev by_proofs : List ℕ → ℕ × List ℕ → Certificate
by_proofs words count = record { words = words; proofs = (many starts_anyhow proof_in count.0 (drop 1 count.1)).0 }

abbrev by_words : List ℕ × List ℕ → Certificate
by_words words = by_proofs words.0 (number_in (drop 7 words.1))

abbrev by_count : ℕ × List ℕ → Certificate
by_count count = by_words (many starts_anyhow word_in count.0 (drop 1 count.1))

-- what is read of the text of a certificate is the certificate
pub cert_read : (c : Certificate) → IsCertificate c → cert_in (cert_text c) ≡ c
unfolding cert_in cert_text
cert_read c fit =
    let halves = and_parts (is_word (length c.words) && list_all is_word c.words) _ fit in
    let of_words = and_parts (is_word (length c.words)) (list_all is_word c.words) halves.0 in
    let of_proofs = and_parts (is_word (length c.proofs)) (list_all proof_fits c.proofs) halves.1 in
    let few_words : length c.words < 2 ^ 64 = grind (arith, nat_tests) in
    let few_proofs : length c.proofs < 2 ^ 64 = grind (arith, nat_tests) in
    let spread : ((((decimal (length c.words) ++ (10 ∷ [])) ++ flat_map word_text c.words) ++ ((codes "proofs " ++ decimal (length c.proofs)) ++ (10 ∷ []))) ++ flat_map proof_text c.proofs) ++ codes "end\n"
    ≡ decimal (length c.words) ++ (10 ∷ (flat_map word_text c.words ++ (codes "proofs " ++ (decimal (length c.proofs) ++ (10 ∷ (flat_map proof_text c.proofs ++ codes "end\n")))))) = simp append_assoc in
    let count = decimal_read (length c.words) (10 ∷ (flat_map word_text c.words ++ (codes "proofs " ++ (decimal (length c.proofs) ++ (10 ∷ (flat_map proof_text c.proofs ++ codes "end\n")))))) few_words refl in
    let words = many_read is_word word_text starts_anyhow anything word_in words c.words (length c.words) (codes "proofs " ++ (decimal (length c.proofs) ++ (10 ∷ (flat_map proof_text c.proofs ++ codes "end\n"))))
    (omega arith) (λ l. absurd (omega arith)) of_words.1 refl in
    let next = decimal_read (length c.proofs) (10 ∷ (flat_map proof_text c.proofs ++ codes "end\n")) few_proofs refl in
    let all = many_read proof_fits proof_text starts_anyhow anything proof_in proofs c.proofs (length c.proofs) (codes "end\n") (omega arith) (λ l. absurd (omega arith)) of_proofs.1 refl in
    ap (λ x. by_count (number_in x)) spread ∙ ap by_count count ∙ ap by_words words ∙ ap (by_proofs c.words) next
    ∙ ap (λ x. record { words = c.words; proofs = x.0 }) all

-- a certificate has no more words than its text has bytes
pub few_words : (c : Certificate) → length c.words ≤ length (cert_text c)
unfolding cert_text
few_words c =
    let front = line (codes "ct-certificate 1") ++ line (codes "words " ++ decimal (length c.words)) in
    let ws = flat_map word_text c.words in
    let between = line (codes "proofs " ++ decimal (length c.proofs)) in
    let ps = flat_map proof_text c.proofs in
    let whole : length (cert_text c) ≡ length (((front ++ ws) ++ between) ++ ps) + length (line (codes "end")) = length-append (((front ++ ws) ++ between) ++ ps) (line (codes "end")) in
    let some = few is_word word_text starts_anyhow anything word_in words c.words [] in
    omega (arith, whole, length-append ((front ++ ws) ++ between) ps, length-append (front ++ ws) between, length-append front ws, some, length-append ws [])

-- a text is that of one certificate
pub texts_one : (c d : Certificate) → IsCertificate c → IsCertificate d → cert_text c ≡ cert_text d → c ≡ d
texts_one c d fit_c fit_d same = sym (cert_read c fit_c) ∙ ap cert_in same ∙ cert_read d fit_d
