-- How wide conditions are, by the sizes of the conditions before them.
use Rattle.std.proofs.Common.{◌≡◌, ℕ, zero, suc, ℤ, pos, negsuc, ◌+◌, ◌/◌, ◌%◌, ◌<◌, ◌≤◌, ◌⊎◌, min, max, Bool, true, false, ◌&&◌, ◌==◌, List, [], ◌∷◌, ◌++◌, length, length-append, map, take, get_or, refl, ap, sym, ◌∙◌, subst, arith, inl, inr, codes, decimal}
use Rattle.std.{specs.Prelude.{nat_le, nat_lt, IsTrue}, specs.List.{AllZip, join_by, list_all}, specs.Fmt.{signed_decimal, digits, digits_onto, digit_glyph}}
use Rattle.std.proofs.lemmas.{Bool.{and_parts, ltb-true, Decides.nat_tests}, List.{get_or-map, take_more, map-append, length-map, length-take}}
use Rattle.ct_word.specs.declared.values.Term.{Term}
use Rattle.ct_word.specs.declared.values.Term.TheVariants as term
use Rattle.ct_word.specs.declared.values.Null.TheVariants as null
use Rattle.ct_word.specs.declared.values.Value.TheVariants as val
use Rattle.ct_word.specs.Condition.{Condition, True, False, Same, Not, And, Or, listed}
use Rattle.ct_rewrite.specs.declared.answer.Node.{Node}
use Rattle.ct_rewrite.specs.declared.answer.Node.TheVariants as node
use Rattle.ct_rewrite.specs.Nodes.{nth, condition_of_node, node_condition, read_nodes}
use Rattle.ct_rewrite.specs.Sizes.{NoneIsEmpty, as_part, text_of, text_of_parts, nest_as_part, nest_of, nest_of_parts}
use Rattle.ct_rewrite.proofs.Nodes.{read-append}
use Rattle.ct_print.{specs.TermText.term_text, specs.Written.separator_before, proofs.Joins.join_more}
use Rattle.ct_csv.specs.declared.measuring.Size.{Size}
use Rattle.ct_csv.specs.Measured.{capped, size_of, leaf, size_as_part, fits, fits_at}
use Rattle.ct_csv.{specs.Exported.is_narrow, proofs.ExportTexts.{part_text}}

-- no term's text is empty
onto_longer : (k n : ℕ) (ds : List ℕ) → length ds ≤ length (digits_onto k 10 false n ds)
onto_longer zero n ds = omega arith
onto_longer (suc k) n ds = by (n / 10 == 0) refl (onto_longer k (n / 10) (digit_glyph false (n % 10) ∷ ds)) where
  by : (e : Bool) → (n / 10 == 0) ≡ e → length (digit_glyph false (n % 10) ∷ ds) ≤ length (digits_onto k 10 false (n / 10) (digit_glyph false (n % 10) ∷ ds)) → length ds ≤ length (digits_onto (suc k) 10 false n ds)
  by true is rest = rw is (omega arith)
  by false is rest = rw is (omega (arith, rest))

some_digit : (k n : ℕ) → 1 ≤ length (digits_onto (suc k) 10 false n [])
some_digit k n = by (n / 10 == 0) refl (onto_longer k (n / 10) (digit_glyph false (n % 10) ∷ [])) where
  by : (e : Bool) → (n / 10 == 0) ≡ e → 1 ≤ length (digits_onto k 10 false (n / 10) (digit_glyph false (n % 10) ∷ [])) → 1 ≤ length (digits_onto (suc k) 10 false n [])
  by true is rest = rw is (omega arith)
  by false is rest = rw is rest

some_decimal : (n : ℕ) → 1 ≤ length (decimal n)
unfolding digits
some_decimal n = some_digit 63 n

some_signed : (i : ℤ) → 1 ≤ length (signed_decimal i)
some_signed (pos n) = some_decimal n
some_signed (negsuc n) = omega arith

pub none_empty : NoneIsEmpty term_text
none_empty (term.Column k) = omega arith
none_empty (term.Null (null.Named t)) = omega arith
none_empty (term.Null (null.Fresh s n)) = omega arith
none_empty (term.Value (val.Int i)) = some_signed i
none_empty (term.Value (val.Text t)) = omega arith
none_empty (term.Value (val.Other k)) = omega arith

-- the size of a condition as a part of another
closed_length : (w : List ℕ) → length (codes "(" ++ w ++ codes ")") ≡ length w + 2
closed_length w = omega (arith, length-append w (codes ")"))

pub part_bytes : (c : Condition) → (size_as_part (size_of c)).bytes ≡ capped (length (as_part c (text_of term_text c)))
part_bytes True = refl
part_bytes False = refl
part_bytes (Same s t) = refl
part_bytes (Not c) = refl
part_bytes (And cs) = omega (arith, closed_length (text_of term_text (And cs)))
part_bytes (Or cs) = omega (arith, closed_length (text_of term_text (Or cs)))

pub part_nests : (c : Condition) → (size_as_part (size_of c)).nest ≡ capped (nest_as_part c (nest_of c))
part_nests True = refl
part_nests False = refl
part_nests (Same s t) = refl
part_nests (Not c) = refl
part_nests (And cs) = omega arith
part_nests (Or cs) = omega arith

-- one more part
nests_more : (cs : List Condition) (c : Condition) → nest_of_parts (listed (cs ++ c ∷ [])) ≡ max (nest_of_parts (listed cs)) (nest_as_part c (nest_of c))
nests_more [] c = omega arith
nests_more (d ∷ cs) c = omega (arith, nests_more cs c)

-- what the parts in front are together
pub record AreMeasured (between : List ℕ) (f : ℕ → Condition) (ks : List ℕ) (bytes nest : ℕ) : Type 0 where
  pub bytes_are : bytes ≡ capped (length (join_by (part_text term_text between f) between ks))
  pub nest_is : nest ≡ capped (nest_of_parts (listed (map f ks)))

module _ (between : List ℕ) (sizes : List Size) (cs : List Condition) (are : sizes ≡ map size_of cs) where
  size_at : (k : ℕ) (s d : Size) → k < length sizes → s ≡ get_or sizes k d → s ≡ size_of (nth cs k)
  size_at k s d lt e = e ∙ ap (λ xs. get_or xs k d) are ∙ get_or-map size_of cs k False d (subst (λ n. k < n) (ap length are ∙ length_mapped cs) lt) where
    length_mapped : (xs : List Condition) → length (map size_of xs) ≡ length xs
    length_mapped [] = refl
    length_mapped (x ∷ xs) = ap suc (length_mapped xs)

  pub one_part : (ks : List ℕ) (i k bytes nest gap new_bytes new_nest : ℕ) (d p : Size) → i < length ks → k ≡ get_or ks i 0 → k < length sizes → p ≡ size_as_part (get_or sizes k d)
      → AreMeasured between (nth cs) (take i ks) bytes nest → gap ≡ length (separator_before i between) → new_bytes ≡ min (min (bytes + gap) 18446744073709551615 + p.bytes) 18446744073709551615 → new_nest ≡ max p.nest nest
      → AreMeasured between (nth cs) (take (i + 1) ks) new_bytes new_nest
  one_part ks i k bytes nest gap new_bytes new_nest d p lt ke kl pe are_before ge be ne =
      let size : get_or sizes k d ≡ size_of (nth cs k) = size_at k (get_or sizes k d) d kl refl in
      let pb : p.bytes ≡ capped (length (part_text term_text between (nth cs) (get_or ks i 0))) = ap (λ x. x.bytes) (pe ∙ ap size_as_part size) ∙ part_bytes (nth cs k) ∙ ap (λ j. capped (length (part_text term_text between (nth cs) j))) ke in
      let pn : p.nest ≡ capped (nest_as_part (nth cs (get_or ks i 0)) (nest_of (nth cs (get_or ks i 0)))) = ap (λ x. x.nest) (pe ∙ ap size_as_part size) ∙ part_nests (nth cs k) ∙ ap (λ j. capped (nest_as_part (nth cs j) (nest_of (nth cs j)))) ke in
      let old : List ℕ = join_by (part_text term_text between (nth cs)) between (take i ks) in
      let gaps : List ℕ = separator_before i between in
      let piece : List ℕ = part_text term_text between (nth cs) (get_or ks i 0) in
      let text : length (join_by (part_text term_text between (nth cs)) between (take (i + 1) ks)) ≡ length old + (length gaps + length piece) =
      ap length (join_more (part_text term_text between (nth cs)) between ks i 0 lt) ∙ length-append old (gaps ++ piece) ∙ ap (λ n. length old + n) (length-append gaps piece) in
      let nests : nest_of_parts (listed (map (nth cs) (take (i + 1) ks))) ≡ max (nest_of_parts (listed (map (nth cs) (take i ks)))) (nest_as_part (nth cs (get_or ks i 0)) (nest_of (nth cs (get_or ks i 0)))) =
      ap (λ xs. nest_of_parts (listed (map (nth cs) xs))) (take_more ks i 0 lt) ∙ ap (λ xs. nest_of_parts (listed xs)) (map-append (nth cs) (take i ks) (get_or ks i 0 ∷ [])) ∙ nests_more (map (nth cs) (take i ks)) (nth cs (get_or ks i 0)) in
      record {
        bytes_are = omega (arith, be, ge, pb, text, are_before.bytes_are);
        nest_is = omega (arith, ne, pn, nests, are_before.nest_is);
      }

pub no_part : (between : List ℕ) (f : ℕ → Condition) → AreMeasured between f [] 0 0
no_part between f = record { bytes_are = refl; nest_is = refl }

-- two terms
pub compared_length : (s t sign : List ℕ) → length (s ++ sign ++ t) ≡ length s + (length sign + length t)
compared_length s t sign = omega (arith, length-append (s ++ sign) t, length-append s sign)

-- a node over parts
same_size : (s : Size) (b n : ℕ) → s.bytes ≡ b → s.nest ≡ n → s.is_run ≡ true → s ≡ record { bytes = b; nest = n; is_run = true }
same_size s b n p q r = λ i. record { bytes = p i; nest = q i; is_run = r i }

pub and_size : (cs : List Condition) (ks : List ℕ) (s : Size) → s.bytes ≡ capped (length (text_of_parts term_text (codes " and ") (listed (map (nth cs) ks)))) → s.nest ≡ capped (nest_of_parts (listed (map (nth cs) ks))) → s.is_run ≡ true
    → s ≡ size_of (condition_of_node cs (node.And ks))
and_size cs ks s p q r = same_size s _ _ p q r

pub or_size : (cs : List Condition) (ks : List ℕ) (s : Size) → s.bytes ≡ capped (length (text_of_parts term_text (codes " or ") (listed (map (nth cs) ks)))) → s.nest ≡ capped (nest_of_parts (listed (map (nth cs) ks))) → s.is_run ≡ true
    → s ≡ size_of (condition_of_node cs (node.Or ks))
or_size cs ks s p q r = same_size s _ _ p q r

-- what is within the bounds
capped_within : (n most : ℕ) → most < 18446744073709551615 → nat_le (capped n) most ≡ nat_le n most
capped_within n most lt = grind (arith, nat_tests)

narrow_by_size : (c : Condition) → fits (size_of c) ≡ (nat_le (length (text_of term_text c)) 65536 && nat_le (nest_of c) 64)
narrow_by_size c = λ i. capped_within (length (text_of term_text c)) 65536 (omega arith) i && capped_within (nest_of c) 64 (omega arith) i

pub narrow_at : (nodes : List Node) (k : ℕ) → fits_at (map size_of (read_nodes [] nodes)) k ≡ is_narrow nodes k
narrow_at nodes k = at (read_nodes [] nodes) k where
  at : (cs : List Condition) (k : ℕ) → fits_at (map size_of cs) k ≡ (nat_le (length (text_of term_text (nth cs k))) 65536 && nat_le (nest_of (nth cs k)) 64)
  at [] k = refl
  at (c ∷ cs) zero = narrow_by_size c
  at (c ∷ cs) (suc k) = at cs k

pub all_narrow : (nodes : List Node) (ks : List ℕ) → list_all (fits_at (map size_of (read_nodes [] nodes))) ks ≡ list_all (is_narrow nodes) ks
all_narrow nodes [] = refl
all_narrow nodes (k ∷ ks) = λ i. narrow_at nodes k i && all_narrow nodes ks i

pub low_nest : (nodes : List Node) (k : ℕ) → is_narrow nodes k ≡ true → nest_of (node_condition nodes k) ≤ 64
low_nest nodes k h =
    let nest = (and_parts (nat_le (length (text_of term_text (node_condition nodes k))) 65536) (nat_le (nest_of (node_condition nodes k)) 64) h).1 in
    grind (arith, nat_tests, nest)

-- past the bounds
pub past_cases : (a b : ℕ) → (nat_le a 65536 && nat_le b 64) ≡ false → (65536 < a) ⊎ (64 < b)
past_cases a b h = by (nat_le a 65536) refl where
  by : (e : Bool) → nat_le a 65536 ≡ e → (65536 < a) ⊎ (64 < b)
  by true is = inr (let f : nat_le b 64 ≡ false = rw is at h in grind (arith, nat_tests, f))
  by false is = inl (grind (arith, nat_tests, is))

pub zipped : (R : ℕ → ℕ → Type 0) (ks ps : List ℕ) (i : ℕ) → AllZip R ks ps → i < length ps → R (get_or ks i 0) (get_or ps i 0)
zipped R [] [] i h lt = absurd (omega (arith, lt))
zipped R [] (p ∷ ps) i h lt = absurd h
zipped R (k ∷ ks) [] i h lt = absurd h
zipped R (k ∷ ks) (p ∷ ps) zero h lt = h.0
zipped R (k ∷ ks) (p ∷ ps) (suc i) h lt = zipped R ks ps i h.1 (omega (arith, lt))

pub as_long : (R : ℕ → ℕ → Type 0) (ks ps : List ℕ) → AllZip R ks ps → length ks ≡ length ps
as_long R [] [] h = refl
as_long R [] (p ∷ ps) h = absurd h
as_long R (k ∷ ks) [] h = absurd h
as_long R (k ∷ ks) (p ∷ ps) h = ap suc (as_long R ks ps h.1)

-- one more node
pub long_read : (cs : List Condition) (ns : List Node) → length (read_nodes cs ns) ≡ length cs + length ns
long_read cs [] = omega arith
long_read cs (n ∷ ns) = long_read (cs ++ condition_of_node cs n ∷ []) ns ∙ omega (arith, length-append cs (condition_of_node cs n ∷ []))

pub long_sizes : (nodes : List Node) (i : ℕ) → i ≤ length nodes → length (map size_of (read_nodes [] (take i nodes))) ≡ i
long_sizes nodes i le = length-map (read_nodes [] (take i nodes)) size_of ∙ long_read [] (take i nodes) ∙ omega (arith, length-take i nodes, le)

pub sizes_more : (nodes : List Node) (i : ℕ) (n : Node) (s : Size) (old new : List Size) → i < length nodes → n ≡ get_or nodes i n → old ≡ map size_of (read_nodes [] (take i nodes))
    → s ≡ size_of (condition_of_node (read_nodes [] (take i nodes)) n) → new ≡ old ++ s ∷ [] → new ≡ map size_of (read_nodes [] (take (i + 1) nodes))
sizes_more nodes i n s old new lt at before one push =
    let cs = read_nodes [] (take i nodes) in
    let grown : read_nodes [] (take (i + 1) nodes) ≡ cs ++ condition_of_node cs n ∷ [] =
    ap (read_nodes []) (take_more nodes i n lt ∙ ap (λ m. take i nodes ++ m ∷ []) (sym at)) ∙ read-append [] (take i nodes) (n ∷ []) in
    push ∙ (λ x. before x ++ one x ∷ []) ∙ sym (ap (map size_of) grown ∙ map-append size_of cs (condition_of_node cs n ∷ []))

-- what all items pass, the one at a place does
pub all_at : (p : ℕ → Bool) (xs : List ℕ) (i : ℕ) → IsTrue (list_all p xs) → i < length xs → p (get_or xs i 0) ≡ true
all_at p [] i h lt = absurd (omega (arith, lt))
all_at p (x ∷ xs) zero h lt = (and_parts (p x) (list_all p xs) h).0
all_at p (x ∷ xs) (suc i) h lt = all_at p xs i (and_parts (p x) (list_all p xs) h).1 (omega (arith, lt))

pub placed_at : (n : ℕ) (xs : List ℕ) (i : ℕ) → IsTrue (list_all (λ k. nat_lt k n) xs) → i < length xs → get_or xs i 0 < n
placed_at n xs i h lt = ltb-true (get_or xs i 0) n (all_at (λ k. nat_lt k n) xs i h lt)

-- an equality, and the denial of one
pub equal_size : (cs : List Condition) (s t : Term) → leaf (capped (length (term_text s) + (3 + length (term_text t)))) ≡ size_of (condition_of_node cs (node.Eq s t))
equal_size cs s t = ap (λ n. leaf (capped n)) (sym (compared_length (term_text s) (term_text t) (codes " = ")))

pub unequal_size : (cs : List Condition) (s t : Term) → leaf (capped (length (term_text s) + (4 + length (term_text t)))) ≡ size_of (condition_of_node cs (node.Ne s t))
unequal_size cs s t = ap (λ n. leaf (capped n)) (sym (compared_length (term_text s) (term_text t) (codes " <> ")))
