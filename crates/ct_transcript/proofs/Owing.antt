-- A condition written from its root down: what is written, and what the open runs owe.
use Rattle.std.proofs.Common.{◌≡◌, ℕ, zero, suc, ◌+◌, ◌*◌, ◌-◌, ◌^◌, ◌<◌, ◌≤◌, Bool, true, false, nat_eq, List, [], ◌∷◌, ◌++◌, length, take, drop, get_or, Option, Some, None, refl, sym, ap, ap₂, ◌∙◌, arith, append_assoc, append-nil, length-append}
use Rattle.std.{specs.Prelude.{slice_get, flat_map, codes, if◌then◌else◌, Result, Ok, Err, OnOk}, specs.List.join_by, proofs.lemmas.Bool.Decides.nat_tests}
use Rattle.std.proofs.lemmas.List.{drop_more, at_drop_all}
use Rattle.ct_rewrite.specs.declared.answer.Node.{Node}
use Rattle.ct_rewrite.specs.declared.answer.Node.TheVariants as node
use Rattle.ct_rewrite.specs.Nodes.{children_of}
use Rattle.ct_print.{specs.TermText.in_parentheses, specs.Written.separator_before}
use Rattle.ct_transcript.specs.declared.writing.Open.{Open}
use Rattle.ct_transcript.{specs.NodeText.{Printed, is_run, as_child, node_text}, specs.Owed.{printed_at, own_text, parts_of, between, join_from, rest_of, owed, turns, begun_text, begun}}

later : (sep : List ℕ) (i : ℕ) → 0 < i → separator_before i sep ≡ sep
later sep i h = grind (arith, nat_tests)

join_later : {X : Type 0} (f : X → List ℕ) (sep : List ℕ) (i : ℕ) (xs : List X) → 0 < i → join_from f sep i xs ≡ flat_map (λ y. sep ++ f y) xs
join_later f sep i [] h = refl
join_later f sep i (x ∷ xs) h = ap₂ (λ s t. s ++ (f x ++ t)) (later sep i h) (join_later f sep (i + 1) xs (omega arith)) ∙ sym (append_assoc sep (f x) (flat_map (λ y. sep ++ f y) xs))

-- pieces from the first on
join_all : {X : Type 0} (f : X → List ℕ) (sep : List ℕ) (xs : List X) → join_from f sep 0 xs ≡ join_by f sep xs
join_all f sep [] = refl
join_all f sep (x ∷ xs) = ap (λ t. f x ++ t) (join_later f sep (0 + 1) xs (omega arith))

owed_append : (nodes : List Node) (ps : List Printed) (os more : List Open) → owed nodes ps (os ++ more) ≡ owed nodes ps more ++ owed nodes ps os
owed_append nodes ps [] more = sym (append-nil (owed nodes ps more))
owed_append nodes ps (o ∷ os) more = ap (λ t. t ++ rest_of nodes ps o) (owed_append nodes ps os more) ∙ append_assoc (owed nodes ps more) (owed nodes ps os) (rest_of nodes ps o)

turns_append : (nodes : List Node) (os more : List Open) → turns nodes (os ++ more) ≡ turns nodes os + turns nodes more
turns_append nodes [] more = omega arith
turns_append nodes (o ∷ os) more = omega (arith, turns_append nodes os more)

-- what an And or Or owes when it is opened
run_owes : (nodes : List Node) (ps : List Printed) (k : ℕ) (n : Node) (is_part : Bool) → slice_get nodes k ≡ Some n
    → rest_of nodes ps (record { node = k; written = 0; is_part = is_part }) ≡ join_by (λ j. as_child (slice_get (take k ps) j)) (between (Some n)) (children_of n) ++ (if is_part then codes ")" else [])
run_owes nodes ps k n is_part e =
    ap (λ here. join_from (λ j. as_child (slice_get (take k ps) j)) (between here) 0 (parts_of here) ++ (if is_part then codes ")" else [])) e
    ∙ ap (λ t. t ++ (if is_part then codes ")" else [])) (join_all (λ j. as_child (slice_get (take k ps) j)) (between (Some n)) (children_of n))

-- what a root's text is begun with, and what is owed then
root_begun : (nodes : List Node) (ps : List Printed) (k : ℕ) (n : Node) → slice_get nodes k ≡ Some n → begun_text false n ++ owed nodes ps (begun k false n) ≡ node_text (take k ps) n
root_begun nodes ps k node.True e = refl
root_begun nodes ps k node.False e = refl
root_begun nodes ps k (node.Eq s t) e = append-nil _
root_begun nodes ps k (node.Ne s t) e = append-nil _
root_begun nodes ps k (node.And ks) e = run_owes nodes ps k (node.And ks) false e ∙ append-nil _
root_begun nodes ps k (node.Or ks) e = run_owes nodes ps k (node.Or ks) false e ∙ append-nil _

-- and a part's
part_begun : (nodes : List Node) (ps : List Printed) (k : ℕ) (n : Node) → slice_get nodes k ≡ Some n
    → begun_text true n ++ owed nodes ps (begun k true n) ≡ (if is_run n then in_parentheses (node_text (take k ps) n) else node_text (take k ps) n)
part_begun nodes ps k node.True e = refl
part_begun nodes ps k node.False e = refl
part_begun nodes ps k (node.Eq s t) e = append-nil _
part_begun nodes ps k (node.Ne s t) e = append-nil _
part_begun nodes ps k (node.And ks) e = ap (λ t. codes "(" ++ t) (run_owes nodes ps k (node.And ks) true e)
part_begun nodes ps k (node.Or ks) e = ap (λ t. codes "(" ++ t) (run_owes nodes ps k (node.Or ks) true e)

-- a text that is written at once, and what is owed from there on
moved : (nodes : List Node) (ps : List Printed) (out out' now whole : List ℕ) (os os' more : List Open) → out' ≡ out ++ now → os' ≡ os ++ more → now ++ owed nodes ps more ≡ whole
    → out' ++ owed nodes ps os' ≡ out ++ (whole ++ owed nodes ps os)
moved nodes ps out out' now whole os os' more p q r =
    ap₂ (λ a b. a ++ owed nodes ps b) p q ∙ ap (λ t. (out ++ now) ++ t) (owed_append nodes ps os more)
    ∙ append_assoc out now (owed nodes ps more ++ owed nodes ps os)
    ∙ ap (λ t. out ++ t) (sym (append_assoc now (owed nodes ps more) (owed nodes ps os)) ∙ ap (λ t. t ++ owed nodes ps os) r)

-- the bytes of a part pay for the steps of the run that it opens
paid_for : (nodes : List Node) (out out' now : List ℕ) (os os' more : List Open) → out' ≡ out ++ now → os' ≡ os ++ more → turns nodes more ≤ 2 ^ 64 * length now
    → turns nodes os' + 2 ^ 64 * length out ≤ turns nodes os + 2 ^ 64 * length out'
paid_for nodes out out' now os os' more p q h =
    let written : length out' ≡ length out + length now = ap length p ∙ length-append out now in
    let opened : turns nodes os' ≡ turns nodes os + turns nodes more = ap (turns nodes) q ∙ turns_append nodes os more in
    omega (arith, written, opened, h)

begun_paid : (nodes : List Node) (k : ℕ) (n : Node) → turns nodes (begun k true n) ≤ 2 ^ 64 * length (begun_text true n)
begun_paid nodes k node.True = omega arith
begun_paid nodes k node.False = omega arith
begun_paid nodes k (node.Eq s t) = omega arith
begun_paid nodes k (node.Ne s t) = omega arith
begun_paid nodes k (node.And ks) = omega arith
begun_paid nodes k (node.Or ks) = omega arith

some_turn : (most len w : ℕ) → 0 < most → 0 < (if nat_eq w 0 then most else 1 + (len - w))
some_turn most len w h = grind (arith, nat_tests)

less_turns : (most len w : ℕ) → w < len → len < most → (if nat_eq (w + 1) 0 then most else 1 + (len - (w + 1))) < (if nat_eq w 0 then most else 1 + (len - w))
less_turns most len w h k = grind (arith, nat_tests)

-- a run that is closed takes a step fewer
closed_turns : (nodes : List Node) (os : List Open) (o : Open) → turns nodes os < turns nodes (os ++ o ∷ [])
closed_turns nodes os o =
    let some = some_turn (2 ^ 64) (length (parts_of (slice_get nodes o.node))) o.written (omega arith) in
    omega (arith, turns_append nodes os (o ∷ []), some)

-- what stands at a position of the first ones
got_before : {X : Type 0} (xs : List X) (before k : ℕ) → k < before → slice_get (take before xs) k ≡ slice_get xs k
got_before xs zero k h = absurd (omega (arith, h))
got_before [] (suc before) k h = refl
got_before (x ∷ xs) (suc before) zero h = refl
got_before (x ∷ xs) (suc before) (suc k) h = got_before xs before k (omega (arith, h))

-- a part that has no name
pub part_written : (nodes : List Node) (ps : List Printed) (before k : ℕ) (n : Node) (out out' : List ℕ) (os os' : List Open) → k < before → slice_get nodes k ≡ Some n
    → slice_get ps k ≡ Some (printed_at ps k None n) → out' ≡ out ++ begun_text true n → os' ≡ os ++ begun k true n
    → out' ++ owed nodes ps os' ≡ out ++ (as_child (slice_get (take before ps) k) ++ owed nodes ps os)
part_written nodes ps before k n out out' os os' h d e p q =
    moved nodes ps out out' (begun_text true n) (as_child (slice_get (take before ps) k)) os os' (begun k true n) p q (part_begun nodes ps k n d ∙ sym (ap as_child (got_before ps before k h ∙ e)))

pub part_paid : (nodes : List Node) (k : ℕ) (n : Node) (out out' : List ℕ) (os os' : List Open) → out' ≡ out ++ begun_text true n → os' ≡ os ++ begun k true n
    → turns nodes os' + 2 ^ 64 * length out ≤ turns nodes os + 2 ^ 64 * length out'
part_paid nodes k n out out' os os' p q = paid_for nodes out out' (begun_text true n) os os' (begun k true n) p q (begun_paid nodes k n)

-- a part that is none
pub none_written : (nodes : List Node) (ps : List Printed) (before k : ℕ) (out : List ℕ) (os : List Open) → k < before → slice_get ps k ≡ None
    → out ++ owed nodes ps os ≡ out ++ (as_child (slice_get (take before ps) k) ++ owed nodes ps os)
none_written nodes ps before k out os h e = ap (λ p. out ++ (as_child p ++ owed nodes ps os)) (sym (got_before ps before k h ∙ e))

-- a run of which all is written
pub closed_written : (nodes : List Node) (ps : List Printed) (out out' : List ℕ) (os : List Open) (o : Open) → length (parts_of (slice_get nodes o.node)) ≤ o.written
    → out' ≡ out ++ (if o.is_part then codes ")" else []) → out' ++ owed nodes ps os ≡ out ++ owed nodes ps (os ++ o ∷ [])
closed_written nodes ps out out' os o h p =
    let close : List ℕ = if o.is_part then codes ")" else [] in
    let rest : rest_of nodes ps o ≡ close =
    at_drop_all (λ ks. join_from (λ j. as_child (slice_get (take o.node ps) j)) (between (slice_get nodes o.node)) o.written ks ++ close) (parts_of (slice_get nodes o.node)) o.written h in
    ap (λ t. t ++ owed nodes ps os) p ∙ append_assoc out close (owed nodes ps os)
    ∙ ap (λ t. out ++ t) (sym (owed_append nodes ps os (o ∷ []) ∙ ap (λ t. t ++ owed nodes ps os) rest))

pub closed_paid : (nodes : List Node) (out out' now : List ℕ) (os : List Open) (o : Open) → out' ≡ out ++ now → turns nodes os + 2 ^ 64 * length out < turns nodes (os ++ o ∷ []) + 2 ^ 64 * length out'
closed_paid nodes out out' now os o p =
    let written : length out' ≡ length out + length now = ap length p ∙ length-append out now in
    let less = closed_turns nodes os o in
    omega (arith, written, less)

-- a run with one part more written
abbrev more : Open → Open
more o = record { node = o.node; written = o.written + 1; is_part = o.is_part }

part_turns : (nodes : List Node) (os : List Open) (o : Open) → o.written < length (parts_of (slice_get nodes o.node)) → length (parts_of (slice_get nodes o.node)) < 2 ^ 64
    → turns nodes (os ++ more o ∷ []) < turns nodes (os ++ o ∷ [])
part_turns nodes os o h k =
    let less = less_turns (2 ^ 64) (length (parts_of (slice_get nodes o.node))) o.written h k in
    omega (arith, turns_append nodes os (more o ∷ []), turns_append nodes os (o ∷ []), less)

part_owed : (nodes : List Node) (ps : List Printed) (o : Open) → o.written < length (parts_of (slice_get nodes o.node))
    → rest_of nodes ps o ≡ separator_before o.written (between (slice_get nodes o.node)) ++ (as_child (slice_get (take o.node ps) (get_or (parts_of (slice_get nodes o.node)) o.written 0)) ++ rest_of nodes ps (more o))
part_owed nodes ps o h =
    let f : ℕ → List ℕ = λ j. as_child (slice_get (take o.node ps) j) in
    let sep = between (slice_get nodes o.node) in
    let parts = parts_of (slice_get nodes o.node) in
    let close : List ℕ = if o.is_part then codes ")" else [] in
    let rest = join_from f sep (o.written + 1) (drop (o.written + 1) parts) in
    let first = f (get_or parts o.written 0) in
    ap (λ ks. join_from f sep o.written ks ++ close) (drop_more parts o.written 0 h)
    ∙ append_assoc (separator_before o.written sep) (first ++ rest) close
    ∙ ap (λ t. separator_before o.written sep ++ t) (append_assoc first rest close)

pub next_written : (nodes : List Node) (ps : List Printed) (o : Open) (part : ℕ) (sep out out' out'' : List ℕ) (os os' os'' : List Open) → o.written < length (parts_of (slice_get nodes o.node))
    → part ≡ get_or (parts_of (slice_get nodes o.node)) o.written 0 → sep ≡ between (slice_get nodes o.node) → out' ≡ out ++ separator_before o.written sep → os' ≡ os ++ more o ∷ []
    → out'' ++ owed nodes ps os'' ≡ out' ++ (as_child (slice_get (take o.node ps) part) ++ owed nodes ps os') → out'' ++ owed nodes ps os'' ≡ out ++ owed nodes ps (os ++ o ∷ [])
next_written nodes ps o part sep out out' out'' os os' os'' h d e p q r =
    let s = separator_before o.written (between (slice_get nodes o.node)) in
    let child : ℕ → List ℕ = λ j. as_child (slice_get (take o.node ps) j) in
    let here = child (get_or (parts_of (slice_get nodes o.node)) o.written 0) in
    let rest = rest_of nodes ps (more o) in
    let below = owed nodes ps os in
    let whole : owed nodes ps (os ++ o ∷ []) ≡ s ++ (here ++ (rest ++ below)) =
    owed_append nodes ps os (o ∷ []) ∙ ap (λ t. t ++ below) (part_owed nodes ps o h) ∙ append_assoc s (here ++ rest) below ∙ ap (λ t. s ++ t) (append_assoc here rest below) in
    r ∙ ap (λ t. out' ++ (t ++ owed nodes ps os')) (ap child d)
    ∙ ap₂ (λ a b. a ++ (here ++ b)) (p ∙ ap (λ t. out ++ separator_before o.written t) e) (ap (owed nodes ps) q ∙ owed_append nodes ps os (more o ∷ []))
    ∙ append_assoc out s (here ++ (rest ++ below)) ∙ ap (λ t. out ++ t) (sym whole)

pub next_paid : (nodes : List Node) (o : Open) (out out' out'' now : List ℕ) (os os' os'' : List Open) → o.written < length (parts_of (slice_get nodes o.node)) → length (parts_of (slice_get nodes o.node)) < 2 ^ 64
    → out' ≡ out ++ now → os' ≡ os ++ more o ∷ [] → turns nodes os'' + 2 ^ 64 * length out' ≤ turns nodes os' + 2 ^ 64 * length out''
    → turns nodes os'' + 2 ^ 64 * length out < turns nodes (os ++ o ∷ []) + 2 ^ 64 * length out''
next_paid nodes o out out' out'' now os os' os'' h k p q r =
    let written : length out' ≡ length out + length now = ap length p ∙ length-append out now in
    let opened : turns nodes os' ≡ turns nodes (os ++ more o ∷ []) = ap (turns nodes) q in
    let less = part_turns nodes os o h k in
    omega (arith, written, opened, less, r)

-- a root's text begun
pub root_written : (nodes : List Node) (ps : List Printed) (k : ℕ) (name : Option ℕ) (n : Node) (out out' : List ℕ) (os os' : List Open) → slice_get nodes k ≡ Some n
    → slice_get ps k ≡ Some (printed_at ps k name n) → os ≡ [] → out' ≡ out ++ begun_text false n → os' ≡ os ++ begun k false n → out' ++ owed nodes ps os' ≡ out ++ own_text (slice_get ps k)
root_written nodes ps k name n out out' os os' d e z p q =
    ap₂ (λ a b. a ++ owed nodes ps b) p (q ∙ ap (λ l. l ++ begun k false n) z) ∙ append_assoc out (begun_text false n) (owed nodes ps (begun k false n))
    ∙ ap (λ t. out ++ t) (root_begun nodes ps k n d ∙ sym (ap own_text e))

-- one step of the innermost run leaves less to be done
pub less_owed : (nodes : List Node) (ps : List Printed) (out out' : List ℕ) (os os' below : List Open) (o : Open) → os ≡ below ++ o ∷ [] → out' ++ owed nodes ps os' ≡ out ++ owed nodes ps (below ++ o ∷ [])
    → turns nodes os' + 2 ^ 64 * length out < turns nodes (below ++ o ∷ []) + 2 ^ 64 * length out'
    → turns nodes os' + 2 ^ 64 * length (owed nodes ps os') < turns nodes os + 2 ^ 64 * length (owed nodes ps os)
less_owed nodes ps out out' os os' below o e p q =
    let all : length out' + length (owed nodes ps os') ≡ length out + length (owed nodes ps (below ++ o ∷ [])) =
    sym (length-append out' (owed nodes ps os')) ∙ ap length p ∙ length-append out (owed nodes ps (below ++ o ∷ [])) in
    let same : turns nodes os ≡ turns nodes (below ++ o ∷ []) = ap (turns nodes) e in
    let owing : length (owed nodes ps os) ≡ length (owed nodes ps (below ++ o ∷ [])) = ap (λ l. length (owed nodes ps l)) e in
    omega (arith, all, same, owing, q)

-- what follows on success from two clauses
pub on_both : {T E P Q R : Type 0} (r : Result T E) → (P → Q → R) → OnOk r P → OnOk r Q → OnOk r R
on_both (Ok x) f p q = f p q
on_both (Err e) f p q = p
