-- Nodes printed one after another: what stands at each position, and the lines of their names.
use Rattle.std.proofs.Common.{◌≡◌, ℕ, zero, suc, ◌+◌, ◌≤◌, min, List, [], ◌∷◌, ◌++◌, length, take, Option, Some, None, refl, sym, ap, ap₂, ◌∙◌, subst, arith, append_assoc, append-nil, length-append}
use Rattle.std.{specs.Prelude.{slice_get, option_to_list}, proofs.Math.Seq.take-append_seam, proofs.lemmas.List.take_all}
use Rattle.std.proofs.lemmas.{Grind.flat_map-append, Option.{none-some, same_Some, slice_get_past}}
use Rattle.ct_rewrite.specs.declared.answer.Node.{Node}
use Rattle.ct_rewrite.specs.declared.answer.AnswerRow.{AnswerRow}
use Rattle.ct_transcript.specs.declared.reply.Answer.{Answer}
use Rattle.ct_transcript.specs.Text.{global_lines, answer_row_lines, answer_lines}
use Rattle.ct_transcript.{specs.NodeText.{Printed, is_run, node_text, printed_after, with_names, name_line, name_lines}, specs.Owed.printed_at}

-- an item behind others
middle : {X : Type 0} (xs : List X) (x : X) (ys : List X) → slice_get (xs ++ x ∷ ys) (length xs) ≡ Some x
middle [] x ys = refl
middle (y ∷ xs) x ys = middle xs x ys

-- a node that is printed after those before
abbrev shown : List Printed → Option ℕ → Node → Printed
shown before name n = record { name = name; is_run = is_run n; text = node_text before n }

-- the nodes before stay in front
front : (before : List Printed) (names : List (Option ℕ)) (nodes : List Node) → (more : List Printed) × (printed_after before names nodes ≡ before ++ more)
front before [] nodes = ([], sym (append-nil before))
front before (name ∷ names) [] = ([], sym (append-nil before))
front before (name ∷ names) (n ∷ ns) =
    let rest = front (before ++ shown before name n ∷ []) names ns in
    (shown before name n ∷ rest.0, rest.1 ∙ append_assoc before (shown before name n ∷ []) rest.0)

first_shown : (before ps : List Printed) (p : Printed) (name : Option ℕ) (n : Node) (more : List Printed) → p ≡ shown before name n → ps ≡ before ++ p ∷ more
    → slice_get ps (length before) ≡ Some (printed_at ps (length before) name n)
first_shown before ps p name n more e h =
    let those : take (length before) ps ≡ before = ap (take (length before)) h ∙ take-append_seam before (p ∷ more) in
    ap (λ xs. slice_get xs (length before)) h ∙ middle before p more ∙ ap Some (e ∙ ap (λ b. shown b name n) (sym those))

longer : (before : List Printed) (p : Printed) → length (before ++ p ∷ []) ≡ length before + 1
longer before p = length-append before (p ∷ [])

printed_behind : (before : List Printed) (names : List (Option ℕ)) (nodes : List Node) (j k : ℕ) (name : Option ℕ) (n : Node) → slice_get names j ≡ Some name → slice_get nodes j ≡ Some n
    → length before + j ≡ k → slice_get (printed_after before names nodes) k ≡ Some (printed_at (printed_after before names nodes) k name n)
printed_behind before [] nodes j k name n d e h = absurd (none-some name d)
printed_behind before (x ∷ names) [] j k name n d e h = absurd (none-some n e)
printed_behind before (x ∷ names) (m ∷ ns) zero k name n d e h =
    let ps = printed_after before (x ∷ names) (m ∷ ns) in
    let rest = front before (x ∷ names) (m ∷ ns) in
    let more = front (before ++ shown before x m ∷ []) names ns in
    subst (λ i. slice_get ps i ≡ Some (printed_at ps i name n)) {x = length before} {y = k} (omega (arith, h))
    (first_shown before ps (shown before x m) name n more.0 (ap₂ (shown before) (same_Some x name d) (same_Some m n e)) (more.1 ∙ append_assoc before (shown before x m ∷ []) more.0))
printed_behind before (x ∷ names) (m ∷ ns) (suc j) k name n d e h =
    printed_behind (before ++ shown before x m ∷ []) names ns j k name n d e (omega (arith, h, longer before (shown before x m)))

length_printed : (before : List Printed) (names : List (Option ℕ)) (nodes : List Node) → length (printed_after before names nodes) ≡ length before + min (length names) (length nodes)
length_printed before [] nodes = omega arith
length_printed before (name ∷ names) [] = omega arith
length_printed before (name ∷ names) (n ∷ ns) =
    let rest = length_printed (before ++ shown before name n ∷ []) names ns in
    omega (arith, rest, longer before (shown before name n))

-- the node at a position
pub printed_there : (nodes : List Node) (names : List (Option ℕ)) (k : ℕ) (name : Option ℕ) (n : Node) → slice_get names k ≡ Some name → slice_get nodes k ≡ Some n
    → slice_get (with_names nodes names) k ≡ Some (printed_at (with_names nodes names) k name n)
printed_there nodes names k name n d e = printed_behind [] names nodes k k name n d e (omega arith)

past : {X : Type 0} (xs : List X) (k : ℕ) → slice_get xs k ≡ None → length xs ≤ k
past [] k e = omega arith
past (x ∷ xs) zero e = absurd (none-some x (sym e))
past (x ∷ xs) (suc k) e = omega (arith, past xs k e)

-- no node past the end of one of the lists
pub no_node : (nodes : List Node) (names : List (Option ℕ)) (k : ℕ) → slice_get nodes k ≡ None → slice_get (with_names nodes names) k ≡ None
no_node nodes names k e = let len = length_printed [] names nodes in slice_get_past (with_names nodes names) k (omega (arith, len, past nodes k e))

pub no_name : (nodes : List Node) (names : List (Option ℕ)) (k : ℕ) → slice_get names k ≡ None → slice_get (with_names nodes names) k ≡ None
no_name nodes names k e = let len = length_printed [] names nodes in slice_get_past (with_names nodes names) k (omega (arith, len, past names k e))

one_more : {X : Type 0} (xs : List X) (k : ℕ) → take (suc k) xs ≡ take k xs ++ option_to_list (slice_get xs k)
one_more [] zero = refl
one_more [] (suc k) = refl
one_more (x ∷ xs) zero = refl
one_more (x ∷ xs) (suc k) = ap (λ ys. x ∷ ys) (one_more xs k)

-- the line of one more node behind those before
pub lines_more : (ps : List Printed) (k : ℕ) (start before after : List (List ℕ)) → before ≡ start ++ name_lines (take k ps) → after ≡ before ++ name_lines (option_to_list (slice_get ps k))
    → after ≡ start ++ name_lines (take (k + 1) ps)
lines_more ps k start before after p q =
    q ∙ ap (λ ls. ls ++ name_lines (option_to_list (slice_get ps k))) p
    ∙ append_assoc start (name_lines (take k ps)) (name_lines (option_to_list (slice_get ps k)))
    ∙ ap (λ ls. start ++ ls) (sym (flat_map-append (λ (x : Printed). name_line x.name x.text) (take k ps) (option_to_list (slice_get ps k))))
    ∙ ap (λ xs. start ++ name_lines xs) (sym (one_more ps k))
    ∙ ap (λ j. start ++ name_lines (take j ps)) {x = suc k} {y = k + 1} (omega arith)

pub lines_all : (nodes : List Node) (names : List (Option ℕ)) (k : ℕ) (start after : List (List ℕ)) → length nodes ≤ k → after ≡ start ++ name_lines (take k (with_names nodes names))
    → after ≡ start ++ name_lines (with_names nodes names)
lines_all nodes names k start after h p =
    let len = length_printed [] names nodes in
    p ∙ ap (λ xs. start ++ name_lines xs) (take_all k (with_names nodes names) (omega (arith, len, h)))

-- the lines of an answer below its head
pub answer_written : (a : Answer) (nodes : List Node) (names : List (Option ℕ)) (rows : List AnswerRow) (start one two three : List (List ℕ)) → nodes ≡ a.nodes → rows ≡ a.rows
    → one ≡ start ++ name_lines (with_names nodes names) → two ≡ one ++ global_lines nodes (with_names nodes names) a.global → three ≡ two ++ answer_row_lines nodes (with_names nodes names) rows
    → three ≡ start ++ answer_lines a (with_names a.nodes names)
answer_written a nodes names rows start one two three d e p q r =
    let those : List Node → List (List ℕ) = λ ns. name_lines (with_names ns names) ++ global_lines ns (with_names ns names) a.global in
    r ∙ ap (λ ls. ls ++ answer_row_lines nodes (with_names nodes names) rows) (q ∙ ap (λ ls. ls ++ global_lines nodes (with_names nodes names) a.global) p ∙ append_assoc start _ _)
    ∙ append_assoc start (those nodes) (answer_row_lines nodes (with_names nodes names) rows)
    ∙ ap₂ (λ ns rs. start ++ (those ns ++ answer_row_lines ns (with_names ns names) rs)) d e
