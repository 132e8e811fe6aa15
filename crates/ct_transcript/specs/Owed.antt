-- The text of a condition as it is written from its root down: what is written of a node at once, and what is owed then.
use Rattle.std.specs.Prelude.{ℕ, ◌+◌, ◌-◌, ◌^◌, Bool, nat_eq, List, [], ◌∷◌, ◌++◌, length, drop, take, Option, Some, None, slice_get, if◌then◌else◌, codes}
use Rattle.ct_rewrite.specs.declared.answer.Node.{Node}
use Rattle.ct_rewrite.specs.declared.answer.Node.TheVariants as node
use Rattle.ct_rewrite.specs.Nodes.{children_of}
use Rattle.ct_transcript.specs.declared.writing.Open.{Open}
use Rattle.ct_transcript.specs.NodeText.{Printed, is_run, as_child, node_text}
use Rattle.ct_print.specs.Written.{separator_before}

-- a node of a list as it is printed, by the list's nodes before its position
abbrev pub printed_at : List Printed → ℕ → Option ℕ → Node → Printed
printed_at ps k name n = record { name = name; is_run = is_run n; text = node_text (take k ps) n }

-- a node's text without its name
abbrev pub own_text : Option Printed → List ℕ
own_text None = []
own_text (Some p) = p.text

-- the parts of a node
abbrev pub parts_of : Option Node → List ℕ
parts_of None = []
parts_of (Some n) = children_of n

-- what stands between them
abbrev pub between : Option Node → List ℕ
between (Some (node.And ks)) = codes " and "
between _ = codes " or "

-- pieces with a separator between, the first being the piece of this number
abbrev pub join_from : {X : Type 0} → (X → List ℕ) → List ℕ → ℕ → List X → List ℕ
join_from f sep i [] = []
join_from f sep i (x ∷ xs) = separator_before i sep ++ (f x ++ join_from f sep (i + 1) xs)

-- what is still to be written of an open run
abbrev pub rest_of : List Node → List Printed → Open → List ℕ
rest_of nodes ps o =
    join_from (λ k. as_child (slice_get (take o.node ps) k)) (between (slice_get nodes o.node)) o.written (drop o.written (parts_of (slice_get nodes o.node)))
    ++ (if o.is_part then codes ")" else [])

-- what is still to be written of these, of the last one first
abbrev pub owed : List Node → List Printed → List Open → List ℕ
owed nodes ps [] = []
owed nodes ps (o ∷ os) = owed nodes ps os ++ rest_of nodes ps o

-- how many steps an open run takes, without those of runs within it; the most that there may be, where none of it is written
abbrev pub turns_of : List Node → Open → ℕ
turns_of nodes o = if nat_eq o.written 0 then 2 ^ 64 else 1 + (length (parts_of (slice_get nodes o.node)) - o.written)

-- how many steps these take
abbrev pub turns : List Node → List Open → ℕ
turns nodes [] = 0
turns nodes (o ∷ os) = turns nodes os + turns_of nodes o

-- what is written of a node at once
abbrev pub begun_text : Bool → Node → List ℕ
begun_text is_part n = if is_run n then (if is_part then codes "(" else []) else node_text [] n

-- the run that is open then
abbrev pub begun : ℕ → Bool → Node → List Open
begun k is_part n = if is_run n then record { node = k; written = 0; is_part = is_part } ∷ [] else []
