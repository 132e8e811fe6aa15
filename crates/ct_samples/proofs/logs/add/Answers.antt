use Rattle.std.{proofs.Common.{◌≡◌, ℕ, List, true, false, not, Some, nat_eq, ap, ◌∙◌, sym, subst}, specs.List.list_any, proofs.lemmas.Bool.and_from}
use Rattle.ct_word.{specs.declared.kinds.Kind.Kind, specs.Word.{kind_of, left_of, right_of}, specs.WellFormed.{is_formed_as, is_word_after, IsWellFormed}}
use Rattle.ct_word.proofs.Packed.{formed_snoc}
use Rattle.ct_samples.proofs.logs.add.Goals as goal

may_follow : (ws : List ℕ) (w : ℕ) (k : Kind) (a b : ℕ) → kind_of w ≡ Some k → left_of w ≡ a → right_of w ≡ b
    → is_formed_as (Some k) ws a b ≡ true → list_any (nat_eq w) ws ≡ false → is_word_after ws w ≡ true
unfolding is_word_after
may_follow ws w k a b e l r f n =
    and_from (is_formed_as (kind_of w) ws (left_of w) (right_of w)) (not (list_any (nat_eq w) ws))
    ((λ i. is_formed_as (e i) ws (l i) (r i)) ∙ f) (ap not n)

pub returns-in_ok-push : goal.returns-in_ok-push
returns-in_ok-push c =
    let ws = c.args.words.now.items in
    let w = c.pack-word.result in
    let formed : is_formed_as (Some c.args.kind) ws c.args.a c.args.b ≡ true =
    subst (λ xs. is_formed_as (Some c.args.kind) xs c.args.a c.args.b ≡ true) c.as_slice-2.ensures.value (c.is_formed.ensures c.if-is_formed.true) in
    let new : list_any (nat_eq w) ws ≡ false = ap (list_any (nat_eq w)) (sym c.as_slice.ensures.value) ∙ c.in_default.ensures in
    subst IsWellFormed (sym c.in_ok-push.ensures.items)
    (formed_snoc ws w c.requires (may_follow ws w c.args.kind c.args.a c.args.b c.pack-word.ensures.kind c.pack-word.ensures.left c.pack-word.ensures.right formed new))
