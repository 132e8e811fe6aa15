use Rattle.std.proofs.Common.{[], ◌∷◌, sym, subst, ◌∙◌}
use Rattle.ct_word.specs.Word.{left_of, right_of}
use Rattle.ct_tidy.{specs.Nulls.{ArePut, parts_in}, proofs.Gathered.{both_parts, left_part, no_parts, put_more, put_none, put_one}}
use Rattle.ct_tidy.proofs.below.put_parts.Goals as goal

pub returns-in_default : goal.returns-in_default
returns-in_default c =
    let old = c.args.places.now.keys in
    let word = c.args.word in
    subst (λ o. ArePut old (parts_in o (left_of word) (right_of word)) old) (sym (sym c.kind.ensures ∙ c.in_default.is)) (put_none old)

pub returns-then-not-names_left : goal.returns-then-not-names_left
returns-then-not-names_left c =
    let old = c.args.places.now.keys in
    subst (λ ps. ArePut old ps old) (sym (no_parts c.args.word c.in-Some.kind (sym c.kind.ensures ∙ c.in-Some.is) (sym c.names_left.ensures ∙ c.if-not-names_left.true))) (put_none old)

pub returns-in_ok-insert-2 : goal.returns-in_ok-insert-2
returns-in_ok-insert-2 c =
    let old = c.args.places.now.keys in
    let mid = c.insert.new.self.keys in
    let new = c.insert-then-names_right.new.self.keys in
    let parts = both_parts c.args.word c.in-Some.kind (sym c.kind.ensures ∙ c.in-Some.is) (sym c.names_left.ensures ∙ c.if-not-names_left.false) (sym c.names_right.ensures ∙ c.if-names_right.true) in
    let first = subst (λ p. ArePut old (p ∷ []) mid) c.left.ensures.value (put_one old c.left.result mid c.in_ok-insert.ensures.keys) in
    let second = subst (λ p. ArePut mid (p ∷ []) new) c.right.ensures.value (put_one mid c.right.result new c.in_ok-insert-2.ensures.keys) in
    subst (λ ps. ArePut old ps new) (sym parts) (put_more old (left_of c.args.word ∷ []) mid (right_of c.args.word ∷ []) new first second)

pub returns-else-names_right : goal.returns-else-names_right
returns-else-names_right c =
    let old = c.args.places.now.keys in
    let new = c.insert.new.self.keys in
    let parts = left_part c.args.word c.in-Some.kind (sym c.kind.ensures ∙ c.in-Some.is) (sym c.names_left.ensures ∙ c.if-not-names_left.false) (sym c.names_right.ensures ∙ c.if-names_right.false) in
    subst (λ ps. ArePut old ps new) (sym parts) (subst (λ p. ArePut old (p ∷ []) new) c.left.ensures.value (put_one old c.left.result new c.in_ok-insert.ensures.keys))
