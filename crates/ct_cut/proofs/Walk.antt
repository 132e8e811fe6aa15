-- The walk that marks what the last step of a refutation needs.
use Rattle.std.proofs.Common.{◌≡◌, ℕ, suc, Bool, true, false, List, length, replicate, set, ap, ◌∙◌, sym, subst, arith, inl, inr, length-set, get_or-set_same}
use Rattle.std.{specs.Prelude.Contains, proofs.lemmas.Bool.{false≢true, cases_eq}}
use Rattle.std.proofs.lemmas.List.{length-replicate}
use Rattle.ct_cut.{specs.Marks.{is_marked, with_marks}, proofs.Marked.{length_marked, only_marked, still_marked, now_marked, marked_cases, marked_within}}
use Rattle.ct_cut.specs.Cut.{hints_at, HaveEarlier, AreNeeded}

-- before the walk the last place alone is marked
pub walk_starts : (hs : List (List ℕ)) (n last : ℕ) → n ≡ length hs → suc last ≡ n → AreNeeded hs n (set (replicate n false) last true)
walk_starts hs n last long e = record {
  long = length-set (replicate n false) last true ∙ length-replicate n false ∙ long;
  last = λ k is. subst (λ x. is_marked (set (replicate n false) last true) x ≡ true) (omega (arith, is, long, e)) (get_or-set_same (replicate n false) last true false (omega (arith, length-replicate n false, e)));
  closed = λ k h le m c. absurd (omega (arith, only_marked n last k m, le, e));
  each = λ k m. inl (omega (arith, only_marked n last k m, long, e));
}

module _ (hs : List (List ℕ)) (earlier : HaveEarlier hs) (place from : ℕ) (next : from ≡ suc place) (ms : List Bool) (walk : AreNeeded hs from ms) where
  -- a marked place has its hints marked
  pub walk_more : is_marked ms place ≡ true → AreNeeded hs place (with_marks ms (hints_at hs place))
  walk_more m = record {
    long = length_marked ms (hints_at hs place) ∙ walk.long;
    last = λ k e. still_marked ms (hints_at hs place) k (walk.last k e);
    closed = λ k h le e c. elim (marked_cases ms (hints_at hs place) k e) [
      | inr new ↦ absurd (omega (arith, earlier place k new, le))
      | inl old ↦ elim (cases_eq k place) [
        | inl same ↦ now_marked ms (hints_at hs place) h (omega (arith, earlier k h c, marked_within ms k old)) (subst (λ x. Contains (hints_at hs x) h) same c)
        | inr other ↦ still_marked ms (hints_at hs place) h (walk.closed k h (omega (arith, other, le, next)) old c)
      ]
    ];
    each = λ k e. elim (marked_cases ms (hints_at hs place) k e) [
      | inr new ↦ inr (record { place = place; marked = still_marked ms (hints_at hs place) place m; hint = new })
      | inl old ↦ elim (walk.each k old) [
        | inl end ↦ inl end
        | inr h ↦ inr (record { place = h.place; marked = still_marked ms (hints_at hs place) h.place h.marked; hint = h.hint })
      ]
    ];
  }

  -- one that is not marked needs none
  pub walk_skips : is_marked ms place ≡ false → AreNeeded hs place ms
  walk_skips m = record {
    long = walk.long;
    last = walk.last;
    closed = λ k h le e c. elim (cases_eq k place) [
      | inl same ↦ absurd (false≢true (sym m ∙ sym (ap (is_marked ms) same) ∙ e))
      | inr other ↦ walk.closed k h (omega (arith, other, le, next)) e c
    ];
    each = walk.each;
  }
