-- What a decision does to a board.
use Rattle.std.proofs.Common.{◌≡◌, Bool, true, false, None, ap, sym, ◌∙◌, ℤ, if◌then◌else◌}
use Rattle.ct_trail.specs.Standing.{Standing, can_decide, decided, extended}
use Rattle.ct_sat.specs.Search.{Decides}

pub decides_is : (s t : Standing) (l : ℤ) (b : Bool) → b ≡ can_decide s l → t ≡ decided s l → Decides s b t
decides_is s t l true e is = (l, sym e, is ∙ ap (λ c. if c then extended s l None else s) (sym e))
decides_is s t l false e is = is ∙ ap (λ c. if c then extended s l None else s) (sym e)
