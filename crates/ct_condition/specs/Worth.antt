-- What places are worth in a world.
use Rattle.std.specs.Prelude.{◌≡◌, ◌<◌, ◌+◌, ℕ, ⊤, Bool, true, false, not, ◌&&◌, ◌||◌, List, [], length, Option, Some, None, IsTrue, slice_get}
use Rattle.ct_word.specs.declared.kinds.Kind.{Kind}
use Rattle.ct_word.specs.declared.kinds.Kind.TheVariants as kind
use Rattle.ct_word.specs.declared.kinds.Class.TheVariants as class
use Rattle.ct_word.specs.declared.values.Value.{Value}
use Rattle.ct_word.specs.declared.values.Term.{Term}
use Rattle.ct_word.specs.declared.values.Term.TheVariants as term
use Rattle.ct_word.specs.Value.{World, at, same_value}
use Rattle.ct_word.specs.Condition.{holds_at}
use Rattle.ct_word.specs.Reading.{Meaning, IsText, IsTerm, IsCond, meanings, condition_at, term_at}
use Rattle.ct_word.specs.WellFormed.{is_place_of}
use Rattle.ct_word.specs.WordAt.{backwards}
use Rattle.ct_condition.specs.Nulls.{beginning, longer, or_past, pair_from, pair_with}
use Rattle.ct_condition.specs.declared.valued.Worth.{Worth}
use Rattle.ct_condition.specs.declared.valued.Worth.TheVariants as worth

-- each place of a condition of these words has its truth
pub record AreWorths (words : List ℕ) (v : World) (truths : List Bool) : Type 0 where
  pub count : length truths ≡ length words
  pub each : (p : ℕ) → IsTrue (is_place_of words class.Cond p) → slice_get truths p ≡ Some (holds_at v (condition_at words p))

-- a term is worth the value of its own place, or that of a pair of the world
abbrev pub term_worth : World → Term → Worth
term_worth v (term.Value x) = worth.Constant
term_worth v (term.Null n) = worth.Pair (or_past v (pair_from 0 v n))
term_worth v (term.Column k) = worth.Pair (length v)

-- a text is worth the number of a beginning
abbrev pub text_worth : Option ℕ → Worth
text_worth None = worth.Nothing
text_worth (Some k) = worth.Text k

-- what is stood for is worth this in a world whose names have these beginnings
abbrev pub IsWorth : List (ℕ × ℕ) → World → Option Meaning → Worth → Type 0
IsWorth steps v (Some (IsText t)) w = (cs : List ℕ) × (t ≡ backwards cs) × (w ≡ text_worth (beginning steps cs))
IsWorth steps v (Some (IsTerm t)) w = w ≡ term_worth v t
IsWorth steps v (Some (IsCond c)) w = w ≡ worth.Truth (holds_at v c)
IsWorth steps v _ w = ⊤

-- each of these places has its worth
abbrev pub HaveWorths : List ℕ → List (ℕ × ℕ) → World → List Worth → Type 0
HaveWorths words steps v worths = (p : ℕ) → p < length worths → (w : Worth) × (slice_get worths p ≡ Some w) × IsWorth steps v (slice_get (meanings words) p) w

-- a term is a value
abbrev pub IsConstant : Term → Type 0
IsConstant t = (x : Value) × (t ≡ term.Value x)

-- the place is one of a term, and has its worth
pub record IsTermAt (words : List ℕ) (v : World) (worths : List Worth) (p : ℕ) : Type 0 where
  pub placed : IsTrue (is_place_of words class.Term p)
  pub worth : slice_get worths p ≡ Some (term_worth v (term_at words p))

-- whether this is the truth true
abbrev pub is_true : Worth → Bool
is_true (worth.Truth b) = b
is_true _ = false

-- whether the truth true is there
abbrev pub is_true_at : Option Worth → Bool
is_true_at (Some w) = is_true w
is_true_at None = false

-- the number of a beginning, if it has one
abbrev pub number_in : Option Worth → Option ℕ
number_in (Some (worth.Text k)) = Some k
number_in _ = None

-- the number of a pair, if it is the worth of one
abbrev pub pair_in : Option Worth → Option ℕ
pair_in (Some (worth.Pair k)) = Some k
pair_in _ = None

-- what a word of a text of this kind is worth, by what the place in its left field is worth
abbrev pub text_by : List (ℕ × ℕ) → Kind → List Worth → ℕ → ℕ → Worth
text_by steps kind.TextCharacter worths a b = text_worth (longer steps (number_in (slice_get worths a)) b)
text_by steps _ worths a b = worth.Text 0

-- the number kept for the name with a number, if it has one
abbrev pub pair_named : List ((ℕ × ℕ) × ℕ) → Option ℕ → Option ℕ
pair_named pairs None = None
pair_named pairs (Some k) = pair_with pairs 0 k

-- what a word of a term of this kind is worth, by what the place in its left field is worth
abbrev pub term_by : List ((ℕ × ℕ) × ℕ) → World → Kind → List Worth → ℕ → ℕ → Worth
term_by pairs v kind.NamedNull worths a b = worth.Pair (or_past v (pair_named pairs (number_in (slice_get worths a))))
term_by pairs v kind.FreshNull worths a b = worth.Pair (or_past v (pair_with pairs (a + 1) b))
term_by pairs v kind.Column worths a b = worth.Pair (length v)
term_by pairs v _ worths a b = worth.Constant

-- the truth of a word of a condition of this kind, by what the places in its fields are worth
abbrev pub truth_by : List ℕ → World → Kind → List Worth → ℕ → ℕ → Bool
truth_by words v kind.True worths a b = true
truth_by words v kind.Equal worths a b = same_value (at v [] (term_at words a)) (at v [] (term_at words b))
truth_by words v kind.Not worths a b = not (is_true_at (slice_get worths a))
truth_by words v kind.And worths a b = is_true_at (slice_get worths a) && is_true_at (slice_get worths b)
truth_by words v kind.Or worths a b = is_true_at (slice_get worths a) || is_true_at (slice_get worths b)
truth_by words v _ worths a b = false
