-- Each operator on ranges keeps what its ranges stand for, and gives a range.
use Rattle.std.specs.Prelude.{◌≡◌, Bool, true, false, if◌then◌else◌, Result, Ok, Err, IfOk}
use Rattle.std.proofs.Common.{sym, ◌∙◌, refl, subst}
use Rattle.std.proofs.lemmas.Bool.{true≢false}
use Rattle.au_value.specs.declared.value.Value.{Value}
use Rattle.au_value.specs.Order.{at_most}
use Rattle.au_value.proofs.OrderLaws.{equal_is, equal_from, at_most_other}
use Rattle.au_value.specs.declared.kinds.Kind.{Kind}
use Rattle.au_value.specs.declared.kinds.Kind.TheVariants.{Int, Flag}
use Rattle.au_value.specs.declared.comparison.Comparison.{Comparison}
use Rattle.au_value.specs.Ranges.{Span, IsRangeOf, range, hull, lesser, greater}
use Rattle.au_expr.specs.Ordinary.{ordinary}
use Rattle.au_expr.specs.OnRanges.{on_ranges, chosen_between}
use Rattle.au_expr.specs.Holding.{WhichWorld, possible, guess, RangeIs, Within, GuessIs}
use Rattle.au_value.specs.declared.value.Value.TheVariants as value
use Rattle.au_value.specs.declared.faults.NoMemory.{NoMemory}
use Rattle.au_expr.specs.Truths.{IsThreeWay, range_of_truth}
use Rattle.au_expr.specs.declared.truth.ThreeWay.{ThreeWay}
use Rattle.au_expr.specs.Related.{Related}
use Rattle.au_expr.proofs.Within.{holds_along, guess_along}

-- in each world
pub ranges_kept : (w : WhichWorld) → Related (RangeIs w) on_ranges ordinary
ranges_kept possible = holds_along
ranges_kept guess = guess_along

-- a range holds its guess
pub within_guess : (k : Kind) (r : Span) → IsRangeOf k r → Within k r r.sg
within_guess k r p = record {
  lo_kind = p.range.lo_kind ∙ p.kind;
  hi_kind = p.range.hi_kind ∙ p.kind;
  kind = p.kind;
  lo = p.range.lo_sg;
  hi = p.range.sg_hi;
}

-- and guesses it
pub guesses_itself : (k : Kind) (r : Span) → IsRangeOf k r → GuessIs k r r.sg
guesses_itself k r p = record { valid = within_guess k r p; is = refl }

-- and what holds its own guess is a range
pub range_from : (k : Kind) (r : Span) → Within k r r.sg → IsRangeOf k r
range_from k r w = record {
  range = record { lo_kind = w.lo_kind ∙ sym w.kind; hi_kind = w.hi_kind ∙ sym w.kind; lo_sg = w.lo; sg_hi = w.hi };
  kind = w.kind;
}

module _ (a b : Span) where
  pub add_range : IsRangeOf Int a → IsRangeOf Int b → IsRangeOf Int (on_ranges.add a b)
  add_range p q = range_from Int _ (guess_along.add a b a.sg b.sg (guesses_itself Int a p) (guesses_itself Int b q)).valid

  pub subtract_range : IsRangeOf Int a → IsRangeOf Int b → IsRangeOf Int (on_ranges.subtract a b)
  subtract_range p q = range_from Int _ (guess_along.subtract a b a.sg b.sg (guesses_itself Int a p) (guesses_itself Int b q)).valid

  pub multiply_range : IsRangeOf Int a → IsRangeOf Int b → IsRangeOf Int (on_ranges.multiply a b)
  multiply_range p q = range_from Int _ (guess_along.multiply a b a.sg b.sg (guesses_itself Int a p) (guesses_itself Int b q)).valid

  pub compare_range : (how : Comparison) (k : Kind) → IsRangeOf k a → IsRangeOf k b → IsRangeOf Flag (on_ranges.compare how a b)
  compare_range how k p q = range_from Flag _ (guess_along.compare how k a b a.sg b.sg (guesses_itself k a p) (guesses_itself k b q)).valid

pub negate_range : (a : Span) → IsRangeOf Int a → IsRangeOf Int (on_ranges.negate a)
negate_range a p = range_from Int _ (guess_along.negate a a.sg (guesses_itself Int a p)).valid

whichever : (s t : Bool) (a b : Value) → (s ≡ true → t ≡ true → a ≡ b) → (s ≡ false → t ≡ true) → (if s then a else b) ≡ (if t then b else a)
whichever true true a b f g = f refl refl
whichever true false a b f g = refl
whichever false true a b f g = refl
whichever false false a b f g = absurd (true≢false (sym (g refl)))

-- the lesser and the greater of two values do not depend on their order
pub lesser_comm : (a b : Value) → lesser a b ≡ lesser b a
lesser_comm a b = whichever (at_most a b) (at_most b a) a b (λ p q. equal_is a b (equal_from a b p q)) (at_most_other a b)

pub greater_comm : (a b : Value) → greater a b ≡ greater b a
greater_comm a b = whichever (at_most a b) (at_most b a) b a (λ p q. sym (equal_is a b (equal_from a b p q))) (at_most_other a b)

swapped_hull : (a b : Span) → hull b a ≡ chosen_between false a b
swapped_hull a b = λ i. range (lesser_comm b.lo a.lo i) b.sg (greater_comm b.hi a.hi i)

-- the hull of the second and the first, where the guess is the second's
pub hull_otherwise : (t : Bool) (a b : Span) (r : Result Span NoMemory) → t ≡ false → IfOk r (λ x. x ≡ hull b a) → IfOk r (λ x. x ≡ chosen_between t a b)
hull_otherwise t a b (Ok x) f h = h ∙ swapped_hull a b ∙ (λ i. chosen_between (sym f i) a b)
hull_otherwise t a b (Err e) f h = h

ordered_flags : (p q : Bool) → at_most (value.Flag p) (value.Flag q) ≡ true → p ≡ true → q ≡ true
ordered_flags true true h g = refl
ordered_flags true false h g = h
ordered_flags false q h g = absurd (true≢false (sym g))

-- a range of flags is a valid truth
pub three_way_from : (t : ThreeWay) (r : Span) → range_of_truth t ≡ r → IsRangeOf Flag r → IsThreeWay t
three_way_from t r e p =
    let q = subst (λ s. IsRangeOf Flag s) (sym e) p in
    record { least_guess = ordered_flags t.least t.guess q.range.lo_sg; guess_most = ordered_flags t.guess t.most q.range.sg_hi }
