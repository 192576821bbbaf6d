-- The order of lists of ranges is total, and its ties are the equal lists.
use Rattle.std.specs.Prelude.{◌≡◌, ◌&&◌, false, List}
use Rattle.std.specs.declared.cmp.Ordering.{Ordering}
use Rattle.std.specs.declared.cmp.Ordering.TheVariants.{Less, Equal, Greater}
use Rattle.std.specs.Ordering.{ordering_then, ordering_reverse, is_eq, is_gt, is_lt}
use Rattle.std.specs.Cmp.{IsTotalOrder, both_tied}
use Rattle.std.specs.Cmp.Lexicographic.{slice_cmp, lists_ties}
use Rattle.std.proofs.Common.{refl, sym, ◌∙◌, ap}
use Rattle.std.proofs.lemmas.Bool.{true≢false}
use Rattle.std.proofs.lemmas.Cmp.{then_total, on_total, lists_total, upto}
use Rattle.au_value.specs.Order.{order}
use Rattle.au_value.specs.Ranges.{Span, guesses, lower_ends, upper_ends}
use Rattle.au_value.proofs.OrderLaws.{order_total}
use Rattle.au_algebra.specs.Lists.{same_row}
use Rattle.au_algebra.specs.Bounded.{ranges_order, same_ranges}
use Rattle.au_algebra.proofs.KeptByMerging.{same_ranges_is}

-- the order is total
pub ranges_total : IsTotalOrder ranges_order
ranges_total =
    then_total (on_total guesses (lists_total order_total))
    (then_total (on_total lower_ends (lists_total order_total)) (on_total upper_ends (lists_total order_total)))

ends_tie : (xs ys : List Span) → (same_row (lower_ends xs) (lower_ends ys) && same_row (upper_ends xs) (upper_ends ys)) ≡ is_eq (ordering_then (slice_cmp order (lower_ends xs) (lower_ends ys)) (slice_cmp order (upper_ends xs) (upper_ends ys)))
ends_tie xs ys =
    both_tied (same_row (lower_ends xs) (lower_ends ys)) (same_row (upper_ends xs) (upper_ends ys)) (slice_cmp order (lower_ends xs) (lower_ends ys)) (slice_cmp order (upper_ends xs) (upper_ends ys))
    (lists_ties order (λ x y. refl) (lower_ends xs) (lower_ends ys))
    (lists_ties order (λ x y. refl) (upper_ends xs) (upper_ends ys))

-- its ties are the equal lists
pub ranges_tie : (xs ys : List Span) → same_ranges xs ys ≡ is_eq (ranges_order xs ys)
ranges_tie xs ys =
    both_tied (same_row (guesses xs) (guesses ys)) (same_row (lower_ends xs) (lower_ends ys) && same_row (upper_ends xs) (upper_ends ys)) (slice_cmp order (guesses xs) (guesses ys)) (ordering_then (slice_cmp order (lower_ends xs) (lower_ends ys)) (slice_cmp order (upper_ends xs) (upper_ends ys)))
    (lists_ties order (λ x y. refl) (guesses xs) (guesses ys))
    (ends_tie xs ys)

-- lists that tie are one list
pub tied_is : (xs ys : List Span) → ranges_order xs ys ≡ Equal → xs ≡ ys
tied_is xs ys e = same_ranges_is xs ys (ranges_tie xs ys ∙ ap is_eq e)

-- a list below another is not it
pub below_other : (xs ys : List Span) → ranges_order xs ys ≡ Less → same_ranges xs ys ≡ false
below_other xs ys e = ranges_tie xs ys ∙ ap is_eq e

-- and no other is equal to both
pub turned_over : (xs ys : List Span) → ranges_order xs ys ≡ Greater → ranges_order ys xs ≡ Less
turned_over xs ys e = ranges_total.antisymm ys xs ∙ ap ordering_reverse e

less_by : (r : Ordering) → is_gt r ≡ false → is_eq r ≡ false → r ≡ Less
less_by Less g e = refl
less_by Equal g e = absurd (true≢false e)
less_by Greater g e = absurd (true≢false g)

-- what is not above another and not equal to it is below it
pub less_from : (xs ys : List Span) → is_gt (ranges_order xs ys) ≡ false → same_ranges xs ys ≡ false → ranges_order xs ys ≡ Less
less_from xs ys g e = less_by (ranges_order xs ys) g (sym (ranges_tie xs ys) ∙ e)

-- what is not below another is not above it the other way round
gt_turned : (r : Ordering) → is_lt r ≡ false → is_gt (ordering_reverse r) ≡ false
gt_turned Less h = absurd (true≢false h)
gt_turned Equal h = refl
gt_turned Greater h = refl

pub not_above : (xs ys : List Span) → is_lt (ranges_order ys xs) ≡ false → is_gt (ranges_order xs ys) ≡ false
not_above xs ys h = ap is_gt (ranges_total.antisymm xs ys) ∙ gt_turned (ranges_order ys xs) h

-- not being above chains
pub not_above_chains : (xs ys zs : List Span) → is_gt (ranges_order xs ys) ≡ false → is_gt (ranges_order ys zs) ≡ false → is_gt (ranges_order xs zs) ≡ false
not_above_chains xs ys zs g h = upto ranges_total xs ys zs g h
