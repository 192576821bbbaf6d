-- Sums of two lists are the sum of both together.
use Rattle.std.proofs.Common.{◌+◌, ◌^◌, ◌<◌, ◌++◌, refl, ap, sym, ◌∙◌, arith, le-leb, lt_of_not-le, true≢false}
use Rattle.au_value.specs.Joining.{joined_sum}
use Rattle.au_evaltests.specs.Summed.{summed}
use Rattle.au_evaltests.specs.SumLaws.{summed-append}
use Rattle.au_evaltests.proofs.sum_tests.joined.Goals as goal

pub returns-in-Ok : goal.returns-in-Ok
returns-in-Ok c = λ xs ys a b.
    let whole = c.in-Ok.ensures.sum ∙ ((λ i. joined_sum (a.0 i) (b.0 i)) ∙ sym (summed-append xs ys)) in
    let parts = ap (λ s. s.magnitude) c.in-Ok.ensures.sum in
    let all = ap (λ s. s.magnitude) whole in
    let small : c.args.first.now.magnitude + c.args.second.now.magnitude < 2 ^ 127 = lt_of_not-le (λ h. true≢false (sym (c.in-Ok.ensures.overflow.1 h))) in
    (whole, omega arith)

pub returns-in-Err : goal.returns-in-Err
returns-in-Err c = λ xs ys a b.
    let first = ap (λ s. s.magnitude) a.0 in
    let second = ap (λ s. s.magnitude) b.0 in
    let all = ap (λ s. s.magnitude) (summed-append xs ys) in
    let over = c.in-Err.ensures.overflow.0 refl in
    (refl, le-leb (2 ^ 127) (summed (xs ++ ys)).magnitude (omega arith))
