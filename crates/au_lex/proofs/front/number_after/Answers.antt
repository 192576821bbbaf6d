use Rattle.std.proofs.Common.{arith, ◌≡◌, true}
use Rattle.std.specs.Char.{is_ascii_digit}
use Rattle.au_lex.proofs.Fronts.{too_great, digit_is, first_digit}
use Rattle.au_lex.proofs.front.number_after.Goals as goal

pub returns-then-value : goal.returns-then-value
returns-then-value c =
    too_great c.args.before c.loop-digit.value c.in-Some.digit.now c.args.digits.now c.loop-digit.rest.now c.in-Some.others.now c.loop-digit.invariant.0 c.in-Some.ensures.cases.0
    (omega arith)

pub returns-then-value-gt-MOST : goal.returns-then-value-gt-MOST
returns-then-value-gt-MOST c =
    let digit : is_ascii_digit c.in-Some.digit.now ≡ true = first_digit c.loop-digit.rest.now c.in-Some.others.now c.in-Some.digit.now c.in-Some.ensures.cases.0 c.loop-digit.invariant.1 in
    too_great c.args.before c.loop-digit.value c.in-Some.digit.now c.args.digits.now c.loop-digit.rest.now c.in-Some.others.now c.loop-digit.invariant.0 c.in-Some.ensures.cases.0
    (omega (arith, digit_is c.in-Some.digit.now digit))
