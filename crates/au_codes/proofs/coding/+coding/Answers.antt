-- Lists of expressions are taken out, coded and put back.
use Rattle.std.proofs.Common.{ap, ◌∙◌, arith}
use Rattle.au_plain.specs.PTerms.{pterm}
use Rattle.au_codes.specs.CodedPlans.{coded_term}
use Rattle.au_codes.specs.TextCodes.{text_code}
use Rattle.au_codes.proofs.CodedInPlace.{same_items, least_coded, greatest_coded}
use Rattle.au_codes.proofs.coding.+coding.Goals as goal

pub code_expr-returns-in-Least-replace : goal.code_expr-returns-in-Least-replace
code_expr-returns-in-Least-replace t c =
    least_coded (text_code c.args.book.now) c.in-Least-replace.es c.code_exprs.result c.code_exprs.ensures
    ∙ ap (λ e. coded_term (text_code c.args.book.now) (pterm e)) c.in-Least-replace.ensures.value

pub code_expr-returns-in-Greatest-replace : goal.code_expr-returns-in-Greatest-replace
code_expr-returns-in-Greatest-replace t c =
    greatest_coded (text_code c.args.book.now) c.in-Greatest-replace.es c.code_exprs-in-Greatest-replace.result c.code_exprs-in-Greatest-replace.ensures
    ∙ ap (λ e. coded_term (text_code c.args.book.now) (pterm e)) c.in-Greatest-replace.ensures.value

pub code_exprs-returns : goal.code_exprs-returns
code_exprs-returns t c =
    same_items pterm (λ e. coded_term (text_code c.args.book.now) (pterm e)) c.loop-i.es.items c.args.es.items c.loop-i.invariant.0.0
    (λ k d l. c.loop-i.invariant.1 k d (omega (arith, l, c.loop-i-test.false, c.len-i-end.ensures)))
