-- What std reads in a text of digits is its number, and such a text is UTF-8.
use Rattle.std.proofs.Common.{sym, ◌∙◌, ap, subst}
use Rattle.std.specs.Int.{w128}
use Rattle.std.specs.Str.Parse.{ParsesSigned}
use Rattle.au_value.specs.Numeral.{is_digits}
use Rattle.au_value.proofs.Numerals.{read, numeral_utf8}
use Rattle.au_value.proofs.numeral.read_numeral.Goals as goal

pub returns-in-Ok : goal.returns-in-Ok
returns-in-Ok c =
    let digits = ap is_digits (sym c.without_minus.ensures) ∙ sym c.is_digits.ensures ∙ c.if-not-is_digits.false in
    c.ok.ensures.value ∙ read c.args.text.now c.from_str_radix.result digits (subst (λ t. ParsesSigned w128 10 t c.from_str_radix.result) ((c.in-Ok.ensures).cases.0) c.from_str_radix.ensures.value)

pub returns-in-Err : goal.returns-in-Err
returns-in-Err c =
    let digits = ap is_digits (sym c.without_minus.ensures) ∙ sym c.is_digits.ensures ∙ c.if-not-is_digits.false in
    absurd ((c.in-Err.ensures.cases).0 (numeral_utf8 c.args.text.now digits))
