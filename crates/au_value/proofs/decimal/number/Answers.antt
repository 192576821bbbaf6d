-- What std reads in a text of digits is their number, and such a text is UTF-8.
use Rattle.std.proofs.Common.{sym, ◌∙◌, subst}
use Rattle.std.specs.Str.Parse.{ParsesUnsigned, digits_value}
use Rattle.au_value.specs.Decimal.{Reads}
use Rattle.au_value.specs.Numeral.{is_digits}
use Rattle.au_value.proofs.Decimals.{read_digits, digits_utf8}
use Rattle.au_value.proofs.decimal.number.Goals as goal

pub returns-in-Ok : goal.returns-in-Ok
returns-in-Ok c =
    let digits = sym c.is_digits.ensures ∙ c.if-not-is_digits.false in
    let parsed = subst (λ t. ParsesUnsigned 128 10 t c.from_str_radix.result) (c.in-Ok.ensures.cases.0) c.from_str_radix.ensures.value in
    subst (λ r. Reads (is_digits c.args.digits.now) (digits_value 10 c.args.digits.now) r) (sym c.ok.ensures.value) (read_digits c.args.digits.now c.from_str_radix.result digits parsed)

pub returns-in-Err : goal.returns-in-Err
returns-in-Err c =
    let digits = sym c.is_digits.ensures ∙ c.if-not-is_digits.false in
    absurd (c.in-Err.ensures.cases.0 (digits_utf8 c.args.digits.now digits))
