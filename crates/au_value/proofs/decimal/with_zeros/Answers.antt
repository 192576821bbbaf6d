-- Where 128 bits don't hold the digits' number, they don't with zeros behind it.
use Rattle.std.specs.Str.Parse.{digits_value}
use Rattle.au_value.specs.Numeral.{is_digits}
use Rattle.au_value.proofs.Decimals.{more_zeros}
use Rattle.au_value.proofs.decimal.with_zeros.Goals as goal

pub returns-in_err-number : goal.returns-in_err-number
returns-in_err-number c = rw (c.from_residual.ensures) (more_zeros (is_digits c.args.digits.now) (digits_value 10 c.args.digits.now) c.args.zeros c.in_err-number.ensures)
