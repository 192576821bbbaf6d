-- Values and rows are ordered as their codes are.
use Rattle.au_codes.proofs.KeptOrder.{values_order, rows_order, rows_equal}
use Rattle.au_codes.proofs.theorems.codes_keep_order.Goals as goal

pub returns : goal.returns
returns c = record { values = values_order; rows = rows_order; equal = rows_equal }
