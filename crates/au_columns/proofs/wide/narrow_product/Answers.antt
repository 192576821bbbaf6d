-- A product of two numbers of 64 bits fits 128.
use borrow.Author.Numbers.{signed_product}
use Rattle.std.proofs.Common.{w64}
use Rattle.std.specs.Int.{w128}
use Rattle.au_columns.proofs.wide.narrow_product.Goals as goal

pub overflow_mul-result : goal.overflow_mul-result
overflow_mul-result c = signed_product w128 w64 w64 c.args.a c.args.b c.ranges.a c.ranges.b tt
