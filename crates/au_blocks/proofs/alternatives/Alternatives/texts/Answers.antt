-- What the column holds is what each alternative has there.
use Rattle.std.proofs.Common.{◌<◌, arith, length}
use Rattle.au_value.specs.declared.value.Value.TheVariants as value
use Rattle.au_blocks.proofs.SingleValues.{if_values}
use Rattle.au_blocks.proofs.alternatives.Alternatives.texts.Goals as goal

pub returns-then-column-len : goal.returns-then-column-len
returns-then-column-len c =
    let a = c.self.inside in
    let low : c.args.column < length a.columns.items = grind (arith, a.columns.ok.0, c.len.ensures, c.if-column-len.true) in
    rw (← c.self.view_is)
    (if_values a.count a.columns.items a.times.items c.args.column c.item.result.now (rw c.deref.ensures.value at c.item.ensures) c.self.invariant low (λ x. value.Text x) (λ r. r.now) c.as_texts.result c.as_texts.ensures)
