-- What each operator promises, as a step.
use Rattle.std.proofs.Common.{rules}
use Rattle.au_expr.proofs.combine.combine.Goals as goal

pub returns-in-Compare : goal.returns-in-Compare
returns-in-Compare g c = rw c.in-Compare.is (record {
  value = c.compare.ensures.value;
  kind = c.compare.ensures.kind;
  held = c.compare.ensures.held;
  fits = search rules;
  keeps = λ w u v h. c.compare.ensures.keeps w h.0 u v h.1 h.2;
})
