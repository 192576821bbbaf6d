-- A width is written where it is greater.
use Rattle.std.proofs.Common.{arith}
use Rattle.au_print.proofs.TableWidths.{widened_set, widened_kept, none_widened_at}
use Rattle.au_print.proofs.widths.widen_at.Goals as goal
use Rattle.au_print.proofs.widths.widen_at.Goals.{else-i-len-via-then-i-len+else-index-width, else-i-len-via-else-i-len}

pub returns-then-index-width : goal.returns-then-index-width
returns-then-index-width c =
    widened_set c.args.columns.now.items c.args.i c.index.result.now c.args.width (omega (arith, c.if-i-len.true, c.len.ensures)) c.index.ensures c.if-index-width.true

pub returns-else-i-len : goal.returns-else-i-len
returns-else-i-len c = elim c.else-i-len.branch [
  | else-i-len-via-then-i-len+else-index-width w ↦ widened_kept c.args.columns.now.items c.args.i w.index.result.now c.args.width (omega (arith, w.if-i-len.true, c.len.ensures)) w.index.ensures w.if-index-width.false
  | else-i-len-via-else-i-len w ↦ none_widened_at c.args.columns.now.items c.args.i c.args.width (omega (arith, w.if-i-len.false, c.len.ensures))
]
