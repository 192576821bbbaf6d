use Rattle.std.proofs.Common.{codes, string_bytes}
use Rattle.au_explain.specs.Lines.{range_text}
use Rattle.au_sqltext.proofs.Spreads.{written3}
use Rattle.au_explain.proofs.operators.push_overlap.Goals as goal

pub returns : goal.returns
returns c =
    written3 (string_bytes c.args.out.now) (string_bytes c.push_range.new.out) (string_bytes c.push_str.new.self) (string_bytes c.push_range-2.new.out)
    (range_text (codes "x.") c.args.at.left_lo c.args.at.left_hi) (codes " overlapping ") (range_text (codes "y.") c.args.at.right_lo c.args.at.right_hi)
    c.in_ok-push_range.ensures c.in_ok-push_str.ensures.bytes c.in_ok-push_range-2.ensures
