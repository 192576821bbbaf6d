-- So far the columns before this one are ruled.
use Rattle.std.proofs.Common.{◌≡◌, ◌++◌, flat_map, take, replicate, codes}
use Rattle.au_print.proofs.table_form.push_rule.Given as goal

abbrev pub invariant-loop-width : goal.invariant-loop-width
invariant-loop-width l = l.text.items ≡ l.initial.text.items ++ flat_map (λ w. replicate w 45 ++ codes "-+-") (take l.width-index l.widths.columns.items)
