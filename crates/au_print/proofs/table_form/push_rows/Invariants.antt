-- So far the rows before this one are there.
use Rattle.std.proofs.Common.{◌≡◌, ◌++◌, flat_map, take, map}
use Rattle.au_algebra.specs.Entries.{entry}
use Rattle.au_print.specs.Tables.{cell_texts, triple_text, line}
use Rattle.au_print.proofs.table_form.push_rows.Given as goal

abbrev pub invariant-loop-ranges : goal.invariant-loop-ranges
invariant-loop-ranges l = l.text.items ≡ l.initial.text.items ++ flat_map (λ r. line l.widths.columns.items l.widths.row (cell_texts l.kinds r.cells) (triple_text r.annot)) (map (λ r. entry r.0.items r.1) (take l.ranges-index l.rows))
