-- The records of a block table as runs, one for each label.
-- Where labels are in order, such a run is a part of the table.
use Rattle.std.specs.Prelude.{ℕ, List, length, map, bytes_eq}
use Rattle.std.specs.Borrow.{Bor}
use Rattle.std.specs.declared.cmp.Ordering.{Ordering}
use Rattle.std.specs.Ordering.{nat_cmp, ordering_then}
use Rattle.std.specs.Cmp.Lexicographic.{slice_cmp}
use Rattle.au_value.specs.Lists.{distinct}
use Rattle.au_csv.specs.Texts.{Record}
use Rattle.au_blocks.specs.Entries.{label_of, labelled}

-- the order of labels: a shorter one first, and those of one length by their bytes
abbrev pub label_order : List ℕ → List ℕ → Ordering
label_order a b = ordering_then (nat_cmp (length a) (length b)) (slice_cmp nat_cmp a b)

-- the records of each label, in the order in which the labels come first
abbrev pub by_labels : List Record → List (List Record)
by_labels rows = map (λ label. labelled label rows) (distinct bytes_eq (map label_of rows))

-- the records of runs that are lent
abbrev pub lent_runs : List (Bor (List Record)) → List (List Record)
lent_runs runs = map (λ run. run.now) runs
