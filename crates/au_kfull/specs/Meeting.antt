-- How rows meet: with equal guesses, with ranges that overlap, or certain and equal;
-- and the sums of a difference, by how rows meet.
use Rattle.std.specs.Prelude.{ℕ, Bool, List, filter, sum_by}
use Rattle.au_value.specs.Order.{equal}
use Rattle.au_value.specs.Ranges.{Span, overlap, certainly_equal, all_overlap, all_certainly_equal, guesses}
use Rattle.au_annot.specs.Triples.{Counts}
use Rattle.au_algebra.specs.Lists.{same_row}
use Rattle.au_algebra.specs.Bounded.{Bounded}
use Rattle.au_kfull.specs.declared.meeting.Meeting.{Meeting}
use Rattle.au_kfull.specs.declared.meeting.Meeting.TheVariants.{Guess, Overlap, Certain}
use Rattle.au_kfull.specs.declared.meeting.Part.{Part}
use Rattle.au_kfull.specs.declared.meeting.Part.TheVariants as part

-- whether two ranges meet
abbrev pub meets : Meeting → Span → Span → Bool
meets Guess a b = equal a.sg b.sg
meets Overlap a b = overlap a b
meets Certain a b = certainly_equal a b

-- whether two rows meet in each column
abbrev pub all_meet : Meeting → List Span → List Span → Bool
all_meet Guess xs ys = same_row (guesses xs) (guesses ys)
all_meet Overlap xs ys = all_overlap xs ys
all_meet Certain xs ys = all_certainly_equal xs ys

-- a count of a triple
abbrev pub count_of : Part → Counts → ℕ
count_of part.Least t = t.least
count_of part.Guess t = t.guess
count_of part.Most t = t.most

-- its sum over the rows that meet the given one
abbrev pub sum_meeting : Meeting → Part → List Span → Bounded → ℕ
sum_meeting how part cells rows = sum_by (λ r. count_of part r.annot) (filter (λ r. all_meet how cells r.cells) rows)
