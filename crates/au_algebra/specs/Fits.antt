-- The numbers of a bounded answer,
-- and whether each lies in the range of 128 bits.
use Rattle.std.specs.Prelude.{Bool, false, List, [], ◌∷◌, ◌++◌, map, take, filter, flat_map, sum_by, ℤ, pos, nat_abs, if◌then◌else◌}
use Rattle.std.specs.List.{list_all}
use Rattle.au_value.specs.Ranges.{Span, certain, all_overlap, all_certainly_equal, guesses}
use Rattle.au_value.specs.Numeral.{is_i128}
use Rattle.au_annot.specs.Triples.{counts}
use Rattle.au_expr.specs.Numbers.{expr_numbers}
use Rattle.au_algebra.specs.declared.query.Agg.{Agg}
use Rattle.au_algebra.specs.declared.query.Agg.TheVariants.{Sum, Min, Max}
use Rattle.au_algebra.specs.Trees.{Tree, Table, Select, Project, Product, Union, Difference, Distinct, Group, Total}
use Rattle.au_algebra.specs.Counted.{CountedRow}
use Rattle.au_algebra.specs.Entries.{entry}
use Rattle.au_algebra.specs.Bounded.{RangeRow, Bounded, Grouped, bounded, combine, normal, guessing, most_of, guess_of, least_of, grouped, all_rows, guessed_keys, lower_term, upper_term, guess_term}

-- the components of the triples
abbrev pub triple_numbers : Bounded → List ℤ
triple_numbers rows = flat_map (λ r. pos r.annot.least ∷ pos r.annot.guess ∷ pos r.annot.most ∷ []) rows

-- the three sums over the right rows of a difference
abbrev pub difference_sums : Bounded → RangeRow → List ℤ
difference_sums right t =
    pos (most_of (filter (λ r. all_overlap t.cells r.cells) right))
    ∷ pos (guess_of (guessing (guesses t.cells) right))
    ∷ pos (least_of (filter (λ r. all_certainly_equal t.cells r.cells) right))
    ∷ []

-- the terms, and the sum of their magnitudes
abbrev pub term_numbers : List ℤ → List ℤ
term_numbers terms = pos (sum_by nat_abs terms) ∷ terms

-- the numbers of an aggregate
abbrev pub agg_numbers : Grouped → Agg → List ℤ
agg_numbers g (Sum c) =
    term_numbers (map (lower_term g c) g.members)
    ++ (term_numbers (map (guess_term c) g.belonging) ++ term_numbers (map (upper_term g c) g.members))
agg_numbers g (Min c) = []
agg_numbers g (Max c) = []

-- the numbers of an operator's own work, given the relations that it works on
abbrev pub grouping_numbers : (List Span → List Span) → List Agg → Bounded → List ℤ
grouping_numbers keys aggs rows =
    flat_map (λ guess. flat_map (agg_numbers (grouped keys rows guess)) aggs) (guessed_keys keys rows)

-- the numbers of the parts of a tree, and of its own triples
abbrev pub numbers : Tree → List Bounded → List ℤ
numbers (Table i) ts = triple_numbers (bounded (Table i) ts)
numbers (Select e q) ts =
    numbers q ts ++ (flat_map (λ r. expr_numbers e r.cells) (bounded q ts) ++ triple_numbers (bounded (Select e q) ts))
numbers (Project items q) ts =
    numbers q ts ++ flat_map (λ r. flat_map (λ e. expr_numbers e r.cells) items) (bounded q ts)
numbers (Product a b) ts = numbers a ts ++ (numbers b ts ++ triple_numbers (bounded (Product a b) ts))
numbers (Union a b) ts = numbers a ts ++ numbers b ts
numbers (Difference a b) ts =
    numbers a ts
    ++ (numbers b ts
    ++ (triple_numbers (combine (bounded a ts))
    ++ (flat_map (difference_sums (bounded b ts)) (combine (bounded a ts)) ++ triple_numbers (bounded (Difference a b) ts))))
numbers (Distinct q) ts = numbers q ts ++ triple_numbers (bounded (Distinct q) ts)
numbers (Group keys aggs q) ts =
    numbers q ts ++ (grouping_numbers (take keys) aggs (bounded q ts) ++ triple_numbers (bounded (Group keys aggs q) ts))
numbers (Total aggs q) ts = numbers q ts ++ flat_map (agg_numbers (all_rows (bounded q ts))) aggs

-- the numbers of the answer, with those of the combined rows where that is asked for, and of the normal form
abbrev pub answer_numbers : Bool → Tree → List Bounded → List ℤ
answer_numbers combined q ts =
    let rows = if combined then combine (bounded q ts) else bounded q ts in
    numbers q ts ++ (triple_numbers rows ++ triple_numbers (normal rows))

-- whether the triples of a relation lie in the range
abbrev pub triples_fit : Bounded → Bool
triples_fit rows = list_all is_i128 (triple_numbers rows)

abbrev pub fits : Bool → Tree → List Bounded → Bool
fits combined q ts = list_all is_i128 (answer_numbers combined q ts)

-- each counted row as ranges of one value, with its count as least, guess and most
abbrev pub certain_rows : List CountedRow → Bounded
certain_rows rows = map (λ r. entry (map certain r.cells) (counts r.annot r.annot r.annot)) rows

-- the same over the counted rows of the guess world alone
abbrev pub guess_fits : Tree → List (List CountedRow) → Bool
guess_fits q ts = fits false q (map certain_rows ts)
