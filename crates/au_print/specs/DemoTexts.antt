-- The four lines of a demonstration: how many rows an answer has,
-- and how often they occur in all at least, in the guess world, and at most.
use Rattle.std.specs.Prelude.{ℕ, List, ◌++◌, map, length, codes, decimal}
use Rattle.au_annot.specs.Triples.{Counts, total_counts}
use Rattle.au_algebra.specs.Bounded.{Bounded}

-- the sum of the triples
abbrev pub triple_sum : Bounded → Counts
triple_sum rows = total_counts (map (λ r. r.annot) rows)

-- a word and a number, in a line of their own
abbrev pub counted_line : List ℕ → ℕ → List ℕ
counted_line word n = word ++ codes " " ++ decimal n ++ codes "\n"

abbrev pub demo_text : Bounded → List ℕ
demo_text rows =
    counted_line (codes "rows") (length rows)
    ++ counted_line (codes "least") (triple_sum rows).least
    ++ counted_line (codes "guess") (triple_sum rows).guess
    ++ counted_line (codes "most") (triple_sum rows).most
