-- Select, Project, Product and Union over any domain and annotation (Green, Karvounarakis, Tannen, PODS 2007).
-- Ranges with triples and values with counts are two of these.
use Rattle.std.specs.Prelude.{ℕ, ◌+◌, ◌*◌, ◌==◌, Bool, true, false, ◌&&◌, not, List, [], ◌++◌, map, filter, flat_map, unwrap_or, slice_get}
use Rattle.au_value.specs.declared.value.Value.{Value}
use Rattle.au_value.specs.Ranges.{Span, guesses}
use Rattle.au_annot.specs.Triples.{Counts, none, one, plus, times, is_none}
use Rattle.au_expr.specs.Terms.{Term}
use Rattle.au_expr.specs.Evaluate.{Operators, evaluate}
use Rattle.au_expr.specs.Ordinary.{ordinary}
use Rattle.au_algebra.specs.Bounded.{Bounded, truth, weight}
use Rattle.au_algebra.specs.Counted.{CountedRow}
use Rattle.au_algebra.specs.Entries.{Entry, entry}
use Rattle.au_algebra.specs.Trees.{Tree, Table, Select, Project, Product, Union, Difference, Distinct, Group, Total}

-- what annotations do, and the annotation of a condition's cell
pub record Annotations (Cell K : Type 0) : Type 0 where
  pub zero : K
  pub one : K
  pub plus : K → K → K
  pub times : K → K → K
  pub is_zero : K → Bool
  pub weight : Cell → K

module _ {Cell K : Type 0} (d : Operators Cell) (a : Annotations Cell K) where
  -- the rows whose annotation is not zero
  abbrev pub present : List (Entry Cell K) → List (Entry Cell K)
  present rows = filter (λ r. not (a.is_zero r.annot)) rows

  abbrev pub select : Term → List (Entry Cell K) → List (Entry Cell K)
  select e rows = present (map (λ r. entry r.cells (a.times r.annot (a.weight (evaluate d e r.cells)))) rows)

  abbrev pub project : List Term → List (Entry Cell K) → List (Entry Cell K)
  project items rows = present (map (λ r. entry (map (λ e. evaluate d e r.cells) items) r.annot) rows)

  abbrev pub product : List (Entry Cell K) → List (Entry Cell K) → List (Entry Cell K)
  product xs ys = present (flat_map (λ x. map (λ y. entry (x.cells ++ y.cells) (a.times x.annot y.annot)) ys) xs)

  abbrev pub union : List (Entry Cell K) → List (Entry Cell K) → List (Entry Cell K)
  union xs ys = present (xs ++ ys)

  -- the answer of a tree with these four and Table alone, and no row of any other
  abbrev pub positive : Tree → List (List (Entry Cell K)) → List (Entry Cell K)
  positive (Table i) ts = unwrap_or (slice_get ts i) []
  positive (Select e q) ts = select e (positive q ts)
  positive (Project items q) ts = project items (positive q ts)
  positive (Product q r) ts = product (positive q ts) (positive r ts)
  positive (Union q r) ts = union (positive q ts) (positive r ts)
  positive (Difference q r) ts = []
  positive (Distinct q) ts = []
  positive (Group keys aggs q) ts = []
  positive (Total aggs q) ts = []

-- whether a tree has these four and Table alone
abbrev pub is_positive : Tree → Bool
is_positive (Table i) = true
is_positive (Select e q) = is_positive q
is_positive (Project items q) = is_positive q
is_positive (Product a b) = is_positive a && is_positive b
is_positive (Union a b) = is_positive a && is_positive b
is_positive (Difference a b) = false
is_positive (Distinct q) = false
is_positive (Group keys aggs q) = false
is_positive (Total aggs q) = false

-- triples as annotations of ranges
abbrev pub triples : Annotations Span Counts
triples = record { zero = none; one = one; plus = plus; times = times; is_zero = is_none; weight = weight }

-- counts as annotations of values
abbrev pub counting_annotations : Annotations Value ℕ
counting_annotations = record { zero = 0; one = 1; plus = λ m n. m + n; times = λ m n. m * n; is_zero = λ n. n == 0; weight = truth }

-- the guessed rows with their counts, those with none left out
abbrev pub guessed_rows : Bounded → List CountedRow
guessed_rows rows = present ordinary counting_annotations (map (λ r. entry (guesses r.cells) r.annot.guess) rows)
