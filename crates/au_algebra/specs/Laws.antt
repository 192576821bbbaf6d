-- What the bounded answer promises of the ordinary one,
-- for each typed tree over well-formed relations.
use Rattle.std.specs.Prelude.{◌≡◌, ◌≤◌, List, Bool, IsTrue, Some, map}
use Rattle.std.specs.List.{AllByRecursion, AllZip}
use Rattle.au_value.specs.declared.kinds.Kind.{Kind}
use Rattle.au_value.specs.declared.value.Value.{Value}
use Rattle.au_value.specs.Ranges.{IsRangeOf}
use Rattle.au_annot.specs.Triples.{IsTriple}
use Rattle.au_expr.specs.Ordinary.{ordinary}
use Rattle.au_algebra.specs.Trees.{Tree}
use Rattle.au_algebra.specs.Lists.{SameUpToOrder, same_row, copies}
use Rattle.au_algebra.specs.Typing.{kinds_of, IsTyped}
use Rattle.au_algebra.specs.Ordinary.{Rows, answer}
use Rattle.au_algebra.specs.Bounded.{RangeRow, Bounded, bounded, combine, normal, bounded_answer}
use Rattle.au_algebra.specs.Distribution.{Bounds, guess_count}
use Rattle.au_algebra.specs.Positive.{is_positive, guessed_rows, counting_annotations, positive}

-- a row of ranges of these kinds, of which a copy is possible
pub record IsRangeRow (ks : List Kind) (r : RangeRow) : Type 0 where
  pub cells : AllZip IsRangeOf ks r.cells
  pub triple : IsTriple r.annot
  pub present : 1 ≤ r.annot.most

-- rows of ranges of these kinds
abbrev pub IsRelation : List Kind → Bounded → Type 0
IsRelation ks rows = AllByRecursion (IsRangeRow ks) rows

-- the relation guesses each row as often as the list has it
abbrev pub Guesses : Bounded → Rows → Type 0
Guesses rows w = (row : List Value) → guess_count rows row ≡ copies row w

-- Where each table bounds a list, the bounded relation of a typed tree bounds the tree's ordinary answer.
abbrev pub AnswerIsBounded : Type 0
AnswerIsBounded =
    (q : Tree) (kinds : List (List Kind)) (ts : List Bounded) (ws : List Rows) →
    IsTyped kinds q → AllZip IsRelation kinds ts → AllZip Bounds ts ws → Bounds (bounded q ts) (answer q ws)

-- The counted guesses of a typed tree are its ordinary answer over the tables' counted guesses.
abbrev pub GuessIsExact : Type 0
GuessIsExact =
    (q : Tree) (kinds : List (List Kind)) (ts : List Bounded) (ws : List Rows) →
    IsTyped kinds q → AllZip IsRelation kinds ts → AllZip Guesses ts ws → Guesses (bounded q ts) (answer q ws)

-- Combine and the normal form keep both.
pub record KeepsBoth (op : Bounded → Bounded) : Type 0 where
  pub bounds : (ks : List Kind) (rows : Bounded) (w : Rows) → IsRelation ks rows → Bounds rows w → Bounds (op rows) w
  pub guesses : (ks : List Kind) (rows : Bounded) (w : Rows) → IsRelation ks rows → Guesses rows w → Guesses (op rows) w

abbrev pub FormsKeepBoth : Type 0
FormsKeepBoth = KeepsBoth combine × KeepsBoth normal

-- The bounded answer of a typed tree, combined or not, has rows of ranges of the tree's kinds.
abbrev pub AnswerIsRelation : Type 0
AnswerIsRelation =
    (combined : Bool) (q : Tree) (kinds : List (List Kind)) (ks : List Kind) (ts : List Bounded) →
    kinds_of kinds q ≡ Some ks → AllZip IsRelation kinds ts → IsRelation ks (bounded_answer combined q ts)

-- Whether a relation bounds a list does not depend on the list's order.
abbrev pub BoundsUpToOrder : Type 0
BoundsUpToOrder = (rows : Bounded) (c d : Rows) → SameUpToOrder same_row c d → Bounds rows c → Bounds rows d

-- The guessed rows of a typed tree of the four positive operators are its answer, with counts, over the tables' guessed rows.
abbrev pub PositiveGuesses : Type 0
PositiveGuesses =
    (q : Tree) (kinds : List (List Kind)) (ts : List Bounded) →
    IsTrue (is_positive q) → IsTyped kinds q → AllZip IsRelation kinds ts →
    guessed_rows (bounded q ts) ≡ positive ordinary counting_annotations q (map guessed_rows ts)
