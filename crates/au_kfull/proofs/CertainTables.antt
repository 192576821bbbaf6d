-- Tables of values as bounded relations: their kinds, what they guess, and what the guesses of a relation stand for.
use Rattle.std.specs.Prelude.{◌≡◌, ℕ, zero, suc, ◌==◌, ◌≤◌, Bool, true, false, not, cond, List, [], ◌∷◌, map}
use Rattle.std.specs.List.{AllZip}
use Rattle.std.proofs.Common.{arith, refl, sym, ◌∙◌, ap, subst}
use Rattle.std.proofs.lemmas.Bool.{eqb-true}
use Rattle.au_value.specs.declared.kinds.Kind.{Kind}
use Rattle.au_value.specs.declared.value.Value.{Value}
use Rattle.au_value.specs.Ranges.{Span, IsRangeOf, certain, guesses}
use Rattle.au_value.proofs.RangeLaws.{IsRange-certain}
use Rattle.au_expr.specs.Ordinary.{IsKind}
use Rattle.au_algebra.specs.Bounded.{Bounded, bounded}
use Rattle.au_algebra.specs.Counted.{CountedRow, count_of, occurring, StandsFor}
use Rattle.au_algebra.specs.Distribution.{guess_count}
use Rattle.au_algebra.specs.Entries.{entry}
use Rattle.au_algebra.specs.Fits.{certain_rows}
use Rattle.au_algebra.specs.Laws.{IsRelation, Guesses}
use Rattle.au_algebra.specs.Lists.{same_row}
use Rattle.au_algebra.specs.Ordinary.{Rows, answer}
use Rattle.au_algebra.specs.Positive.{guessed_rows}
use Rattle.au_algebra.specs.Trees.{Tree}
use Rattle.au_algebra.proofs.Choices.{cond_zero}
use Rattle.au_algebra.proofs.Counted.{count_of-cons, count_of-if}
use Rattle.au_algebra.proofs.GuessCounts.{guess-cons}
use Rattle.au_algebra.proofs.TreeGuesses.{guess_is_exact}
use Rattle.au_algebra.proofs.TreeRelation.{tree_relation}
use Rattle.au_kfull.specs.Embedding.{IsCountedTable, embedded, embedded_row}
use Rattle.au_kfull.specs.Typed.{IsTypedOver, IsTypedOverValues, HasValueKinds}

-- ---- the kinds of the ranges

certain_kinds : (ks : List Kind) (vs : List Value) → AllZip IsKind ks vs → AllZip IsRangeOf ks (map certain vs)
certain_kinds [] [] z = tt
certain_kinds [] (v ∷ vs) z = elim z [ ]
certain_kinds (k ∷ ks) [] z = elim z [ ]
certain_kinds (k ∷ ks) (v ∷ vs) z = (record { range = IsRange-certain v; kind = z.0 }, certain_kinds ks vs z.1)

some_copy : (n : ℕ) → (n == 0) ≡ false → 1 ≤ n
some_copy zero e = absurd (cc)
some_copy (suc n) e = omega arith

relation_if : (b : Bool) (ks : List Kind) (r : CountedRow) (rows : List CountedRow) → (r.annot == 0) ≡ b → AllZip IsKind ks r.cells → IsRelation ks (map embedded_row rows) → IsRelation ks (map embedded_row (cond (not b) (r ∷ rows) rows))
relation_if true ks r rows e z ok = ok
relation_if false ks r rows e z ok =
    (record { cells = certain_kinds ks r.cells z; triple = record { least_guess = omega arith; guess_most = omega arith }; present = some_copy r.annot e }, ok)

-- a table of values is a relation of its kinds
pub embedded_relation : (ks : List Kind) (rows : List CountedRow) → IsCountedTable ks rows → IsRelation ks (embedded rows)
embedded_relation ks [] ok = tt
embedded_relation ks (r ∷ rows) ok = relation_if (r.annot == 0) ks r _ refl ok.0.cells (embedded_relation ks rows ok.1)

all_relations : (kinds : List (List Kind)) (ts : List (List CountedRow)) → AllZip IsCountedTable kinds ts → AllZip IsRelation kinds (map embedded ts)
all_relations [] [] z = tt
all_relations [] (t ∷ ts) z = elim z [ ]
all_relations (k ∷ kinds) [] z = elim z [ ]
all_relations (k ∷ kinds) (t ∷ ts) z = (embedded_relation k t z.0, all_relations kinds ts z.1)

-- a tree that is typed for tables of values is typed for their relations
pub typed_embedded : (q : Tree) (ts : List (List CountedRow)) → IsTypedOverValues q ts → IsTypedOver q (map embedded ts)
typed_embedded q ts o = (o.0, o.1, all_relations o.0 ts o.2)

-- ---- what the relation of a table guesses

pub certain_guesses : (vs : List Value) → guesses (map certain vs) ≡ vs
certain_guesses [] = refl
certain_guesses (v ∷ vs) = ap (λ ws. v ∷ ws) (certain_guesses vs)

guesses_if : (b : Bool) (v : List Value) (r : CountedRow) (rows all : List CountedRow) → (r.annot == 0) ≡ b → guess_count (map embedded_row rows) v ≡ count_of all v → guess_count (map embedded_row (cond (not b) (r ∷ rows) rows)) v ≡ count_of (r ∷ all) v
guesses_if true v r rows all e h =
    let none : cond (same_row v r.cells) r.annot 0 ≡ 0 = cond_zero (same_row v r.cells) r.annot (eqb-true r.annot 0 e) in
    omega (arith, h, none, count_of-cons v r all)
guesses_if false v r rows all e h =
    let same : cond (same_row v (guesses (map certain r.cells))) r.annot 0 ≡ cond (same_row v r.cells) r.annot 0 =
    ap (λ vs. cond (same_row v vs) r.annot 0) (certain_guesses r.cells) in
    omega (arith, h, same, guess-cons v (embedded_row r) (map embedded_row rows), count_of-cons v r all)

-- the relation guesses a row as often as the table counts it
pub embedded_guesses : (v : List Value) (rows : List CountedRow) → guess_count (embedded rows) v ≡ count_of rows v
embedded_guesses v [] = refl
embedded_guesses v (r ∷ rows) = guesses_if (r.annot == 0) v r _ rows refl (embedded_guesses v rows)

-- the relation guesses each list that the table stands for
pub table_guesses : (t : List CountedRow) (w : Rows) → StandsFor t w → Guesses (embedded t) w
table_guesses t w z = λ v. embedded_guesses v t ∙ sym (z v)

all_guess : (ts : List (List CountedRow)) (ws : List Rows) → AllZip StandsFor ts ws → AllZip Guesses (map embedded ts) ws
all_guess [] [] z = tt
all_guess [] (w ∷ ws) z = elim z [ ]
all_guess (t ∷ ts) [] z = elim z [ ]
all_guess (t ∷ ts) (w ∷ ws) z = (table_guesses t w z.0, all_guess ts ws z.1)

-- ---- what the guesses of a relation stand for

-- the guessed rows count a row as often as the relation guesses it
pub guessed_counts : (v : List Value) (rows : Bounded) → count_of (guessed_rows rows) v ≡ guess_count rows v
guessed_counts v [] = refl
guessed_counts v (r ∷ rows) =
    count_of-if (r.annot.guess == 0) v (entry (guesses r.cells) r.annot.guess) (guessed_rows rows) (guess_count rows v) refl (guessed_counts v rows)
    ∙ sym (guess-cons v r rows)

-- the guessed rows stand for each list that the relation guesses
pub stands_guessed : (rows : Bounded) (w : Rows) → Guesses rows w → StandsFor (guessed_rows rows) w
stands_guessed rows w g = λ v. sym (g v) ∙ sym (guessed_counts v rows)

guess_kinds : (ks : List Kind) (rs : List Span) → AllZip IsRangeOf ks rs → AllZip IsKind ks (guesses rs)
guess_kinds [] [] z = tt
guess_kinds [] (r ∷ rs) z = elim z [ ]
guess_kinds (k ∷ ks) [] z = elim z [ ]
guess_kinds (k ∷ ks) (r ∷ rs) z = (z.0.kind, guess_kinds ks rs z.1)

table_if : (b : Bool) (ks : List Kind) (r : CountedRow) (rows : List CountedRow) → AllZip IsKind ks r.cells → IsCountedTable ks rows → IsCountedTable ks (cond b (r ∷ rows) rows)
table_if true ks r rows z ok = (record { cells = z; annot = tt }, ok)
table_if false ks r rows z ok = ok

-- the guessed rows have the relation's kinds
pub guessed_table : (ks : List Kind) (rows : Bounded) → IsRelation ks rows → IsCountedTable ks (guessed_rows rows)
guessed_table ks [] ok = tt
guessed_table ks (r ∷ rows) ok =
    table_if (not (r.annot.guess == 0)) ks (entry (guesses r.cells) r.annot.guess) (guessed_rows rows) (guess_kinds ks r.cells ok.0.cells) (guessed_table ks rows ok.1)

module _ (q : Tree) (ts : List (List CountedRow)) (rel : List CountedRow) (same : rel ≡ guessed_rows (bounded q (map embedded ts))) where
  -- the guessed rows stand for the answer
  pub stands_for : IsTypedOverValues q ts → (ws : List Rows) → AllZip StandsFor ts ws → StandsFor rel (answer q ws)
  stands_for o ws z =
      let typed = typed_embedded q ts o in
      let exact = guess_is_exact q typed.0 (map embedded ts) ws typed.1 typed.2 (all_guess ts ws z) in
      λ v. stands_guessed (bounded q (map embedded ts)) (answer q ws) exact v ∙ ap (λ rows. count_of rows v) (sym same)

  -- and have the tree's kinds
  pub has_value_kinds : HasValueKinds q ts rel
  has_value_kinds kinds ks ok h =
      subst (IsCountedTable ks) (sym same) (guessed_table ks (bounded q (map embedded ts)) (tree_relation kinds (map embedded ts) (all_relations kinds ts ok) q ks h))

-- ---- tables without rows of no copy

all_present : (ts : List (List CountedRow)) → map embedded ts ≡ map certain_rows (map occurring ts)
all_present [] = refl
all_present (t ∷ ts) = ap (λ rows. embedded t ∷ rows) (all_present ts)

-- tables in which each row has a copy are their certain rows
pub present_rows : (ts : List (List CountedRow)) → map occurring ts ≡ ts → map embedded ts ≡ map certain_rows ts
present_rows ts e = all_present ts ∙ ap (map certain_rows) e
