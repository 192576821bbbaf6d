-- Lists that are as long as a list of one kind so often.
use Rattle.std.specs.Prelude.{◌≡◌, ◌≤◌, ℕ, List, [], ◌∷◌, length, map, replicate}
use Rattle.std.specs.List.{AllByRecursion, AllZip}
use Rattle.std.proofs.Common.{subst, ◌∙◌, refl, ap}
use Rattle.std.proofs.lemmas.List.{length-map, length-replicate}
use Rattle.std.proofs.lemmas.Slice.Zip.{AllZip-long}
use Rattle.au_value.specs.Ranges.{IsRangeOf, Span}
use Rattle.au_value.specs.declared.kinds.Kind.{Kind}
use Rattle.au_annot.specs.Triples.{IsTriple}
use Rattle.au_algebra.specs.Bounded.{RangeRow, Bounded}
use Rattle.au_algebra.specs.Laws.{IsRangeRow, IsRelation}
use Rattle.au_encode.specs.Encode.{HaveColumns}

-- what holds of each item holds beside the same kind so often
so_often : {A B : Type 0} (P : A → B → Type 0) (k : A) (xs : List B) → AllByRecursion (P k) xs → AllZip P (replicate (length xs) k) xs
so_often P k [] all = tt
so_often P k (x ∷ xs) all = (all.0, so_often P k xs all.1)

pub times : {A B : Type 0} (P : A → B → Type 0) (k : A) (n : ℕ) (xs : List B) → AllByRecursion (P k) xs → length xs ≡ n → AllZip P (replicate n k) xs
times P k n xs all is = subst (λ m. AllZip P (replicate m k) xs) is (so_often P k xs all)

-- a row of so many ranges of one kind
pub row_is : (k : Kind) (n : ℕ) (r : RangeRow) → AllByRecursion (IsRangeOf k) r.cells → length r.cells ≡ n → IsTriple r.annot → 1 ≤ r.annot.most → IsRangeRow (replicate n k) r
row_is k n r all is triple present = record { cells = times IsRangeOf k n r.cells all is; triple = triple; present = present }

-- a relation of so many columns of one kind has so many columns
pub have_columns : (k : Kind) (n : ℕ) (rows : Bounded) → IsRelation (replicate n k) rows → HaveColumns n rows
have_columns k n [] ok = tt
have_columns k n (r ∷ rows) ok = (AllZip-long IsRangeOf (replicate n k) r.cells ok.0.cells ∙ length-replicate n k, have_columns k n rows ok.1)

-- tables that are held, so many of the same kinds
pub so_many : {A B C : Type 0} (P : A → B → Type 0) (f : C → B) (k : A) (n : ℕ) (xs : List C) → AllByRecursion (P k) (map f xs) → length xs ≡ n → AllZip P (replicate n k) (map f xs)
so_many P f k n xs all is = times P k n (map f xs) all (length-map xs f ∙ is)
