-- The kinds of the first row of blocks, by those of the first block that has one.
use Rattle.std.specs.Prelude.{◌≡◌, ◌+◌, ℕ, Vec, true, false, List, [], ◌∷◌, ◌++◌, drop, is_some, map, slice_get, Option, Some, None}
use Rattle.std.specs.declared.alloc.Global.{Global}
use Rattle.std.specs.Option.{option_or}
use Rattle.std.proofs.Common.{refl, sym, ap, ◌∙◌}
use Rattle.au_value.specs.declared.kinds.Kind.{Kind}
use Rattle.au_value.specs.declared.kinds.Kind.TheVariants.{Int}
use Rattle.au_value.specs.declared.value.Value.{Value}
use Rattle.au_value.specs.Order.{kind_of}
use Rattle.au_algebra.specs.Lists.{value_at}
use Rattle.au_algebra.specs.Ordinary.{Rows}
use Rattle.au_blocks.specs.Blocks.{Choices}
use Rattle.au_plain.specs.Meaning.{kept}
use Rattle.au_translate.proofs.Places.{left_at}
use Rattle.au_translate.specs.EncodingPieces.{kept_apart}
use Rattle.au_batches.specs.BlockRows.{block_rows}
use Rattle.au_exec.specs.HeldRows.{first_row}
use Rattle.au_exec.specs.KnownKinds.{first_kinds, held_kinds}

-- the first row of two lists is that of the first, if it has one
first_of_two : (xs ys : Rows) → first_kinds (xs ++ ys) ≡ option_or (first_kinds xs) (first_kinds ys)
first_of_two [] ys = refl
first_of_two (x ∷ xs) ys = refl

-- a block more
pub first_apart : (places : List ℕ) (b : Choices) (bs : List Choices) → first_kinds (block_rows places (b ∷ bs)) ≡ option_or (first_kinds (block_rows places (b ∷ []))) (first_kinds (block_rows places bs))
first_apart places b bs = ap first_kinds (kept_apart places (b ∷ []) bs) ∙ first_of_two (block_rows places (b ∷ [])) (block_rows places bs)

-- the kind of what stands in a place, where it is the only row
pub kind_there : (rows : Rows) (place : ℕ) (v : Value) → v ∷ [] ≡ map (λ row. value_at row place) rows → kind_of v ≡ kind_of (value_at (first_row rows) place)
kind_there [] place v h = cc
kind_there (row ∷ rows) place v h = let same : v ≡ value_at row place = cc in ap kind_of same

pub kind_of_none : (rows : Rows) (place : ℕ) → [] ≡ map (λ row. value_at row place) rows → Int ≡ kind_of (value_at (first_row rows) place)
kind_of_none [] place h = refl
kind_of_none (row ∷ rows) place h = cc

-- the kinds of the places that are kept
kinds_kept : (row : List Value) (places : List ℕ) → map (λ place. kind_of (value_at row place)) places ≡ map kind_of (kept places row)
kinds_kept row [] = refl
kinds_kept row (p ∷ places) = ap (λ ks. kind_of (value_at row p) ∷ ks) (kinds_kept row places)

pub some_row : (rows : Rows) (places : List ℕ) (v : Value) → v ∷ [] ≡ map (λ row. value_at row 0) rows →
    Some (map (λ place. kind_of (value_at (first_row rows) place)) places) ≡ first_kinds (map (kept places) rows)
some_row [] places v h = cc
some_row (row ∷ rows) places v h = ap Some (kinds_kept row places)

pub no_row : (rows : Rows) (places : List ℕ) → [] ≡ map (λ row. value_at row 0) rows → None ≡ first_kinds (map (kept places) rows)
no_row [] places h = refl
no_row (row ∷ rows) places h = cc

-- a block without a row, and one with one
pub next_block : (places : List ℕ) (bs : List Choices) (i : ℕ) (b : Choices) (found : Option (Vec Kind Global)) (all : Option (List Kind)) → slice_get bs i ≡ Some b →
    held_kinds found ≡ first_kinds (block_rows places (b ∷ [])) → is_some found ≡ false →
    first_kinds (block_rows places (drop i bs)) ≡ all → first_kinds (block_rows places (drop (i + 1) bs)) ≡ all
next_block places bs i b None all at is none h =
    ap (λ o. option_or o (first_kinds (block_rows places (drop (i + 1) bs)))) is
    ∙ (sym (first_apart places b (drop (i + 1) bs)) ∙ (ap (λ l. first_kinds (block_rows places l)) (sym (left_at bs i b at)) ∙ h))
next_block places bs i b (Some ks) all at is none h = cc

pub this_block : (places : List ℕ) (bs : List Choices) (i : ℕ) (b : Choices) (found : Option (Vec Kind Global)) (all : Option (List Kind)) → slice_get bs i ≡ Some b →
    held_kinds found ≡ first_kinds (block_rows places (b ∷ [])) → is_some found ≡ true →
    first_kinds (block_rows places (drop i bs)) ≡ all → held_kinds found ≡ all
this_block places bs i b None all at is some h = cc
this_block places bs i b (Some ks) all at is some h =
    ap (λ o. option_or o (first_kinds (block_rows places (drop (i + 1) bs)))) is
    ∙ (sym (first_apart places b (drop (i + 1) bs)) ∙ (ap (λ l. first_kinds (block_rows places l)) (sym (left_at bs i b at)) ∙ h))
