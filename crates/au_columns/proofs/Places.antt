-- Places of true flags, each of which is written behind the others.
use Rattle.std.specs.Prelude.{◌≡◌, ◌<◌, ◌+◌, ℕ, Bool, true, false, List, [], ◌∷◌, ◌++◌, length, take, ℤ, pos, if◌then◌else◌}
use Rattle.std.proofs.Common.{sym, ap, ◌∙◌, arith, set}
use Rattle.std.proofs.lemmas.List.{append-nil, length-take-le, take-set, take_more, take_more_set}
use Rattle.au_codes.specs.CellMeaning.{truth}
use Rattle.au_columns.specs.Steps.{number_at}
use Rattle.au_columns.specs.Batches.{one_if_true, places_where}

-- a place, if its flag is true
abbrev place_if : Bool → ℕ → List ℕ
place_if b n = if b then n ∷ [] else []

more_if : (b : Bool) (a : ℕ) (ps qs rest : List ℕ) → ps ≡ qs ++ rest → (if b then a ∷ ps else ps) ≡ (if b then a ∷ qs else qs) ++ rest
more_if true a ps qs rest e = ap (λ (l : List ℕ). a ∷ l) e
more_if false a ps qs rest e = e

where_more : (a n : ℕ) (zs : List ℤ) (z : ℤ) → a + length zs ≡ n → places_where a (zs ++ z ∷ []) ≡ places_where a zs ++ place_if (truth z) n
where_more a n [] z e = let same : a ≡ n = omega (arith, e) in ap (place_if (truth z)) same
where_more a n (y ∷ zs) z e = more_if (truth y) a (places_where (a + 1) (zs ++ z ∷ [])) (places_where (a + 1) zs) (place_if (truth z) n) (where_more (a + 1) n zs z (omega (arith, e)))

written : (b : Bool) (places : List ℕ) (count i : ℕ) → count < length places → take (count + one_if_true b) (set places count i) ≡ take count places ++ place_if b i
written true places count i below = take_more_set places count i below
written false places count i below =
    let none : count + 0 ≡ count = omega arith in
    ap (λ n. take n (set places count i)) none ∙ take-set places count i ∙ sym (append-nil (take count places))

-- the place of one flag more
pub next_places :
    (flags : List ℤ) (places : List ℕ) (i count : ℕ) → count < length places → i < length flags → take count places ≡ places_where 0 (take i flags) →
    take (count + one_if_true (truth (number_at flags i))) (set places count i) ≡ places_where 0 (take (i + 1) flags)
next_places flags places i count below within is =
    let z = number_at flags i in
    let front = length-take-le i flags (omega (arith, within)) in
    let len : 0 + length (take i flags) ≡ i = omega (arith, front) in
    written (truth z) places count i below
    ∙ (ap (λ (l : List ℕ). l ++ place_if (truth z) i) is
    ∙ (sym (where_more 0 i (take i flags) z len)
    ∙ ap (places_where 0) (sym (take_more flags i (pos 0) within))))
