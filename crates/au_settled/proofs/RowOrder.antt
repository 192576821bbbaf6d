-- The order of rows by their numbers in places is the order of their ranges.
use Rattle.std.specs.Prelude.{◌≡◌, ℕ, zero, suc, List, [], ◌∷◌, ◌++◌, length, ℤ}
use Rattle.std.specs.declared.cmp.Ordering.{Ordering}
use Rattle.std.specs.declared.cmp.Ordering.TheVariants.{Less, Equal, Greater}
use Rattle.std.specs.Ordering.{int_cmp, ordering_then}
use Rattle.std.specs.Cmp.Lexicographic.{slice_cmp}
use Rattle.std.proofs.Common.{refl, sym, ◌∙◌, ap, arith}
use Rattle.std.proofs.lemmas.List.{length-map, map-append}
use Rattle.au_value.specs.declared.value.Value.TheVariants.{Int}
use Rattle.au_value.specs.Order.{order}
use Rattle.au_value.specs.Ranges.{guesses, lower_ends, upper_ends}
use Rattle.au_algebra.specs.Bounded.{ranges_order}
use Rattle.au_codes.specs.Codes.{Cells}
use Rattle.au_codes.specs.CellMeaning.{cell_in, cells_kept}
use Rattle.au_settled.specs.Settled.{values_of}
use Rattle.au_settled.specs.Places.{every_third, key_places, cells_order, spans_at}

-- numbers are ordered as they are as values
order_of_values : (xs ys : List ℤ) → slice_cmp int_cmp xs ys ≡ slice_cmp order (values_of xs) (values_of ys)
order_of_values [] [] = refl
order_of_values [] (y ∷ ys) = refl
order_of_values (x ∷ xs) [] = refl
order_of_values (x ∷ xs) (y ∷ ys) = ap (ordering_then (int_cmp x y)) (order_of_values xs ys)

then_grouped : (o p q : Ordering) → ordering_then o (ordering_then p q) ≡ ordering_then (ordering_then o p) q
then_grouped Less p q = refl
then_grouped Equal p q = refl
then_grouped Greater p q = refl

-- lists that are put together
order_joined : (xs bs cs ds : List ℤ) → length xs ≡ length cs → slice_cmp int_cmp (xs ++ bs) (cs ++ ds) ≡ ordering_then (slice_cmp int_cmp xs cs) (slice_cmp int_cmp bs ds)
order_joined [] bs [] ds e = refl
order_joined [] bs (c ∷ cs) ds e = absurd (omega (arith, e))
order_joined (a ∷ xs) bs [] ds e = absurd (omega (arith, e))
order_joined (a ∷ xs) bs (c ∷ cs) ds e =
    ap (ordering_then (int_cmp a c)) (order_joined xs bs cs ds (omega (arith, e)))
    ∙ then_grouped (int_cmp a c) (slice_cmp int_cmp xs cs) (slice_cmp int_cmp bs ds)

kept_long : (ps : List ℕ) (a b : Cells) → length (cells_kept ps a) ≡ length (cells_kept ps b)
kept_long ps a b = length-map ps (cell_in a) ∙ sym (length-map ps (cell_in b))

-- the order by places and by further ones
pub order_by_more : (ps qs : List ℕ) (a b : Cells) → cells_order (ps ++ qs) a b ≡ ordering_then (cells_order ps a b) (cells_order qs a b)
order_by_more ps qs a b =
    (λ i. slice_cmp int_cmp (map-append (cell_in a) ps qs i) (map-append (cell_in b) ps qs i))
    ∙ order_joined (cells_kept ps a) (cells_kept qs a) (cells_kept ps b) (cells_kept qs b) (kept_long ps a b)

-- the ends of the ranges from a place on
guesses_are : (i c : ℕ) (row : Cells) → values_of (cells_kept (every_third (suc i) c) row) ≡ guesses (spans_at i c row)
guesses_are i zero row = refl
guesses_are i (suc c) row = ap (λ l. Int (cell_in row (suc i)) ∷ l) (guesses_are (suc (suc (suc i))) c row)

lowers_are : (i c : ℕ) (row : Cells) → values_of (cells_kept (every_third i c) row) ≡ lower_ends (spans_at i c row)
lowers_are i zero row = refl
lowers_are i (suc c) row = ap (λ l. Int (cell_in row i) ∷ l) (lowers_are (suc (suc (suc i))) c row)

uppers_are : (i c : ℕ) (row : Cells) → values_of (cells_kept (every_third (suc (suc i)) c) row) ≡ upper_ends (spans_at i c row)
uppers_are i zero row = refl
uppers_are i (suc c) row = ap (λ l. Int (cell_in row (suc (suc i))) ∷ l) (uppers_are (suc (suc (suc i))) c row)

-- the order of rows
pub order_is : (c : ℕ) (a b : Cells) → cells_order (key_places c) a b ≡ ranges_order (spans_at 0 c a) (spans_at 0 c b)
order_is c a b =
    let first = order_of_values (cells_kept (every_third 1 c) a) (cells_kept (every_third 1 c) b) ∙ (λ i. slice_cmp order (guesses_are 0 c a i) (guesses_are 0 c b i)) in
    let second = order_of_values (cells_kept (every_third 0 c) a) (cells_kept (every_third 0 c) b) ∙ (λ i. slice_cmp order (lowers_are 0 c a i) (lowers_are 0 c b i)) in
    let third = order_of_values (cells_kept (every_third 2 c) a) (cells_kept (every_third 2 c) b) ∙ (λ i. slice_cmp order (uppers_are 0 c a i) (uppers_are 0 c b i)) in
    order_by_more (every_third 1 c) (every_third 0 c ++ every_third 2 c) a b
    ∙ ap (ordering_then (cells_order (every_third 1 c) a b)) (order_by_more (every_third 0 c) (every_third 2 c) a b)
    ∙ (λ i. ordering_then (first i) (ordering_then (second i) (third i)))
