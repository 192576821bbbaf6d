-- Cells of one value alone hold one row, and alternatives that have the same such cells hold the same row.
use Rattle.std.specs.Prelude.{◌≡◌, ℕ, zero, suc, true, ◌&&◌, List, [], ◌∷◌, slice_get, Some}
use Rattle.std.specs.List.{list_all}
use Rattle.std.proofs.Common.{refl, sym, ◌∙◌, subst}
use Rattle.std.proofs.lemmas.Bool.{and_parts, and_from, true≢false}
use Rattle.au_value.specs.declared.kinds.Kind.{Kind}
use Rattle.au_value.specs.declared.value.Value.{Value}
use Rattle.au_value.specs.Order.{at_most, equal}
use Rattle.au_value.specs.Ranges.{Span, holds, is_certain, certainly_equal, all_hold, all_certain, all_certainly_equal, guesses, lower_ends}
use Rattle.au_value.proofs.OrderLaws.{equal_from, equal_is}
use Rattle.au_blocks.specs.Blocks.{Candidate}
use Rattle.au_blocks.specs.Tables.{fits_kinds, is_range_of}
use Rattle.au_algebra.proofs.Items.{some_is}
use Rattle.au_translate.proofs.Alternatives.{is_of, passes_at}
use Rattle.au_ua.specs.UaTables.{all_same}

-- ---- one row

one_value : (c : Span) (v : Value) → is_certain c ≡ true → holds c v ≡ true → v ≡ c.lo
one_value c v sure h =
    let p = and_parts (at_most c.lo v) (at_most v c.hi) h in
    let low : at_most v c.lo ≡ true = subst (λ u. at_most v u ≡ true) (sym (equal_is c.lo c.hi sure)) p.1 in
    equal_is v c.lo (equal_from v c.lo low p.0)

one_row : (cs : List Span) (row : List Value) → all_certain cs ≡ true → all_hold cs row ≡ true → row ≡ lower_ends cs
one_row [] [] sure h = refl
one_row [] (v ∷ row) sure h = absurd (true≢false (sym h))
one_row (c ∷ cs) [] sure h = absurd (true≢false (sym h))
one_row (c ∷ cs) (v ∷ row) sure h =
    let p = and_parts (is_certain c) (all_certain cs) sure in
    let q = and_parts (holds c v) (all_hold cs row) h in
    λ i. one_value c v p.0 q.0 i ∷ one_row cs row p.1 q.1 i

-- cells hold their guesses
pub guesses_held : (ks : List Kind) (cs : List Span) → fits_kinds ks cs ≡ true → all_hold cs (guesses cs) ≡ true
guesses_held [] [] h = refl
guesses_held [] (c ∷ cs) h = absurd (true≢false (sym h))
guesses_held (k ∷ ks) [] h = absurd (true≢false (sym h))
guesses_held (k ∷ ks) (c ∷ cs) h =
    let p = and_parts (is_range_of k c) (fits_kinds ks cs) h in
    let own = is_of k c p.0 in
    and_from (holds c c.sg) (all_hold cs (guesses cs)) (and_from (at_most c.lo c.sg) (at_most c.sg c.hi) own.lo_sg own.sg_hi) (guesses_held ks cs p.1)

-- ---- the same cells

same_ends : (xs ys : List Span) → all_certainly_equal xs ys ≡ true → (all_certain ys ≡ true) × (lower_ends xs ≡ lower_ends ys)
same_ends [] [] h = (refl, refl)
same_ends [] (y ∷ ys) h = absurd (true≢false (sym h))
same_ends (x ∷ xs) [] h = absurd (true≢false (sym h))
same_ends (x ∷ xs) (y ∷ ys) h =
    let p = and_parts (certainly_equal x y) (all_certainly_equal xs ys) h in
    let q = and_parts (is_certain x && is_certain y) (equal x.lo y.lo) p.0 in
    let sure = and_parts (is_certain x) (is_certain y) q.0 in
    let rest = same_ends xs ys p.1 in
    (and_from (is_certain y) (all_certain ys) sure.1 rest.0, λ i. equal_is x.lo y.lo q.1 i ∷ rest.1 i)

-- each of alternatives that are the same has the ends of the first, and is certain
as_first : (a : Candidate) (others : List Candidate) → all_same (a ∷ others) ≡ true → (i : ℕ) (b : Candidate) → slice_get (a ∷ others) i ≡ Some b → (all_certain b.cells ≡ true) × (lower_ends a.cells ≡ lower_ends b.cells)
as_first a others h zero b e =
    let p = and_parts (all_certain a.cells) (list_all (λ x. all_certainly_equal a.cells x.cells) others) h in
    subst (λ x. (all_certain x.cells ≡ true) × (lower_ends a.cells ≡ lower_ends x.cells)) (some_is a b e) (p.0, refl)
as_first a others h (suc i) b e =
    let p = and_parts (all_certain a.cells) (list_all (λ x. all_certainly_equal a.cells x.cells) others) h in
    same_ends a.cells b.cells (passes_at (λ x. all_certainly_equal a.cells x.cells) others p.1 i b e)

-- rows that two of them hold are one
pub same_rows : (xs : List Candidate) → all_same xs ≡ true → (i j : ℕ) (a b : Candidate) → slice_get xs i ≡ Some a → slice_get xs j ≡ Some b → (u v : List Value) → all_hold a.cells u ≡ true → all_hold b.cells v ≡ true → u ≡ v
same_rows [] same i j a b e f u v h k = cc
same_rows (x ∷ xs) same i j a b e f u v h k =
    let p = as_first x xs same i a e in
    let q = as_first x xs same j b f in
    one_row a.cells u p.0 h ∙ sym p.1 ∙ q.1 ∙ sym (one_row b.cells v q.0 k)
