-- A table's bounded rows bound its rows in every world, and guess those of its guess world exactly.
use Rattle.std.specs.Prelude.{◌≡◌, ℕ, zero, suc, ◌+◌, ◌≤◌, ◌<◌, Bool, true, false, cond, List, [], ◌∷◌, length, map, replicate, fold, min, max, slice_get, unwrap_or, Option, Some, None, option_map, option_and_then}
use Rattle.std.specs.List.{AllByRecursion, AllZip, list_all}
use Rattle.std.proofs.Common.{arith, refl, sym, ◌∙◌, ap}
use Rattle.std.proofs.lemmas.Bool.{and_parts, true≢false}
use Rattle.au_value.specs.declared.kinds.Kind.{Kind}
use Rattle.au_value.specs.declared.value.Value.{Value}
use Rattle.au_value.specs.Ranges.{Span, all_hold, guesses}
use Rattle.au_blocks.specs.Blocks.{Candidate, candidate, once, Choices, MayMark, IsBlock, IsCopies}
use Rattle.au_blocks.specs.Tables.{BlockTable, IsTable, fits_kinds, column_kinds}
use Rattle.au_blocks.specs.Worlds.{Taken, taken, Offers, TableWorld, IsTableWorld, chosen, rows_in, guess_choice}
use Rattle.au_algebra.specs.Lists.{same_row, copies}
use Rattle.au_algebra.specs.Distribution.{Bounds, guess_count}
use Rattle.au_algebra.specs.Laws.{IsRelation, Guesses}
use Rattle.au_algebra.proofs.Spread.{Takes, Spread, no_rows, next_row, Spread-Bounds}
use Rattle.au_algebra.proofs.Shuffles.{one_after}
use Rattle.au_algebra.proofs.Each.{all_at}
use Rattle.au_algebra.proofs.Copies.{copies-cons, copies-append}
use Rattle.au_algebra.proofs.Choices.{cond_zero}
use Rattle.au_algebra.proofs.GuessCounts.{guess-cons, guess-present}
use Rattle.au_algebra.proofs.KeptBySelect.{spread-present}
use Rattle.au_algebra.proofs.PositiveRelation.{present_relation}
use Rattle.au_algebra.proofs.RelationRows.{IsLooseRow, IsLoose, Triples}
use Rattle.au_translate.specs.Translate.{marked_or_first, ranges_of, least_number, greatest_number, triple_of, block_row, bounded_table}
use Rattle.au_translate.proofs.Alternatives.{spans_hold, spans_ranges, guesses-spans, fits_long, passes_at}

-- ---- the alternative that is shown

pub place_within : {X : Type 0} (xs : List X) (d : X) (i : ℕ) → i < length xs → slice_get xs i ≡ Some (unwrap_or (slice_get xs i) d)
place_within [] d i h = let never : ⊥ = omega (arith, h) in absurd never
place_within (x ∷ xs) d zero h = refl
place_within (x ∷ xs) d (suc i) h = place_within xs d i (omega (arith, h))

-- each alternative of a block fits
FitsBlock : List Kind → Choices → Type 0
FitsBlock ks b = list_all (λ a. fits_kinds ks a.cells) b.alternatives ≡ true

-- the alternative that is shown where this choice is marked
abbrev shown_at : Choices → Option ℕ → Candidate
shown_at b o = unwrap_or (slice_get b.alternatives (unwrap_or o 0)) (candidate [] once)

pub guess_within : (b : Choices) (o : Option ℕ) → MayMark b o → 0 < length b.alternatives → unwrap_or o 0 < length b.alternatives
guess_within b None h some = some
guess_within b (Some i) h some = h

pub shown_place : (b : Choices) (o : Option ℕ) → MayMark b o → 0 < length b.alternatives → slice_get b.alternatives (unwrap_or o 0) ≡ Some (shown_at b o)
shown_place b o h some = place_within b.alternatives (candidate [] once) (unwrap_or o 0) (guess_within b o h some)

-- ---- numbers of copies

fold_min : (n : ℕ) (ns : List ℕ) → fold min n ns ≤ n
fold_min n [] = omega arith
fold_min n (m ∷ ns) = let rest = fold_min (min n m) ns in omega (arith, rest)

min_at : (f : Candidate → ℕ) (n : ℕ) (xs : List Candidate) (i : ℕ) (x : Candidate) → slice_get xs i ≡ Some x → fold min n (map f xs) ≤ f x
min_at f n [] i x h = cc
min_at f n (y ∷ xs) zero x h =
    let same : f y ≡ f x = let e : y ≡ x = cc in ap f e in
    let rest = fold_min (min n (f y)) (map f xs) in omega (arith, rest, same)
min_at f n (y ∷ xs) (suc i) x h = min_at f (min n (f y)) xs i x h

least_at : (f : Candidate → ℕ) (xs : List Candidate) (i : ℕ) (x : Candidate) → slice_get xs i ≡ Some x → least_number (map f xs) ≤ f x
least_at f [] i x h = cc
least_at f (y ∷ xs) zero x h =
    let same : f y ≡ f x = let e : y ≡ x = cc in ap f e in
    let rest = fold_min (f y) (map f xs) in omega (arith, rest, same)
least_at f (y ∷ xs) (suc i) x h = min_at f (f y) xs i x h

fold_max : (n : ℕ) (ns : List ℕ) → n ≤ fold max n ns
fold_max n [] = omega arith
fold_max n (m ∷ ns) = let rest = fold_max (max n m) ns in omega (arith, rest)

greatest_at : (f : Candidate → ℕ) (n : ℕ) (xs : List Candidate) (i : ℕ) (x : Candidate) → slice_get xs i ≡ Some x → f x ≤ fold max n (map f xs)
greatest_at f n [] i x h = cc
greatest_at f n (y ∷ xs) zero x h =
    let same : f y ≡ f x = let e : y ≡ x = cc in ap f e in
    let rest = fold_max (max n (f y)) (map f xs) in omega (arith, rest, same)
greatest_at f n (y ∷ xs) (suc i) x h = greatest_at f (max n (f y)) xs i x h

-- ---- a block becomes a row of ranges

least_guess_if : (optional : Bool) (o : Option ℕ) (l g : ℕ) → l ≤ g → (o ≡ None → optional ≡ true) → cond optional 0 l ≤ unwrap_or (option_map (λ (i : ℕ). g) o) 0
least_guess_if true o l g h absent = omega arith
least_guess_if false (Some i) l g h absent = h
least_guess_if false None l g h absent = absurd (true≢false (sym (absent refl)))

guess_most_if : (o : Option ℕ) (g m : ℕ) → g ≤ m → unwrap_or (option_map (λ (i : ℕ). g) o) 0 ≤ m
guess_most_if None g m h = omega arith
guess_most_if (Some i) g m h = h

absent_optional : (b : Choices) (o : Option ℕ) → MayMark b o → o ≡ None → b.optional ≡ true
absent_optional b None h e = h
absent_optional b (Some i) h e = cc

pub triple_order : (b : Choices) → IsBlock b → ((triple_of b).least ≤ (triple_of b).guess) × ((triple_of b).guess ≤ (triple_of b).most)
triple_order b ok =
    let at = shown_place b b.guess ok.guess ok.nonempty in
    let own : IsCopies (marked_or_first b).copies = all_at (λ a. IsCopies a.copies) b.alternatives (unwrap_or b.guess 0) (marked_or_first b) ok.copies at in
    let least = least_at (λ a. a.copies.least) b.alternatives (unwrap_or b.guess 0) (marked_or_first b) at in
    let most = greatest_at (λ a. a.copies.most) 0 b.alternatives (unwrap_or b.guess 0) (marked_or_first b) at in (
      least_guess_if b.optional b.guess (least_number (map (λ a. a.copies.least) b.alternatives)) (marked_or_first b).copies.guess (omega (arith, least, own.least_guess)) (absent_optional b b.guess ok.guess),
      guess_most_if b.guess (marked_or_first b).copies.guess (greatest_number (map (λ a. a.copies.most) b.alternatives)) (omega (arith, most, own.guess_most)),
    )

block_is_row : (ks : List Kind) (b : Choices) → IsBlock b → FitsBlock ks b → IsLooseRow ks (block_row b)
unfolding FitsBlock
block_is_row ks b ok fit =
    let order = triple_order b ok in
    record {
      cells = spans_ranges b.alternatives (unwrap_or b.guess 0) (marked_or_first b) (shown_place b b.guess ok.guess ok.nonempty) ks ok.nonempty fit;
      triple = record { least_guess = order.0; guess_most = order.1 };
    }

-- ---- what a block's row takes

length-guesses : (b : Choices) → length (guesses (marked_or_first b).cells) ≡ length (marked_or_first b).cells
length-guesses b = each (marked_or_first b).cells where
  each : (cs : List Span) → length (guesses cs) ≡ length cs
  each [] = refl
  each (c ∷ cs) = ap suc (each cs)

row_held : (ks : List Kind) (b : Choices) → IsBlock b → FitsBlock ks b → (i : ℕ) (a : Candidate) (row : List Value) → slice_get b.alternatives i ≡ Some a → all_hold a.cells row ≡ true → all_hold (ranges_of b) row ≡ true
unfolding FitsBlock
row_held ks b ok fit i a row at held =
    let fits = λ (x : Candidate). fits_kinds ks x.cells in
    let own = fits_long ks (marked_or_first b).cells (passes_at fits b.alternatives fit (unwrap_or b.guess 0) (marked_or_first b) (shown_place b b.guess ok.guess ok.nonempty)) in
    let other = fits_long ks a.cells (passes_at fits b.alternatives fit i a at) in
    spans_hold b.alternatives i a at (guesses (marked_or_first b).cells) row (length-guesses b ∙ own ∙ sym other) held

each_copy : (P : List Value → Type 0) (n : ℕ) (row : List Value) → P row → AllByRecursion P (replicate n row)
each_copy P zero row h = tt
each_copy P (suc n) row h = (h, each_copy P n row h)

length-copies : (n : ℕ) (row : List Value) → length (replicate n row) ≡ n
length-copies zero row = refl
length-copies (suc n) row = ap suc (length-copies n row)

least_if : (b : Bool) (l n : ℕ) → l ≤ n → cond b 0 l ≤ n
least_if true l n h = omega arith
least_if false l n h = h

none_owed : (b : Bool) (l : ℕ) → b ≡ true → cond b 0 l ≤ 0
none_owed true l h = omega arith
none_owed false l h = absurd (true≢false (sym h))

takes_chosen : (ks : List Kind) (b : Choices) → IsBlock b → FitsBlock ks b → (o : Option Taken) → Offers b o → Takes (block_row b) (chosen o)
takes_chosen ks b ok fit None h = record { held = tt; least = none_owed b.optional (least_number (map (λ a. a.copies.least) b.alternatives)) h; most = omega arith }
takes_chosen ks b ok fit (Some t) h =
    let long = length-copies t.count t.row in
    let least = least_at (λ a. a.copies.least) b.alternatives t.alternative h.of h.found in
    let most = greatest_at (λ a. a.copies.most) 0 b.alternatives t.alternative h.of h.found in
    record {
      held = each_copy (λ v. all_hold (ranges_of b) v ≡ true) t.count t.row (row_held ks b ok fit t.alternative h.of t.row h.found h.allows.row);
      least = rw long (least_if b.optional (least_number (map (λ a. a.copies.least) b.alternatives)) t.count (omega (arith, least, h.allows.least)));
      most = rw long (omega (arith, most, h.allows.most));
    }

module _ (ks : List Kind) where
  blocks_loose : (bs : List Choices) → AllByRecursion IsBlock bs → AllByRecursion (FitsBlock ks) bs → IsLoose ks (map block_row bs)
  blocks_loose [] ok fit = tt
  blocks_loose (b ∷ bs) ok fit = (block_is_row ks b ok.0 fit.0, blocks_loose bs ok.1 fit.1)

  blocks_spread : (bs : List Choices) (w : TableWorld) → AllByRecursion IsBlock bs → AllByRecursion (FitsBlock ks) bs → AllZip Offers bs w → Spread (map block_row bs) (rows_in bs w)
  blocks_spread [] [] ok fit h = no_rows
  blocks_spread [] (o ∷ w) ok fit h = elim h [ ]
  blocks_spread (b ∷ bs) [] ok fit h = elim h [ ]
  blocks_spread (b ∷ bs) (o ∷ w) ok fit h =
      next_row (takes_chosen ks b ok.0 fit.0 o h.0) (one_after (chosen o) (rows_in bs w)) (blocks_spread bs w ok.1 fit.1 h.1)

-- ---- the guess world

pub copies_repeated : (v row : List Value) (n : ℕ) → copies v (replicate n row) ≡ cond (same_row v row) n 0
copies_repeated v row zero = sym (cond_zero (same_row v row) 0 refl)
copies_repeated v row (suc n) =
    let more : cond (same_row v row) 1 0 + cond (same_row v row) n 0 ≡ cond (same_row v row) (suc n) 0 = one_more (same_row v row) in
    copies-cons v row (replicate n row) ∙ ap (λ m. cond (same_row v row) 1 0 + m) (copies_repeated v row n) ∙ more
  where
    one_more : (b : Bool) → cond b 1 0 + cond b n 0 ≡ cond b (suc n) 0
    one_more true = omega arith
    one_more false = refl

guess_here : (b : Choices) (o : Option ℕ) → MayMark b o → 0 < length b.alternatives → (v : List Value)
    → cond (same_row v (guesses (shown_at b o).cells)) (unwrap_or (option_map (λ (i : ℕ). (shown_at b o).copies.guess) o) 0) 0
    ≡ copies v (chosen (option_and_then (λ i. option_map (λ a. taken i (guesses a.cells) a.copies.guess) (slice_get b.alternatives i)) o))
guess_here b None h some v = cond_zero (same_row v (guesses (shown_at b None).cells)) 0 refl
guess_here b (Some i) h some v =
    let a = shown_at b (Some i) in
    sym (copies_repeated v (guesses a.cells) a.copies.guess)
    ∙ ap (λ o. copies v (chosen (option_map (λ (x : Candidate). taken i (guesses x.cells) x.copies.guess) o))) (sym (shown_place b (Some i) h some))

blocks_guess : (bs : List Choices) → AllByRecursion IsBlock bs → (v : List Value) → guess_count (map block_row bs) v ≡ copies v (rows_in bs (map guess_choice bs))
blocks_guess [] ok v = refl
blocks_guess (b ∷ bs) ok v =
    let own : cond (same_row v (guesses (ranges_of b))) (triple_of b).guess 0 ≡ cond (same_row v (guesses (marked_or_first b).cells)) (triple_of b).guess 0 =
    ap (λ g. cond (same_row v g) (triple_of b).guess 0) (guesses-spans b.alternatives 0 (guesses (marked_or_first b).cells)) in
    omega (arith, guess-cons v (block_row b) (map block_row bs), own, guess_here b b.guess ok.0.guess ok.0.nonempty v, blocks_guess bs ok.1 v, copies-append v (chosen (guess_choice b)) (rows_in bs (map guess_choice bs)))

blocks_triples : (bs : List Choices) → AllByRecursion IsBlock bs → Triples (map block_row bs)
blocks_triples [] ok = tt
blocks_triples (b ∷ bs) ok = ((triple_order b ok.0).1, blocks_triples bs ok.1)

-- ---- tables

each_fits : (ks : List Kind) (bs : List Choices) → list_all (λ b. list_all (λ a. fits_kinds ks a.cells) b.alternatives) bs ≡ true → AllByRecursion (FitsBlock ks) bs
unfolding FitsBlock
each_fits ks [] h = tt
each_fits ks (b ∷ bs) h =
    let p = and_parts (list_all (λ a. fits_kinds ks a.cells) b.alternatives) (list_all (λ c. list_all (λ a. fits_kinds ks a.cells) c.alternatives) bs) h in
    (p.0, each_fits ks bs p.1)

-- the bounded table is a relation of the table's kinds
pub table_relation : (t : BlockTable) → IsTable t → AllByRecursion IsBlock t.blocks → IsRelation (column_kinds t) (bounded_table t)
table_relation t fit ok = present_relation (column_kinds t) (map block_row t.blocks) (blocks_loose (column_kinds t) t.blocks ok (each_fits (column_kinds t) t.blocks fit.rows))

-- it bounds the table's rows in every world
pub table_bounds : (t : BlockTable) (w : TableWorld) → IsTable t → AllByRecursion IsBlock t.blocks → IsTableWorld t w → Bounds (bounded_table t) (rows_in t.blocks w)
table_bounds t w fit ok world =
    Spread-Bounds (bounded_table t) (rows_in t.blocks w)
    (spread-present (map block_row t.blocks) (rows_in t.blocks w) (blocks_spread (column_kinds t) t.blocks w ok (each_fits (column_kinds t) t.blocks fit.rows) world))

-- and guesses its rows in the guess world exactly
pub table_guesses : (t : BlockTable) → AllByRecursion IsBlock t.blocks → Guesses (bounded_table t) (rows_in t.blocks (map guess_choice t.blocks))
table_guesses t ok v = guess-present v (map block_row t.blocks) (blocks_triples t.blocks ok) ∙ blocks_guess t.blocks ok v
