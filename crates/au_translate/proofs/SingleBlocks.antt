-- Blocks of one alternative that stands once have a row each, and where all blocks have one, it is that of their place.
use Rattle.std.specs.Prelude.{◌≡◌, ◌≤◌, ◌==◌, ◌&&◌, suc, Bool, true, false, List, [], ◌∷◌, length, map, not, filter}
use Rattle.std.specs.List.{AllByRecursion, list_all}
use Rattle.std.proofs.Common.{arith, cond, eqb-true, inl, inr, refl, sym, ap, ◌∙◌}
use Rattle.std.proofs.lemmas.Bool.{and_parts, cases_Bool}
use Rattle.std.proofs.lemmas.List.{length-map}
use Rattle.au_blocks.specs.Blocks.{Candidate, Choices, Copies, copies_of, once}
use Rattle.au_blocks.specs.Laid.{alternative_at}
use Rattle.au_blocks.specs.Singles.{is_once, stands_once}
use Rattle.au_annot.specs.Triples.{is_none}
use Rattle.au_algebra.specs.Bounded.{RangeRow}
use Rattle.au_translate.specs.Translate.{block_row, bounded_blocks, triple_of}
use Rattle.au_translate.proofs.ColumnParts.{most_once}

single : {X : Type 0} (xs : List X) → (length xs == 1) ≡ true → length xs ≡ 1
single xs e = eqb-true (length xs) 1 e

copies_once : (c : Copies) → is_once c ≡ true → c ≡ once
copies_once c e =
    let first = and_parts ((c.least == 1) && (c.guess == 1)) (c.most == 1) e in
    let second = and_parts (c.least == 1) (c.guess == 1) first.0 in
    let least = eqb-true c.least 1 second.0 in
    let guess = eqb-true c.guess 1 second.1 in
    let most = eqb-true c.most 1 first.1 in
    λ i. copies_of (least i) (guess i) (most i)

pub not_optional : (b : Choices) → stands_once b ≡ true → not b.optional ≡ true
not_optional b e =
    let first = and_parts ((length b.alternatives == 1) && not b.optional) (is_once (alternative_at b.alternatives 0).copies) e in
    (and_parts (length b.alternatives == 1) (not b.optional) first.0).1

pub one_copy : (b : Choices) → stands_once b ≡ true → (length b.alternatives ≡ 1) × AllByRecursion (λ a. a.copies ≡ once) b.alternatives
one_copy b e =
    let first = and_parts ((length b.alternatives == 1) && not b.optional) (is_once (alternative_at b.alternatives 0).copies) e in
    let second = and_parts (length b.alternatives == 1) (not b.optional) first.0 in
    let one = single b.alternatives second.0 in
    (one, each b.alternatives one (copies_once (alternative_at b.alternatives 0).copies first.1))
  where
    each : (alternatives : List Candidate) → length alternatives ≡ 1 → (alternative_at alternatives 0).copies ≡ once → AllByRecursion (λ a. a.copies ≡ once) alternatives
    each [] one is = tt
    each (a ∷ []) one is = (is, tt)
    each (a ∷ x ∷ alternatives) one is = let never : ⊥ = omega (arith, one) in absurd never

has_row : (b : Choices) → stands_once b ≡ true → is_none (triple_of b) ≡ false
has_row b e =
    let own = one_copy b e in
    let most = most_once b.alternatives (omega (arith, own.0)) own.1 in
    ap (λ n. n == 0) most

pub rows_once : (bs : List Choices) → list_all stands_once bs ≡ true → bounded_blocks bs ≡ map block_row bs
rows_once [] all = refl
rows_once (b ∷ bs) all =
    let here = and_parts (stands_once b) (list_all stands_once bs) all in
    ap (λ t. cond (not t) (block_row b ∷ bounded_blocks bs) (bounded_blocks bs)) (has_row b here.0) ∙ ap (λ rows. block_row b ∷ rows) (rows_once bs here.1)

-- as many rows as blocks
few : {X : Type 0} (p : X → Bool) (xs : List X) → length (filter p xs) ≤ length xs
few p [] = omega arith
few p (x ∷ xs) = elim (cases_Bool (p x)) [
  | inl yes_here ↦ let rest = few p xs in rw yes_here (omega (arith, rest))
  | inr no_here ↦ let rest = few p xs in rw no_here (omega (arith, rest))
]

all_pass : {X : Type 0} (p : X → Bool) (xs : List X) → length (filter p xs) ≡ length xs → filter p xs ≡ xs
all_pass p [] e = refl
all_pass p (x ∷ xs) e = elim (cases_Bool (p x)) [
  | inl here ↦
      let long : suc (length (filter p xs)) ≡ suc (length xs) = rw here at e in
      let rest : length (filter p xs) ≡ length xs = omega (arith, long) in
      rw here (ap (λ l. x ∷ l) (all_pass p xs rest))
  | inr here ↦
      let long : length (filter p xs) ≡ suc (length xs) = rw here at e in
      let low = few p xs in
      let never : ⊥ = omega (arith, long, low) in absurd never
]

pub rows_of_all : (bs : List Choices) → length (bounded_blocks bs) ≡ length bs → bounded_blocks bs ≡ map block_row bs
rows_of_all bs full = all_pass (λ (r : RangeRow). not (is_none r.annot)) (map block_row bs) (full ∙ sym (length-map bs block_row))
