-- The last number is the guess, and the one before it the certain count.
use Rattle.std.proofs.Common.{◌≡◌, ◌≤◌, ◌∷◌, [], ◌++◌, ℕ, List, sym, ◌∙◌, ap, subst, append_assoc}
use Rattle.au_value.specs.declared.value.Value.{Value}
use Rattle.au_rwcounted.specs.CountedRows.{HoldsPair, count_value}
use Rattle.au_rwcounted.proofs.LastItems.{fronts}
use Rattle.au_rwcounted.proofs.reading.read_pair.Goals as goal

same_number : (m n : ℕ) → count_value m ≡ count_value n → m ≡ n
same_number m n e = cc

module _ (row : List Value) (h : HoldsPair row) (front : List Value) (guess : ℕ) (behind : front ++ count_value guess ∷ [] ≡ row) where
  apart : row ≡ (h.cells ++ count_value h.certain ∷ []) ++ count_value h.guess ∷ []
  apart = h.whole ∙ sym (append_assoc h.cells (count_value h.certain ∷ []) (count_value h.guess ∷ []))

  parts : (front ≡ h.cells ++ count_value h.certain ∷ []) × (count_value guess ≡ count_value h.guess)
  parts = fronts front (h.cells ++ count_value h.certain ∷ []) (count_value guess) (count_value h.guess) (behind ∙ apart)

  module _ (cells : List Value) (certain : ℕ) (before : cells ++ count_value certain ∷ [] ≡ front) where
    in_order : certain ≤ guess
    in_order =
        let first = fronts cells h.cells (count_value certain) (count_value h.certain) (before ∙ parts.0) in
        subst (λ n. n ≤ guess) (sym (same_number certain h.certain first.1)) (subst (λ n. h.certain ≤ n) (sym (same_number guess h.guess parts.1)) h.in_order)

pub read_row-front-requires : goal.read_row-front-requires
read_row-front-requires c =
    let h = c.requires in
    (h.cells ++ count_value h.certain ∷ [], h.guess, h.whole ∙ sym (append_assoc h.cells (count_value h.certain ∷ []) (count_value h.guess ∷ [])))

pub read_row-cells-requires : goal.read_row-cells-requires
read_row-cells-requires c =
    let h = c.requires in
    (h.cells, h.certain, (parts c.args.row.items h c.read_row-front.result.0.items c.read_row-front.result.1 c.read_row-front.ensures).0)

pub ordered-requires : goal.ordered-requires
ordered-requires c =
    in_order c.args.row.items c.requires c.read_row-front.result.0.items c.read_row-front.result.1 c.read_row-front.ensures
    c.read_row-cells.result.0.items c.read_row-cells.result.1 c.read_row-cells.ensures

pub returns : goal.returns
returns c =
    let cells = c.read_row-cells.result.0.items in
    let certain = c.read_row-cells.result.1 in
    let guess = c.read_row-front.result.1 in
    (λ i. cells ++ (count_value (c.ordered.ensures i).certain ∷ count_value (c.ordered.ensures i).guess ∷ []))
    ∙ sym (append_assoc cells (count_value certain ∷ []) (count_value guess ∷ []))
    ∙ ap (λ front. front ++ count_value guess ∷ []) c.read_row-cells.ensures
    ∙ c.read_row-front.ensures
