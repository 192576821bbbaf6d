-- Sums of triples, one more at a time, and whether they leave the range.
use Rattle.std.specs.Prelude.{◌≡◌, ◌+◌, false, List, [], ◌∷◌, ◌++◌}
use Rattle.std.proofs.Common.{arith, sym, ◌∙◌, ap, append_assoc}
use Rattle.std.proofs.lemmas.Bool.{true≢false, false_from_ne_true}
use Rattle.au_annot.specs.Triples.{Counts, counts, plus, none, total_counts, at_most, in_range}
use Rattle.au_annot.specs.TripleLaws.{triple_order, triple_semiring, triple_plus_keeps, triple_zero_least, triple_range}

-- a sum over two lists
pub total_append : (ts us : List Counts) → total_counts (ts ++ us) ≡ plus (total_counts ts) (total_counts us)
total_append [] us =
    let l : (total_counts us).least ≡ 0 + (total_counts us).least = omega arith in
    let g : (total_counts us).guess ≡ 0 + (total_counts us).guess = omega arith in
    let m : (total_counts us).most ≡ 0 + (total_counts us).most = omega arith in
    λ i. counts (l i) (g i) (m i)
total_append (t ∷ ts) us = ap (plus t) (total_append ts us) ∙ sym (triple_semiring.plus_assoc t (total_counts ts) (total_counts us))

-- and over one triple more
pub total_push : (ts : List Counts) (t : Counts) → total_counts (ts ++ t ∷ []) ≡ plus (total_counts ts) t
total_push ts t = total_append ts (t ∷ []) ∙ ap (plus (total_counts ts)) (triple_semiring.plus_zero t)

-- what is added to a sum past the range does not bring it back
pub past_more : (t u : Counts) → in_range t ≡ false → in_range (plus t u) ≡ false
past_more t u h =
    false_from_ne_true (in_range (plus t u))
    (λ k.
    let below = triple_plus_keeps t t none u (triple_order.reflexive t) (triple_zero_least u) in
    let under = ap (λ s. at_most s (plus t u)) (sym (triple_semiring.plus_zero t)) ∙ below in
    true≢false (sym (triple_range.downward t (plus t u) under k) ∙ h))

-- where the sum so far and one more is past the range, the sum is
pub past_rest : (ts : List Counts) (t : Counts) (us : List Counts) → in_range (plus (total_counts ts) t) ≡ false → in_range (total_counts (ts ++ t ∷ us)) ≡ false
past_rest ts t us h =
    ap in_range (ap total_counts (sym (append_assoc ts (t ∷ []) us)) ∙ total_append (ts ++ t ∷ []) us)
    ∙ past_more (total_counts (ts ++ t ∷ [])) (total_counts us) (ap in_range (total_push ts t) ∙ h)
