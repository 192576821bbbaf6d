-- The least and the greatest of a list of expressions, taken from the last.
use Rattle.std.specs.Prelude.{◌≡◌, ◌<◌, ◌+◌, ℕ, List, [], ◌∷◌, length, drop, get_or, Some}
use Rattle.std.proofs.Common.{refl, ap, ◌∙◌, arith, add-one, drop-cons, length-drop}
use Rattle.au_value.specs.declared.extreme.Extreme.{Extreme}
use Rattle.au_plain.specs.declared.expr.PExpr.{PExpr}
use Rattle.au_plain.specs.PTerms.{pterm}
use Rattle.au_codes.specs.Codes.{Cells}
use Rattle.au_codes.specs.Careful.{careful, careful_extreme, extreme_number, from_both}
use Rattle.au_codes.specs.Gathering.{terms}

one_more : (how : Extreme) (e : PExpr) (rest : List PExpr) (row : Cells) → 0 < length rest →
    careful_extreme how (terms (e ∷ rest)) row ≡ from_both (λ x y. Some (extreme_number how x y)) (careful (pterm e) row) (careful_extreme how (terms rest) row)
one_more how e [] row h = let never : ⊥ = omega (arith, h) in absurd never
one_more how e (f ∷ rest) row h = refl

-- one expression more, in front of the others
pub extreme_next : (how : Extreme) (es : List PExpr) (i j : ℕ) (e : PExpr) (row : Cells) → j ≡ i + 1 → j < length es → e ≡ get_or es i e →
    careful_extreme how (terms (drop i es)) row ≡ from_both (λ x y. Some (extreme_number how x y)) (careful (pterm e) row) (careful_extreme how (terms (drop j es)) row)
extreme_next how es i j e row next below is =
    let within : i < length es = omega arith in
    let cut : drop i es ≡ e ∷ drop j es = rw (next, add-one, drop-cons es i e, ← is) refl in
    let left : 0 < length (drop j es) = omega (arith, length-drop j es) in
    ap (λ xs. careful_extreme how (terms xs) row) cut ∙ one_more how e (drop j es) row left
