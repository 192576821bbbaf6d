-- What stands before a line is written two blanks at a time.
use Rattle.std.proofs.Common.{◌≡◌, ◌∙◌, ◌+◌, ◌-◌, ◌<◌, ◌++◌, List, ℕ, ap, append_assoc, arith, codes, suc, sym}
use Rattle.au_explain.specs.Lines.{margin}

-- one level more
pub margin_more : (depth i : ℕ) (out now all : List ℕ) → i < depth → out ++ margin (depth - i) ≡ all → now ≡ out ++ codes "  " → now ++ margin (depth - (i + 1)) ≡ all
margin_more depth i out now all lt e is =
    let left : List ℕ = margin (depth - (i + 1)) in
    let level : depth - i ≡ suc (depth - (i + 1)) = omega arith in
    ap (λ (l : List ℕ). l ++ left) is ∙ (append_assoc out (codes "  ") left ∙ (sym (ap (λ (n : ℕ). out ++ margin n) level) ∙ e))
