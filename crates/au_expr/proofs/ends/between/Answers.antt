-- The extremes of four numbers, as they were passed.
use Rattle.std.specs.Prelude.{◌≡◌}
use Rattle.std.proofs.Common.{rules, to_z, of_z, ◌∙◌}
use Rattle.std.proofs.lemmas.Int.{to_z-of_z}
use mir.Syntax.{w128}
use mir.Val.{SFits}
use Rattle.au_expr.specs.Ends.{lesser_int, greater_int}
use Rattle.au_expr.proofs.ends.between.Goals as goal

pub returns : goal.returns
returns c =
    let a = c.args in
    let back : (z : _) → SFits w128 z → to_z w128 (of_z w128 z) ≡ z = to_z-of_z w128 in
    let p = back a.p c.ranges.p in
    let q = back a.q c.ranges.q in
    let r = back a.r c.ranges.r in
    let s = back a.s c.ranges.s in
    let g = back a.guess c.ranges.guess in
    let f1 : SFits w128 c.lesser.result = search rules in
    let f2 : SFits w128 c.lesser-2.result = search rules in
    let f3 : SFits w128 c.lesser-3.result = search rules in
    let h1 : SFits w128 c.greater.result = search rules in
    let h2 : SFits w128 c.greater-2.result = search rules in
    let h3 : SFits w128 c.greater-3.result = search rules in
    let l1 = back _ f1 ∙ (c.lesser.ensures ∙ (λ i. lesser_int (p i) (q i))) in
    let l2 = back _ f2 ∙ (c.lesser-2.ensures ∙ (λ i. lesser_int (r i) (s i))) in
    let l3 = back _ f3 ∙ (c.lesser-3.ensures ∙ (λ i. lesser_int (l1 i) (l2 i))) in
    let k1 = back _ h1 ∙ (c.greater.ensures ∙ (λ i. greater_int (p i) (q i))) in
    let k2 = back _ h2 ∙ (c.greater-2.ensures ∙ (λ i. greater_int (r i) (s i))) in
    let k3 = back _ h3 ∙ (c.greater-3.ensures ∙ (λ i. greater_int (k1 i) (k2 i))) in
    λ i. record { lo = l3 i; sg = g i; hi = k3 i }
