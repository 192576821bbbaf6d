-- What is there is between the four.
use Rattle.std.specs.Prelude.{◌≡◌, Ok}
use Rattle.std.proofs.Common.{rules, to_z, of_z, ◌∙◌, sym}
use Rattle.std.proofs.lemmas.Int.{to_z-of_z}
use mir.Syntax.{w128}
use mir.Val.{SFits}
use Rattle.au_expr.specs.Ends.{between, extremes}
use Rattle.au_expr.proofs.ends.extremes.Goals as goal

pub returns : goal.returns
returns c =
    let back : (z : _) → SFits w128 z → to_z w128 (of_z w128 z) ≡ z = to_z-of_z w128 in
    let fp : SFits w128 c.in_ok-p.p = search rules in
    let fq : SFits w128 c.in_ok-q.q = search rules in
    let fr : SFits w128 c.in_ok-r.r = search rules in
    let fs : SFits w128 c.in_ok-s.s = search rules in
    let fg : SFits w128 c.in_ok-guess.field-0 = search rules in
    let p = back _ fp in
    let q = back _ fq in
    let r = back _ fr in
    let s = back _ fs in
    let g = back _ fg in
    let a = c.args in
    let there : extremes a.p a.q a.r a.s a.guess ≡ Ok (between c.in_ok-p.p c.in_ok-q.q c.in_ok-r.r c.in_ok-s.s c.in_ok-guess.field-0) =
    λ i. extremes (c.in_ok-p.was i) (c.in_ok-q.was i) (c.in_ok-r.was i) (c.in_ok-s.was i) (c.in_ok-guess.was i) in
    (λ i. Ok (c.between.ensures i)) ∙ ((λ i. Ok (between (p i) (q i) (r i) (s i) (g i))) ∙ sym there)
