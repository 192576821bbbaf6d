-- A number in place of the best one, or a new one.
use Rattle.std.proofs.Common.{◌≡◌, ◌∷◌, [], ◌++◌, ◌<◌, ◌≤◌, ℤ, ap, arith, length, of_z, set, to_z, ◌∙◌}
use Rattle.std.specs.Int.{w128}
use Rattle.std.proofs.lemmas.Int.{ints, to_z-of_z}
use Rattle.au_codes.specs.Careful.{extreme_number}
use Rattle.au_folds.proofs.PutLaws.{known_put, new_put}
use Rattle.au_folds.proofs.numbers.improve.Goals as goal

pub returns-then-place-len : goal.returns-then-place-len
returns-then-place-len c =
    let bests = c.args.bests.now.items in
    let place = c.args.place in
    let how = c.args.how in
    let best = c.index.result.now in
    let number = c.args.number in
    let below : place < length bests = omega (arith, c.args.bests.now.ok.0, c.len.ensures, c.if-place-len.true) in
    let made : to_z w128 (of_z w128 c.extreme.result) ≡ c.extreme.result = search (arith, ints, to_z-of_z) in
    let left : to_z w128 (of_z w128 best) ≡ best = search (arith, ints, to_z-of_z) in
    let right : to_z w128 (of_z w128 number) ≡ number = to_z-of_z w128 number c.ranges.number in
    let is : to_z w128 (of_z w128 c.extreme.result) ≡ extreme_number how best number = made ∙ c.extreme.ensures ∙ (λ i. extreme_number how (left i) (right i)) in
    ap (set bests place) is ∙ known_put (λ (z : ℤ). z) (extreme_number how) bests place best number below c.index.ensures

pub returns-in_ok-push : goal.returns-in_ok-push
returns-in_ok-push c =
    let bests = c.args.bests.now.items in
    let number = c.args.number in
    let past : length bests ≤ c.args.place = omega (arith, c.args.bests.now.ok.0, c.len.ensures, c.if-place-len.false) in
    c.in_ok-push.ensures.items
    ∙ ap (λ (z : ℤ). bests ++ z ∷ []) (to_z-of_z w128 number c.ranges.number)
    ∙ new_put (λ (z : ℤ). z) (extreme_number c.args.how) bests c.args.place number past
