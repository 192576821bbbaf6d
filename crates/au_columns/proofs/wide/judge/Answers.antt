-- One flag more.
use Rattle.std.proofs.Common.{◌≡◌, arith, to_z, of_z, w64, ◌∙◌}
use Rattle.std.specs.Int.{w128}
use Rattle.std.proofs.lemmas.Int.{ints, to_z-of_z}
use Rattle.au_columns.specs.Steps.{number_at, tested}
use Rattle.au_columns.proofs.Gathered.{one_more}
use Rattle.au_columns.proofs.wide.judge.Goals as goal

pub loop-i-preserved : goal.loop-i-preserved
loop-i-preserved c =
    let i = c.loop-i.i in
    let a = c.args.a.now in
    let b = c.args.b.now in
    let kept : to_z w64 (of_z w64 c.flag.result) ≡ c.flag.result = search (arith, ints, to_z-of_z) in
    let left : to_z w128 (of_z w128 (number_at a i)) ≡ number_at a i = search (arith, ints, to_z-of_z) in
    let right : to_z w128 (of_z w128 (number_at b i)) ≡ number_at b i = search (arith, ints, to_z-of_z) in
    one_more (λ k z. z ≡ tested c.args.how (number_at a k) (number_at b k)) c.loop-i.flags i _ (omega arith) c.loop-i.invariant
    (kept ∙ c.flag.ensures ∙ (λ j. tested c.args.how (left j) (right j)))
