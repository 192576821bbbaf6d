-- The first number before the others.
use Rattle.std.proofs.Common.{◌≡◌, arith, drop, length, pos, sym, ◌∙◌, get_or, take, ◌-◌, to_z, of_z}
use Rattle.std.specs.Int.{w128}
use Rattle.std.proofs.lemmas.Int.{ints, to_z-of_z}
use Rattle.std.proofs.lemmas.List.{length-drop, take_all}
use Rattle.au_folds.proofs.PackedLaws.{alone_is, before_others}
use Rattle.au_folds.proofs.packed.+list_packed.Goals as goal

pub returns-then-key-lt2 : goal.returns-then-key-lt2
returns-then-key-lt2 depth c = λ n q fits is.
    let kept : to_z w128 (of_z w128 c.number.result) ≡ c.number.result = search (arith, ints, to_z-of_z) in
    kept ∙ c.number.ensures ∙ alone_is c.args.width n q c.args.key.now is c.if-key-lt2.true

pub returns : goal.returns
returns depth c = λ n q fits is.
    let key = c.args.key.now in
    let rest = c.list_packed-rest.result in
    let first = get_or key 0 (pos 0) in
    let kept : to_z w128 (of_z w128 c.joined.result) ≡ c.joined.result = search (arith, ints, to_z-of_z) in
    let own : to_z w128 (of_z w128 rest) ≡ rest = search (arith, ints, to_z-of_z) in
    let low : to_z w128 (of_z w128 first) ≡ first = search (arith, ints, to_z-of_z) in
    let left = length-drop 1 key in
    let whole : take (length key - 1) (drop 1 key) ≡ drop 1 key = take_all (length key - 1) (drop 1 key) (omega (arith, left)) in
    kept
    ∙ before_others c.args.width key rest c.joined.result n q fits is c.if-key-lt2.false
    (λ m p f e. c.list_packed-rest.ensures m p f (e ∙ sym whole))
    (λ p f high first_is. c.joined.ensures p f (own ∙ high) (low ∙ first_is))
