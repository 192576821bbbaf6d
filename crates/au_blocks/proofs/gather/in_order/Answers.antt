-- What is sorted by numbers stands number by number.
use Rattle.std.proofs.Common.{◌∙◌, ℕ, List, Bor, map, ap}
use Rattle.std.proofs.lemmas.Result.{IfOk-weaker}
use Rattle.au_csv.specs.Texts.{Record}
use Rattle.au_blocks.specs.Order.{lent_numbered}
use Rattle.au_blocks.proofs.Numbering.{ordered}
use Rattle.au_blocks.proofs.gather.in_order.Goals as goal

pub returns : goal.returns
returns c =
    let ps = c.args.numbered.items in
    let qs = c.in_ok-sorted.sorted.items in
    let order = c.in_ok-sorted.ensures in
    IfOk-weaker c.taken_apart.result _ _
    (λ v is. λ n below. is ∙ ap (λ (rs : List (ℕ × Bor Record)). map (λ p. p.1) (lent_numbered rs)) c.deref.ensures.value ∙ ordered ps qs order.rise order.stable n (order.below n below)) c.taken_apart.ensures
