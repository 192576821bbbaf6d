-- The pass at the end has the number of those before it, and what its worker gives stands behind what theirs give.
use Rattle.std.proofs.Common.{length, ap, ◌∙◌, subst, arith}
use Rattle.std.proofs.lemmas.List.{length_push}
use Rattle.au_par.specs.States.{Drew}
use Rattle.au_par.proofs.Gains.{Given, given_behind, last_number}
use Rattle.au_par.proofs.drawing.+starting.Goals as goal

pub returns : goal.returns
returns g t c =
    let stands = g.W.Partial.stands_for c.args.work.now in
    let overflows = g.W.Partial.overflows c.args.work.now in
    let board = c.args.board.now in
    let others = c.pop.new.self.items in
    let pass = c.in-Some.pass in
    let number = last_number board others pass c.args.passes.items c.in-Some.ensures.items c.requires.passes in
    let count = ap length c.in-Some.ensures.items ∙ length_push others pass in
    let drew = subst (λ n. Drew stands overflows c.args.rows.now c.args.size board n c.join-answer.result.0) number c.join-answer.ensures.first in
    let given = given_behind stands overflows c.args.rows.now c.args.size board (length others) c.join-answer.result.1 c.behind-2.result c.join-answer.result.0 c.join-answer.ensures.second drew c.behind-2.ensures in
    subst (λ n. Given stands overflows c.args.rows.now c.args.size board n c.behind-2.result) (omega (arith, count)) given
