use Rattle.std.proofs.Common.{◌≡◌, ℕ, ◌+◌, ◌*◌, ◌≤◌, map, length, ap, sym, ◌∙◌, subst, All, arith}
use Rattle.std.proofs.lemmas.Grind.{div_ceil_times}
use Rattle.std.proofs.lemmas.List.Sorted.{All-permutation}
use Rattle.au_board.specs.Views.{AreOf, all_drawn, number_ended}
use Rattle.au_par.proofs.Gains.{ForPiece, all_ended, an_overflow, passes_of, stand_in_order, states_drawn, states_stand}
use Rattle.au_par.proofs.drawing.by_drawing.Goals as goal

pub returns-in-Err-clause-overflow : goal.returns-in-Err-clause-overflow
returns-in-Err-clause-overflow g c = λ is.
    an_overflow (g.W.Partial.stands_for c.args.work.now) (g.W.Partial.overflows c.args.work.now) c.args.rows.now c.args.piece c.in-Ok.board 0 c.in_ok-answers.answers.items c.in_ok-answers.ensures.1 (c.in-Err.ensures is)

pub in_order-states-requires-clause-passes : goal.in_order-states-requires-clause-passes
in_order-states-requires-clause-passes g c =
    let all = c.in-Ok-collected.ensures in
    let drew = c.in_ok-answers.ensures in
    subst (AreOf c.in-Ok.board) (sym all.0)
    (passes_of (g.W.Partial.stands_for c.args.work.now) (g.W.Partial.overflows c.args.work.now) c.args.rows.now c.args.piece c.in-Ok.board c.in_ok-answers.answers.items drew.1 all.2 (drew.0 ∙ c.in-Ok.ensures.passes.all))

pub in_order-states-requires-clause-ended : goal.in_order-states-requires-clause-ended
in_order-states-requires-clause-ended g c =
    let all = c.in-Ok-collected.ensures in
    let drew = c.in_ok-answers.ensures in
    let ended = ap number_ended all.0 ∙ all_ended (g.W.Partial.stands_for c.args.work.now) (g.W.Partial.overflows c.args.work.now) c.args.rows.now c.args.piece c.in-Ok.board 0 c.in_ok-answers.answers.items drew.1 all.2 in
    let count = drew.0 ∙ c.in-Ok.ensures.passes.all in
    let workers = c.in-Ok.ensures.board.1 in
    omega arith

pub in_order-states-requires-clause-drawn : goal.in_order-states-requires-clause-drawn
in_order-states-requires-clause-drawn g c =
    let key : ℕ × g.row.S.Denot → ℕ = λ e. e.0 in
    let all = c.in-Ok-collected.ensures in
    ap (map key) all.1 ∙ (states_drawn (g.W.Partial.stands_for c.args.work.now) (g.W.Partial.overflows c.args.work.now) c.args.rows.now c.args.piece c.in-Ok.board 0 c.in_ok-answers.answers.items c.in_ok-answers.ensures.1 ∙ sym (ap all_drawn all.0))

pub merged-requires-clause-states : goal.merged-requires-clause-states
merged-requires-clause-states g c =
    let stands = g.W.Partial.stands_for c.args.work.now in
    let overflows = g.W.Partial.overflows c.args.work.now in
    let rows = c.args.rows.now in
    let piece = c.args.piece in
    let board = c.in-Ok.board in
    let for_piece = ForPiece stands overflows rows piece board in
    let all = c.in-Ok-collected.ensures in
    let states = c.in_order-states.result.items in
    let numbered = c.in_order-states.ensures.numbered in
    let each = subst (All for_piece) (sym all.1) (states_stand stands overflows rows piece board 0 c.in_ok-answers.answers.items c.in_ok-answers.ensures.1) in
    let count : 0 + length states ≡ board.pieces = let is = numbered.0 in omega arith in
    let enough = (div_ceil_times (length rows) piece (omega arith)).0 in
    stand_in_order stands overflows rows piece board 0 states (λ i d below. let is = numbered.1 i d below in omega arith)
    (All-permutation for_piece c.in-Ok-collected.both.1.items states c.in_order-states.ensures.same each)
    (subst (λ (n : ℕ). length rows ≤ n * piece) (sym (count ∙ (c.in-Ok.ensures.board.0 ∙ c.div_ceil.ensures))) enough)
