use Rattle.std.proofs.Common.{rules, ℕ, map, ap, ◌∙◌, arith}
use Rattle.std.proofs.lemmas.List.Sorted.{IsNonDecreasingBy-from_sort_by_key, IsPermutation-map}
use Rattle.au_board.specs.Draws.{times, once_below}
use Rattle.au_par.proofs.Numbers.{numbered, times-permuted}
use Rattle.au_par.proofs.merging.in_order.Goals as goal

pub returns-clause-numbered : goal.returns-clause-numbered
returns-clause-numbered g c =
    let key : ℕ × g.row.S.Denot → ℕ = λ e. e.0 in
    let states = c.sort_unstable_by_key.new.self.items in
    let rises = IsNonDecreasingBy-from_sort_by_key key states c.sort_unstable_by_key.ensures.sorted (λ a r q k. search rules) in
    let same = IsPermutation-map key c.args.states.items states c.sort_unstable_by_key.ensures.permutation in
    let whole = c.close.ensures.ended c.requires.ended in
    let all = numbered key 0 c.args.board.pieces states (omega arith) rises (λ x lower. absurd (omega arith))
    (λ x _. times-permuted x (map key c.args.states.items) (map key states) same ∙ (ap (times x) c.requires.drawn ∙ (c.close.ensures.once x ∙ ap (once_below x) whole))) in
    let count = all.0 in
    (omega arith, λ k d below. let is = all.1 k d below in omega arith)
