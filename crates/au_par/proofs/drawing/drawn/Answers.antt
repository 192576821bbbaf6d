use Rattle.std.proofs.Common.{ℕ, [], ◌∷◌, ◌++◌, map, ap, sym, ◌∙◌, subst}
use mathlib.Core.List.{map-append}
use Rattle.std.proofs.lemmas.List.Elements.{All-push}
use Rattle.std.specs.Fork.{slice_chunk}
use Rattle.au_par.proofs.Chunks.{chunk_overflows}
use Rattle.au_par.proofs.drawing.drawn.Goals as goal

pub returns-in-Err : goal.returns-in-Err
returns-in-Err g c = λ is.
    let work = c.args.work.now in
    let overflows = g.W.Partial.overflows work in
    let laws = g.met.W.Partial in
    chunk_overflows (g.W.Partial.takes work) c.args.rows.now c.requires.rows overflows (laws.front_overflows work) (laws.back_overflows work) c.args.size c.in-Some.number
    (ap overflows (sym c.piece_at.ensures) ∙ c.in-Err.ensures.overflow is)

pub loop-number-preserved : goal.loop-number-preserved
loop-number-preserved g c =
    let key : ℕ × g.row.S.Denot → ℕ = λ e. e.0 in
    let stands = g.W.Partial.stands_for c.args.work.now in
    let number = c.in-Some.number in
    let state = c.in-Ok.state in
    let states = c.loop-number.states.items in
    let inv = c.loop-number.invariant in
    let pass = c.in-Some.ensures.step.2 in
    let stands_here = subst (stands state) c.piece_at.ensures c.in-Ok.ensures.stands in
    record {
      board = ap (λ p. p.board) pass ∙ inv.board;
      number = ap (λ p. p.number) pass ∙ inv.number;
      goes_on = ap (λ p. p.ended) pass;
      drawn = ap (map key) c.in_ok-put.ensures ∙ (map-append key states ((number, state) ∷ []) ∙ ((λ i. inv.drawn i ++ number ∷ []) ∙ sym (ap (λ p. p.drawn) pass)));
      stand = rw c.in_ok-put.ensures (All-push (λ (e : ℕ × g.row.S.Denot). stands e.1 (slice_chunk c.args.rows.now c.args.size e.0)) states (number, state) inv.stand stands_here);
      room = c.in-Some.ensures.room;
    }
