-- One range more.
use Rattle.std.proofs.Common.{◌≡◌, ◌+◌, ◌-◌, ◌++◌, ◌∷◌, [], ℕ, List, ap, sym, ◌∙◌, refl, add-one, append_assoc, arith}
use Rattle.std.specs.Vec.Iter.{into_iter_items}
use Rattle.au_value.specs.declared.value.Value.{Value}
use Rattle.au_value.specs.Ranges.{Span}
use Rattle.au_encode.specs.Encode.{decode_annot, decode_cells}
use Rattle.au_encode.proofs.decoding.decode_row.Goals as goal

next_cells : (n c : ℕ) (old new : List Value) (r : Span) → n ≡ c + 1 → old ≡ r.lo ∷ r.sg ∷ r.hi ∷ new → decode_cells n old ≡ r ∷ decode_cells c new
next_cells n c old new r m e = rw (m, add-one, e) refl

next_annot : (n c : ℕ) (old new : List Value) (r : Span) → n ≡ c + 1 → old ≡ r.lo ∷ r.sg ∷ r.hi ∷ new → decode_annot n old ≡ decode_annot c new
next_annot n c old new r m e = rw (m, add-one, e) refl

pub loop-left-preserved : goal.loop-left-preserved
loop-left-preserved c =
    let inv = c.loop-left.invariant in
    let n = c.loop-left.left in
    let r = c.next_range.result in
    let old = into_iter_items c.loop-left.rest in
    let new = into_iter_items c.next_range.new.rest in
    let one : n ≡ (n - 1) + 1 = omega arith in
    record {
      encoded = c.next_range.ensures.rest;
      cells =
          ap (λ (done : List Span). done ++ decode_cells (n - 1) new) c.in_ok-push.ensures.items
          ∙ append_assoc c.loop-left.cells.items (r ∷ []) (decode_cells (n - 1) new)
          ∙ ap (λ (more : List Span). c.loop-left.cells.items ++ more) (sym (next_cells n (n - 1) old new r one c.next_range.ensures.range))
          ∙ inv.cells;
      annot = sym (next_annot n (n - 1) old new r one c.next_range.ensures.range) ∙ inv.annot;
    }
