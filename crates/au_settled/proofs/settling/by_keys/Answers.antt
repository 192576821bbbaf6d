-- Rows that rise are in normal form, and rows that were sorted have the normal form of all.
use Rattle.std.proofs.Common.{◌≡◌, IfOk, IsTrue, List, ap, length, map, subst, sym, ◌∙◌, ℕ}
use Rattle.std.specs.List.{range_with_len}
use Rattle.au_algebra.specs.Bounded.{Bounded, normal}
use Rattle.au_algebra.specs.Fits.{triples_fit}
use Rattle.au_columns.specs.Steps.{AreBelow}
use Rattle.au_settled.specs.Places.{row_in}
use Rattle.au_settled.specs.Settled.{numbers_of, relation_of}
use Rattle.au_settled.proofs.OwnForm.{same_form, sorted_below}
use Rattle.au_settled.proofs.Pass.{rising_normal}
use Rattle.au_settled.proofs.settling.by_keys.Goals as goal

pub shared-requires-clause-normal : goal.shared-requires-clause-normal
shared-requires-clause-normal c =
    let same : c.deref.result.now ≡ c.deref-then-rise.result.now = c.deref.ensures.value ∙ sym c.deref-then-rise.ensures.value in
    subst (λ places. normal (map (row_in c.args.columns c.args.rows.now) places) ≡ map (row_in c.args.columns c.args.rows.now) places) same
    (rising_normal c.args.columns c.args.rows.now c.args.keys.now c.requires.keys c.deref.result.now c.rise.result c.rise.ensures c.if-rise.true)

pub in_order-requires-clause-below : goal.in_order-requires-clause-below
in_order-requires-clause-below c =
    let rows = c.args.rows.now in
    let all : c.in-Ok.places.items ≡ range_with_len 0 (length rows) = c.in-Ok.ensures ∙ ap (range_with_len 0) c.len.ensures in
    subst (λ (places : List ℕ). AreBelow places (length rows)) (sym c.deref-in-Ok-sorted.ensures.value)
    (sorted_below (length rows) c.in-Ok.places.items c.in-Ok-sorted.places.items all c.in-Ok-sorted.ensures.permutation)

same : (c : goal.After-drop-places-in-Ok-sorted) → normal (map (row_in c.args.columns c.args.rows.now) c.deref-in-Ok-sorted.result.now) ≡ normal (relation_of c.args.columns c.args.rows.now)
same c =
    let columns = c.args.columns in
    let rows = c.args.rows.now in
    let all : c.in-Ok.places.items ≡ range_with_len 0 (length rows) = c.in-Ok.ensures ∙ ap (range_with_len 0) c.len.ensures in
    ap (λ (places : List ℕ). normal (map (row_in columns rows) places)) c.deref-in-Ok-sorted.ensures.value
    ∙ same_form columns rows c.requires.counts c.in-Ok.places.items c.in-Ok-sorted.places.items all c.in-Ok-sorted.ensures.permutation

pub returns-in-Ok-sorted-clause-rows : goal.returns-in-Ok-sorted-clause-rows
returns-in-Ok-sorted-clause-rows c = subst (λ (form : Bounded). IfOk c.in_order.result (λ b. b ≡ map numbers_of form)) (same c) c.in_order.ensures.rows

pub returns-in-Ok-sorted-clause-fits : goal.returns-in-Ok-sorted-clause-fits
returns-in-Ok-sorted-clause-fits c = subst (λ (form : Bounded). IfOk c.in_order.result (λ b. IsTrue (triples_fit form))) (same c) c.in_order.ensures.fits

pub returns-in-Ok-sorted-clause-overflow : goal.returns-in-Ok-sorted-clause-overflow
returns-in-Ok-sorted-clause-overflow c h = ap triples_fit (sym (same c)) ∙ c.in_order.ensures.overflow h
