-- One record more, and the end.
use Rattle.std.proofs.Common.{◌≡◌, ◌∙◌, ◌+◌, ◌∷◌, [], ap, drop, length, sym}
use Rattle.std.proofs.lemmas.List.{drop_all, drop_more, with_items_is}
use Rattle.au_csv.specs.Texts.{Record}
use Rattle.au_blocks.specs.Marks.{marks}
use Rattle.au_blocks.proofs.MarkedColumns.{marks-append, marks-long, marks-none}
use Rattle.au_blocks.proofs.kinds.numerals.Goals as goal

pub loop-record-preserved : goal.loop-record-preserved
loop-record-preserved c =
    let f = c.args.format in
    let rows = c.args.rows.now in
    let i = c.loop-record.record-index in
    let r = c.record-item.result in
    let rest = drop (i + 1) rows in
    let long : length c.narrow.new.marks ≡ c.loop-record.marks.len =
    ap length c.narrow.ensures ∙ marks-long f (r ∷ []) 0 c.deref_mut.result.now ∙ ap length c.deref_mut.ensures.value ∙ sym c.loop-record.marks.ok.0 in
    let next : drop i rows ≡ r ∷ rest = drop_more rows i r c.loop-record-test.true ∙ ap (λ (x : Record). x ∷ rest) (sym c.record-item.is) in
    ap (marks f rest 0) (with_items_is c.loop-record.marks c.narrow.new.marks long ∙ c.narrow.ensures)
    ∙ ap (λ bs. marks f rest 0 (marks f (r ∷ []) 0 bs)) c.deref_mut.ensures.value
    ∙ marks-append f (r ∷ []) rest 0 c.loop-record.marks.items
    ∙ ap (λ rs. marks f rs 0 c.loop-record.marks.items) (sym next)
    ∙ c.loop-record.invariant

pub returns : goal.returns
returns c =
    let f = c.args.format in
    let rows = c.args.rows.now in
    sym (marks-none f 0 c.loop-record.marks.items)
    ∙ ap (λ rs. marks f rs 0 c.loop-record.marks.items) (sym (drop_all c.loop-record.record-index rows c.loop-record-test.false))
    ∙ c.loop-record.invariant
