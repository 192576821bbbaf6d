-- A range stands next, of which each value has its place.
use Rattle.std.proofs.Common.{◌≡◌, ◌+◌, ◌++◌, ◌∙◌, [], ap, arith, get_or, refl, subst, sym}
use Rattle.au_value.specs.Ranges.{IsRange, Span, range}
use Rattle.au_print.specs.Begun.{fields_behind}
use Rattle.au_print.specs.CodedValues.{value_of}
use Rattle.au_print.specs.Lent.{row_values}
use Rattle.au_print.specs.Records.{written}
use Rattle.au_print.specs.Texts.{range_fields}
use Rattle.au_print.proofs.EncodedPlaces.{range_at}
use Rattle.au_print.proofs.PlainRows.{fewer}
use Rattle.au_print.proofs.RowTexts.{here, next_range, ranges_text}
use Rattle.au_print.proofs.coded_fields.write_cells.Goals as goal

pub overflow_add-place : goal.overflow_add-place
overflow_add-place c =
    let a = c.args.answer.now in
    let vs = row_values a c.args.row in
    let at = here c.in-Some.kind.now c.in-Some.other_kinds.now c.loop-kind.kinds.now vs c.loop-kind.place c.in-Some.ensures.cases.0 c.loop-kind.invariant.encoded in
    let kinds = fewer a.book.now a.value_kinds.now (get_or a.batch.now c.args.row []) in
    omega (arith, at.within, kinds, c.number_of-most.ensures, c.number_of-most.type_inv)

pub overflow_add-place-in-Some : goal.overflow_add-place-in-Some
overflow_add-place-in-Some c =
    let a = c.args.answer.now in
    let vs = row_values a c.args.row in
    let at = here c.in-Some.kind.now c.in-Some.other_kinds.now c.loop-kind.kinds.now vs c.loop-kind.place c.in-Some.ensures.cases.0 c.loop-kind.invariant.encoded in
    let kinds = fewer a.book.now a.value_kinds.now (get_or a.batch.now c.args.row []) in
    omega (arith, at.within, kinds, c.number_of-most.ensures, c.number_of-most.type_inv)

pub overflow_add-place-in-Some-2 : goal.overflow_add-place-in-Some-2
overflow_add-place-in-Some-2 c =
    let a = c.args.answer.now in
    let vs = row_values a c.args.row in
    let at = here c.in-Some.kind.now c.in-Some.other_kinds.now c.loop-kind.kinds.now vs c.loop-kind.place c.in-Some.ensures.cases.0 c.loop-kind.invariant.encoded in
    let kinds = fewer a.book.now a.value_kinds.now (get_or a.batch.now c.args.row []) in
    omega (arith, at.within, kinds, c.number_of-most.ensures, c.number_of-most.type_inv)

pub value_at_place-sg-requires-clause-place : goal.value_at_place-sg-requires-clause-place
value_at_place-sg-requires-clause-place c =
    let a = c.args.answer.now in
    let vs = row_values a c.args.row in
    let at = here c.in-Some.kind.now c.in-Some.other_kinds.now c.loop-kind.kinds.now vs c.loop-kind.place c.in-Some.ensures.cases.0 c.loop-kind.invariant.encoded in
    omega (arith, at.within)

pub value_at_place-hi-requires-clause-place : goal.value_at_place-hi-requires-clause-place
value_at_place-hi-requires-clause-place c =
    let a = c.args.answer.now in
    let vs = row_values a c.args.row in
    let at = here c.in-Some.kind.now c.in-Some.other_kinds.now c.loop-kind.kinds.now vs c.loop-kind.place c.in-Some.ensures.cases.0 c.loop-kind.invariant.encoded in
    omega (arith, at.within)

pub write_range-requires-clause-range : goal.write_range-requires-clause-range
write_range-requires-clause-range c =
    let a = c.args.answer.now in
    let vs = row_values a c.args.row in
    let at = here c.in-Some.kind.now c.in-Some.other_kinds.now c.loop-kind.kinds.now vs c.loop-kind.place c.in-Some.ensures.cases.0 c.loop-kind.invariant.encoded in
    let book = a.book.now in
    let is : range (value_of book c.value_at_place-lo.result) (value_of book c.value_at_place-sg.result) (value_of book c.value_at_place-hi.result) ≡ range_at vs c.loop-kind.place =
    λ i. range (c.value_at_place-lo.ensures i) (c.value_at_place-sg.ensures i) (c.value_at_place-hi.ensures i) in
    subst IsRange (sym is) at.ordered

pub loop-kind-preserved : goal.loop-kind-preserved
loop-kind-preserved c =
    let a = c.args.answer.now in
    let vs = row_values a c.args.row in
    let at = here c.in-Some.kind.now c.in-Some.other_kinds.now c.loop-kind.kinds.now vs c.loop-kind.place c.in-Some.ensures.cases.0 c.loop-kind.invariant.encoded in
    let book = a.book.now in
    let is : range (value_of book c.value_at_place-lo.result) (value_of book c.value_at_place-sg.result) (value_of book c.value_at_place-hi.result) ≡ range_at vs c.loop-kind.place =
    λ i. range (c.value_at_place-lo.ensures i) (c.value_at_place-sg.ensures i) (c.value_at_place-hi.ensures i) in
    let k = c.in-Some.kind.now in
    let old = written c.loop-kind.writer (λ v. v.items) in
    let new = written c.write_range.new.writer (λ v. v.items) in
    let total = written c.args.writer.now (λ v. v.items) ++ ranges_text a.kinds.now vs 0 in
    let put = c.in_ok-write_range.ensures.text ∙ ap (λ (r : Span). old ++ fields_behind (range_fields k r)) is in
    record {
      begun = c.in_ok-write_range.ensures.begun;
      encoded = at.rest;
      rest = next_range k c.in-Some.other_kinds.now c.loop-kind.kinds.now vs c.loop-kind.place (c.loop-kind.place + 3) old new total c.in-Some.ensures.cases.0 c.loop-kind.invariant.encoded refl put c.loop-kind.invariant.rest;
    }
