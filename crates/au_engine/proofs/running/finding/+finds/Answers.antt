-- The parts of what both sides find stand behind what the sources before the product hold.
use Rattle.std.proofs.Common.{◌++◌, ◌∙◌, ap, sym}
use Rattle.au_program.specs.Sources.{AreParts, Holds, left_side, part_rows, right_side}
use Rattle.au_program.proofs.CompressedPairs.{left_kinds_held, right_kinds_held}
use Rattle.au_program.proofs.Together.{at_equal, at_ok, from_two}
use Rattle.au_engine.specs.Answers.{blocks_of}
use Rattle.au_engine.proofs.FoundSources.{IsOfSide, parts_put, put_behind, sides_are}
use Rattle.au_engine.proofs.running.finding.+finds.Goals as goal

pub with_pairs-put_parts-requires-clause-left_kinds : goal.with_pairs-put_parts-requires-clause-left_kinds
with_pairs-put_parts-requires-clause-left_kinds g t c =
    let ts = blocks_of c.args.tables.now in
    let pairing = c.args.pairing.now in
    let first = at_ok c.relation_found-first.result c.in_ok-first.first c.in_ok-first.ensures.values.0 (IsOfSide (Holds ts c.args.left.now) (left_side pairing)) c.relation_found-first.ensures.rows in
    let of_left = at_equal c.in_ok-first.first c.in_ok-second.held.0 (sym (ap (λ h. h.0) c.in_ok-second.ensures.values.1)) (IsOfSide (Holds ts c.args.left.now) (left_side pairing)) first in
    let of_right = at_ok c.relation_found-second.result c.in_ok-second.second c.in_ok-second.ensures.values.0 (IsOfSide (Holds ts c.args.right.now) (right_side pairing)) c.relation_found-second.ensures.rows in
    left_kinds_held c.in_ok-second.held.0 pairing.left_columns c.in_ok-second.second pairing.right_columns
    (sides_are (Holds ts c.args.left.now) (Holds ts c.args.right.now) pairing c.in_ok-second.held.0 c.in_ok-second.second of_left of_right c.requires.pairs)

pub with_pairs-put_parts-requires-clause-right_kinds : goal.with_pairs-put_parts-requires-clause-right_kinds
with_pairs-put_parts-requires-clause-right_kinds g t c =
    let ts = blocks_of c.args.tables.now in
    let pairing = c.args.pairing.now in
    let first = at_ok c.relation_found-first.result c.in_ok-first.first c.in_ok-first.ensures.values.0 (IsOfSide (Holds ts c.args.left.now) (left_side pairing)) c.relation_found-first.ensures.rows in
    let of_left = at_equal c.in_ok-first.first c.in_ok-second.held.0 (sym (ap (λ h. h.0) c.in_ok-second.ensures.values.1)) (IsOfSide (Holds ts c.args.left.now) (left_side pairing)) first in
    let of_right = at_ok c.relation_found-second.result c.in_ok-second.second c.in_ok-second.ensures.values.0 (IsOfSide (Holds ts c.args.right.now) (right_side pairing)) c.relation_found-second.ensures.rows in
    right_kinds_held c.in_ok-second.held.0 pairing.left_columns c.in_ok-second.second pairing.right_columns
    (sides_are (Holds ts c.args.left.now) (Holds ts c.args.right.now) pairing c.in_ok-second.held.0 c.in_ok-second.second of_left of_right c.requires.pairs)

pub with_pairs-returns-clause-rows : goal.with_pairs-returns-clause-rows
with_pairs-returns-clause-rows g t c =
    let ts = blocks_of c.args.tables.now in
    let pairing = c.args.pairing.now in
    let first = at_ok c.relation_found-first.result c.in_ok-first.first c.in_ok-first.ensures.values.0 (IsOfSide (Holds ts c.args.left.now) (left_side pairing)) c.relation_found-first.ensures.rows in
    let of_left = at_equal c.in_ok-first.first c.in_ok-second.held.0 (sym (ap (λ h. h.0) c.in_ok-second.ensures.values.1)) (IsOfSide (Holds ts c.args.left.now) (left_side pairing)) first in
    let of_right = at_ok c.relation_found-second.result c.in_ok-second.second c.in_ok-second.ensures.values.0 (IsOfSide (Holds ts c.args.right.now) (right_side pairing)) c.relation_found-second.ensures.rows in
    let l = c.in_ok-second.held.0 in
    let r = c.in_ok-second.second in
    let front = c.in_ok-inputs.inputs.items in
    let same = ap (λ h. h.1.items) c.in_ok-second.ensures.values.1 ∙ ap (λ v. v.items) c.in_ok-first.ensures.values.1 in
    from_two c.put_parts.result _ _ _
    (λ v is fit.
    put_behind (Holds ts c.args.before.now) (AreParts (Holds ts c.args.left.now) (Holds ts c.args.right.now) pairing) front v.items c.in_ok-inputs.ensures.rows
    (parts_put (Holds ts c.args.left.now) (Holds ts c.args.right.now) pairing l r of_left of_right front v.items (is ∙ ap (λ xs. xs ++ part_rows pairing.size l r) same) fit))
    c.put_parts.ensures.rows c.put_parts.ensures.fit
