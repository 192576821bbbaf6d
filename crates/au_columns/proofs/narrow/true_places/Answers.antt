-- One place more, if its flag is true.
use Rattle.std.proofs.Common.{◌≡◌, ◌+◌, ◌<◌, ℤ, ap, arith, length, of_z, set, take, to_z, w64, ◌∙◌}
use Rattle.std.proofs.lemmas.Int.{ints, to_z-of_z}
use Rattle.std.proofs.lemmas.List.{take_all}
use Rattle.au_codes.specs.CellMeaning.{truth}
use Rattle.au_columns.specs.Steps.{number_at}
use Rattle.au_columns.specs.Batches.{one_if_true, places_where}
use Rattle.au_columns.proofs.Places.{next_places}
use Rattle.au_columns.proofs.narrow.true_places.Goals as goal

pub loop-i-preserved : goal.loop-i-preserved
loop-i-preserved c =
    let i = c.loop-i.i in
    let count = c.loop-i.count in
    let places = c.loop-i.places in
    let flags = c.args.flags.now in
    let few = c.loop-i.invariant.few in
    let small = c.one_if-count.ensures.small in
    let below : count < length places = omega arith in
    let within : i < length flags = omega arith in
    let kept : to_z w64 (of_z w64 (number_at flags i)) ≡ number_at flags i = search (arith, ints, to_z-of_z) in
    let one : c.one_if-count.result ≡ one_if_true (truth (number_at flags i)) = c.one_if-count.ensures.is ∙ ap (λ (z : ℤ). one_if_true (truth z)) kept in
    record {
      few = omega arith;
      places = ap (λ n. take (count + n) (set places count i)) one ∙ next_places flags places i count below within c.loop-i.invariant.places;
    }

pub returns-clause-places : goal.returns-clause-places
returns-clause-places c =
    c.loop-i.invariant.places ∙ ap (places_where 0) (take_all c.loop-i.i c.args.flags.now (omega arith))
