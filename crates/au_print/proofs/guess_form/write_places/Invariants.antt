-- So far the rows at the places before this one are written.
use Rattle.std.proofs.Common.{◌≡◌, ◌++◌, take, flat_map}
use Rattle.au_print.specs.Records.{IsReady, written}
use Rattle.au_print.specs.Texts.{record_text}
use Rattle.au_print.specs.GuessTexts.{counted_fields}
use Rattle.au_print.specs.Places.{row_at}
use Rattle.au_print.proofs.guess_form.write_places.Given as goal

abbrev pub invariant-loop-place : goal.invariant-loop-place
invariant-loop-place l = record {
  ready : IsReady l.writer;
  so_far : written l.writer (λ v. v.items) ≡ written l.initial.writer (λ v. v.items) ++ flat_map (λ p. record_text (counted_fields l.kinds (row_at l.rows p))) (take l.place-index l.places);
}
