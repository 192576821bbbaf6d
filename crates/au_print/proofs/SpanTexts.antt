-- Spans that follow one another have the texts of all rows.
use Rattle.std.specs.Prelude.{◌≡◌, ◌≤◌, ℕ, List, [], ◌∷◌, ◌++◌, drop, length, slice_range}
use Rattle.std.specs.List.{All, AllByRecursion}
use Rattle.std.proofs.Common.{sym, ap, ◌∙◌, arith, subst}
use Rattle.std.proofs.lemmas.List.{drop_all}
use Rattle.std.proofs.lemmas.List.Concat.{flat_map-append}
use Rattle.std.proofs.lemmas.List.Elements.{All-from_recursion}
use Rattle.std.proofs.lemmas.List.Folds.{drop_split}
use Rattle.au_codes.specs.Codes.{CellRows}
use Rattle.au_encode.specs.Encode.{AreEncoded}
use Rattle.au_print.specs.declared.coded_pieces.Span.{Span}
use Rattle.au_print.specs.declared.lent.LentAnswer.{LentAnswer}
use Rattle.au_print.specs.Lent.{cells_text, plain_rows, rows_text}
use Rattle.au_print.specs.Spans.{AreJoined, IsWithin, span_text, spans_text}

pub more_spans : (first next end : ℕ) (spans all : List Span) (span : Span) → span.first ≡ next → span.end ≡ end → next ≤ end → all ≡ spans ++ span ∷ [] → AreJoined first next spans → AreJoined first end all
more_spans first next end spans all span begins ends below is h = subst (AreJoined first end) (sym is) (put first spans h)
  where
    put : (a : ℕ) (ss : List Span) → AreJoined a next ss → AreJoined a end (ss ++ span ∷ [])
    put a [] h =
        let start : span.first ≡ a = begins ∙ sym h in
        let far : a ≤ span.end = omega (arith, below, h, ends) in
        let close : span.end ≤ end = omega (arith, ends) in
        (start, far, close, ends)
    put a (s ∷ ss) h =
        let far : s.end ≤ end = omega (arith, h.2, below) in
        (h.0, h.1, far, put s.end ss h.3)

module _ (a : LentAnswer) where
  -- each lies among the rows
  each : (place : ℕ) (spans : List Span) → AreEncoded (length a.kinds.now) (plain_rows a) → AreJoined place (length a.batch.now) spans → AllByRecursion (IsWithin a) spans
  each place [] ok h = tt
  each place (span ∷ spans) ok h =
      let first : span.first ≤ span.end = omega (arith, h.0, h.1) in
      (record { ordered = first; within = h.2; encoded = ok }, each span.end spans ok h.3)

  pub all_within : (spans : List Span) → AreEncoded (length a.kinds.now) (plain_rows a) → AreJoined 0 (length a.batch.now) spans → All (IsWithin a) spans
  all_within spans ok h = All-from_recursion (IsWithin a) spans (each 0 spans ok h)

  -- the rows from a place on
  texts_from : (place : ℕ) (spans : List Span) → AreJoined place (length a.batch.now) spans → spans_text a spans ≡ rows_text a (drop place a.batch.now)
  texts_from place [] h =
      let none : drop place a.batch.now ≡ [] = drop_all place a.batch.now (omega (arith, h)) in
      ap (rows_text a) (sym none)
  texts_from place (span ∷ spans) h =
      let rows = a.batch.now in
      let first : span.first ≤ span.end = omega (arith, h.0, h.1) in
      ap (λ (t : List ℕ). span_text a span ++ t) (texts_from span.end spans h.3)
      ∙ sym (flat_map-append (cells_text a) (slice_range rows span.first span.end) (drop span.end rows))
      ∙ ap (λ (rs : CellRows). rows_text a rs) (sym (drop_split rows span.first span.end first))
      ∙ ap (λ (n : ℕ). rows_text a (drop n rows)) h.0

  pub all_texts : (spans : List Span) → AreJoined 0 (length a.batch.now) spans → spans_text a spans ≡ rows_text a a.batch.now
  all_texts spans h = texts_from 0 spans h
