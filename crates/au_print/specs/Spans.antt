-- Spans of an answer's rows: those from one place to before another.
use Rattle.std.specs.Prelude.{◌≡◌, ◌≤◌, ℕ, List, [], ◌∷◌, ◌++◌, flat_map, length, slice_range}
use Rattle.std.proofs.lemmas.List.Concat.{flat_map-append}
use Rattle.au_encode.specs.Encode.{AreEncoded}
use Rattle.au_print.specs.declared.coded_pieces.Span.{Span}
use Rattle.au_print.specs.declared.lent.LentAnswer.{LentAnswer}
use Rattle.au_print.specs.Lent.{plain_rows, rows_text}

-- one begins where the one before ends, from the first place to before the last
abbrev pub AreJoined : ℕ → ℕ → List Span → Type 0
AreJoined first end [] = first ≡ end
AreJoined first end (span ∷ spans) = (span.first ≡ first) × (first ≤ span.end) × (span.end ≤ end) × AreJoined span.end end spans

-- it lies among the rows, which encode ranges
pub record IsWithin (a : LentAnswer) (span : Span) : Type 0 where
  pub ordered : span.first ≤ span.end
  pub within : span.end ≤ length a.batch.now
  pub encoded : AreEncoded (length a.kinds.now) (plain_rows a)

-- the records of the rows of a span, and of spans
abbrev pub span_text : LentAnswer → Span → List ℕ
span_text a span = rows_text a (slice_range a.batch.now span.first span.end)

abbrev pub spans_text : LentAnswer → List Span → List ℕ
spans_text a spans = flat_map (span_text a) spans

pub spans_apart : (a : LentAnswer) (xs ys : List Span) → spans_text a (xs ++ ys) ≡ spans_text a xs ++ spans_text a ys
spans_apart a xs ys = flat_map-append (span_text a) xs ys
