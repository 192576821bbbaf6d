-- The batches so far, with those of the sources that are left, are those of all.
use Rattle.std.proofs.Common.{◌≡◌, ◌++◌, drop}
use Rattle.au_codes.specs.Codes.{coded_tables}
use Rattle.au_codes.specs.TextCodes.{text_code}
use Rattle.au_exec.proofs.coded_sources.coded_sources.Given as goal

abbrev pub invariant-loop-source : goal.invariant-loop-source
invariant-loop-source l = l.batches.items ++ coded_tables (text_code l.book) (drop l.source-index l.sources) ≡ coded_tables (text_code l.book) l.sources
