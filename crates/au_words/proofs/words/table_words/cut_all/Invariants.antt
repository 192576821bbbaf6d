use Rattle.std.proofs.Common.{◌≡◌, map, take}
use Rattle.au_words.specs.Words.{named_path}
use Rattle.au_words.specs.CommandLine.{seen_table, texts}
use Rattle.au_words.proofs.words.table_words.cut_all.Given as goal

-- the words so far are cut
abbrev pub invariant-loop-word : goal.invariant-loop-word
invariant-loop-word l = map seen_table l.tables.items ≡ map named_path (texts (take l.word-index l.words))
