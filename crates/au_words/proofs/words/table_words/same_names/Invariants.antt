use Rattle.std.proofs.Common.{◌≡◌, [], map, take, drop}
use Rattle.au_words.specs.Words.{same_names}
use Rattle.au_words.specs.CommandLine.{name_of}
use Rattle.au_words.proofs.words.table_words.same_names.Given as goal

-- no name so far is one before it
abbrev pub invariant-loop-place : goal.invariant-loop-place
invariant-loop-place l =
    same_names [] (map name_of l.tables) ≡ same_names (take l.place (map name_of l.tables)) (drop l.place (map name_of l.tables))
