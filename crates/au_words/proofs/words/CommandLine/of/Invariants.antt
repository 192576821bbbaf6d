use Rattle.std.proofs.Common.{◌≡◌, map, take}
use Rattle.au_words.proofs.words.CommandLine.of.Given as goal

-- the words so far are held
abbrev pub invariant-loop-word : goal.invariant-loop-word
invariant-loop-word l = map (λ text. text.now) l.texts.items ≡ take l.word-index l.words
