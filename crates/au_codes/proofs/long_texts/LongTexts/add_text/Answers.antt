-- A short text, or one that is there, leaves the texts as they were.
use Rattle.std.proofs.Common.{◌≡◌, rules, true}
use Rattle.au_codes.specs.Books.{has}
use Rattle.au_codes.specs.TextCodes.{is_short}
use Rattle.au_codes.proofs.GatheredTexts.{held_stays, short_stays}
use Rattle.au_codes.proofs.long_texts.LongTexts.add_text.Goals as goal
use Rattle.au_codes.proofs.long_texts.LongTexts.add_text.Goals.{then-is_short-via-then-is_short, then-is_short-via-else-is_short+then-contains}

pub returns-then-is_short : goal.returns-then-is_short
returns-then-is_short c = elim c.then-is_short.branch [
  | then-is_short-via-then-is_short w ↦
      let short : is_short c.args.word.now ≡ true = search (rules, c.is_short.ensures.short, w.if-is_short.true) in
      short_stays c.args.self.now c.args.word.now c.is_short.ensures.utf8 short
  | then-is_short-via-else-is_short+then-contains w ↦
      let there : has c.args.self.now c.args.word.now ≡ true = search (rules, w.contains.ensures, w.if-contains.true) in
      held_stays c.args.self.now c.args.word.now there
]
