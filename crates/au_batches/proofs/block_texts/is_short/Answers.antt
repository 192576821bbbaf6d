-- A text of at most 12 bytes needs no book.
use Rattle.std.proofs.Common.{◌≡◌, rules}
use Rattle.std.specs.Str.{IsUtf8}
use Rattle.au_batches.proofs.ShortTexts.{short_known}
use Rattle.au_batches.proofs.block_texts.is_short.Goals as goal

pub returns : goal.returns
returns c =
    let same : c.as_bytes.result.now ≡ c.args.text.now = search (rules, c.as_bytes.ensures.value, c.as_str.ensures) in
    let utf8 : IsUtf8 c.args.text.now = search (rules, c.as_bytes.ensures.utf8, c.as_str.utf8, c.as_str.ensures) in
    λ few. short_known c.args.text.now c.as_bytes.result.now same utf8 few
