-- Texts in order, of which none is twice, and not too many, are a book.
use Rattle.std.proofs.Common.{◌≡◌, ◌<◌, ◌+◌, ◌^◌, arith, length}
use Rattle.std.specs.Str.{IsUtf8}
use Rattle.au_codes.proofs.BookPlaces.{rising_from, same_texts}
use Rattle.au_codes.proofs.book.Codebook.of.Goals as goal

pub invariant_of-result : goal.invariant_of-result
invariant_of-result c =
    let few : length c.in_ok-texts.texts.keys + 13 < 2 ^ 31 =
    (let len : c.len.result ≡ length c.in_ok-texts.texts.keys = c.len.ensures.len in let most = c.if-len-gt-MOST_TEXTS.false in omega (arith, len, most)) in
    record {
      rising = rising_from c.in_ok-texts.texts.keys c.in_ok-texts.ensures.sorted c.in_ok-texts.ensures.unique;
      texts = same_texts IsUtf8 c.in_ok-texts.texts.keys c.args.texts.keys c.in_ok-texts.ensures.same c.requires;
      few = few;
    }

pub returns : goal.returns
returns c = record { is_book = invariant_of-result c; same = c.in_ok-texts.ensures.same }
