-- Where the book has no text, the rows have no long one.
use Rattle.std.proofs.Common.{◌≡◌, map, subst}
use Rattle.au_codes.specs.Decoding.{decoded_row}
use Rattle.au_codes.specs.Gathering.{with_rows}
use Rattle.au_exec.proofs.HeldCodes.{nothing_added}
use Rattle.au_exec.proofs.coded.Coded.add_texts.Goals as goal

pub returns-else-has_texts : goal.returns-else-has_texts
returns-else-has_texts c =
    let own = c.self.inside in
    let texts = c.args.texts.now in
    subst (λ rows. texts ≡ with_rows texts rows) c.self.view_is
    (nothing_added own.book texts (map (decoded_row own.book own.kinds.items) own.batch) (c.has_texts.ensures c.if-has_texts.false) c.self.invariant.knows)
