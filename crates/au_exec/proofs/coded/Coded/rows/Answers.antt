-- The codes are as wide as the kinds are many.
use Rattle.std.specs.List.{AllByRecursion}
use Rattle.std.proofs.Common.{◌≡◌, length, map, subst, sym}
use Rattle.au_codes.specs.Decoding.{decoded_row}
use Rattle.au_codes.specs.TextCodes.{text_code}
use Rattle.au_plain.specs.PlanKinds.{HaveKinds}
use Rattle.au_exec.proofs.CodedRows.{coded_wide}
use Rattle.au_exec.proofs.coded.Coded.rows.Goals as goal

pub decoded_values-requires : goal.decoded_values-requires
decoded_values-requires c =
    let own = c.self.inside in
    let kinds = c.deref.result.now in
    let rows = map (decoded_row own.book own.kinds.items) own.batch in
    let have = subst (λ ks. HaveKinds ks rows) (sym c.deref.ensures.value) c.self.invariant.have_kinds in
    record { wide = subst (λ cells. AllByRecursion (λ row. length row ≡ length kinds) cells) (sym c.self.invariant.are_codes) (coded_wide (text_code own.book) kinds rows have) }
