-- A column without a defect.
use Rattle.std.proofs.Common.{◌≡◌, ◌∙◌, [], None, false, get_or, length, refl, sym, ltb}
use Rattle.std.proofs.lemmas.Bool.{le-ltb}
use Rattle.std.proofs.lemmas.List.{get_or_read}
use Rattle.au_blocks.specs.Headers.{is_unknown}
use Rattle.au_blocks.specs.Defects.{same_name}
use Rattle.au_blocks.proofs.header_faults.column_fault.Goals as goal

pub returns-in-None : goal.returns-in-None
returns-in-None c =
    let names = c.args.names.now in
    let at : c.index-names-place.result ≡ get_or names c.args.place [] = get_or_read names c.args.place c.index-names-place.result c.requires c.index-names-place.is [] in
    let name : c.as_str-name.result.now ≡ get_or names c.args.place [] = c.as_str-name.ensures ∙ at in
    let short : ltb 128 (length (get_or names c.args.place [])) ≡ false = rw name at (le-ltb 128 (length c.as_str-name.result.now) c.if-name-gt-MAX_NAME.false) in
    let known : is_unknown c.args.format c.args.field.now ≡ false = sym c.if-is_unknown.ensures in
    let other : same_name names c.args.place (get_or names c.args.place []) ≡ None = rw name at (sym c.in-None.ensures) in
    rw (short, known, other) refl
