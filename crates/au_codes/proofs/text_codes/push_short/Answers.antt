-- Bytes that are a text are put behind the others, and of bytes that are none nothing.
use Rattle.std.specs.Prelude.{List, ℕ, OnOk}
use Rattle.std.proofs.Common.{◌≡◌, ◌∙◌, ◌++◌, [], ap, append-nil, subst, sym, take}
use Rattle.au_codes.specs.Decoding.{unpacked}
use Rattle.au_codes.proofs.TextsBack.{no_text, valid_text}
use Rattle.au_codes.proofs.text_codes.push_short.Goals as goal

pub returns-in-Ok : goal.returns-in-Ok
returns-in-Ok c =
    let cases = c.in-Ok.ensures.cases in
    let old = c.args.room.now.items in
    let bytes = ap (take c.args.length) c.unpack-bytes.ensures in
    let is = c.as_bytes.ensures.value ∙ valid_text (take c.args.length c.unpack-bytes.result) c.in-Ok.text.now (take c.args.length (unpacked 12 c.args.front [])) cases.0 cases.1 bytes in
    subst (λ (w : List ℕ). OnOk c.push_bytes.result (c.push_bytes.new.room.items ≡ old ++ w)) is c.push_bytes.ensures

pub returns-in-Err : goal.returns-in-Err
returns-in-Err c =
    let cases = c.in-Err.ensures.cases in
    let old = c.args.room.now.items in
    let bytes = ap (take c.args.length) c.unpack-bytes.ensures in
    sym (append-nil old) ∙ ap (λ (w : List ℕ). old ++ w) (no_text (take c.args.length c.unpack-bytes.result) (take c.args.length (unpacked 12 c.args.front [])) cases.0 bytes)
