-- Bytes that are a text, and bytes that are none.
use Rattle.std.proofs.Common.{◌≡◌, ◌∙◌, [], ap, take}
use Rattle.std.proofs.lemmas.Result.{IfOk-weaker}
use Rattle.au_codes.specs.Decoding.{text_or_none, unpacked}
use Rattle.au_codes.proofs.TextsBack.{no_text, valid_text}
use Rattle.au_codes.proofs.text_codes.short_text.Goals as goal

pub returns-in-Ok : goal.returns-in-Ok
returns-in-Ok c =
    let cases = c.in-Ok.ensures.cases in
    let bytes = ap (take c.args.length) c.unpack-bytes.ensures in
    IfOk-weaker c.of.result (λ w. w ≡ c.in-Ok.text.now) (λ w. w ≡ text_or_none (take c.args.length (unpacked 12 c.args.front [])))
    (λ w is. is ∙ valid_text (take c.args.length c.unpack-bytes.result) c.in-Ok.text.now (take c.args.length (unpacked 12 c.args.front [])) cases.0 cases.1 bytes) c.of.ensures

pub returns-in-Err : goal.returns-in-Err
returns-in-Err c =
    let cases = c.in-Err.ensures.cases in
    let bytes = ap (take c.args.length) c.unpack-bytes.ensures in
    IfOk-weaker c.of-in-Err.result (λ w. w ≡ []) (λ w. w ≡ text_or_none (take c.args.length (unpacked 12 c.args.front [])))
    (λ w is. is ∙ no_text (take c.args.length c.unpack-bytes.result) (take c.args.length (unpacked 12 c.args.front [])) cases.0 bytes) c.of-in-Err.ensures
