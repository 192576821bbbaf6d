-- The line is a text with LF put behind it, so it is UTF-8 as both are.
use Rattle.std.proofs.Common.{◌≡◌, ◌∙◌, ◌++◌, [], ◌∷◌, ap, arith, subst, sym}
use Rattle.std.specs.Prelude.{IsUtf8, string_bytes, vec_items}
use Rattle.std.proofs.lemmas.Str.{IsUtf8-append, IsUtf8-from_ascii, IsUtf8-string_bytes, is_utf8-from_IsUtf8}
use Rattle.std.proofs.lemmas.Str.Ascii.{IsAscii-cons, IsAscii-nil}
use Rattle.au_plain.specs.Plans.{plan_tree}
use Rattle.au_sqltext.specs.Texts.{plan_text}
use Rattle.au_engine.proofs.exchange.texts.plan_line.Goals as goal

line_feed_utf8 : IsUtf8 (10 ∷ [])
line_feed_utf8 = IsUtf8-from_ascii (10 ∷ []) (IsAscii-cons 10 [] (omega arith) IsAscii-nil)

pub returns : goal.returns
returns c =
    let bytes = string_bytes c.in_ok-from_str.field-0 in
    let pushed : c.push.new.self.items ≡ bytes ++ 10 ∷ [] = c.in_ok-push.ensures.items ∙ ap (λ v. vec_items v ++ 10 ∷ []) c.into_bytes-line.ensures.value in
    let text : bytes ≡ plan_text (plan_tree c.args.plan.now) = c.in_ok-from_str.ensures.ok ∙ c.as_str.ensures ∙ c.in_ok-text.ensures in
    let utf8 = IsUtf8-append bytes (10 ∷ []) (IsUtf8-string_bytes c.in_ok-from_str.field-0) line_feed_utf8 in
    (pushed ∙ ap (λ t. t ++ 10 ∷ []) text, is_utf8-from_IsUtf8 c.push.new.self.items (subst IsUtf8 (sym pushed) utf8))
