-- Whether the cells from a place on are certain, or those of two rows the same, tell the cells there and those behind them.
use Rattle.std.specs.Prelude.{◌≡◌, ℕ, ◌+◌, ◌<◌, Bool, ◌&&◌, List, length, drop, Some, slice_get, get_or, pos}
use Rattle.std.proofs.Common.{sym, ap, ◌∙◌}
use Rattle.std.proofs.lemmas.Option.{slice_get-get_or}
use Rattle.au_value.specs.declared.value.Value.TheVariants.{Int}
use Rattle.au_value.specs.Ranges.{Span, all_certain, all_certainly_equal, certain, certainly_equal, is_certain}
use Rattle.au_translate.proofs.Places.{left_at}

-- a range where there is none
abbrev none : Span
none = certain (Int (pos 0))

pub certain_at : (cs : List Span) (i : ℕ) (b : Bool) → i < length cs → ((x : Span) → slice_get cs i ≡ Some x → b ≡ is_certain x) → all_certain (drop i cs) ≡ (b && all_certain (drop (i + 1) cs))
certain_at cs i b within is =
    let at = slice_get-get_or cs i none within in
    ap all_certain (left_at cs i (get_or cs i none) at) ∙ ap (λ t. t && all_certain (drop (i + 1) cs)) (sym (is (get_or cs i none) at))

pub same_at : (xs ys : List Span) (i : ℕ) (b : Bool) → i < length xs → i < length ys → ((x y : Span) → slice_get xs i ≡ Some x → slice_get ys i ≡ Some y → b ≡ certainly_equal x y)
    → all_certainly_equal (drop i xs) (drop i ys) ≡ (b && all_certainly_equal (drop (i + 1) xs) (drop (i + 1) ys))
same_at xs ys i b left right is =
    let x = get_or xs i none in
    let y = get_or ys i none in
    let here = slice_get-get_or xs i none left in
    let there = slice_get-get_or ys i none right in
    (λ j. all_certainly_equal (left_at xs i x here j) (left_at ys i y there j))
    ∙ ap (λ t. t && all_certainly_equal (drop (i + 1) xs) (drop (i + 1) ys)) (sym (is x y here there))
