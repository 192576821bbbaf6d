-- No label is there twice, so one with these bytes is the only one.
use Rattle.std.proofs.Common.{◌≡◌, ◌∙◌, ◌<◌, List, [], Bor, ℕ, get_or, length, true, ap, subst, sym}
use Rattle.std.specs.Prelude.{bytes_eq}
use Rattle.au_blocks.proofs.NearLabels.{stands}
use Rattle.au_blocks.proofs.gather.stands_at.Goals as goal

abbrev text : Bor (List ℕ) → List ℕ
text k = k.now

pub returns-then-place-known : goal.returns-then-place-known
returns-then-place-known c = λ says.
    let ks = c.as_slice-known.result.now in
    let keys = c.as_slice-known.ensures.keys in
    let place = c.args.place in
    let none : Bor (List ℕ) = record { ref_ptr = (0, 0); now = [] } in
    let k = get_or ks place none in
    let below : place < length ks = c.if-place-known.true in
    let same : bytes_eq c.args.label.now k.now ≡ true = sym c.eq.ensures ∙ says in
    stands text c.args.label.now c.args.labels.now.keys place none k c.as_slice-known.ensures.unique (subst (λ (xs : List (Bor (List ℕ))). place < length xs) keys below) (ap (λ (xs : List (Bor (List ℕ))). get_or xs place none) keys) same
