-- The first `..` of a text.
use Rattle.std.proofs.Common.{Bor, ◌≡◌, List, ℕ, Option, Some, None, sym}
use Rattle.std.specs.Prelude.{option_map, MatchOption, codes}
use Rattle.std.specs.Str.Pattern.{FindsText, SplitsAroundMatch}
use Rattle.au_blocks.specs.Spellings.{cut_dots}
use Rattle.au_blocks.proofs.Dots.{cut-found, cut-missing}
use Rattle.au_blocks.proofs.spellings.cut.Goals as goal

first_dots : (s : List ℕ) (r : Option (Bor (List ℕ) × Bor (List ℕ)))
    → MatchOption r (FindsText (codes "..") s None) (λ x. SplitsAroundMatch (FindsText (codes "..")) s x.0.now x.1.now) → option_map (λ p. (p.0.now, p.1.now)) r ≡ cut_dots s
first_dots s None is = sym (cut-missing s is)
first_dots s (Some x) is =
    let (i, j, found, front, back, order, front_length, back_length) = is in
    rw (front, back) (sym (cut-found s i j found.0 found.1))

pub returns : goal.returns
returns c = first_dots c.args.field.now c.split_once.result c.split_once.ensures.cases
