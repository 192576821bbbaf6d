-- Each row of a relation has as many ranges as there are kinds.
use Rattle.std.specs.Prelude.{◌≡◌, ℕ, suc, List, [], ◌∷◌, length}
use Rattle.std.specs.List.{AllByRecursion, AllZip}
use Rattle.std.proofs.Common.{refl, ◌∙◌, ap}
use Rattle.au_value.specs.declared.kinds.Kind.{Kind}
use Rattle.au_value.specs.Ranges.{Span, IsRangeOf}
use Rattle.au_algebra.specs.Bounded.{Bounded}
use Rattle.au_algebra.specs.Laws.{IsRelation}

same_length : (ks : List Kind) (cells : List Span) → AllZip IsRangeOf ks cells → length cells ≡ length ks
same_length [] [] h = refl
same_length [] (c ∷ cells) h = elim h [ ]
same_length (k ∷ ks) [] h = elim h [ ]
same_length (k ∷ ks) (c ∷ cells) h = ap suc (same_length ks cells h.1)

pub have_columns : (ks : List Kind) (n : ℕ) (rows : Bounded) → length ks ≡ n → IsRelation ks rows → AllByRecursion (λ r. length r.cells ≡ n) rows
have_columns ks n [] e h = tt
have_columns ks n (r ∷ rows) e h = (same_length ks r.cells h.0.cells ∙ e, have_columns ks n rows e h.1)
