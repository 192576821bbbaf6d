-- The least and the greatest of some values, one value after the other.
use Rattle.std.specs.Prelude.{◌≡◌, ℕ, ◌+◌, ◌<◌, List, [], ◌∷◌, length, drop}
use Rattle.std.proofs.Common.{refl, sym, ◌∙◌, get_or, subst}
use Rattle.au_value.specs.declared.extreme.Extreme.{Extreme}
use Rattle.au_value.specs.declared.extreme.Extreme.TheVariants.{Least, Greatest}
use Rattle.au_value.specs.declared.kinds.Kind.{Kind}
use Rattle.au_value.specs.declared.value.Value.{Value}
use Rattle.au_value.specs.Extremes.{preferred}
use Rattle.au_value.specs.Order.{kind_of}
use Rattle.au_value.specs.Ranges.{Span, IsRangeOf}
use Rattle.au_value.proofs.RangeLaws.{lesser_assoc, greater_assoc, kind_lesser, kind_greater}
use Rattle.au_algebra.specs.Bounded.{RangeRow, Bounded}
use Rattle.au_kfull.specs.declared.sums.Bound.{Bound}
use Rattle.au_kfull.specs.declared.sums.Bound.TheVariants.{Lower, Guess, Upper}
use Rattle.au_kfull.specs.Groups.{end_of}
use Rattle.au_kfull.specs.Extremes.{extreme_of, HasColumn, HaveColumn}
use Rattle.au_kfull.proofs.RowByRow.{split_at}

-- the first two values may be put into one
pub extreme_two : (which : Extreme) (a b : Value) (vs : List Value) → extreme_of which (preferred which a b ∷ vs) ≡ extreme_of which (a ∷ b ∷ vs)
extreme_two Least a b [] = refl
extreme_two Least a b (v ∷ vs) = sym (lesser_assoc a b (extreme_of Least (v ∷ vs)))
extreme_two Greatest a b [] = refl
extreme_two Greatest a b (v ∷ vs) = sym (greater_assoc a b (extreme_of Greatest (v ∷ vs)))

-- and have one kind
pub preferred_kind : (which : Extreme) (k : Kind) (a b : Value) → kind_of a ≡ k → kind_of b ≡ k → kind_of (preferred which a b) ≡ k
preferred_kind Least k a b p q = kind_lesser k a b p q
preferred_kind Greatest k a b p q = kind_greater k a b p q

-- each value of a range has its kind
pub end_kind : (bound : Bound) (k : Kind) (r : Span) → IsRangeOf k r → kind_of (end_of bound r) ≡ k
end_kind Lower k r p = p.range.lo_kind ∙ p.kind
end_kind Guess k r p = p.kind
end_kind Upper k r p = p.range.hi_kind ∙ p.kind

-- the column of the row at hand, and of those that are left
pub column_at : (k : Kind) (c : ℕ) (rows : Bounded) (i : ℕ) (r : RangeRow) → i < length rows → r ≡ get_or rows i r → HaveColumn k c (drop i rows) → HasColumn k c r × HaveColumn k c (drop (i + 1) rows)
column_at k c rows i r h e p = let both : HaveColumn k c (r ∷ drop (i + 1) rows) = subst (HaveColumn k c) (split_at rows i r h e) p in (both.0, both.1)
