-- The hull of several rows, one row after the other.
use Rattle.std.specs.Prelude.{◌≡◌, List, [], ◌∷◌}
use Rattle.std.proofs.Common.{refl, sym}
use Rattle.au_value.specs.Ranges.{Span, range, hulls}
use Rattle.au_value.proofs.RangeLaws.{lesser_assoc, greater_assoc}
use Rattle.au_algebra.specs.Bounded.{hull_of}

hulls_assoc : (a b c : List Span) → hulls (hulls a b) c ≡ hulls a (hulls b c)
hulls_assoc [] b c = refl
hulls_assoc (x ∷ a) [] c = refl
hulls_assoc (x ∷ a) (y ∷ b) [] = refl
hulls_assoc (x ∷ a) (y ∷ b) (z ∷ c) = λ i.
    range (sym (lesser_assoc x.lo y.lo z.lo) i) x.sg (sym (greater_assoc x.hi y.hi z.hi) i) ∷ hulls_assoc a b c i

-- the first two rows may be put into one
pub hull_of_two : (a b : List Span) (rows : List (List Span)) → hull_of (hulls a b ∷ rows) ≡ hull_of (a ∷ b ∷ rows)
hull_of_two a b [] = refl
hull_of_two a b (c ∷ rows) = hulls_assoc a b (hull_of (c ∷ rows))
