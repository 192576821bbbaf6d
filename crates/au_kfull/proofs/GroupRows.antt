-- The rows of an output: their kinds, and which overlap its keys.
use Rattle.std.specs.Prelude.{◌≡◌, ◌<◌, Bool, true, false, ◌&&◌, List, [], ◌∷◌, length, map, filter}
use Rattle.std.proofs.Common.{arith, refl, sym, ◌∙◌, subst}
use Rattle.au_value.specs.declared.kinds.Kind.{Kind}
use Rattle.au_value.specs.Order.{at_most}
use Rattle.au_value.specs.Ranges.{Span, all_overlap}
use Rattle.au_algebra.specs.Bounded.{Bounded, hull_of}
use Rattle.au_algebra.proofs.Each.{all_from}
use Rattle.au_kfull.specs.declared.keys.Keys.{Keys}
use Rattle.au_kfull.specs.Keys.{keys_of, kinds, HasKinds, HasKeyKinds}
use Rattle.au_kfull.proofs.KeyKinds.{kinds-keys_of, kinds-hulls}

-- rows of the kinds of this one have keys of its keys' kinds
pub key_kinds : (k : Keys) (head : List Span) (rows : Bounded) → HasKinds (kinds head) rows → HasKeyKinds k (kinds (keys_of k head)) rows
key_kinds k head rows h =
    all_from (λ r. kinds r.cells ≡ kinds head) (λ r. kinds (keys_of k r.cells) ≡ kinds (keys_of k head)) rows (λ r e. kinds-keys_of k r.cells head e) h

-- the hull of keys of some kinds has these kinds
pub kinds-hull_of : (k : Keys) (ks : List Kind) (rows : Bounded) → 0 < length rows → HasKeyKinds k ks rows → kinds (hull_of (map (λ r. keys_of k r.cells) rows)) ≡ ks
kinds-hull_of k ks [] some h = let never : ⊥ = omega (arith, some) in absurd never
kinds-hull_of k ks (r ∷ []) some h = h.0
kinds-hull_of k ks (r ∷ s ∷ rows) some h =
    let others = kinds-hull_of k ks (s ∷ rows) (omega arith) h.1 in
    kinds-hulls (keys_of k r.cells) (hull_of (map (λ q. keys_of k q.cells) (s ∷ rows))) (h.0 ∙ sym others) ∙ h.0

-- rows have keys of the kinds of the hull of some of them
pub hull_kinds : (k : Keys) (ks : List Kind) (rows own : Bounded) → 0 < length own → HasKinds ks rows → HasKinds ks own → HasKeyKinds k (kinds (hull_of (map (λ r. keys_of k r.cells) own))) rows
hull_kinds k ks rows [] some p q = let never : ⊥ = omega (arith, some) in absurd never
hull_kinds k ks rows (r ∷ own) some p q =
    let like : (rs : Bounded) → HasKinds ks rs → HasKinds (kinds r.cells) rs = λ rs h. all_from (λ s. kinds s.cells ≡ ks) (λ s. kinds s.cells ≡ kinds r.cells) rs (λ s e. e ∙ sym q.0) h in
    let of_box = kinds-hull_of k (kinds (keys_of k r.cells)) (r ∷ own) some (key_kinds k r.cells (r ∷ own) (like (r ∷ own) q)) in
    subst (λ js. HasKeyKinds k js rows) (sym of_box) (key_kinds k r.cells rows (like rows p))

and_comm : (a b : Bool) → (a && b) ≡ (b && a)
and_comm true true = refl
and_comm true false = refl
and_comm false true = refl
and_comm false false = refl

-- the overlap of two rows is that of the second with the first
pub all_overlap_symm : (xs ys : List Span) → all_overlap xs ys ≡ all_overlap ys xs
all_overlap_symm [] [] = refl
all_overlap_symm [] (y ∷ ys) = refl
all_overlap_symm (x ∷ xs) [] = refl
all_overlap_symm (x ∷ xs) (y ∷ ys) = λ i. and_comm (at_most x.lo y.hi) (at_most y.lo x.hi) i && all_overlap_symm xs ys i

-- and so are the rows that overlap
pub overlapping : (k : Keys) (box : List Span) (rows : Bounded) → filter (λ r. all_overlap box (keys_of k r.cells)) rows ≡ filter (λ r. all_overlap (keys_of k r.cells) box) rows
overlapping k box rows = λ i. filter (λ r. all_overlap_symm box (keys_of k r.cells) i) rows
