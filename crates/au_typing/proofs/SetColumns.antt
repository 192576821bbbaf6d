-- The columns of a set, and its sides brought to their kinds.
use Rattle.std.specs.Prelude.{◌≡◌, ℕ, ◌+◌, ◌≤◌, Bool, true, false, List, [], ◌∷◌, ◌++◌, length, map, Option, Some, None, is_some, option_and_then, unwrap_or, if◌then◌else◌}
use Rattle.std.proofs.Common.{arith, refl, sym, ◌∙◌, ap, subst}
use Rattle.std.proofs.lemmas.Bool.{and_parts, false≢true}
use Rattle.std.proofs.lemmas.List.{append-nil}
use Rattle.au_value.specs.declared.kinds.Kind.{Kind}
use Rattle.au_value.specs.KindLaws.{kind_itself}
use Rattle.au_value.specs.Order.{data_kind}
use Rattle.au_expr.specs.Terms as term
use Rattle.au_expr.specs.Terms.{Term}
use Rattle.au_expr.specs.Kinds.{kind_in}
use Rattle.au_algebra.specs.Trees.{Tree as Query, Project}
use Rattle.au_algebra.specs.Typing.{all_kinds, items_kinds, kinds_of, same_kinds}
use Rattle.au_blocks.specs.declared.column.Column.{Column}
use Rattle.au_typing.specs.Judged.{FewDigits}
use Rattle.au_typing.specs.Queries.{brought_from, data_kinds, is_narrower, kinds_fit, set_columns, side_tree}
use Rattle.au_typing.specs.Scales.{common, scale}
use Rattle.au_typing.proofs.Found.{snoc, longer, stands}
use Rattle.au_typing.proofs.Rescaled.{common_data, common_few, rescaled_kind}

-- kinds are the same as themselves
pub same_itself : (ks : List Kind) → same_kinds ks ks ≡ true
same_itself [] = refl
same_itself (k ∷ ks) = rw (kind_itself k, same_itself ks) refl

-- what kinds that fit in one place say of it
record Fit (l r : Column) : Type 0 where
  pub kind : Kind
  pub is : common (Some l.kind) (Some r.kind) ≡ Some kind

fit_here : (l r : Column) (o : Option Kind) → common (Some l.kind) (Some r.kind) ≡ o → is_some o ≡ true → Fit l r
fit_here l r None e h = absurd (false≢true h)
fit_here l r (Some k) e h = record { kind = k; is = e }

-- the columns of a set whose sides fit have the values of both sides
pub set_data : (left right : List Column) → kinds_fit left right ≡ true → (data_kinds left ≡ data_kinds (set_columns left right)) × (data_kinds right ≡ data_kinds (set_columns left right))
set_data [] [] h = (refl, refl)
set_data [] (r ∷ right) h = absurd (false≢true h)
set_data (l ∷ left) [] h = absurd (false≢true h)
set_data (l ∷ left) (r ∷ right) h =
    let here = fit_here l r (common (Some l.kind) (Some r.kind)) refl (and_parts (is_some (common (Some l.kind) (Some r.kind))) (kinds_fit left right) h).0 in
    let same = common_data (Some l.kind) (Some r.kind) here.kind here.is in
    let more = set_data left right (and_parts (is_some (common (Some l.kind) (Some r.kind))) (kinds_fit left right) h).1 in
    let is : unwrap_or (common (Some l.kind) (Some r.kind)) l.kind ≡ here.kind = ap (λ o. unwrap_or o l.kind) here.is in
    let first : data_kind l.kind ≡ data_kind (unwrap_or (common (Some l.kind) (Some r.kind)) l.kind) = ap (λ o. unwrap_or o l.kind) same.0 ∙ ap data_kind (sym is) in
    let second : data_kind r.kind ≡ data_kind (unwrap_or (common (Some l.kind) (Some r.kind)) l.kind) = ap (λ o. unwrap_or o l.kind) same.1 ∙ ap data_kind (sym is) in
    ((λ i. first i ∷ more.0 i), λ i. second i ∷ more.1 i)

-- and no more than 9 digits stand behind their points
pub set_few : (left right : List Column) → kinds_fit left right ≡ true → FewDigits (set_columns left right)
set_few [] [] h = tt
set_few [] (r ∷ right) h = absurd (false≢true h)
set_few (l ∷ left) [] h = absurd (false≢true h)
set_few (l ∷ left) (r ∷ right) h =
    let here = fit_here l r (common (Some l.kind) (Some r.kind)) refl (and_parts (is_some (common (Some l.kind) (Some r.kind))) (kinds_fit left right) h).0 in
    let is : Some (unwrap_or (common (Some l.kind) (Some r.kind)) l.kind) ≡ common (Some l.kind) (Some r.kind) = ap (λ o. Some (unwrap_or o l.kind)) here.is ∙ sym here.is in
    (subst (λ o. scale o ≤ 9) (sym is) (common_few (Some l.kind) (Some r.kind)), set_few left right (and_parts (is_some (common (Some l.kind) (Some r.kind))) (kinds_fit left right) h).1)

-- one kind more that is there
one_more : (o : Option Kind) (os : List (Option Kind)) (k : Kind) (ks : List Kind) → o ≡ Some k → all_kinds os ≡ Some ks → all_kinds (o ∷ os) ≡ Some (k ∷ ks)
one_more o os k ks p q = λ i. option_and_then (λ j. option_and_then (λ js. Some (j ∷ js)) (q i)) (p i)

same_head : (j k : Kind) (js ks : List Kind) → j ∷ js ≡ k ∷ ks → j ≡ k
same_head j k js ks h = cc

same_tail : (j k : Kind) (js ks : List Kind) → j ∷ js ≡ k ∷ ks → js ≡ ks
same_tail j k js ks h = cc

-- columns that are brought to others of the same values have these
brought_kinds :
    (before : List Kind) (i : ℕ) (own columns : List Column) → length before ≡ i → data_kinds own ≡ data_kinds columns →
    items_kinds (before ++ data_kinds own) (brought_from i own columns) ≡ Some (data_kinds columns)
brought_kinds before i [] [] len same = refl
brought_kinds before i [] (d ∷ columns) len same = cc
brought_kinds before i (c ∷ own) [] len same = cc
brought_kinds before i (c ∷ own) (d ∷ columns) len same =
    let ks = before ++ data_kind c.kind ∷ data_kinds own in
    let head : data_kind c.kind ≡ data_kind d.kind = same_head (data_kind c.kind) (data_kind d.kind) (data_kinds own) (data_kinds columns) same in
    let first = rescaled_kind ks (Some c.kind) d.kind (term.Column i) (stands before i (data_kind c.kind) (data_kinds own) len ∙ ap Some head) in
    let rest = brought_kinds (before ++ data_kind c.kind ∷ []) (i + 1) own columns (longer before (data_kind c.kind) i len) (same_tail (data_kind c.kind) (data_kind d.kind) (data_kinds own) (data_kinds columns) same) in
    one_more _ (map (kind_in ks) (brought_from (i + 1) own columns)) (data_kind d.kind) (data_kinds columns) first (subst (λ js. items_kinds js (brought_from (i + 1) own columns) ≡ Some (data_kinds columns)) (snoc before (data_kind c.kind) (data_kinds own)) rest)

-- a side of a set has the kinds of the set's values
pub side_kinds :
    (ts : List (List Kind)) (columns own : List Column) (q : Query) → data_kinds own ≡ data_kinds columns → kinds_of ts q ≡ Some (data_kinds own) →
    kinds_of ts (side_tree columns own q) ≡ Some (data_kinds columns)
side_kinds ts columns own q same h = by_test (is_narrower own columns)
  where
    by_test : (b : Bool) → kinds_of ts (if b then Project (brought_from 0 own columns) q else q) ≡ Some (data_kinds columns)
    by_test true = ap (option_and_then (λ ks. items_kinds ks (brought_from 0 own columns))) h ∙ brought_kinds [] 0 own columns refl same
    by_test false = h ∙ ap Some same

-- where no column of the left side is left, those of the set are all there
pub set_done : (made own other left right : List Column) → length own ≡ 0 → made ++ set_columns own other ≡ set_columns left right → made ≡ set_columns left right
set_done made [] other left right none is = sym (append-nil made) ∙ is
set_done made (l ∷ own) other left right none is = absurd (omega (arith, none))
