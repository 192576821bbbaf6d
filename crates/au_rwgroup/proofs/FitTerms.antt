-- The numbers of terms over a row whose numbers lie in the range.
use Rattle.std.specs.Prelude.{◌≡◌, ℕ, zero, suc, ◌+◌, Bool, true, false, List, [], ◌∷◌, ◌++◌, Some, None, ℤ, option_and_then, if◌then◌else◌}
use Rattle.std.specs.List.{AllByRecursion, AllZip}
use Rattle.std.proofs.Common.{refl, sym, ◌∙◌, ap, subst, append_assoc}
use Rattle.std.proofs.lemmas.Bool.{and_from, cond_both}
use Rattle.std.proofs.lemmas.List.{append-nil}
use Rattle.au_value.specs.declared.value.Value.{Value}
use Rattle.au_expr.specs.Figures.{Fit}
use Rattle.au_expr.specs.Numbers.{number_if_any}
use Rattle.au_expr.specs.Ordinary.{is_true}
use Rattle.au_expr.proofs.Fits.{fit_both}
use Rattle.au_algebra.proofs.Items.{some_is}
use Rattle.au_plain.specs.PTerms.{PTerm, Column, Literal, Add, Multiply, Compare, And, Case, plain_value}
use Rattle.au_plain.specs.Meaning.{extended}
use Rattle.au_plain.specs.PlanNumbers.{term_numbers}
use Rattle.au_plain.proofs.Held.{ValueFits, RowFits, column_fits, joined_fits, value_fits}
use Rattle.au_rwexpr.specs.Adding.{grow_numbers}
use Rattle.au_rwexpr.specs.Meets.{meets_term, same_guesses}
use Rattle.au_rwexpr.proofs.Careful.{careful}
use Rattle.au_rwexpr.proofs.Columns.{AllMean, add_columns, means_now, all_more}
use Rattle.au_rwexpr.proofs.OnValues.{reading}
use Rattle.au_rwgroup.specs.Groups.{all_sure}

-- a term that reads, compares and chooses, and makes no number of its own
abbrev pub Reads : PTerm → Type 0
Reads (Column i) = Unit {0}
Reads (Literal v) = ValueFits v
Reads (Compare how a b) = Reads a × Reads b
Reads (And a b) = Reads a × Reads b
Reads (Case c a b) = Reads c × (Reads a × Reads b)
Reads e = ⊥

-- its numbers are those of the row
pub reads_fit : (e : PTerm) (row : List Value) → RowFits row → Reads e → Fit (term_numbers e row)
reads_fit (Column i) row f h = column_fits row i f
reads_fit (Literal v) row f h = h
reads_fit (Compare how a b) row f h = fit_both (term_numbers a row) (term_numbers b row) (reads_fit a row f h.0) (reads_fit b row f h.1)
reads_fit (And a b) row f h = fit_both (term_numbers a row) (term_numbers b row) (reads_fit a row f h.0) (reads_fit b row f h.1)
reads_fit (Case c a b) row f h =
    let test = is_true (plain_value c row) in
    fit_both (term_numbers c row) (if test then term_numbers a row else term_numbers b row) (reads_fit c row f h.0)
    (cond_both test (term_numbers a row) (term_numbers b row) Fit (λ _. reads_fit a row f h.1.0) (λ _. reads_fit b row f h.1.1))
reads_fit _ row f h = absurd h

-- a choice of sums and products of such terms
abbrev pub Weighs : PTerm → Type 0
Weighs (Column i) = Unit {0}
Weighs (Literal v) = ValueFits v
Weighs (Add a b) = Reads a × Reads b
Weighs (Multiply a b) = Reads a × Reads b
Weighs (Case c a b) = Reads c × (Weighs a × Weighs b)
Weighs e = ⊥

by_branch : (t : Bool) (xs ys : List ℤ) (v w : Value) → (ValueFits v → Fit xs) → (ValueFits w → Fit ys) → ValueFits (if t then v else w) → Fit (if t then xs else ys)
by_branch true xs ys v w f g h = f h
by_branch false xs ys v w f g h = g h

-- its numbers are those of the row and its value
pub weighs_fit : (e : PTerm) (row : List Value) → RowFits row → Weighs e → ValueFits (plain_value e row) → Fit (term_numbers e row)
weighs_fit (Column i) row f h v = v
weighs_fit (Literal u) row f h v = v
weighs_fit (Add a b) row f h v =
    fit_both (number_if_any (plain_value (Add a b) row)) (term_numbers a row ++ term_numbers b row) v
    (fit_both (term_numbers a row) (term_numbers b row) (reads_fit a row f h.0) (reads_fit b row f h.1))
weighs_fit (Multiply a b) row f h v =
    fit_both (number_if_any (plain_value (Multiply a b) row)) (term_numbers a row ++ term_numbers b row) v
    (fit_both (term_numbers a row) (term_numbers b row) (reads_fit a row f h.0) (reads_fit b row f h.1))
weighs_fit (Case c a b) row f h v =
    let test = is_true (plain_value c row) in
    fit_both (term_numbers c row) (if test then term_numbers a row else term_numbers b row) (reads_fit c row f h.0)
    (by_branch test (term_numbers a row) (term_numbers b row) (plain_value a row) (plain_value b row) (weighs_fit a row f h.1.0) (weighs_fit b row f h.1.1) v)
weighs_fit _ row f h v = absurd h

-- where the term has this value on a row whose numbers fit, its own do
abbrev pub Safe : PTerm → Value → Type 0
Safe e v = (row : List Value) → RowFits row → plain_value e row ≡ v → Fit (term_numbers e row)

pub reads_safe : (e : PTerm) (v : Value) → Reads e → Safe e v
reads_safe e v h = λ row f is. reads_fit e row f h

pub weighs_safe : (e : PTerm) (v : Value) → Weighs e → ValueFits v → Safe e v
weighs_safe e v h fits = λ row f is. weighs_fit e row f h (subst ValueFits (sym is) fits)

careful_now : (row : List Value) (e : PTerm) (v : Value) → Fit (term_numbers e row) → plain_value e row ≡ v → careful row e ≡ Some v
careful_now row e v f is = ap (λ b. if b then Some (plain_value e row) else None) f ∙ ap Some is

-- the row with a value more
pub one_more_fits : (row : List Value) (v : Value) → RowFits row → ValueFits v → RowFits (row ++ v ∷ [])
one_more_fits row v f h = joined_fits row (v ∷ []) f (and_from _ _ h refl)

-- Columns that are safe are added with care to a row whose numbers fit.
pub safe_columns : (row : List Value) (es : List PTerm) (vs : List Value) → AllMean reading row es vs → AllZip Safe es vs → RowFits row → (add_columns careful es row ≡ Some (row ++ vs)) × RowFits (row ++ vs)
safe_columns row [] [] m s f = (ap Some (sym (append-nil row)), subst RowFits (sym (append-nil row)) f)
safe_columns row [] (v ∷ vs) m s f = elim m [ ]
safe_columns row (e ∷ es) [] m s f = elim m [ ]
safe_columns row (e ∷ es) (v ∷ vs) m s f =
    let is : plain_value e row ≡ v = some_is _ _ (means_now reading row e v m.0) in
    let own = s.0 row f is in
    let more = one_more_fits row v f (subst ValueFits is (value_fits e row own)) in
    let rest = safe_columns (row ++ v ∷ []) es vs (all_more reading row (v ∷ []) es vs m.1) s.1 more in (
      ap (option_and_then (λ u. add_columns careful es (row ++ u ∷ []))) (careful_now row e v own is) ∙ rest.0 ∙ ap Some (append_assoc row (v ∷ []) vs),
      subst RowFits (append_assoc row (v ∷ []) vs) rest.1,
    )

-- Columns that read alone make no number that does not fit.
pub reading_columns : (es : List PTerm) (row : List Value) → RowFits row → AllByRecursion Reads es → Fit (grow_numbers es row)
reading_columns [] row f h = refl
reading_columns (e ∷ es) row f h =
    let own = reads_fit e row f h.0 in
    fit_both (term_numbers e row) (grow_numbers es (extended e row)) own
    (reading_columns es (extended e row) (one_more_fits row (plain_value e row) f (value_fits e row own)) h.1)

-- the tests of lists of ranges read
pub meets_reads : (i j k : ℕ) → Reads (meets_term i j k)
meets_reads i j zero = refl
meets_reads i j (suc k) = (((tt, tt), (tt, tt)), meets_reads (i + 3) (j + 3) k)

pub same_reads : (i j k : ℕ) → Reads (same_guesses i j k)
same_reads i j zero = refl
same_reads i j (suc k) = ((tt, tt), same_reads (i + 3) (j + 3) k)

pub sure_reads : (i k : ℕ) → Reads (all_sure i k)
sure_reads i zero = refl
sure_reads i (suc zero) = (tt, tt)
sure_reads i (suc (suc k)) = ((tt, tt), sure_reads (i + 3) (suc k))
