-- The groups of left rows, each with a first member, and of their pairs behind them.
use Rattle.std.specs.Prelude.{◌≡◌, ℕ, Bool, true, false, not, ◌&&◌, List, [], ◌∷◌, ◌++◌, map, filter, flat_map}
use Rattle.std.specs.List.{AllByRecursion}
use Rattle.std.proofs.Common.{refl, sym, ◌∙◌, ap}
use Rattle.std.proofs.lemmas.List.{map-append, append-nil}
use Rattle.std.proofs.lemmas.List.Elements.{filter-append}
use Rattle.std.proofs.lemmas.List.Folds.{flat_map-map}
use Rattle.au_value.specs.declared.value.Value.{Value}
use Rattle.au_value.specs.Lists.{distinct}
use Rattle.au_algebra.specs.Lists.{same_row}
use Rattle.au_algebra.specs.Ordinary.{Rows}
use Rattle.au_algebra.proofs.Copies.{same_row_refl}
use Rattle.au_algebra.proofs.Each.{all_append, all_distinct}
use Rattle.au_algebra.proofs.Filters.{filter_none, filter_both, filter_all}
use Rattle.au_plain.specs.declared.plan.PAgg.{PAgg}
use Rattle.au_plain.specs.Meaning.{kept, plain_group, plain_aggregate}
use Rattle.au_plain.specs.PlanNumbers.{magnitudes, group_numbers}
use Rattle.au_rwexpr.proofs.Gives.{map_valid, map-map}
use Rattle.au_rwexpr.proofs.PlanNumbersOf.{all_made}
use Rattle.au_combine.proofs.Grouping.{group_made, numbers_made}
use Rattle.au_combine.proofs.JoinGroups.{Apart, Own, all_own, flat_map_valid, keep_others, pairs, with_left}
use Rattle.au_combine.proofs.RowsApart.{apart_mapped}

-- whether a row is none of these
abbrev absent : Rows → List Value → Bool
absent [] j = true
absent (k ∷ ks) j = absent ks j && not (same_row k j)

and_false : (b : Bool) → (b && false) ≡ false
and_false true = refl
and_false false = refl

module _ {T M : Type 0} (e : T → List Value) (first : M) (members : T → List M) where
  -- pairwise different rows stay in front
  distinct_behind : (ks js : Rows) → Apart (λ k. k) ks → distinct same_row (ks ++ js) ≡ ks ++ filter (absent ks) (distinct same_row js)
  distinct_behind [] js a = sym (filter_all (distinct same_row js))
  distinct_behind (k ∷ ks) js a =
      let others = λ (y : List Value). not (same_row k y) in
      (λ i. k ∷ filter others (distinct_behind ks js a.1 i))
      ∙ (λ i. k ∷ filter-append others ks (filter (absent ks) (distinct same_row js)) i)
      ∙ (λ i. k ∷ (keep_others e members k ks a.0 i ++ filter_both others (absent ks) (distinct same_row js) i))

  -- and the keys that occur among them are not listed again
  distinct_first : (ks js : Rows) → Apart (λ k. k) ks → AllByRecursion (λ j. absent ks j ≡ false) js → distinct same_row (ks ++ js) ≡ ks
  distinct_first ks js a v =
      distinct_behind ks js a
      ∙ ap (λ ms. ks ++ ms) (filter_none (absent ks) (distinct same_row js) (all_distinct (λ j. absent ks j ≡ false) same_row js v))
      ∙ append-nil ks

  -- each left row with the first member
  abbrev pub firsts : List T → List (T × M)
  firsts ts = pairs e (λ t. first ∷ []) ts

  -- and then with the others
  abbrev pub ledger : List T → List (T × M)
  ledger ts = firsts ts ++ pairs e members ts

  abbrev own_key : T × M → List Value
  own_key s = e s.0

  first_keys : (ts : List T) → map own_key (firsts ts) ≡ map e ts
  first_keys [] = refl
  first_keys (t ∷ ts) = λ i. e t ∷ first_keys ts i

  abbrev There : Rows → List Value → Type 0
  There ks k = absent ks k ≡ false

  later_there : (t : T) (ts us : List T) → AllByRecursion (λ u. There (map e ts) (e u)) us → AllByRecursion (λ u. There (map e (t ∷ ts)) (e u)) us
  later_there t ts [] v = tt
  later_there t ts (u ∷ us) v = (ap (λ b. b && not (same_row (e t) (e u))) v.0, later_there t ts us v.1)

  -- each left row is among the left rows
  all_there : (ts : List T) → AllByRecursion (λ t. There (map e ts) (e t)) ts
  all_there [] = tt
  all_there (t ∷ ts) = (
    ap (λ b. absent (map e ts) (e t) && not b) (same_row_refl (e t)) ∙ and_false (absent (map e ts) (e t)),
    later_there t ts ts (all_there ts),
  )

  with_there : (ks : Rows) (t : T) (ms : List M) → There ks (e t) → AllByRecursion (λ s. There ks (own_key s)) (with_left e members t ms)
  with_there ks t [] h = tt
  with_there ks t (m ∷ ms) h = (h, with_there ks t ms h)

  pairs_there : (ks : Rows) (ts : List T) → AllByRecursion (λ t. There ks (e t)) ts → AllByRecursion (λ s. There ks (own_key s)) (pairs e members ts)
  pairs_there ks [] v = tt
  pairs_there ks (t ∷ ts) v =
      all_append (λ s. There ks (own_key s)) (with_left e members t (members t)) (pairs e members ts) (with_there ks t (members t) v.0) (pairs_there ks ts v.1)

  -- the keys are the left rows
  ledger_keys : (ts : List T) → Apart e ts → distinct same_row (map own_key (ledger ts)) ≡ map e ts
  ledger_keys ts a =
      let others = map own_key (pairs e members ts) in
      ap (distinct same_row) (map-append own_key (firsts ts) (pairs e members ts) ∙ (λ i. first_keys ts i ++ others))
      ∙ distinct_first (map e ts) others (apart_mapped e (λ k. k) ts a)
      (all_made (λ s. There (map e ts) (own_key s)) (There (map e ts)) own_key (pairs e members ts) (pairs_there (map e ts) ts (all_there ts)) (λ s h. h))

  -- the pairs of a left row
  abbrev Ours : List T → T → Type 0
  Ours all t = filter (λ s. same_row (e t) (own_key s)) (ledger all) ≡ with_left e members t (first ∷ members t)

  both_own : (all us : List T) → AllByRecursion (Own e (λ t. first ∷ []) all) us → AllByRecursion (Own e members all) us → AllByRecursion (Ours all) us
  both_own all [] v w = tt
  both_own all (u ∷ us) v w = (
    filter-append (λ s. same_row (e u) (own_key s)) (firsts all) (pairs e members all) ∙ (λ i. v.0 i ++ w.0 i),
    both_own all us v.1 w.1,
  )

  all_ours : (ts : List T) → Apart e ts → AllByRecursion (Ours ts) ts
  all_ours ts a = both_own ts ts (all_own e (λ t. first ∷ []) ts a) (all_own e members ts a)

  -- The groups by the left rows, in their order.
  module _ (P : T × M → Type 0) (f : T × M → List Value) (places : List ℕ) (same : (s : T × M) → P s → kept places (f s) ≡ own_key s) where
    pub ledger_groups : (aggs : List PAgg) (ts : List T) → Apart e ts → AllByRecursion P (ledger ts) → plain_group places aggs (map f (ledger ts)) ≡ map (λ t. e t ++ map (plain_aggregate (map f (with_left e members t (first ∷ members t)))) aggs) ts
    ledger_groups aggs ts a v =
        let row_of = λ (k : List Value). k ++ map (plain_aggregate (map f (filter (λ s. same_row k (own_key s)) (ledger ts)))) aggs in
        group_made P f own_key places same aggs (ledger ts) v
        ∙ ap (map row_of) (ledger_keys ts a)
        ∙ map-map e row_of ts
        ∙ map_valid (Ours ts) (λ t. row_of (e t)) (λ t. e t ++ map (plain_aggregate (map f (with_left e members t (first ∷ members t)))) aggs) ts (all_ours ts a)
        (λ t own. ap (λ ss. e t ++ map (plain_aggregate (map f ss)) aggs) own)

    -- the numbers of their sums
    pub ledger_numbers : (aggs : List PAgg) (ts : List T) → Apart e ts → AllByRecursion P (ledger ts) → group_numbers places aggs (map f (ledger ts)) ≡ flat_map (λ t. flat_map (magnitudes (map f (with_left e members t (first ∷ members t)))) aggs) ts
    ledger_numbers aggs ts a v =
        let of_key = λ (k : List Value). flat_map (magnitudes (map f (filter (λ s. same_row k (own_key s)) (ledger ts)))) aggs in
        numbers_made P f own_key places same aggs (ledger ts) v
        ∙ ap (flat_map of_key) (ledger_keys ts a)
        ∙ flat_map-map of_key e ts
        ∙ flat_map_valid (Ours ts) (λ t. of_key (e t)) (λ t. flat_map (magnitudes (map f (with_left e members t (first ∷ members t)))) aggs) ts (all_ours ts a)
        (λ t own. ap (λ ss. flat_map (magnitudes (map f ss)) aggs) own)
