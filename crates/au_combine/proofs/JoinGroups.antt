-- The groups of a join by its left rows, where these are pairwise different and each has a partner.
use Rattle.std.specs.Prelude.{◌≡◌, ℕ, Bool, true, false, not, cond, List, [], ◌∷◌, ◌++◌, map, filter, flat_map}
use Rattle.std.specs.List.{AllByRecursion}
use Rattle.std.proofs.Common.{refl, sym, ◌∙◌, ap}
use Rattle.std.proofs.lemmas.Bool.{true≢false, false_from_ne_true}
use Rattle.std.proofs.lemmas.List.{map-append, append-nil}
use Rattle.std.proofs.lemmas.List.Folds.{flat_map-map}
use Rattle.au_value.specs.declared.value.Value.{Value}
use Rattle.au_value.specs.Lists.{distinct}
use Rattle.au_algebra.specs.Lists.{same_row}
use Rattle.au_algebra.specs.Ordinary.{Rows}
use Rattle.au_algebra.proofs.Copies.{same_row_is, same_row_refl}
use Rattle.std.proofs.lemmas.List.Elements.{filter-append}
use Rattle.au_algebra.proofs.Filters.{filter_again}
use Rattle.au_plain.specs.declared.plan.PAgg.{PAgg}
use Rattle.au_plain.specs.Meaning.{kept, plain_group, plain_aggregate}
use Rattle.au_rwexpr.proofs.Gives.{map_valid, map-map}
use Rattle.au_plain.specs.PlanNumbers.{magnitudes, group_numbers}
use Rattle.au_combine.proofs.Grouping.{group_made, numbers_made}

pub turned : (j k : List Value) → same_row j k ≡ false → same_row k j ≡ false
turned j k e = false_from_ne_true (same_row k j) (λ t. true≢false (sym (ap (λ m. same_row m k) (sym (same_row_is k j t)) ∙ same_row_refl k) ∙ e))

pub flat_map_valid : {A B : Type 0} (P : A → Type 0) (f g : A → List B) (xs : List A) → AllByRecursion P xs → ((x : A) → P x → f x ≡ g x) → flat_map f xs ≡ flat_map g xs
flat_map_valid P f g [] v same = refl
flat_map_valid P f g (x ∷ xs) v same = λ i. same x v.0 i ++ flat_map_valid P f g xs v.1 same i

-- pairwise different rows
abbrev pub Apart : {T : Type 0} → (T → List Value) → List T → Type 0
Apart e [] = Unit {0}
Apart e (t ∷ ts) = AllByRecursion (λ u. same_row (e t) (e u) ≡ false) ts × Apart e ts

apart_if : {T : Type 0} (e : T → List Value) (P : T → Type 0) (b : Bool) (t : T) (ts : List T) → P t → AllByRecursion P ts → AllByRecursion P (cond b (t ∷ ts) ts)
apart_if e P true t ts p v = (p, v)
apart_if e P false t ts p v = v

pub all_filtered : {T : Type 0} (P : T → Type 0) (p : T → Bool) (ts : List T) → AllByRecursion P ts → AllByRecursion P (filter p ts)
all_filtered P p [] v = tt
all_filtered P p (t ∷ ts) v = apart_if (λ u. []) P (p t) t (filter p ts) v.0 (all_filtered P p ts v.1)

apart_by : {T : Type 0} (e : T → List Value) (b : Bool) (t : T) (ts : List T) → AllByRecursion (λ u. same_row (e t) (e u) ≡ false) ts → Apart e ts → Apart e (cond b (t ∷ ts) ts)
apart_by e true t ts v a = (v, a)
apart_by e false t ts v a = a

filtered_apart : {T : Type 0} (e : T → List Value) (p : T → Bool) (ts : List T) → Apart e ts → Apart e (filter p ts)
filtered_apart e p [] a = tt
filtered_apart e p (t ∷ ts) a =
    apart_by e (p t) t (filter p ts) (all_filtered (λ u. same_row (e t) (e u) ≡ false) p ts a.0) (filtered_apart e p ts a.1)

differ_by : (k j : List Value) (ks : Rows) (b : Bool) → same_row k j ≡ b → AllByRecursion (λ u. same_row k u ≡ false) ks → AllByRecursion (λ u. same_row k u ≡ false) (cond (not b) (j ∷ ks) ks)
differ_by k j ks true e v = v
differ_by k j ks false e v = (e, v)

others_differ : (k : List Value) (ks : Rows) → AllByRecursion (λ u. same_row k u ≡ false) (filter (λ y. not (same_row k y)) ks)
others_differ k [] = tt
others_differ k (j ∷ ks) = differ_by k j (filter (λ y. not (same_row k y)) ks) (same_row k j) refl (others_differ k ks)

-- distinct keys are pairwise different
pub distinct_apart : (ks : Rows) → Apart (λ k. k) (distinct same_row ks)
distinct_apart [] = tt
distinct_apart (k ∷ ks) = (others_differ k (distinct same_row ks), filtered_apart (λ u. u) (λ y. not (same_row k y)) (distinct same_row ks) (distinct_apart ks))

module _ {T M : Type 0} (e : T → List Value) (members : T → List M) where
  abbrev pub with_left : T → List M → List (T × M)
  with_left t ms = map (λ m. (t, m)) ms

  abbrev pub pairs : List T → List (T × M)
  pairs ts = flat_map (λ t. with_left t (members t)) ts

  abbrev pub key : T × M → List Value
  key s = e s.0

  -- each left row has a partner
  pub record Met (t : T) : Type 0 where
    pub first : M
    pub others : List M
    pub is : members t ≡ first ∷ others

  pub keep_others : (k : List Value) (ks : Rows) → AllByRecursion (λ u. same_row k u ≡ false) ks → filter (λ y. not (same_row k y)) ks ≡ ks
  keep_others k [] v = refl
  keep_others k (j ∷ ks) v =
      ap (λ b. cond (not b) (j ∷ filter (λ y. not (same_row k y)) ks) (filter (λ y. not (same_row k y)) ks)) v.0 ∙ (λ i. j ∷ keep_others k ks v.1 i)

  again : (t : T) (ms : List M) (rest : Rows) → filter (λ y. not (same_row (e t) y)) (distinct same_row (map key (with_left t ms) ++ rest)) ≡ filter (λ y. not (same_row (e t) y)) (distinct same_row rest)
  again t [] rest = refl
  again t (m ∷ ms) rest =
      let k = e t in
      let later = distinct same_row (map key (with_left t ms) ++ rest) in
      let others = filter (λ y. not (same_row k y)) later in
      ap (λ b. cond (not b) (k ∷ filter (λ y. not (same_row k y)) others) (filter (λ y. not (same_row k y)) others)) (same_row_refl k)
      ∙ filter_again (λ y. not (same_row k y)) later
      ∙ again t ms rest

  apart_mapped : (t : T) (ts : List T) → AllByRecursion (λ u. same_row (e t) (e u) ≡ false) ts → AllByRecursion (λ u. same_row (e t) u ≡ false) (map e ts)
  apart_mapped t [] v = tt
  apart_mapped t (u ∷ ts) v = (v.0, apart_mapped t ts v.1)

  -- the keys of the pairs are the left rows
  pub pair_keys : (ts : List T) → Apart e ts → AllByRecursion Met ts → distinct same_row (map key (pairs ts)) ≡ map e ts
  pair_keys [] a v = refl
  pair_keys (t ∷ ts) a v =
      let rest = map key (pairs ts) in
      ap (distinct same_row) (map-append key (with_left t (members t)) (pairs ts))
      ∙ ap (λ ms. distinct same_row (map key (with_left t ms) ++ rest)) v.0.is
      ∙ (λ i. e t ∷ again t v.0.others rest i)
      ∙ (λ i. e t ∷ filter (λ y. not (same_row (e t) y)) (pair_keys ts a.1 v.1 i))
      ∙ (λ i. e t ∷ keep_others (e t) (map e ts) (apart_mapped t ts a.0) i)

  none_with : (k : List Value) (t : T) (ms : List M) → same_row k (e t) ≡ false → filter (λ s. same_row k (key s)) (with_left t ms) ≡ []
  none_with k t [] f = refl
  none_with k t (m ∷ ms) f =
      ap (λ b. cond b ((t, m) ∷ filter (λ s. same_row k (key s)) (with_left t ms)) (filter (λ s. same_row k (key s)) (with_left t ms))) f ∙ none_with k t ms f

  all_with : (t : T) (ms : List M) → filter (λ s. same_row (e t) (key s)) (with_left t ms) ≡ with_left t ms
  all_with t [] = refl
  all_with t (m ∷ ms) =
      ap (λ b. cond b ((t, m) ∷ filter (λ s. same_row (e t) (key s)) (with_left t ms)) (filter (λ s. same_row (e t) (key s)) (with_left t ms))) (same_row_refl (e t))
      ∙ (λ i. (t, m) ∷ all_with t ms i)

  none_of : (k : List Value) (ts : List T) → AllByRecursion (λ u. same_row k (e u) ≡ false) ts → filter (λ s. same_row k (key s)) (pairs ts) ≡ []
  none_of k [] v = refl
  none_of k (t ∷ ts) v =
      filter-append (λ s. same_row k (key s)) (with_left t (members t)) (pairs ts) ∙ (λ i. none_with k t (members t) v.0 i ++ none_of k ts v.1 i)

  -- the pairs of a left row
  abbrev pub Own : List T → T → Type 0
  Own all t = filter (λ s. same_row (e t) (key s)) (pairs all) ≡ with_left t (members t)

  own_later : (t : T) (ts us : List T) → AllByRecursion (λ u. same_row (e t) (e u) ≡ false) us → AllByRecursion (Own ts) us → AllByRecursion (Own (t ∷ ts)) us
  own_later t ts [] f v = tt
  own_later t ts (u ∷ us) f v = (
    filter-append (λ s. same_row (e u) (key s)) (with_left t (members t)) (pairs ts)
        ∙ (λ i. none_with (e u) t (members t) (turned (e t) (e u) f.0) i ++ v.0 i),
    own_later t ts us f.1 v.1,
  )

  pub all_own : (ts : List T) → Apart e ts → AllByRecursion (Own ts) ts
  all_own [] a = tt
  all_own (t ∷ ts) a = (
    filter-append (λ s. same_row (e t) (key s)) (with_left t (members t)) (pairs ts)
        ∙ (λ i. all_with t (members t) i ++ none_of (e t) ts a.0 i)
        ∙ append-nil (with_left t (members t)),
    own_later t ts ts a.0 (all_own ts a.1),
  )

  -- The groups of the pairs by their left rows.
  module _ (P : T × M → Type 0) (f : T × M → List Value) (places : List ℕ) (same : (s : T × M) → P s → kept places (f s) ≡ key s) where
    pub join_groups : (aggs : List PAgg) (ts : List T) → Apart e ts → AllByRecursion Met ts → AllByRecursion P (pairs ts) → plain_group places aggs (map f (pairs ts)) ≡ map (λ t. e t ++ map (plain_aggregate (map f (with_left t (members t)))) aggs) ts
    join_groups aggs ts a met v =
        group_made P f key places same aggs (pairs ts) v
        ∙ ap (map (λ k. k ++ map (plain_aggregate (map f (filter (λ s. same_row k (key s)) (pairs ts)))) aggs)) (pair_keys ts a met)
        ∙ map-map e (λ k. k ++ map (plain_aggregate (map f (filter (λ s. same_row k (key s)) (pairs ts)))) aggs) ts
        ∙ map_valid (Own ts) (λ t. e t ++ map (plain_aggregate (map f (filter (λ s. same_row (e t) (key s)) (pairs ts)))) aggs)
        (λ t. e t ++ map (plain_aggregate (map f (with_left t (members t)))) aggs) ts (all_own ts a)
        (λ t own. ap (λ ss. e t ++ map (plain_aggregate (map f ss)) aggs) own)

    -- the numbers of their sums
    pub join_numbers : (aggs : List PAgg) (ts : List T) → Apart e ts → AllByRecursion Met ts → AllByRecursion P (pairs ts) → group_numbers places aggs (map f (pairs ts)) ≡ flat_map (λ t. flat_map (magnitudes (map f (with_left t (members t)))) aggs) ts
    join_numbers aggs ts a met v =
        let of_key = λ (k : List Value). flat_map (magnitudes (map f (filter (λ s. same_row k (key s)) (pairs ts)))) aggs in
        numbers_made P f key places same aggs (pairs ts) v
        ∙ ap (flat_map of_key) (pair_keys ts a met)
        ∙ flat_map-map of_key e ts
        ∙ flat_map_valid (Own ts) (λ t. of_key (e t)) (λ t. flat_map (magnitudes (map f (with_left t (members t)))) aggs) ts (all_own ts a)
        (λ t own. ap (λ ss. flat_map (magnitudes (map f ss)) aggs) own)
