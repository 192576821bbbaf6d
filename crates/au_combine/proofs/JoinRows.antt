-- The rows of a join, as pairs.
use Rattle.std.specs.Prelude.{◌≡◌, Bool, true, false, cond, List, [], ◌∷◌, ◌++◌, map, filter, flat_map}
use Rattle.std.specs.List.{AllByRecursion}
use Rattle.std.proofs.Common.{refl, sym, ◌∙◌, ap}
use Rattle.std.proofs.lemmas.List.{map-append}
use Rattle.au_value.specs.declared.value.Value.{Value}
use Rattle.au_algebra.specs.Ordinary.{Rows}
use Rattle.au_algebra.proofs.Each.{all_append}
use Rattle.std.proofs.lemmas.List.Elements.{filter-append}
use Rattle.au_combine.proofs.JoinGroups.{pairs, with_left}

-- what holds of rows that are joined, each with each
pub all_joined : {T M : Type 0} (P : T → Type 0) (Q : M → Type 0) (R : List Value → Type 0) (e : T → List Value) (h : M → List Value) → ((t : T) (m : M) → P t → Q m → R (e t ++ h m)) → (ts : List T) (ms : List M) → AllByRecursion P ts → AllByRecursion Q ms → AllByRecursion R (flat_map (λ a. map (λ b. a ++ b) (map h ms)) (map e ts))
all_joined P Q R e h to [] ms p q = tt
all_joined P Q R e h to (t ∷ ts) ms p q =
    all_append R (map (λ b. e t ++ b) (map h ms)) (flat_map (λ a. map (λ b. a ++ b) (map h ms)) (map e ts)) (one t p.0 ms q) (all_joined P Q R e h to ts ms p.1 q)
  where
    one : (u : _) → P u → (ns : List _) → AllByRecursion Q ns → AllByRecursion R (map (λ b. e u ++ b) (map h ns))
    one u k [] v = tt
    one u k (n ∷ ns) v = (to u n k v.0, one u k ns v.1)

module _ {T M : Type 0} (P : T → Type 0) (Q : M → Type 0) (e : T → List Value) (h : M → List Value) (test : List Value → Bool) (meet : T → M → Bool) (same : (t : T) (m : M) → P t → Q m → test (e t ++ h m) ≡ meet t m) where
  abbrev pub partners : List M → T → List M
  partners ms t = filter (meet t) ms

  abbrev pub joined : T × M → List Value
  joined s = e s.0 ++ h s.1

  passed : (b : Bool) (t : T) (m : M) (rows : Rows) (ms : List M) → rows ≡ map joined (with_left e (partners []) t ms) → cond b (joined (t, m) ∷ rows) rows ≡ map joined (with_left e (partners []) t (cond b (m ∷ ms) ms))
  passed true t m rows ms g = λ i. joined (t, m) ∷ g i
  passed false t m rows ms g = g

  one_left : (t : T) (ms : List M) → P t → AllByRecursion Q ms → filter test (map (λ b. e t ++ b) (map h ms)) ≡ map joined (with_left e (partners []) t (partners ms t))
  one_left t [] p q = refl
  one_left t (m ∷ ms) p q =
      passed (test (e t ++ h m)) t m (filter test (map (λ b. e t ++ b) (map h ms))) (partners ms t) (one_left t ms p q.1)
      ∙ ap (λ b. map joined (with_left e (partners []) t (cond b (m ∷ partners ms t) (partners ms t)))) (same t m p q.0)

  -- The rows of a join over made rows.
  pub join_rows : (ts : List T) (ms : List M) → AllByRecursion P ts → AllByRecursion Q ms → filter test (flat_map (λ a. map (λ b. a ++ b) (map h ms)) (map e ts)) ≡ map joined (pairs e (partners ms) ts)
  join_rows [] ms p q = refl
  join_rows (t ∷ ts) ms p q =
      filter-append test (map (λ b. e t ++ b) (map h ms)) (flat_map (λ a. map (λ b. a ++ b) (map h ms)) (map e ts))
      ∙ (λ i. one_left t ms p.0 q i ++ join_rows ts ms p.1 q i)
      ∙ sym (map-append joined (with_left e (partners []) t (partners ms t)) (pairs e (partners ms) ts))
