-- Passes over rows, one row after the other.
use Rattle.std.specs.Prelude.{◌≡◌, ℕ, zero, suc, ◌+◌, ◌<◌, Bool, true, false, ◌&&◌, List, [], ◌∷◌, ◌++◌, map, flat_map, length, take}
use Rattle.std.specs.List.{list_all, AllByRecursion}
use Rattle.std.proofs.Common.{arith, refl, sym, ◌∙◌, ap, subst, append_assoc, append-nil, get_or, drop, take-append-drop}
use Rattle.std.proofs.lemmas.Bool.{and_from}
use Rattle.std.proofs.lemmas.List.{take_more, map-append}
use Rattle.std.proofs.lemmas.List.Folds.{list_all-append}
use Rattle.au_algebra.proofs.Each.{all_append}
use Rattle.au_keval.specs.Passes.{Passed}

and_false : (b : Bool) → (b && false) ≡ false
and_false true = refl
and_false false = refl

module _ {A B : Type 0} (step : A → List B) (test : A → Bool) (Learned : A → Type 0) where
  steps-append : (xs ys : List A) → flat_map step (xs ++ ys) ≡ flat_map step xs ++ flat_map step ys
  steps-append [] ys = refl
  steps-append (x ∷ xs) ys = ap (λ zs. step x ++ zs) (steps-append xs ys) ∙ sym (append_assoc (step x) (flat_map step xs) (flat_map step ys))

  -- no row
  pub passed_none : (before : List B) → Passed step test Learned [] before before
  passed_none before = record { rows = sym (append-nil before); fits = refl; learned = tt }

  -- one row
  pub passed_one : (x : A) (before after : List B) → after ≡ before ++ step x → test x ≡ true → Learned x → Passed step test Learned (x ∷ []) before after
  passed_one x before after e t l = record {
    rows = e ∙ ap (λ zs. before ++ zs) (sym (append-nil (step x)));
    fits = and_from (test x) true t refl;
    learned = (l, tt);
  }

  -- one pass after the other
  pub passed_both : (xs ys : List A) (before between after : List B) → Passed step test Learned xs before between → Passed step test Learned ys between after → Passed step test Learned (xs ++ ys) before after
  passed_both xs ys before between after p q = record {
    rows =
        q.rows
        ∙ ap (λ zs. zs ++ flat_map step ys) p.rows
        ∙ append_assoc before (flat_map step xs) (flat_map step ys)
        ∙ ap (λ zs. before ++ zs) (sym (steps-append xs ys));
    fits = list_all-append test xs ys ∙ and_from (list_all test xs) (list_all test ys) p.fits q.fits;
    learned = all_append Learned xs ys p.learned q.learned;
  }

  module _ {X : Type 0} (view : X → A) where
    -- one row more of those that came
    pub passed_push : (xs : List X) (x : X) (before between after : List B) → Passed step test Learned (map view xs) before between → Passed step test Learned (view x ∷ []) between after → Passed step test Learned (map view (xs ++ x ∷ [])) before after
    passed_push xs x before between after p q =
        subst (λ ys. Passed step test Learned ys before after) (sym (map-append view xs (x ∷ [])))
        (passed_both (map view xs) (view x ∷ []) before between after p q)

    -- one row more of the front
    pub passed_more : (xs : List X) (i : ℕ) (x : X) (before between after : List B) → i < length xs → x ≡ get_or xs i x → Passed step test Learned (map view (take i xs)) before between → Passed step test Learned (view x ∷ []) between after → Passed step test Learned (map view (take (i + 1) xs)) before after
    passed_more xs i x before between after i_in at p q =
        subst (λ ys. Passed step test Learned (map view ys) before after)
        (sym (take_more xs i x i_in ∙ ap (λ y. take i xs ++ y ∷ []) (sym at)))
        (passed_push (take i xs) x before between after p q)

-- ---- a row that fails

module _ {X A : Type 0} (test : A → Bool) (view : X → A) where
  -- a row that fails the test, behind others
  pub fails_behind : (xs : List X) (x : X) (rest : List X) → test (view x) ≡ false → list_all test (map view (xs ++ x ∷ rest)) ≡ false
  fails_behind [] x rest h = ap (λ b. b && list_all test (map view rest)) h
  fails_behind (y ∷ xs) x rest h = ap (λ b. test (view y) && b) (fails_behind xs x rest h) ∙ and_false (test (view y))

  -- a row that fails the test, at a place
  pub fails_at : (xs : List X) (i : ℕ) (x : X) → i < length xs → x ≡ get_or xs i x → test (view x) ≡ false → list_all test (map view xs) ≡ false
  fails_at xs i x i_in at h =
      let front : take (i + 1) xs ≡ take i xs ++ x ∷ [] = take_more xs i x i_in ∙ ap (λ y. take i xs ++ y ∷ []) (sym at) in
      let whole : (take i xs ++ x ∷ []) ++ drop (i + 1) xs ≡ xs = ap (λ ys. ys ++ drop (i + 1) xs) (sym front) ∙ take-append-drop (i + 1) xs in
      subst (λ ys. list_all test (map view ys) ≡ false) (sym (append_assoc (take i xs) (x ∷ []) (drop (i + 1) xs)) ∙ whole)
      (fails_behind (take i xs) x (drop (i + 1) xs) h)

-- what holds of each row in a view, at a place
pub all_at_view : {X A : Type 0} (P : A → Type 0) (view : X → A) (xs : List X) (i : ℕ) (x : X) → i < length xs → x ≡ get_or xs i x → AllByRecursion P (map view xs) → P (view x)
all_at_view P view [] i x i_in at h = absurd (omega arith)
all_at_view P view (y ∷ xs) zero x i_in at h = subst (λ z. P (view z)) (sym at) h.0
all_at_view P view (y ∷ xs) (suc i) x i_in at h = all_at_view P view xs i x (omega arith) at h.1

-- and at the front of what is left
pub all_at_front : {X A : Type 0} (P : A → Type 0) (view : X → A) (before : List X) (x : X) (rest : List X) → AllByRecursion P (map view (before ++ x ∷ rest)) → P (view x)
all_at_front P view [] x rest h = h.0
all_at_front P view (y ∷ before) x rest h = all_at_front P view before x rest h.1
