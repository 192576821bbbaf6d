-- Plans whose rows are an encoded relation, and whose kinds are encoded kinds.
use Rattle.std.specs.Prelude.{◌≡◌, Bool, true, false, ◌&&◌, cond, ℕ, List, [], ◌∷◌, ◌++◌, map, filter, Some, option_and_then}
use Rattle.std.specs.List.{AllByRecursion}
use Rattle.std.proofs.Common.{refl, sym, ◌∙◌, ap}
use Rattle.au_value.specs.declared.kinds.Kind.{Kind}
use Rattle.au_value.specs.declared.kinds.Kind.TheVariants.{Flag}
use Rattle.au_value.specs.declared.value.Value.{Value}
use Rattle.au_value.specs.KindLaws.{kind_itself}
use Rattle.au_expr.specs.Kinds.{is_kind}
use Rattle.au_algebra.specs.Typing.{kinds_if, same_kinds}
use Rattle.au_algebra.specs.Ordinary.{Rows}
use Rattle.au_algebra.specs.Bounded.{Bounded}
use Rattle.au_algebra.proofs.Items.{and_then_is, some_is}
use Rattle.au_plain.specs.PTerms.{PTerm}
use Rattle.au_plain.specs.Plans.{PlanTree, Extend, Keep, Filter, extend_all}
use Rattle.au_plain.specs.Meaning.{plain_rows, extended}
use Rattle.au_plain.specs.PlanKinds.{plan_kinds, plain_kind, kept_kinds}
use Rattle.au_encode.specs.Encode.{encode, encoded_kinds}
use Rattle.au_rwexpr.specs.Adding.{grow}
use Rattle.au_rwexpr.proofs.Columns.{add_columns}
use Rattle.au_rwexpr.proofs.OnValues.{reading}
use Rattle.au_rwexpr.proofs.Picks.{Picks, kinds_kept}

-- the plan's rows are those of the relation, in its order
abbrev pub GivesEncoded : List Rows → PlanTree → Bounded → Type 0
GivesEncoded ts p rows = plain_rows p ts ≡ encode rows

-- the plan is typed, with these columns' encoded kinds
abbrev pub HasKinds : List (List Kind) → PlanTree → List Kind → Type 0
HasKinds tk p ks = plan_kinds tk p ≡ Some (encoded_kinds ks)

pub grow_is : (es : List PTerm) (row r : List Value) → add_columns reading es row ≡ Some r → grow es row ≡ r
grow_is [] row r h = some_is row r h
grow_is (e ∷ es) row r h = grow_is es (extended e row) r h

pub map-map : {A B C : Type 0} (f : A → B) (g : B → C) (xs : List A) → map g (map f xs) ≡ map (λ x. g (f x)) xs
map-map f g [] = refl
map-map f g (x ∷ xs) = λ i. g (f x) ∷ map-map f g xs i

pub same_map : {A : Type 0} (xs : List A) → map (λ x. x) xs ≡ xs
same_map [] = refl
same_map (x ∷ xs) = λ i. x ∷ same_map xs i

-- the rows of a plan with columns added
pub rows-extend_all : (es : List PTerm) (p : PlanTree) (ts : List Rows) → plain_rows (extend_all es p) ts ≡ map (grow es) (plain_rows p ts)
rows-extend_all [] p ts = sym (same_map (plain_rows p ts))
rows-extend_all (e ∷ es) p ts = rows-extend_all es (Extend e p) ts ∙ map-map (extended e) (grow es) (plain_rows p ts)

pub map_valid : {A B : Type 0} (P : A → Type 0) (f g : A → B) (xs : List A) → AllByRecursion P xs → ((x : A) → P x → f x ≡ g x) → map f xs ≡ map g xs
map_valid P f g [] v same = refl
map_valid P f g (x ∷ xs) v same = λ i. same x v.0 i ∷ map_valid P f g xs v.1 same i

module _ {A B C D : Type 0} (P : A → Type 0) (g : A → B) (test : B → Bool) (h : B → C) (k : A → D) (left : D → Bool) (code : D → C) (same_test : (x : A) → P x → test (g x) ≡ left (k x)) (same : (x : A) → P x → test (g x) ≡ true → h (g x) ≡ code (k x)) where
  passing_if : (b : Bool) (x : A) (ys : List B) (zs : List D) → P x → test (g x) ≡ b → map h ys ≡ map code zs → map h (cond b (g x ∷ ys) ys) ≡ map code (cond b (k x ∷ zs) zs)
  passing_if true x ys zs v e ih = λ i. same x v e i ∷ ih i
  passing_if false x ys zs v e ih = ih

  -- rows that are filtered and then changed are those that are changed and then filtered
  pub passing : (xs : List A) → AllByRecursion P xs → map h (filter test (map g xs)) ≡ map code (filter left (map k xs))
  passing [] v = refl
  passing (x ∷ xs) v =
      passing_if (test (g x)) x (filter test (map g xs)) (filter left (map k xs)) v.0 refl (passing xs v.1)
      ∙ ap (λ b. map code (cond b (k x ∷ filter left (map k xs)) (filter left (map k xs)))) (same_test x v.0)

-- ---- kinds

module _ (tk : List (List Kind)) where
  pub kinds-extend : (e : PTerm) (p : PlanTree) (row : List Kind) (k : Kind) → plan_kinds tk p ≡ Some row → plain_kind row e ≡ Some k → plan_kinds tk (Extend e p) ≡ Some (row ++ k ∷ [])
  kinds-extend e p row k h t =
      ap (option_and_then (λ ks. option_and_then (λ j. Some (ks ++ j ∷ [])) (plain_kind ks e))) h
      ∙ ap (option_and_then (λ j. Some (row ++ j ∷ []))) t

  pub kinds-extend_all : (es : List PTerm) (p : PlanTree) (row r : List Kind) → plan_kinds tk p ≡ Some row → add_columns plain_kind es row ≡ Some r → plan_kinds tk (extend_all es p) ≡ Some r
  kinds-extend_all [] p row r k a = k ∙ a
  kinds-extend_all (e ∷ es) p row r k a =
      let q = and_then_is _ (plain_kind row e) r a in
      kinds-extend_all es (Extend e p) (row ++ q.0 ∷ []) r (kinds-extend e p row q.0 k q.1) q.2

  pub kinds-keep : (ps : List ℕ) (p : PlanTree) (row vs : List Kind) → plan_kinds tk p ≡ Some row → Picks row ps vs → plan_kinds tk (Keep ps p) ≡ Some vs
  kinds-keep ps p row vs k z = ap (option_and_then (λ ks. kept_kinds ps ks)) k ∙ kinds_kept row ps vs z

  pub kinds-filter : (e : PTerm) (p : PlanTree) (row : List Kind) → plan_kinds tk p ≡ Some row → plain_kind row e ≡ Some Flag → plan_kinds tk (Filter e p) ≡ Some row
  kinds-filter e p row k t =
      ap (option_and_then (λ ks. kinds_if (is_kind Flag (plain_kind ks e)) ks)) k ∙ ap (λ o. kinds_if (is_kind Flag o) row) t

pub same_kinds_itself : (ks : List Kind) → same_kinds ks ks ≡ true
same_kinds_itself [] = refl
same_kinds_itself (k ∷ ks) = ap (λ b. b && same_kinds ks ks) (kind_itself k) ∙ same_kinds_itself ks
