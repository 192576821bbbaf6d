-- A condition and its conjuncts: tests that hold of a conjunction where they hold of both parts.
use Rattle.std.specs.Prelude.{◌≡◌, Bool, true, false, ◌&&◌, cond, List, [], ◌∷◌, filter, Option, Some, None}
use Rattle.std.specs.List.{list_all}
use Rattle.std.proofs.Common.{refl, sym, ◌∙◌, ap}
use Rattle.std.proofs.Math.Bool.{and_assoc}
use Rattle.std.proofs.lemmas.Bool.{and_parts, and_from}
use Rattle.std.proofs.lemmas.List.Folds.{list_all-append}
use Rattle.au_value.specs.declared.kinds.Kind.{Kind}
use Rattle.au_value.specs.declared.kinds.Kind.TheVariants as kind
use Rattle.au_value.specs.declared.value.Value.{Value}
use Rattle.au_value.specs.declared.value.Value.TheVariants.{Flag}
use Rattle.au_value.specs.Numeral.{is_i128}
use Rattle.au_expr.specs.Figures.{fit}
use Rattle.au_expr.specs.Kinds.{is_kind, kind_if}
use Rattle.au_plain.specs.Meaning.{passes}
use Rattle.au_plain.specs.PTerms.{PTerm, And, Literal}
use Rattle.au_plain.specs.PlanKinds.{plain_kind}
use Rattle.au_plain.specs.PlanNumbers.{term_numbers}
use Rattle.au_passes.specs.Conditions.{and_all, and_more, condition, conjuncts}

-- it holds of TRUE, and of a conjunction exactly where it holds of both parts
pub record IsConjunctive (test : PTerm → Bool) : Type 0 where
  pub both : (a b : PTerm) → test (And a b) ≡ (test a && test b)
  pub truth : test (Literal (Flag true)) ≡ true

and_true : (b : Bool) → (b && true) ≡ b
and_true true = refl
and_true false = refl

module _ (test : PTerm → Bool) (h : IsConjunctive test) where
  -- of a condition where it holds of each conjunct
  pub of_conjuncts : (e : PTerm) → test e ≡ list_all test (conjuncts e)
  of_conjuncts (And a b) =
      h.both a b ∙ (λ i. of_conjuncts a i && of_conjuncts b i) ∙ sym (list_all-append test (conjuncts a) (conjuncts b))
  of_conjuncts (Literal (Flag true)) = h.truth
  of_conjuncts e = sym (and_true (test e))

  -- of what is there so far
  abbrev so_far_holds : Option PTerm → Bool
  so_far_holds None = true
  so_far_holds (Some e) = test e

  of_more : (so_far : Option PTerm) (f : PTerm) → test (and_more so_far f) ≡ (so_far_holds so_far && test f)
  of_more None f = refl
  of_more (Some e) f = h.both e f

  of_all : (so_far : Option PTerm) (es : List PTerm) → test (and_all so_far es) ≡ (so_far_holds so_far && list_all test es)
  of_all None [] = h.truth
  of_all (Some e) [] = sym (and_true (test e))
  of_all so_far (f ∷ es) =
      of_all (Some (and_more so_far f)) es
      ∙ ap (λ b. b && list_all test es) (of_more so_far f)
      ∙ and_assoc (so_far_holds so_far) (test f) (list_all test es)

  -- of the condition of some conjuncts where it holds of each
  pub of_condition : (es : List PTerm) → test (condition es) ≡ list_all test es
  of_condition es = of_all None es

-- to be true on a row, to form numbers that fit, and to be a flag
pub passing_both : (row : List Value) → IsConjunctive (λ e. passes e row)
passing_both row = record { both = λ a b. refl; truth = refl }

pub fitting_both : (row : List Value) → IsConjunctive (λ e. fit (term_numbers e row))
fitting_both row = record { both = λ a b. list_all-append is_i128 (term_numbers a row) (term_numbers b row); truth = refl }

pub flags_both : (ks : List Kind) → IsConjunctive (λ e. is_kind kind.Flag (plain_kind ks e))
flags_both ks = record { both = λ a b. flag_if (is_kind kind.Flag (plain_kind ks a) && is_kind kind.Flag (plain_kind ks b)); truth = refl }
  where
    flag_if : (b : Bool) → is_kind kind.Flag (kind_if b kind.Flag) ≡ b
    flag_if true = refl
    flag_if false = refl

left_if : {A : Type 0} (test : A → Bool) (b : Bool) (e : A) (es : List A) → test e ≡ true → list_all test es ≡ true → list_all test (cond b (e ∷ es) es) ≡ true
left_if test true e es h k = and_from (test e) (list_all test es) h k
left_if test false e es h k = k

-- what all of some items pass, those that are left by another test pass
pub all_left : {A : Type 0} (test keep : A → Bool) (es : List A) → list_all test es ≡ true → list_all test (filter keep es) ≡ true
all_left test keep [] h = refl
all_left test keep (e ∷ es) h =
    let p = and_parts (test e) (list_all test es) h in left_if test (keep e) e (filter keep es) p.0 (all_left test keep es p.1)
