-- The line of a file, and the plan of a line.
use Rattle.std.proofs.Common.{◌≡◌, ◌≢◌, ◌∙◌, ◌&&◌, ◌++◌, ℕ, Bool, true, false, refl, sym, ap, eqb-true, List, [], ◌∷◌, length, Option, Some, None, Ok, Err, if◌then◌else◌}
use Rattle.std.specs.Prelude.{◌==◌, MatchOption, bytes_eq, option_map}
use Rattle.std.specs.Borrow.{Bor}
use Rattle.std.specs.Str.{is_utf8}
use Rattle.std.proofs.lemmas.Bool.{and_parts}
use Rattle.std.proofs.lemmas.Slice.Eq.{bytes_eq-Decides}
use Rattle.au_plain.specs.Plans.{PlanTree}
use Rattle.au_sqltext.specs.Answers.{IsNoText, IsTextOf}
use Rattle.au_sqltext.specs.Brackets.{is_deep}
use Rattle.au_sqltext.specs.Fitting.{written_numbers_fit, widths_fit}
use Rattle.au_sqltext.specs.Reading.{read_plan_tree}
use Rattle.au_sqltext.specs.Texts.{plan_text}
use Rattle.au_sqltext.specs.declared.fault.PlanFault.{PlanFault}
use Rattle.au_sqltext.specs.declared.fault.PlanFault.TheVariants as no_plan
use Rattle.au_sqltext.proofs.ReadBack.{reads_text}
use Rattle.au_cli.specs.declared.outcome.Outcome.TheVariants as outcome
use Rattle.au_value.specs.Texts.{Text}
use Rattle.au_cli.specs.PlanCauses.{LineCause, ended_text}
use Rattle.au_cli.specs.Plain.{before_line_feed, is_text_of, line_of, line_plan, own_plan, plan_of, plan_or_fault}

-- ---- the line of a file

pub feed_behind : (line : List ℕ) → before_line_feed (line ++ 10 ∷ []) ≡ Some line
feed_behind [] = refl
feed_behind (b ∷ []) = refl
feed_behind (b ∷ c ∷ line) = ap (option_map (λ l. b ∷ l)) (feed_behind (c ∷ line))

abbrev line_alone : Bool → Option (List ℕ)
line_alone is = if is then Some [] else None

last_differs : (b : ℕ) (is : Bool) → (b == 10) ≡ is → ((front : List ℕ) → b ∷ [] ≢ front ++ (10 ∷ [])) → line_alone is ≡ None
last_differs b true e h = absurd (h [] (ap (λ x. x ∷ []) (eqb-true b 10 e)))
last_differs b false e h = refl

pub no_feed : (bytes : List ℕ) → ((front : List ℕ) → bytes ≢ front ++ (10 ∷ [])) → before_line_feed bytes ≡ None
no_feed [] h = refl
no_feed (b ∷ []) h = last_differs b (b == 10) refl h
no_feed (b ∷ c ∷ bytes) h = ap (option_map (λ l. b ∷ l)) (no_feed (c ∷ bytes) (λ front e. h (b ∷ front) (ap (λ xs. b ∷ xs) e)))

stripped : (bytes : List ℕ) (found : Option (Bor (List ℕ))) → MatchOption found ((front : List ℕ) → bytes ≢ front ++ (10 ∷ [])) (λ x. bytes ≡ x.now ++ (10 ∷ []))
    → option_map (λ l. l.now) found ≡ before_line_feed bytes
stripped bytes None h = sym (no_feed bytes h)
stripped bytes (Some x) h = sym (ap before_line_feed h ∙ feed_behind x.now)

-- what stands before the line feed of a text
pub line_is : (bytes text : List ℕ) (found : Option (Bor (List ℕ))) → text ≡ bytes → is_utf8 bytes ≡ true
    → MatchOption found ((front : List ℕ) → text ≢ front ++ (10 ∷ [])) (λ x. text ≡ x.now ++ (10 ∷ [])) → option_map (λ l. l.now) found ≡ line_of bytes
line_is bytes text found same utf8 h = rw utf8 (stripped text found h ∙ ap before_line_feed same)

line_if : (is : Bool) (line : Option Text) → (is ≡ true → ⊥) → (if is then line else None) ≡ None
line_if true line h = absurd (h refl)
line_if false line h = refl

pub no_line : (bytes : List ℕ) → (is_utf8 bytes ≡ true → ⊥) → line_of bytes ≡ None
no_line bytes h = line_if (is_utf8 bytes) (before_line_feed bytes) h

pub line_behind : (line : List ℕ) → is_utf8 (line ++ 10 ∷ []) ≡ true → line_of (line ++ 10 ∷ []) ≡ Some line
line_behind line utf8 = rw utf8 (feed_behind line)

-- ---- the plan of a line

both_true : (x y : Bool) → x ≡ true → y ≡ true → (x && y) ≡ true
both_true true y same e = e
both_true false y e f = cc

has_text : (text : Text) (p : PlanTree) → IsTextOf text p → is_text_of text p ≡ true
has_text text p is =
    both_true (widths_fit p && written_numbers_fit p) (bytes_eq (plan_text p) text) (both_true (widths_fit p) (written_numbers_fit p) is.widths is.numbers) ((bytes_eq-Decides (plan_text p) text).1 is.text)

text_has : (text : Text) (p : PlanTree) → is_text_of text p ≡ true → IsTextOf text p
text_has text p e =
    let parts = and_parts (widths_fit p && written_numbers_fit p) (bytes_eq (plan_text p) text) e in
    let fit = and_parts (widths_fit p) (written_numbers_fit p) parts.0 in
    record { widths = fit.0; numbers = fit.1; text = (bytes_eq-Decides (plan_text p) text).0 parts.1 }

-- the plan of a text is the one whose text it is
pub own : (text : Text) (p : PlanTree) → IsTextOf text p → plan_of text ≡ Some p
own text p is = ap (own_plan text) (reads_text text p is) ∙ ap (λ b. if b then Some p else None) (has_text text p is)

differs : (text : Text) (p : PlanTree) (is : Bool) → is_text_of text p ≡ is → IsNoText text → (if is then Some p else None) ≡ None
differs text p true e h = absurd (h p (text_has text p e))
differs text p false e h = refl

none_own : (text : Text) (read : Option (PlanTree × List ℕ)) → IsNoText text → own_plan text read ≡ None
none_own text None h = refl
none_own text (Some read) h = differs text read.0 (is_text_of text read.0) refl h

pub no_own : (text : Text) → IsNoText text → plan_of text ≡ None
no_own text h = none_own text (read_plan_tree (length text) text) h

pub plan_line : (text : Text) (p : PlanTree) → is_deep text ≡ false → IsTextOf text p → line_plan (Some text) ≡ Ok p
plan_line text p flat is = rw flat (ap plan_or_fault (own text p is))

pub no_plan_line : (text : Text) → is_deep text ≡ false → IsNoText text → line_plan (Some text) ≡ Err (outcome.Plan no_plan.Text)
no_plan_line text flat h = rw flat (ap plan_or_fault (no_own text h))

pub deep_line : (text : Text) → is_deep text ≡ true → line_plan (Some text) ≡ Err (outcome.Plan no_plan.Deep)
deep_line text deep = rw deep refl

-- why a text is no plan, by the fault that it has
pub text_cause : (text : Text) (fault : PlanFault) → (fault ≡ no_plan.Text → (is_deep text ≡ false) × IsNoText text) → (fault ≡ no_plan.Deep → is_deep text ≡ true) → (fault ≡ no_plan.Untyped → ⊥)
    → LineCause (Some text) (ended_text fault)
text_cause text no_plan.NoMemory text_is deep_is typed = tt
text_cause text no_plan.Text text_is deep_is typed = (no_plan_line text (text_is refl).0 (text_is refl).1, (text_is refl).1)
text_cause text no_plan.Deep text_is deep_is typed = deep_line text (deep_is refl)
text_cause text no_plan.Untyped text_is deep_is typed = absurd (typed refl)
