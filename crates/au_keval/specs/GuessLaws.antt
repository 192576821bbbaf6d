-- Taking the guess goes along with each operator on ranges and triples: the proofs that the instance names.
-- Nothing is defined here.
use Rattle.std.specs.Prelude.{◌≡◌, ◌+◌, ◌*◌, refl}
use Rattle.std.proofs.Common.{◌∙◌}
use Rattle.au_value.specs.Order.{kind_of}
use Rattle.au_value.specs.declared.value.Value.{Value}
use Rattle.au_value.specs.declared.value.Value.TheVariants as value
use Rattle.au_value.specs.Ranges.{range}
use Rattle.au_expr.specs.Truths.{range_of_truth}
use Rattle.au_value.specs.Ranges.{Span, IsRangeOf}
use Rattle.au_value.specs.declared.kinds.Kind.TheVariants.{Flag}
use Rattle.au_annot.specs.Triples.{IsTriple, plus, times, none, one}
use Rattle.au_expr.specs.OnRanges.{on_ranges}
use Rattle.au_expr.specs.Ordinary.{IsKind, ordinary, is_true}
use Rattle.au_expr.specs.Truths.{IsThreeWay, three_way}
use Rattle.au_algebra.proofs.PositiveGuesses.{guess_keeps}
use Rattle.au_expr.proofs.Kept.{three_way_from}
use Rattle.au_keval.specs.Homs.{KeepsCells, KeepsKinds, KeepsTruth, KeepsValid, KeepsWeight, KeepsOperation}
use Rattle.au_keval.specs.Weights.{truth_count, truth_triple}

pub guess_cells : KeepsCells IsRangeOf on_ranges ordinary (λ r. r.sg)
guess_cells = guess_keeps.cells

pub guess_kinds : KeepsKinds IsRangeOf IsKind (λ r. r.sg)
guess_kinds k r ok = ok.kind

pub guess_valid : KeepsValid IsTriple (λ _. Unit {0}) (λ k. k.guess)
guess_valid k ok = tt

-- a flag is the flag of its truth
flag_is : (v : Value) → kind_of v ≡ Flag → value.Flag (is_true v) ≡ v
flag_is (value.Int n) h = cc
flag_is (value.Text t) h = cc
flag_is (value.Flag b) h = refl

flags_are : (r : Span) → IsRangeOf Flag r → range_of_truth (three_way r) ≡ r
flags_are r ok = λ i. range (flag_is r.lo (ok.range.lo_kind ∙ ok.kind) i) (flag_is r.sg ok.kind i) (flag_is r.hi (ok.range.hi_kind ∙ ok.kind) i)

pub guess_truth : KeepsTruth IsRangeOf IsThreeWay three_way is_true (λ r. r.sg) (λ t. t.guess)
guess_truth r ok = (three_way_from (three_way r) r (flags_are r ok) ok, refl)

pub guess_weight : KeepsWeight IsThreeWay truth_triple truth_count (λ t. t.guess) (λ k. k.guess)
guess_weight t ok = refl

pub guess_zero : none.guess ≡ 0
guess_zero = refl

pub guess_one : one.guess ≡ 1
guess_one = refl

pub guess_plus : KeepsOperation plus (λ m n. m + n) (λ k. k.guess)
guess_plus s t = refl

pub guess_times : KeepsOperation times (λ m n. m * n) (λ k. k.guess)
guess_times s t = refl
