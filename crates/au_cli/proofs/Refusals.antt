-- Which refusal comes where it is decided by what told files give.
use Rattle.std.proofs.Common.{◌≡◌, ◌<◌, ◌≤◌, arith, ℕ, true, false, List, Option, Some, None, Result, Ok, Err, refl, sym, ◌∙◌, ap, length, nat_lt}
use Rattle.std.specs.Prelude.{option_map}
use Rattle.std.specs.Option.{option_or}
use Rattle.std.specs.Result.{result_err}
use Rattle.au_engine.specs.declared.faults.LimitFault.TheVariants as limit
use Rattle.au_cli.specs.declared.outcome.Outcome.{Outcome}
use Rattle.au_cli.specs.declared.outcome.Outcome.TheVariants as outcome
use Rattle.au_value.specs.Texts.{Text}
use Rattle.au_cli.specs.Files.{greatest_files}
use Rattle.au_cli.specs.Requests.{IsRefusal, Refusal}
use Rattle.au_cli.specs.Requests.Refusal.{exactly}
use Rattle.au_cli.specs.Run.{refused_number}

-- an outcome is this refusal
pub is_exactly : (o : Outcome) (refusal : Refusal) → exactly o ≡ refusal → IsRefusal refusal o
is_exactly o (exactly want) e = cc
is_exactly o (Refusal.no_statement text) e = cc
is_exactly o (Refusal.defects found) e = cc

some_exactly : (o : Outcome) (refusal : Refusal) → Some (exactly o) ≡ Some refusal → IsRefusal refusal o
some_exactly o refusal e = let same : exactly o ≡ refusal = cc in is_exactly o refusal same

-- what is refused by told files, and what is given
pub err_comes : {X : Type 0} (found : Result X Outcome) (o : Outcome) (refusal : Refusal) → found ≡ Err o → option_map exactly (result_err found) ≡ Some refusal → IsRefusal refusal o
err_comes found o refusal e k = some_exactly o refusal (sym (ap (λ r. option_map exactly (result_err r)) e) ∙ k)

pub ok_comes : {X : Type 0} (found : Result X Outcome) (x : X) (refusal : Refusal) (o : Outcome) → found ≡ Ok x → option_map exactly (result_err found) ≡ Some refusal → IsRefusal refusal o
ok_comes found x refusal o e k = let none : None ≡ Some refusal = sym (ap (λ r. option_map exactly (result_err r)) e) ∙ k in cc

pub not_both : {X : Type 0} (found : Result X Outcome) (o : Outcome) (x : X) → found ≡ Err o → found ≡ Ok x → ⊥
not_both (Err y) o x e k = cc
not_both (Ok y) o x e k = cc

-- ---- the number of table words

pub few_words : (words : List (Text × Text)) → length words ≤ greatest_files → refused_number words ≡ None
few_words words few = let e : nat_lt greatest_files (length words) ≡ false = grind arith in rw e refl

many_words : (words : List (Text × Text)) → greatest_files < length words → refused_number words ≡ Some (exactly (outcome.Limit (limit.Files (length words))))
many_words words many = let e : nat_lt greatest_files (length words) ≡ true = grind arith in rw e refl

pub not_few : (words : List (Text × Text)) (refusal : Refusal) (o : Outcome) → length words ≤ greatest_files → refused_number words ≡ Some refusal → IsRefusal refusal o
not_few words refusal o few k = let none : None ≡ Some refusal = sym (few_words words few) ∙ k in cc

pub too_many : (words : List (Text × Text)) (n : ℕ) (refusal : Refusal) → n ≡ length words → greatest_files < length words → refused_number words ≡ Some refusal
    → IsRefusal refusal (outcome.Limit (limit.Files n))
too_many words n refusal e many k =
    some_exactly (outcome.Limit (limit.Files n)) refusal (ap (λ m. Some (exactly (outcome.Limit (limit.Files m)))) e ∙ sym (many_words words many) ∙ k)

pub many_first : (words : List (Text × Text)) (later : Option Refusal) (refusal : Refusal) → greatest_files < length words → option_or (refused_number words) later ≡ Some refusal → refused_number words ≡ Some refusal
many_first words later refusal many k = many_words words many ∙ sym (ap (λ r. option_or r later) (many_words words many)) ∙ k

pub few_first : (words : List (Text × Text)) (later : Option Refusal) (refusal : Refusal) → length words ≤ greatest_files → option_or (refused_number words) later ≡ Some refusal → later ≡ Some refusal
few_first words later refusal few k = sym (ap (λ r. option_or r later) (few_words words few)) ∙ k
