-- The terms of the clauses from results that were joined.
use Rattle.std.specs.Prelude.{◌≡◌, Option, Result, Ok, Err}
use Rattle.std.proofs.Common.{refl, sym, ap, ◌∙◌}
use Rattle.au_expr.specs.declared.expr.Expr.{Expr}
use Rattle.au_value.specs.Results.{both_results}
use Rattle.au_typing.specs.Results.{all_terms}
use Rattle.au_typing.specs.declared.fault.TypingFault.{TypingFault}
use Rattle.au_typing.specs.declared.outputs.Outputs.{Outputs}
use Rattle.au_typing.specs.declared.select.ClauseTerms.{ClauseTerms}
use Rattle.au_typing.specs.declared.setting.Gathered.{Gathered}

abbrev made : Result ((Option Expr × Unit {0}) × Option Expr) TypingFault → Gathered → Outputs → Result ClauseTerms TypingFault
made (Ok p) gathered outputs = Ok (record { filter = p.0.0; having = p.1; gathered = gathered; outputs = outputs })
made (Err f) gathered outputs = Err f

all_made : (filter : Result (Option Expr) TypingFault) (items : Result (Unit {0}) TypingFault) (having : Result (Option Expr) TypingFault) (gathered : Gathered) (outputs : Outputs)
    → made (both_results (both_results filter items) having) gathered outputs ≡ all_terms filter items having gathered outputs
all_made (Ok filter) (Ok done) (Ok having) gathered outputs = refl
all_made (Ok filter) (Ok done) (Err f) gathered outputs = refl
all_made (Ok filter) (Err f) having gathered outputs = refl
all_made (Err f) items having gathered outputs = refl

-- where none has a fault, and where one has
pub terms_given : (filter : Result (Option Expr) TypingFault) (items : Result (Unit {0}) TypingFault) (having : Result (Option Expr) TypingFault)
    (joined : Result ((Option Expr × Unit {0}) × Option Expr) TypingFault) (p : (Option Expr × Unit {0}) × Option Expr) (q : Gathered × Outputs) (h : Gathered) (o : Outputs)
    → joined ≡ both_results (both_results filter items) having → joined ≡ Ok p → ◌≡◌ {A = Gathered × Outputs} q (h, o)
    → Ok (record { filter = p.0.0; having = p.1; gathered = q.0; outputs = q.1 }) ≡ all_terms filter items having h o
terms_given filter items having joined p q h o is ok same =
    ap (λ (r : Gathered × Outputs). made (Ok p) r.0 r.1) same ∙ ap (λ r. made r h o) (sym ok ∙ is) ∙ all_made filter items having h o

pub terms_refused : (filter : Result (Option Expr) TypingFault) (items : Result (Unit {0}) TypingFault) (having : Result (Option Expr) TypingFault)
    (joined : Result ((Option Expr × Unit {0}) × Option Expr) TypingFault) (f : TypingFault) (h : Gathered) (q : Outputs)
    → joined ≡ both_results (both_results filter items) having → joined ≡ Err f → Err f ≡ all_terms filter items having h q
terms_refused filter items having joined f h q is err = ap (λ r. made r h q) (sym err ∙ is) ∙ all_made filter items having h q
