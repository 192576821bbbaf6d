-- The numbers of the expressions that Least and Greatest hold.
use Rattle.std.proofs.Common.{◌≡◌, List, [], ◌∷◌, ◌&&◌, Vec, Global, refl, ap, ◌∙◌, map, true}
use Rattle.std.specs.List.{list_all}
use Rattle.au_plain.specs.declared.expr.PExpr.{PExpr}
use Rattle.au_plain.specs.declared.expr.PExpr.TheVariants.{Least, Greatest}
use Rattle.au_plain.specs.PTerms.{pterm}
use Rattle.au_plain.proofs.TermLists.{greatest_view, least_view, terms_of}
use Rattle.au_sqltext.specs.Fitting.{term_fits, terms_fit}

terms_listed : (es : List PExpr) → terms_fit (terms_of es) ≡ list_all term_fits (map pterm es)
terms_listed [] = refl
terms_listed (e ∷ es) = ap (λ b. term_fits (pterm e) && b) (terms_listed es)

pub least_fits : (es : Vec PExpr Global) → list_all term_fits (map pterm es.items) ≡ true → term_fits (pterm (Least es)) ≡ true
least_fits es h = ap term_fits (least_view es) ∙ terms_listed es.items ∙ h

pub greatest_fits : (es : Vec PExpr Global) → list_all term_fits (map pterm es.items) ≡ true → term_fits (pterm (Greatest es)) ≡ true
greatest_fits es h = ap term_fits (greatest_view es) ∙ terms_listed es.items ∙ h
