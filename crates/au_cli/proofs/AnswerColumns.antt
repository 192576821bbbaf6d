-- An answer has as many kinds as names.
use Rattle.std.proofs.Common.{◌≡◌, ◌∙◌, ℕ, List, length, ap, sym}
use Rattle.std.proofs.lemmas.List.{length-map}
use Rattle.au_value.specs.declared.kinds.Kind.{Kind}
use Rattle.au_parse.specs.Tree.{QueryTree}
use Rattle.au_typing.specs.Queries.{typing}
use Rattle.au_engine.specs.Answers.{Named, answer_kinds, answer_names, relations_of}

same_length : (ts : List Named) (s : QueryTree) → length (answer_kinds ts s) ≡ length (answer_names ts s)
same_length ts s =
    let columns = (typing (relations_of ts) s).columns in
    length-map columns (λ c. c.kind) ∙ sym (length-map columns (λ c. c.name))

pub columns_fit : (ts : List Named) (s : QueryTree) (names : List (List ℕ)) (kinds : List Kind) → names ≡ answer_names ts s → kinds ≡ answer_kinds ts s → length kinds ≡ length names
columns_fit ts s names kinds named kinded = ap length kinded ∙ same_length ts s ∙ sym (ap length named)
