-- An answer has as many kinds as names.
use Rattle.std.proofs.Common.{◌≡◌, ℕ, List, length, map, ap, sym, ◌∙◌}
use Rattle.std.proofs.lemmas.List.{length-map}
use Rattle.au_value.specs.declared.kinds.Kind.{Kind}
use Rattle.au_parse.specs.Tree.{QueryTree}
use Rattle.au_typing.specs.Queries.{typing}
use Rattle.au_engine.specs.Answers.{Named, answer_kinds, answer_names, relations_of}

pub as_many_kinds : (ts : List Named) (s : QueryTree) (names : List (List ℕ)) (kinds : List Kind) → names ≡ answer_names ts s → kinds ≡ answer_kinds ts s → length kinds ≡ length names
as_many_kinds ts s names kinds named kinded =
    let columns = (typing (relations_of ts) s).columns in
    ap length kinded ∙ length-map columns (λ c. c.kind) ∙ sym (ap length named ∙ length-map columns (λ c. c.name))
