-- Fields that are written one by one make a record.
use Rattle.std.specs.Prelude.{◌≡◌, ℕ, List, [], ◌∷◌, ◌++◌}
use Rattle.std.proofs.Common.{refl, sym, ap}
use Rattle.csv.specs.Writing.{comma, default_writer, field_text, fields_text, is_blank}
use Rattle.au_print.specs.Begun.{field_behind, fields_behind, first_field}
use Rattle.au_print.specs.Texts.{record_text}

pub all_behind : (fields : List (List ℕ)) → fields_text default_writer fields ≡ fields_behind fields
unfolding field_behind fields_text
all_behind [] = refl
all_behind (field ∷ fields) = ap (λ (rest : List ℕ). comma ∷ (field_text default_writer field ++ rest)) (all_behind fields)

-- a record of more than one field
pub record_is : (first second : List ℕ) (fields : List (List ℕ)) → first_field first ++ fields_behind (second ∷ fields) ++ 10 ∷ [] ≡ record_text (first ∷ second ∷ fields)
unfolding first_field record_text is_blank
record_is first second fields = ap (λ (rest : List ℕ). field_text default_writer first ++ rest ++ 10 ∷ []) (sym (all_behind (second ∷ fields)))
