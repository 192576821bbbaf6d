-- Worked numbers and rows. The numbers of texts were made by another program.
use Rattle.std.specs.Prelude.{◌≡◌, ℕ, List, [], ◌∷◌, pos, true, false}
use Rattle.au_value.specs.declared.value.Value.TheVariants.{Int, Text, Flag}
use Rattle.au_algebra.specs.Ordinary.{Rows}
use Rattle.au_plain.specs.declared.expr.Comparison2.TheVariants as how
use Rattle.au_plain.specs.declared.plan.PAgg.TheVariants.{Sum, Min}
use Rattle.au_plain.specs.PTerms as term
use Rattle.au_physical.specs.Physicals.{PhysicalTree}
use Rattle.au_physical.specs.Physicals as physical
use Rattle.au_codes.specs.Codes.{coded_rows, coded_tables}
use Rattle.au_codes.specs.CodedPlans.{coded_tree}
use Rattle.au_codes.specs.CellMeaning.{plan_cells}
use Rattle.au_codes.specs.Books.{Book}
use Rattle.au_codes.specs.TextCodes.{text_code, text_number}

-- `abcdefghijkl`, of 12 bytes, and two texts of 13
abbrev pub twelve : List ℕ
twelve = 97 ∷ 98 ∷ 99 ∷ 100 ∷ 101 ∷ 102 ∷ 103 ∷ 104 ∷ 105 ∷ 106 ∷ 107 ∷ 108 ∷ []

abbrev pub with_m : List ℕ
with_m = 97 ∷ 98 ∷ 99 ∷ 100 ∷ 101 ∷ 102 ∷ 103 ∷ 104 ∷ 105 ∷ 106 ∷ 107 ∷ 108 ∷ 109 ∷ []

abbrev pub with_n : List ℕ
with_n = 97 ∷ 98 ∷ 99 ∷ 100 ∷ 101 ∷ 102 ∷ 103 ∷ 104 ∷ 105 ∷ 106 ∷ 107 ∷ 108 ∷ 110 ∷ []

abbrev pub long_ones : Book
long_ones = with_m ∷ with_n ∷ []

pub record TextsWorked : Type 0 where
  -- the empty text, `a`, `a` and a NUL, `ab`, `b`, and `å` in its two bytes
  pub empty : text_number long_ones [] ≡ 0
  pub letter : text_number long_ones (97 ∷ []) ≡ 64467557795568419835834642423596711937
  pub nul : text_number long_ones (97 ∷ 0 ∷ []) ≡ 64467557795568419835834642423596711938
  pub two : text_number long_ones (97 ∷ 98 ∷ []) ≡ 64721980341636626389632636743728496642
  pub next : text_number long_ones (98 ∷ []) ≡ 65132171793460877772286545953736884225
  pub ring : text_number long_ones (195 ∷ 165 ∷ []) ≡ 130028094079858420887474954324494254082
  -- texts that have their first 12 bytes alike
  pub short : text_number long_ones twelve ≡ 64722988298011025238216334404558520332
  pub first : text_number long_ones with_m ≡ 64722988298011025238216334404558520333
  pub second : text_number long_ones with_n ≡ 64722988298011025238216334404558520334

-- rows of a number, a text and a flag: 3 `b` true, 1 `a` false, 2 `ab` true, 5 `a` true, and 8 `bb` true
abbrev pub some_rows : Rows
some_rows =
    (Int (pos 3) ∷ Text (98 ∷ []) ∷ Flag true ∷ [])
    ∷ (Int (pos 1) ∷ Text (97 ∷ []) ∷ Flag false ∷ [])
    ∷ (Int (pos 2) ∷ Text (97 ∷ 98 ∷ []) ∷ Flag true ∷ [])
    ∷ (Int (pos 5) ∷ Text (97 ∷ []) ∷ Flag true ∷ [])
    ∷ (Int (pos 8) ∷ Text (98 ∷ 98 ∷ []) ∷ Flag true ∷ [])
    ∷ []

-- for each flag, the sum of the numbers and the least text, of the rows whose text is at most `b`
abbrev pub some_plan : PhysicalTree
some_plan =
    physical.Group (2 ∷ []) (Sum 0 ∷ Min 1 ∷ []) (physical.Filter (term.Compare how.AtMost (term.Column 1) (term.Literal (Text (98 ∷ [])))) (physical.Scan 0 3))

pub record PlansWorked : Type 0 where
  -- the rows' cells
  pub cells :
      coded_rows (text_code long_ones) some_rows
      ≡ (pos 3 ∷ pos 65132171793460877772286545953736884225 ∷ pos 1 ∷ [])
      ∷ (pos 1 ∷ pos 64467557795568419835834642423596711937 ∷ pos 0 ∷ [])
      ∷ (pos 2 ∷ pos 64721980341636626389632636743728496642 ∷ pos 1 ∷ [])
      ∷ (pos 5 ∷ pos 64467557795568419835834642423596711937 ∷ pos 1 ∷ [])
      ∷ (pos 8 ∷ pos 65386594339529084326084540273868668930 ∷ pos 1 ∷ [])
      ∷ []
  -- the plan over cells asks for a number of at most that of `b`
  pub plan :
      coded_tree (text_code long_ones) some_plan
      ≡ physical.Group (2 ∷ []) (Sum 0 ∷ Min 1 ∷ []) (physical.Filter (term.Compare how.AtMost (term.Column 1) (term.Literal (Int (pos 65132171793460877772286545953736884225)))) (physical.Scan 0 3))
  -- its rows: true, 10, `a`, and false, 1, `a`
  pub answer :
      plan_cells (coded_tree (text_code long_ones) some_plan) (coded_tables (text_code long_ones) (some_rows ∷ []))
      ≡ (pos 1 ∷ pos 10 ∷ pos 64467557795568419835834642423596711937 ∷ [])
      ∷ (pos 0 ∷ pos 1 ∷ pos 64467557795568419835834642423596711937 ∷ [])
      ∷ []
