-- The program of a statement as lines for people: its steps, in the order in which they are run, and then the answer. Below
-- the name of each stand its sources, which its plan scans, and then the lines of this plan.
use Rattle.std.specs.Prelude.{◌≡◌, ℕ, ◌+◌, false, List, [], ◌++◌, map, Option, Some, None, Vec, codes, decimal, slice_get, unwrap_or}
use Rattle.std.specs.declared.alloc.Global.{Global}
use Rattle.au_value.specs.declared.kinds.Kind.{Kind}
use Rattle.au_algebra.specs.Trees.{Tree}
use Rattle.au_parse.specs.Tree.{QueryTree}
use Rattle.au_physical.specs.Physicals.{physical_tree}
use Rattle.au_sqltext.specs.Texts.{column_text, listed}
use Rattle.au_explain.specs.Lines.{plan_lines}
use Rattle.au_program.specs.Programs.{IsProgram}
use Rattle.au_program.specs.Rules.{plain_rules}
use Rattle.au_program.specs.Sources.{count}
use Rattle.au_program.specs.declared.program.Program.{Program}
use Rattle.au_program.specs.declared.sources.Sources.{Sources}
use Rattle.au_program.specs.declared.sources.Sources.TheVariants as code
use Rattle.au_program.specs.declared.sources.Ways.{Ways}
use Rattle.au_program.specs.declared.sources.Ways.TheVariants as ways
use Rattle.au_engine.specs.Answers.{Named, answer_tree}
use Rattle.au_engine.specs.Exchange.{value_kinds}

-- how many steps are run for some sources: for a product that is compressed one for each side
abbrev pub steps_in : Sources → ℕ
steps_in code.Nothing = 0
steps_in (code.Table' p before place kept) = steps_in before
steps_in (code.Step' p before q own how) = steps_in before + steps_in own + 1
steps_in (code.Pairs' p before q left r right pairing) = steps_in before + steps_in left + 1 + steps_in right + 1

abbrev pub step_name : ℕ → List ℕ
step_name n = codes "step " ++ decimal n

-- ---- sources

-- the name of the table at a place
abbrev pub name_at : List (List ℕ) → ℕ → List ℕ
name_at names place = unwrap_or (slice_get names place) []

-- the columns that are read of a table's encoded rows, where these are not all
abbrev pub kept_text : Option (Vec ℕ Global) → List ℕ
kept_text None = []
kept_text (Some places) = codes " (" ++ listed (map column_text places.items) ++ codes ")"

-- what is scanned as the table of a plan at this place
abbrev pub source_line : ℕ → List ℕ → List ℕ
source_line place what = codes "  t" ++ decimal place ++ codes " = " ++ what ++ codes "\n"

-- the guesses of what two steps find, and what is possible of it, in at most so many rows
unfoldable pub parts_text : ℕ → ℕ → ℕ → ℕ → List ℕ
parts_text place left right size =
    source_line place (codes "guesses of " ++ step_name left)
    ++ source_line (place + 1) (codes "guesses of " ++ step_name right)
    ++ source_line (place + 2) (step_name left ++ codes " in rows: " ++ decimal size)
    ++ source_line (place + 3) (step_name right ++ codes " in rows: " ++ decimal size)

-- the sources of a plan, behind so many steps
abbrev pub sources_text : List (List ℕ) → ℕ → Sources → List ℕ
sources_text names ran code.Nothing = []
sources_text names ran (code.Table' p before place kept) =
    sources_text names ran before ++ source_line (count before) (name_at names place ++ kept_text kept)
sources_text names ran (code.Step' p before q own how) =
    sources_text names ran before ++ source_line (count before) (step_name (ran + steps_in before + steps_in own + 1))
sources_text names ran (code.Pairs' p before q left r right pairing) =
    sources_text names ran before
    ++ parts_text (count before) (ran + steps_in before + steps_in left + 1) (ran + steps_in before + steps_in left + 1 + steps_in right + 1) pairing.size

-- ---- steps

-- its plan, or both plans of which one is run, by a look at the keys
abbrev pub ways_lines : Ways → List ℕ
ways_lines (ways.Plan p) = plan_lines 1 (physical_tree p)
ways_lines (ways.ByKeys keys p q) =
    codes "  where keys repeat:\n" ++ plan_lines 2 (physical_tree p) ++ codes "  where they differ:\n" ++ plan_lines 2 (physical_tree q)

-- the name of a step and its own sources, behind so many steps
abbrev pub step_head : List (List ℕ) → ℕ → Sources → List ℕ
step_head names ran own = step_name (ran + steps_in own + 1) ++ codes "\n" ++ sources_text names ran own

-- all steps that are run for some sources, behind so many others
abbrev pub steps_text : List (List ℕ) → ℕ → Sources → List ℕ
steps_text names ran code.Nothing = []
steps_text names ran (code.Table' p before place kept) = steps_text names ran before
steps_text names ran (code.Step' p before q own how) =
    steps_text names ran before
    ++ (steps_text names (ran + steps_in before) own ++ step_head names (ran + steps_in before) own ++ ways_lines how)
steps_text names ran (code.Pairs' p before q left r right pairing) =
    steps_text names ran before
    ++ (steps_text names (ran + steps_in before) left ++ step_head names (ran + steps_in before) left ++ plan_lines 1 (physical_tree pairing.left))
    ++ (steps_text names (ran + steps_in before + steps_in left + 1) right ++ step_head names (ran + steps_in before + steps_in left + 1) right ++ plan_lines 1 (physical_tree pairing.right))

-- ---- programs

-- the sources and the lines of the last plan, behind its title
abbrev pub last_text : List (List ℕ) → Program → List ℕ
last_text names p = codes "\n" ++ sources_text names 0 p.sources ++ plan_lines 1 (physical_tree p.plan)

-- a program over tables of these names
abbrev pub program_text : List (List ℕ) → Program → List ℕ
program_text names p = steps_text names 0 p.sources ++ codes "answer" ++ last_text names p

-- ---- statements

abbrev pub names_of : List Named → List (List ℕ)
names_of ts = map (λ t. t.0) ts

-- a text is that of a program of a tree over tables of these names and kinds
pub record ExplainsTree (names : List (List ℕ)) (kinds : List (List Kind)) (q : Tree) (text : List ℕ) : Type 0 where
  pub of : Program
  pub is : IsProgram plain_rules false kinds q of
  pub lines : text ≡ program_text names of

-- of a statement's tree over tables
abbrev pub IsExplanation : List Named → QueryTree → List ℕ → Type 0
IsExplanation ts s text = ExplainsTree (names_of ts) (value_kinds ts) (answer_tree ts s) text
