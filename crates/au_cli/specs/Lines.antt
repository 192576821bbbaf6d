-- The exit status and the fault line of an outcome: one line, which begins with `audb: ` and ends with a line feed.
-- Files, table words, columns, blocks and records are numbered from 0, and a place in the query is a byte from 0.
use Rattle.std.specs.Prelude.{ℕ, List, [], ◌∷◌, ◌++◌, codes, decimal}
use Rattle.au_blocks.specs.declared.faults.TableFault.{TableFault}
use Rattle.au_blocks.specs.declared.faults.TableFault.TheVariants as table
use Rattle.au_cli.specs.declared.outcome.Outcome.{Outcome}
use Rattle.au_cli.specs.declared.outcome.Outcome.TheVariants as outcome
use Rattle.au_engine.specs.declared.faults.QueryFault.{QueryFault}
use Rattle.au_engine.specs.declared.faults.QueryFault.TheVariants as query
use Rattle.au_engine.specs.declared.faults.LimitFault.{LimitFault}
use Rattle.au_engine.specs.declared.faults.LimitFault.TheVariants as limit
use Rattle.au_sqltext.specs.declared.fault.PlanFault.{PlanFault}
use Rattle.au_sqltext.specs.declared.fault.PlanFault.TheVariants as plan
use Rattle.au_words.specs.declared.fault.UsageFault.{UsageFault}
use Rattle.au_words.specs.declared.fault.UsageFault.TheVariants as usage

abbrev pub status_of : Outcome → ℕ
status_of outcome.Done = 0
status_of (outcome.Query f) = 1
status_of (outcome.Usage f) = 2
status_of (outcome.Table i f) = 3
status_of outcome.Overflow = 4
status_of (outcome.ReadFault i) = 5
status_of outcome.WriteFault = 6
status_of outcome.NoMemory = 7
status_of (outcome.Limit f) = 8
status_of (outcome.NoFile i) = 9
status_of (outcome.Plan f) = 11

abbrev pub query_fault_text : QueryFault → List ℕ
query_fault_text (query.BadChar n) = codes "unexpected character at byte " ++ decimal n
query_fault_text (query.OpenText n) = codes "quote without an end at byte " ++ decimal n
query_fault_text (query.BadNumber n) = codes "bad number at byte " ++ decimal n
query_fault_text (query.Syntax n) = codes "syntax error at byte " ++ decimal n
query_fault_text (query.NotPositive n) = codes "not a positive query at byte " ++ decimal n
query_fault_text (query.UnknownTable n) = codes "unknown table at byte " ++ decimal n
query_fault_text (query.UnknownColumn n) = codes "unknown column at byte " ++ decimal n
query_fault_text (query.Ambiguous n) = codes "ambiguous column at byte " ++ decimal n
query_fault_text (query.SameAlias n) = codes "repeated table name at byte " ++ decimal n
query_fault_text (query.KindMismatch n) = codes "kinds do not fit at byte " ++ decimal n
query_fault_text (query.NotGrouped n) = codes "column is not grouped at byte " ++ decimal n
query_fault_text (query.MisplacedAggregate n) = codes "misplaced aggregate at byte " ++ decimal n
query_fault_text (query.MinMaxNeedsGroup n) = codes "MIN and MAX need GROUP BY at byte " ++ decimal n
query_fault_text (query.CountOverJoin n) = codes "count over a join at byte " ++ decimal n
query_fault_text (query.WidthMismatch n) = codes "different numbers of columns at byte " ++ decimal n

-- two things that have one name
abbrev pub one_name : ℕ → ℕ → List ℕ
one_name a b = decimal a ++ codes " and " ++ decimal b ++ codes " have one name"

abbrev pub usage_fault_text : UsageFault → List ℕ
usage_fault_text usage.Words = codes "usage: audb answer SQL NAME=PATH.."
usage_fault_text (usage.BadTable n) = codes "usage: table word " ++ decimal n ++ codes " is not NAME=PATH"
usage_fault_text (usage.SameTable n m) = codes "usage: table words " ++ one_name n m

abbrev pub limit_fault_text : LimitFault → List ℕ
limit_fault_text (limit.Files n) = decimal n ++ codes " table words"
limit_fault_text (limit.QueryLength n) = codes "query of " ++ decimal n ++ codes " bytes"
limit_fault_text limit.Tokens = codes "too many tokens"
limit_fault_text (limit.Depth n) = codes "nesting at byte " ++ decimal n
limit_fault_text (limit.FromItems n) = codes "FROM items at byte " ++ decimal n
limit_fault_text (limit.SelectItems n) = codes "SELECT items at byte " ++ decimal n
limit_fault_text (limit.FileSize n) = codes "size of file " ++ decimal n
limit_fault_text (limit.AllFiles n) = codes "size of all files at file " ++ decimal n
limit_fault_text (limit.EncodeColumns n) = decimal n ++ codes " columns to encode"
limit_fault_text (limit.PlainRows n) = codes "rows of file " ++ decimal n

abbrev pub table_fault_text : TableFault → List ℕ
table_fault_text table.NoHeader = codes "no header"
table_fault_text (table.NotText r) = codes "record " ++ decimal r ++ codes " is not UTF-8"
table_fault_text table.TooManyColumns = codes "too many columns"
table_fault_text (table.BadColumnName c) = codes "bad name of column " ++ decimal c
table_fault_text (table.SameName a b) = codes "columns " ++ one_name a b
table_fault_text (table.UnknownKind c) = codes "unknown kind of column " ++ decimal c
table_fault_text (table.WrongWidth r) = codes "wrong number of fields in record " ++ decimal r
table_fault_text (table.BadRole r) = codes "bad role in record " ++ decimal r
table_fault_text (table.BadField r c) = codes "bad field in record " ++ decimal r ++ codes ", column " ++ decimal c
table_fault_text (table.TwoGuesses b) = codes "two guesses in block " ++ decimal b
table_fault_text (table.NoGuess b) = codes "no guess in block " ++ decimal b
table_fault_text (table.OnlyAbsent b) = codes "no alternative in block " ++ decimal b
table_fault_text (table.TwoAbsent b) = codes "two absent records in block " ++ decimal b
table_fault_text (table.AbsentWithValues r) = codes "values in absent record " ++ decimal r
table_fault_text (table.BadTimes r) = codes "bad number of copies in record " ++ decimal r
table_fault_text table.NoMemory = codes "out of memory"

abbrev pub plan_fault_text : PlanFault → List ℕ
plan_fault_text plan.Text = codes "not the text of a plan"
plan_fault_text plan.Deep = codes "too deep"
plan_fault_text plan.Untyped = codes "tables and kinds do not fit"
plan_fault_text plan.NoMemory = codes "out of memory"

-- what the line says of an outcome
abbrev pub outcome_text : Outcome → List ℕ
outcome_text outcome.Done = []
outcome_text (outcome.Query f) = codes "query: " ++ query_fault_text f
outcome_text (outcome.Usage f) = usage_fault_text f
outcome_text (outcome.Table i f) = codes "file " ++ decimal i ++ codes ": " ++ table_fault_text f
outcome_text outcome.Overflow = codes "a number leaves 128 bits"
outcome_text (outcome.ReadFault i) = codes "file " ++ decimal i ++ codes " cannot be read"
outcome_text outcome.WriteFault = codes "the answer cannot be written"
outcome_text outcome.NoMemory = codes "out of memory"
outcome_text (outcome.Limit f) = codes "limit: " ++ limit_fault_text f
outcome_text (outcome.NoFile i) = codes "file " ++ decimal i ++ codes " is not there"
outcome_text (outcome.Plan f) = codes "plan: " ++ plan_fault_text f

-- the line that is put for an outcome
abbrev pub fault_text : Outcome → List ℕ
fault_text o = codes "audb: " ++ outcome_text o ++ 10 ∷ []
