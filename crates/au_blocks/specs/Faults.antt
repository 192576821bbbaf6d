-- The fault of a table file whose records have a fault.
use Rattle.au_csv.specs.declared.faults.CsvFault.{CsvFault}
use Rattle.au_csv.specs.declared.faults.CsvFault.TheVariants as csv
use Rattle.au_blocks.specs.declared.faults.TableFault.{TableFault}
use Rattle.au_blocks.specs.declared.faults.TableFault.TheVariants as fault

abbrev pub of_csv : CsvFault → TableFault
of_csv (csv.NotText r) = fault.NotText r
of_csv csv.NoMemory = fault.NoMemory
