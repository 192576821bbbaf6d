mod AskedAnswers
mod CodedAnswers
pub mod EncodedPlans
mod GuessPlans
mod GuessRows
mod GuessSizes
mod GuessTables
mod CountedFound
mod CountedGuesses
mod CountedRuns
mod FoundSources
mod HeldRows
mod OrderedRows
mod PairPlans
pub mod PairTables
mod PlainRuns
mod PlanRuns
mod PositiveTrees
mod ReadPlaces
mod ReadCauses
mod RunRows
mod Shown
mod ShownPrograms
mod SourceSizes
mod StableSorts
mod AnswerRows
mod TableRelations
mod RecordTexts
mod FieldValues
mod NumberedColumns
mod PlainRecords
mod PlainTables
pub mod WritableRows
pub mod ReadValues
pub mod GuessCounts
pub mod EncodedGuesses
