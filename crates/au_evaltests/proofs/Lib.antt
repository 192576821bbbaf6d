mod AnswerColumns
mod Columns
mod Held
mod Probed
mod Taken
