mod Answered
mod NamedExpressions
mod NamedUnits
mod Names
mod Numerals
mod ReadExpressions
mod ReadTypes
mod UnitsOfTheGrammar
