mod Covering
mod Example
mod ParameterExample
mod TableExample
