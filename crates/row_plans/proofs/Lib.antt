mod Chosen
mod Rows
mod Fitting
