mod Counting
mod Weighing
mod Judging
mod Firsts
