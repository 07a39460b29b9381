mod Fronts
mod Counting
mod Filling
