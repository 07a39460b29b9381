mod Lengths
mod Parts
mod Runs
mod Writing
