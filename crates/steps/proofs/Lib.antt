mod Over
mod Steps
