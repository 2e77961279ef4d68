mod Reach
mod Applied
