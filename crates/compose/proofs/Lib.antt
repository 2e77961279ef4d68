mod Composing
mod Outcomes
