mod Writes
mod Entries
mod Found
