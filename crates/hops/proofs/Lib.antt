-- what is written for a name
pub mod Names
-- the parts that are handed out
pub mod Parts
-- how long a line is
pub mod Lengths
-- one turn over the top level
pub mod Turns
-- the loop over it
pub mod Loops
-- the entry
pub mod Entries
