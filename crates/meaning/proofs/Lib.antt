-- Laws and theorems about the definitions, from the bytes up. A line says what a file has; THEOREM marks what README names.
-- Bytes, numbers and text
-- a number is its four bytes; equal bytes are equal numbers
pub mod Numbers
-- bytes written over a list, in one step or in several
pub mod Splices
-- a number written as a part has its numbers
pub mod Stores
-- decimal text, its length, and its value again
pub mod Decimals
-- the rest and the beginning of a list, and a list that is filled, one element after the other
pub mod Lists
-- Structures, the walk and whole messages
-- Boolean tests and answers
pub mod Tests
-- one structure: its row, and the same structure elsewhere
pub mod Structures
-- the numbers of a message are those of the lent buffer
pub mod Parts
-- where the part of a message lies, in either form
pub mod Layouts
-- a walk that is accepted, as a derivation, with its rows
pub mod Walks
-- the walk's fuel never shows; a walk looks at nothing in front of its place
pub mod Fuel
-- a walk stays when a Value is rewritten or the part grows
pub mod Kept
-- counts of types, and how many rows there is room for
pub mod Tallies
-- top-level structures and direct members, one after the other
pub mod Tops
-- refused walks, and where they stop
pub mod Outcomes
-- the lines of a listing fit
pub mod Lines
-- THEOREM scan_ignores
pub mod Ignored
-- THEOREM rows_tile
pub mod Tiling
-- Traces: what Read accepts, and Compose
-- the eight attributes among the rows
pub mod Attributes
-- the direct members of the TraceRoute group
pub mod Members
-- what a sound trace is
pub mod Sound
-- a sound trace with one counter raised
pub mod Changed
-- a composed message: its rows and its attributes
pub mod Composed
-- THEOREMS compose_reads_back, composed-listing
pub mod ReadsBack
-- Events, and demand 3
-- what an accepted event leaves is a sound trace
pub mod Applied
-- plans, and what is known where one is carried out
pub mod Plans
-- how long a group is
pub mod Spans
-- THEOREM event_seen
pub mod Views
-- two traces alike but for the limit, under one event
pub mod Twins
-- THEOREM accepted_event
pub mod Accepted
-- THEOREM reported_soundly
pub mod Reports
-- THEOREM demand3
pub mod Demand3
-- Names
-- the data of a string lies in the message
pub mod Strings
-- THEOREMS trimmed_name, trimmed_bytes
pub mod Trimmed
-- Worked examples
-- THEOREMS p_cases, command-event
pub mod Cases
-- THEOREM corner_cases
pub mod Corners
-- THEOREM embedded_cases_lem
pub mod LayoutCases
-- THEOREM demand3_met
pub mod Demand3Met
