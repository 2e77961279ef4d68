-- What a program's body leaves in the buffers that it is lent. Which bytes standard input has and which bytes come to
-- standard output is the C library's, and no contract can say it: `input` behind the call is whatever was read, and the text is
-- the first bytes of `out`, which are what was handed to the writer.
use Rattle.std.specs.Prelude.{◌≡◌, ℕ, ◌≤◌, List, [], ◌∷◌, length, take}
use Rattle.std.specs.Borrow.{Bor, MutBor}
use Rattle.meaning.specs.Layout.{Layout}
use Rattle.meaning.specs.Trace.{Terms}
use Rattle.meaning.specs.Listing.{listing}
use Rattle.text.specs.Prints.{Prints}
use Rattle.hops.specs.Hops.{hops_text}
use Rattle.lister.specs.declared.Ran.{Ran}

-- IBM's identifiers of the eight attributes, with a layout, and of an application's name
abbrev pub ibm_terms : Layout → Terms
ibm_terms l = record { sheet = 1234 ∷ 1235 ∷ 1257 ∷ 1237 ∷ 1236 ∷ 1238 ∷ 1259 ∷ 1239 ∷ []; layout = l }

abbrev pub MQCACF_APPL_NAME : ℕ
MQCACF_APPL_NAME = 3024

-- the text of a message, from the buffer's first byte on
abbrev pub PrintsListing : Layout → List ℕ → List ℕ → List ℕ → ℕ → Type 0
PrintsListing l msg before after r = Prints (listing l msg (length msg)) before after r

abbrev pub PrintsHops : Layout → List ℕ → List ℕ → List ℕ → ℕ → Type 0
PrintsHops l msg before after r = Prints (hops_text (ibm_terms l) msg MQCACF_APPL_NAME) before after r

-- THE LISTING of what was read, handed to the writer
pub record RunsListing (l : Layout) (input before after : List ℕ) (r : Ran) : Type 0 where
  pub within : r.read ≤ length input
  pub text : PrintsListing l (take r.read input) before after r.handed

-- THE ACTIVITY GROUPS of what was read, handed to the writer
pub record RunsHops (l : Layout) (input before after : List ℕ) (r : Ran) : Type 0 where
  pub within : r.read ≤ length input
  pub text : PrintsHops l (take r.read input) before after r.handed

-- what a call that prints may give: the message and the buffer that it is lent, what it answers, and the buffer behind it
abbrev pub Printing : Type 1
Printing = Bor (List ℕ) → MutBor (List ℕ) → ℕ → MutBor (List ℕ) → Type 0

-- it never answers more than the buffer has
abbrev pub StaysWithin : Printing → Type 0
StaysWithin may = (msg : Bor (List ℕ)) (text : MutBor (List ℕ)) (r : ℕ) (after : MutBor (List ℕ)) → may msg text r after → r ≤ length after.now

-- WHAT IT PRINTS of what was read, handed to the writer
pub record Printed (may : Printing) (input before after : List ℕ) (r : Ran) : Type 0 where
  pub within : r.read ≤ length input
  pub msg : Bor (List ℕ)
  pub lent : MutBor (List ℕ)
  pub left : MutBor (List ℕ)
  pub shows : msg.now ≡ take r.read input
  pub starts : lent.now ≡ before
  pub leaves : left.now ≡ after
  pub met : may msg lent r.handed left
