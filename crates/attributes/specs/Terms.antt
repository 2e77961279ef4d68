-- What the caller states about a trace as the code has it, in the meaning's terms.
use Rattle.meaning.specs.Trace.{Terms as Meant}
use Rattle.layout.specs.Layouts.{layout_of}
use Rattle.attributes.specs.declared.terms.Terms.{Terms}

abbrev pub terms_of : Terms → Meant
terms_of t = record { sheet = t.sheet; layout = layout_of t.layout }
