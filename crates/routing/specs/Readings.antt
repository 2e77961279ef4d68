-- What Read gives, in the meaning's terms.
use Rattle.meaning.specs.Trace.{Reading as Meant}
use Rattle.layout.specs.Layouts.{embedding_in}
use Rattle.routing.specs.declared.Values.{Values}

abbrev pub values_of : Values → Meant
values_of r = record { values = r.values; embedding = embedding_in r.embedding; user_place = r.user }
