-- A decision as the code hands it out, in the meaning's terms.
use Rattle.meaning.specs.Decision.{Decision as Meant, forward, put_locally, withhold}
use Rattle.attributes.specs.declared.decisions.Decision.{Decision}
use Rattle.attributes.specs.declared.decisions.Decision.TheVariants.{Forward, PutLocally, Withhold}

abbrev pub decision_of : Decision → Meant
decision_of Forward = forward
decision_of PutLocally = put_locally
decision_of Withhold = withhold
