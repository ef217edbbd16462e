-- What has no start takes in nothing.
use Rattle.walk.proofs.ValueFacts.{unadmitted_rules_have_no_value}
use Rattle.walk.proofs.values.unadmitted_rules_have_no_value.Goals as goal

pub returns : goal.returns
returns g c = unadmitted_rules_have_no_value _
