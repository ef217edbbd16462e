-- Rules whose operation is not admitted.
use Rattle.std.proofs.Common.{◌≡◌, List, [], ◌∷◌, length, None, Option, refl, ap, ◌∙◌}
use Rattle.walk.specs.Values.{taken_in, UnadmittedRulesHaveNoValue}

no_value_so_far : {V : Type 0} (step : V → V → Option V) (arguments : List (Option V)) → taken_in step None arguments ≡ None
no_value_so_far step [] = refl
no_value_so_far step (argument ∷ rest) = no_value_so_far step rest

pub unadmitted_rules_have_no_value : (V : Type 0) → UnadmittedRulesHaveNoValue V
unadmitted_rules_have_no_value V m lawful r arguments h =
    ap (λ so_far. taken_in (m.steps r.operation) so_far arguments) (lawful r.operation r.constant (length arguments) h)
    ∙ no_value_so_far (m.steps r.operation) arguments
