use Rattle.std.proofs.Common.{[], refl}
use Rattle.event_formatter_lines.proofs.KeptObjects.{added_is}
use Rattle.event_formatter_lines.proofs.laws.json_fields_keep_objects.Goals as goal

pub returns-clause-objects : goal.returns-clause-objects
returns-clause-objects c =
    (λ formatter settings. ([], tt, refl, refl), λ formatter fields values. added_is c.values_are_json.ensures.values fields values)
