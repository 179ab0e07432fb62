-- The code's parameters, as the definitions have them.
use Rattle.dns_zone_rows.specs.Parameters as definitions
use Rattle.dns_zone_rows.specs.declared.parameters.parameter.Parameter.{Parameter}

abbrev pub parameter_value : Parameter → definitions.Parameter
parameter_value p = (p.number, p.value)
