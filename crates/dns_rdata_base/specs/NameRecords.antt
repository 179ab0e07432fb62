-- Straight records: numbers, and a name as the last field.
use Rattle.std.specs.Prelude.{List, [], ◌∷◌}
use Rattle.dns_fields.specs.{declared.Kind.Kind, declared.Kind.TheVariants.Number, declared.Kind.TheVariants.Name}
use Rattle.dns_fields.specs.{Fields.Values, Labels.DomainName}
use Rattle.dns_rows.specs.Table.{kinds_of}
use Rattle.dns_rows.specs.declared.row.TheConstants as rows
use Rattle.dns_names_wire.specs.Facts.{Facts, plain}
use Rattle.dns_rdata_base.specs.{declared.name.CNAME.CNAME, declared.name.NS.NS, declared.name.PTR.PTR, declared.name.ANAME.ANAME}
use Rattle.dns_rdata_base.specs.{declared.mx.MX.MX, declared.srv.SRV.SRV}

abbrev pub name_shape : List Kind
name_shape = kinds_of rows.NAME

abbrev pub name_fields : DomainName → Values (kinds_of rows.NAME)
name_fields n = (n, tt)

abbrev pub cname_fields : CNAME → Values name_shape
cname_fields x = name_fields x.0

abbrev pub cname_facts : Facts CNAME
cname_facts = plain rows.NAME cname_fields

abbrev pub ns_fields : NS → Values name_shape
ns_fields x = name_fields x.0

abbrev pub ns_facts : Facts NS
ns_facts = plain rows.NAME ns_fields

abbrev pub ptr_fields : PTR → Values name_shape
ptr_fields x = name_fields x.0

abbrev pub ptr_facts : Facts PTR
ptr_facts = plain rows.NAME ptr_fields

abbrev pub aname_fields : ANAME → Values name_shape
aname_fields x = name_fields x.0

abbrev pub aname_facts : Facts ANAME
aname_facts = plain rows.NAME aname_fields

-- preference, exchange
abbrev pub mx_fields : MX → Values (kinds_of rows.MX)
mx_fields x = (x.preference, (x.exchange, tt))

abbrev pub mx_facts : Facts MX
mx_facts = plain rows.MX mx_fields

-- priority, weight, port, target
abbrev pub srv_fields : SRV → Values (kinds_of rows.SRV)
srv_fields x = (x.priority, (x.weight, (x.port, (x.target, tt))))

abbrev pub srv_facts : Facts SRV
srv_facts = plain rows.SRV srv_fields

-- priority, weight, port
abbrev pub srv_numbers_shape : List Kind
srv_numbers_shape = Number 2 ∷ Number 2 ∷ Number 2 ∷ []

abbrev pub srv_numbers : SRV → Values srv_numbers_shape
srv_numbers x = (x.priority, (x.weight, (x.port, tt)))
