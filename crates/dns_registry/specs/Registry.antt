-- The formats of RDATA by the numbers of their types: the rows that the code declares.
use Rattle.std.specs.Prelude.{ℕ, ◌+◌, ◌-◌, ◌/◌, ◌%◌, ◌==◌, nat_lt, if◌then◌else◌, get_or, List, [], ◌∷◌, Option, Some, None}
use Rattle.dns_rows.specs.declared.row.TheConstants as base
use Rattle.dns_registry.specs.declared.format.TheConstants as rows
use Rattle.dns_registry.specs.Formats.{FormatRow, format_row}

-- IPSECKEY by its gateway type (RFC 4025, 2.3)
abbrev pub gateway_row : ℕ → FormatRow
gateway_row gateway =
    if gateway == 1 then format_row rows.GATEWAY_IPV4_PARTS rows.NO_RULES else
    if gateway == 2 then format_row rows.GATEWAY_IPV6_PARTS rows.NO_RULES else
    if gateway == 3 then format_row rows.GATEWAY_NAME_PARTS rows.DSYNC_RULES else
    format_row base.TLSA rows.NO_GATEWAY_RULES

-- A6 with a prefix, by how many octets its suffix has (RFC 2874, 3.1)
abbrev pub suffix_row : ℕ → FormatRow
suffix_row size =
    if size == 0 then format_row rows.A6_SUFFIX0_PARTS rows.PREFIXED_RULES else
    if size == 1 then format_row rows.A6_SUFFIX1_PARTS rows.PREFIXED_RULES else
    if size == 2 then format_row rows.A6_SUFFIX2_PARTS rows.PREFIXED_RULES else
    if size == 3 then format_row rows.A6_SUFFIX3_PARTS rows.PREFIXED_RULES else
    if size == 4 then format_row rows.A6_SUFFIX4_PARTS rows.PREFIXED_RULES else
    if size == 5 then format_row rows.A6_SUFFIX5_PARTS rows.PREFIXED_RULES else
    if size == 6 then format_row rows.A6_SUFFIX6_PARTS rows.PREFIXED_RULES else
    if size == 7 then format_row rows.A6_SUFFIX7_PARTS rows.PREFIXED_RULES else
    if size == 8 then format_row rows.A6_SUFFIX8_PARTS rows.PREFIXED_RULES else
    if size == 9 then format_row rows.A6_SUFFIX9_PARTS rows.PREFIXED_RULES else
    if size == 10 then format_row rows.A6_SUFFIX10_PARTS rows.PREFIXED_RULES else
    if size == 11 then format_row rows.A6_SUFFIX11_PARTS rows.PREFIXED_RULES else
    if size == 12 then format_row rows.A6_SUFFIX12_PARTS rows.PREFIXED_RULES else
    if size == 13 then format_row rows.A6_SUFFIX13_PARTS rows.PREFIXED_RULES else
    if size == 14 then format_row rows.A6_SUFFIX14_PARTS rows.PREFIXED_RULES else
    if size == 15 then format_row rows.A6_SUFFIX15_PARTS rows.PREFIXED_RULES else
    format_row rows.A6_SUFFIX16_PARTS rows.PREFIXED_RULES

-- A6 by the length of its prefix: the suffix has the other bits of 128, in whole octets (RFC 2874, 3.1)
abbrev pub prefix_row : ℕ → FormatRow
prefix_row prefix =
    if prefix == 0 then format_row rows.A6_WHOLE_PARTS rows.NO_RULES else
    if nat_lt 128 prefix then format_row rows.ATMA_PARTS rows.LONG_PREFIX_RULES else
    suffix_row ((128 - prefix + 7) / 8)

-- KEY by the two highest bits of its flags (RFC 2535, 3.1.2)
abbrev pub key_row : ℕ → FormatRow
key_row bits =
    if bits == 3 then format_row rows.NO_KEY_PARTS rows.NO_RULES else
    format_row rows.KEYS_PARTS rows.DNSKEY_RULES

-- AMTRELAY by its relay type (RFC 8777, 4.2.3)
abbrev pub relay_row : ℕ → FormatRow
relay_row relay =
    if relay == 0 then format_row rows.NO_RELAY_PARTS rows.NO_RULES else
    if relay == 1 then format_row rows.RELAY_IPV4_PARTS rows.NO_RULES else
    if relay == 2 then format_row rows.RELAY_IPV6_PARTS rows.NO_RULES else
    if relay == 3 then format_row rows.RELAY_NAME_PARTS rows.PREFIXED_RULES else
    format_row rows.NO_RELAY_PARTS rows.NO_GATEWAY_RULES

-- types with numbers below 16
abbrev pub first_rows : List (ℕ × FormatRow)
first_rows =
    (0, format_row base.ZERO rows.NO_RULES)
    ∷ (1, format_row base.A rows.NO_RULES)
    ∷ (2, format_row base.NAME rows.NO_RULES)
    ∷ (3, format_row base.NAME rows.NO_RULES)
    ∷ (4, format_row base.NAME rows.NO_RULES)
    ∷ (5, format_row base.NAME rows.NO_RULES)
    ∷ (6, format_row base.SOA rows.NO_RULES)
    ∷ (7, format_row base.NAME rows.NO_RULES)
    ∷ (8, format_row base.NAME rows.NO_RULES)
    ∷ (9, format_row base.NAME rows.NO_RULES)
    ∷ (10, format_row base.NULL rows.NO_RULES)
    ∷ (11, format_row rows.WKS_PARTS rows.NO_RULES)
    ∷ (12, format_row base.NAME rows.NO_RULES)
    ∷ (13, format_row base.HINFO rows.NO_RULES)
    ∷ (14, format_row rows.NAMES_PARTS rows.NO_RULES)
    ∷ (15, format_row base.MX rows.NO_RULES)
    ∷ []

-- types with numbers from 16 to 31
abbrev pub second_rows : List (ℕ × FormatRow)
second_rows =
    (16, format_row base.TXT rows.STRINGS_RULES)
    ∷ (17, format_row rows.NAMES_PARTS rows.NO_RULES)
    ∷ (18, format_row base.MX rows.NO_RULES)
    ∷ (19, format_row rows.STRING_PARTS rows.X25_RULES)
    ∷ (20, format_row base.TXT rows.ISDN_RULES)
    ∷ (21, format_row base.MX rows.NO_RULES)
    ∷ (22, format_row base.NULL rows.SOME_DATA_RULES)
    ∷ (23, format_row base.NAME rows.OWNER_RULES)
    ∷ (24, format_row rows.RRSIG_PARTS rows.SIG_RULES)
    ∷ (26, format_row rows.PX_PARTS rows.NO_RULES)
    ∷ (27, format_row rows.GPOS_PARTS rows.NO_RULES)
    ∷ (28, format_row base.AAAA rows.NO_RULES)
    ∷ (29, format_row rows.LOC_PARTS rows.LOC_RULES)
    ∷ (30, format_row rows.NXT_PARTS rows.NXT_RULES)
    ∷ (31, format_row base.NULL rows.SOME_DATA_RULES)
    ∷ []

-- types with numbers from 32 to 47
abbrev pub third_rows : List (ℕ × FormatRow)
third_rows =
    (32, format_row base.NULL rows.SOME_DATA_RULES)
    ∷ (33, format_row base.SRV rows.NO_RULES)
    ∷ (34, format_row rows.ATMA_PARTS rows.ATMA_RULES)
    ∷ (35, format_row base.NAPTR rows.NO_RULES)
    ∷ (36, format_row base.MX rows.KX_RULES)
    ∷ (37, format_row rows.CERTIFICATE_PARTS rows.NO_RULES)
    ∷ (39, format_row base.NAME rows.OWNER_RULES)
    ∷ (40, format_row base.TLSA rows.NO_RULES)
    ∷ (41, format_row base.NULL rows.OPT_RULES)
    ∷ (42, format_row base.NULL rows.APL_RULES)
    ∷ (43, format_row rows.KEYS_PARTS rows.DNSKEY_RULES)
    ∷ (44, format_row base.SSHFP rows.NO_RULES)
    ∷ (46, format_row rows.RRSIG_PARTS rows.RRSIG_RULES)
    ∷ (47, format_row rows.NSEC_PARTS rows.NSEC_RULES)
    ∷ []

-- types with numbers from 48 to 63
abbrev pub fourth_rows : List (ℕ × FormatRow)
fourth_rows =
    (48, format_row rows.KEYS_PARTS rows.DNSKEY_RULES)
    ∷ (49, format_row base.NULL rows.SOME_DATA_RULES)
    ∷ (50, format_row rows.NSEC3_PARTS rows.NSEC3_RULES)
    ∷ (51, format_row rows.NSEC3PARAM_PARTS rows.NO_RULES)
    ∷ (52, format_row base.TLSA rows.NO_RULES)
    ∷ (53, format_row base.TLSA rows.NO_RULES)
    ∷ (55, format_row base.NULL rows.HIP_RULES)
    ∷ (56, format_row base.TXT rows.STRINGS_RULES)
    ∷ (57, format_row rows.KEYS_PARTS rows.DNSKEY_RULES)
    ∷ (58, format_row rows.NAMES_PARTS rows.TALINK_RULES)
    ∷ (59, format_row rows.KEYS_PARTS rows.DNSKEY_RULES)
    ∷ (60, format_row rows.KEYS_PARTS rows.DNSKEY_RULES)
    ∷ (61, format_row base.OPENPGPKEY rows.NO_RULES)
    ∷ (62, format_row rows.CSYNC_PARTS rows.CSYNC_RULES)
    ∷ (63, format_row rows.ZONEMD_PARTS rows.ZONEMD_RULES)
    ∷ []

-- types with numbers from 64 to 255
abbrev pub fifth_rows : List (ℕ × FormatRow)
fifth_rows =
    (64, format_row base.SVCB rows.KX_RULES)
    ∷ (65, format_row base.SVCB rows.KX_RULES)
    ∷ (66, format_row rows.DSYNC_PARTS rows.DSYNC_RULES)
    ∷ (67, format_row base.NULL rows.SOME_DATA_RULES)
    ∷ (68, format_row base.NULL rows.SOME_DATA_RULES)
    ∷ (99, format_row base.TXT rows.STRINGS_RULES)
    ∷ (104, format_row rows.LOCATOR64_PARTS rows.NO_RULES)
    ∷ (105, format_row rows.LOCATOR32_PARTS rows.NO_RULES)
    ∷ (106, format_row rows.LOCATOR64_PARTS rows.NO_RULES)
    ∷ (107, format_row base.MX rows.KX_RULES)
    ∷ (108, format_row rows.OCTETS6_PARTS rows.NO_RULES)
    ∷ (109, format_row rows.OCTETS8_PARTS rows.NO_RULES)
    ∷ (128, format_row base.ZERO rows.NO_RULES)
    ∷ (249, format_row rows.TKEY_PARTS rows.TKEY_RULES)
    ∷ (250, format_row rows.TSIG_PARTS rows.TSIG_RULES)
    ∷ []

-- types with numbers from 256 on
abbrev pub last_rows : List (ℕ × FormatRow)
last_rows =
    (256, format_row rows.URI_PARTS rows.URI_RULES)
    ∷ (257, format_row rows.CAA_PARTS rows.CAA_RULES)
    ∷ (258, format_row base.TXT rows.STRINGS_RULES)
    ∷ (259, format_row rows.DOA_PARTS rows.NO_RULES)
    ∷ (261, format_row base.TXT rows.STRINGS_RULES)
    ∷ (262, format_row base.TXT rows.STRINGS_RULES)
    ∷ (263, format_row base.TXT rows.STRINGS_RULES)
    ∷ (264, format_row rows.OCTETS8_PARTS rows.NO_RULES)
    ∷ (32768, format_row rows.KEYS_PARTS rows.DNSKEY_RULES)
    ∷ (32769, format_row rows.KEYS_PARTS rows.DNSKEY_RULES)
    ∷ (65305, format_row base.NAME rows.OWNER_RULES)
    ∷ []

abbrev pub row_among : List (ℕ × FormatRow) → ℕ → Option FormatRow
row_among [] n = None
row_among (e ∷ entries) n = if n == e.0 then Some e.1 else row_among entries n

-- The format of the type with this number, for RDATA that begins with these octets. The first octet of A6 is the length of its prefix,
-- that of KEY has the bits that say whether it has a key; the second one of IPSECKEY is its gateway type, and that of AMTRELAY the discovery bit and its relay type.
abbrev pub registry : ℕ → List ℕ → Option FormatRow
registry n octets =
    if n == 38 then Some (prefix_row (get_or octets 0 255)) else
    if n == 25 then Some (key_row (get_or octets 0 255 / 64)) else
    if n == 45 then Some (gateway_row (get_or octets 1 255)) else
    if n == 260 then Some (relay_row (get_or octets 1 255 % 128)) else
    if nat_lt n 16 then row_among first_rows n else
    if nat_lt n 32 then row_among second_rows n else
    if nat_lt n 48 then row_among third_rows n else
    if nat_lt n 64 then row_among fourth_rows n else
    if nat_lt n 256 then row_among fifth_rows n else
    row_among last_rows n
