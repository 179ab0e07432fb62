-- Which domain name a text of a zone file is (RFC 1035, 5.1).
use Rattle.std.specs.Prelude.{◌≡◌, ℕ, false, List, [], ◌∷◌, Option, Ok, codes}
use Rattle.dns_fields.specs.Labels.{DomainName, full_name}
use Rattle.dns_types.specs.declared.error.ParseError.{ParseError}
use Rattle.dns_zone_rows.specs.{RowFaults.row_value, RowFaults.RowFault, RowTexts.row_texts, RegistryTexts.no_more, declared.zone_row.ZoneRow.ZoneRow}
use Rattle.dns_zone_rows.specs.Rows.{Name, NoToken, RowShape}
use Rattle.dns_zone_tokens.specs.{FieldTexts.name_called, NameTokens.IsNameToken, Tokens.Token, Tokens.Cursor, Tokens.tokens_at, Tokens.seen_at, Tokens.zone_tokens}

-- The text is one token, which is the name: labels that the origin completes, `@` or a dot. The name is fully
-- qualified, also if there is no origin and the text has no dot at its end.
pub record IsZoneName (origin : Option DomainName) (text : List ℕ) (x : DomainName) : Type 0 where
  pub token : Token
  pub divided : zone_tokens text ≡ Ok (token ∷ [])
  pub value : DomainName
  pub is : IsNameToken origin value token
  pub same : x ≡ full_name value

-- the text is no name
pub record IsNoZoneName (origin : Option DomainName) (text : List ℕ) : Type 0 where
  pub none : (x : DomainName) → IsZoneName origin text x → ⊥

-- one name, and no token after it
abbrev pub name_row : RowShape
name_row = record { fields = Name ∷ []; rest = NoToken }

-- why the text is no name: as for RDATA that is one name, which errors call `name`
pub record ZoneNameFault (origin : Option DomainName) (text : List ℕ) (e : ParseError) : Type 0 where
  pub zone_row : ZoneRow
  pub shape : row_value zone_row ≡ name_row
  pub texts : row_texts zone_row ≡ name_called (codes "name") ∷ no_more ∷ []
  pub cursor : Cursor
  pub starts : tokens_at cursor ≡ zone_tokens text
  pub seen : seen_at cursor ≡ seen_at (record { depth = 0; joined = false; text = text })
  pub has : RowFault origin zone_row cursor e
