-- The fields of a question and of a record, and where there are none.
use Rattle.std.proofs.Common.{◌≡◌, ℕ, ◌+◌, ◌≤◌, ◌<◌, List, length, refl, arith}
use Rattle.dns_fields.specs.{Fields.Field, Labels.DomainName, Names.IsNameIn}
use Rattle.dns_fields.specs.declared.Kind.{TheVariants.Number, TheVariants.Name}
use Rattle.dns_fields.proofs.FieldLaws.{field_end, field_same}
use Rattle.dns_names_wire.specs.NameEnds.{NameEnds}
use Rattle.dns_message.specs.{Entries.EndsAfterName, Questions.NoQuestion}
use Rattle.dns_message.specs.Records.{Record, HasFields, NoRecord, LengthPasses}
use Rattle.dns_message.specs.Readings.{IsAsked, IsFound}
use Rattle.dns_message.proofs.NumberFields.{number_end, moved}

-- ---- names

pub name_field : {m : List ℕ} {p e : ℕ} (n : NameEnds m p e) → Field m p Name n.name e
name_field n = record { is = n.is }

pub ends_after : {m : List ℕ} {p e : ℕ} (n : ℕ) → NameEnds m p e → length m < e + n → EndsAfterName m p n
ends_after {m} {p} {e} n w short = record { name = w.name; end = e; is = w.is; short = short }

-- ---- a question

-- a name and two numbers
pub asked_found : {m : List ℕ} {p e t c : ℕ} → NameEnds m p e → Field m e (Number 2) t (e + 2) → Field m (e + 2) (Number 2) c (e + 2 + 2)
    → IsAsked m p (record { query_type = t; class = c; end = e + 4 })
asked_found {m} {p} {e} {t} {c} n f g =
    let last : e + 2 + 2 ≡ e + 4 = omega arith in
    let h : Field m (e + 2) (Number 2) c (e + 4) = moved g (e + 2) (e + 4) refl last in
    record { name = n.name; is = record { starts = refl; fields = (e, name_field n, (e + 2, f, (e + 4, h, refl))) } }

pub short_asked : {m : List ℕ} {p e : ℕ} → NameEnds m p e → length m < e + 4 → NoQuestion m p
short_asked {m} {p} {e} n short = record {
  none = λ q end is.
      let f = is.fields in
      let same : f.0 ≡ e = field_end tt f.1 (name_field n) in
      let a = number_end f.2.1 in
      let b = number_end f.2.2.1 in
      omega (arith, same, a.0, b.0, b.1, short);
}

-- ---- a record

-- the fields after the owner
pub fields_found : {m : List ℕ} {p e t c l n : ℕ} (w : NameEnds m p e) → Field m e (Number 2) t (e + 2) → Field m (e + 2) (Number 2) c (e + 2 + 2)
    → Field m (e + 4) (Number 4) l (e + 4 + 4) → Field m (e + 8) (Number 2) n (e + 8 + 2)
    → HasFields m p (record { offset = p; owner = w.name; type = t; class = c; ttl = l; rdlength = n; rdata = e + 10 })
fields_found {m} {p} {e} {t} {c} {l} {n} w f g h k =
    let four : e + 2 + 2 ≡ e + 4 = omega arith in
    let eight : e + 4 + 4 ≡ e + 8 = omega arith in
    let ten : e + 8 + 2 ≡ e + 10 = omega arith in
    let class : Field m (e + 2) (Number 2) c (e + 4) = moved g (e + 2) (e + 4) refl four in
    let ttl : Field m (e + 4) (Number 4) l (e + 8) = moved h (e + 4) (e + 8) refl eight in
    let rdlength : Field m (e + 8) (Number 2) n (e + 10) = moved k (e + 8) (e + 10) refl ten in
    record { starts = refl; fields = (e, name_field w, (e + 2, f, (e + 4, class, (e + 8, ttl, (e + 10, rdlength, refl))))) }

pub record_found : {m : List ℕ} {p e t c l n : ℕ} → NameEnds m p e → Field m e (Number 2) t (e + 2) → Field m (e + 2) (Number 2) c (e + 2 + 2)
    → Field m (e + 4) (Number 4) l (e + 4 + 4) → Field m (e + 8) (Number 2) n (e + 8 + 2) → e + 10 + n ≤ length m
    → IsFound m p (record { record_type = t; class = c; ttl = l; rdlength = n; rdata = e + 10; end = e + 10 + n })
record_found w f g h k within = record { owner = w.name; is = record { fields = fields_found w f g h k; ends = refl; within = within } }

-- the RDATA begins ten octets after the owner
pub rdata_at : {m : List ℕ} {p : ℕ} (r : Record) (is : HasFields m p r) → (r.rdata ≡ is.fields.0 + 10) × (r.rdata ≤ length m)
rdata_at r is =
    let f = is.fields in
    let a = number_end f.2.1 in
    let b = number_end f.2.2.1 in
    let c = number_end f.2.2.2.1 in
    let d = number_end f.2.2.2.2.1 in
    let last = f.2.2.2.2.2 in
    (omega (arith, a.0, b.0, c.0, d.0, last), omega (arith, d.1, last))

pub short_found : {m : List ℕ} {p e : ℕ} → NameEnds m p e → length m < e + 10 → NoRecord m p
short_found {m} {p} {e} n short = record {
  none = λ r end is.
      let same : is.fields.fields.0 ≡ e = field_end tt is.fields.fields.1 (name_field n) in
      let at = rdata_at r is.fields in
      omega (arith, same, at.0, at.1, short);
}

-- two records at one offset have the same RDLENGTH, and their RDATA begins at one offset
pub rdata_same : {m : List ℕ} {p : ℕ} (r s : Record) → HasFields m p r → HasFields m p s → (r.rdata ≡ s.rdata) × (r.rdlength ≡ s.rdlength)
rdata_same {m} {p} r s a b =
    let f = a.fields in
    let g = b.fields in
    let owner : f.0 ≡ g.0 = field_end tt f.1 g.1 in
    let x = rdata_at r a in
    let y = rdata_at s b in
    let rdata : r.rdata ≡ s.rdata = omega (arith, owner, x.0, y.0) in
    let i = number_end f.2.2.2.2.1 in
    let j = number_end g.2.2.2.2.1 in
    let ends : f.2.2.2.2.0 ≡ g.2.2.2.2.0 = omega (arith, rdata, f.2.2.2.2.2, g.2.2.2.2.2) in
    let starts : f.2.2.2.0 ≡ g.2.2.2.0 = omega (arith, i.0, j.0, ends) in
    let n : Field m g.2.2.2.0 (Number 2) r.rdlength g.2.2.2.2.0 = moved f.2.2.2.2.1 g.2.2.2.0 g.2.2.2.2.0 starts ends in
    (rdata, field_same n g.2.2.2.2.1)

pub long_found : {m : List ℕ} {p : ℕ} (s : Record) → HasFields m p s → length m < s.rdata + s.rdlength → NoRecord m p
long_found s has long = record {
  none = λ r end is.
      let same = rdata_same r s is.fields has in
      omega (arith, same.0, same.1, is.ends, is.within, long);
}

-- RDLENGTH passes the end of the message
pub length_passes : {m : List ℕ} {p e t c l n : ℕ} (left : ℕ) → NameEnds m p e → Field m e (Number 2) t (e + 2) → Field m (e + 2) (Number 2) c (e + 2 + 2)
    → Field m (e + 4) (Number 4) l (e + 4 + 4) → Field m (e + 8) (Number 2) n (e + 8 + 2) → e + 10 + left ≡ length m → left < n
    → LengthPasses m p n left × NoRecord m p
length_passes {m} {p} {e} {t} {c} {l} {n} left w f g h k at few =
    let entry : Record = record { offset = p; owner = w.name; type = t; class = c; ttl = l; rdlength = n; rdata = e + 10 } in
    let has : HasFields m p entry = fields_found w f g h k in (
      record { entry = entry; fields = has; length_is = refl; left_is = at; passes = few },
      long_found entry has (omega (arith, at, few)),
    )
