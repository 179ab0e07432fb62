-- The definitions at work, on messages of RFCs.
use Rattle.std.specs.Prelude.{ℕ, true, false, List, [], ◌∷◌}
use Rattle.dns_fields.specs.Labels.{DomainName}
use Rattle.dns_fields.specs.Examples.{full, www_label, example_label, com_label}
use Rattle.dns_message.specs.declared.{header.Header.Header}
use Rattle.dns_message.specs.declared.error.Section.TheVariants as sections
use Rattle.dns_message.specs.{Headers.IsHeader, Headers.IsPlace, Questions.QuestionsFrom, OptRecords.IsEdns}
use Rattle.dns_message.specs.Records.{RecordsFrom, NoRecord, HasNoData}

abbrev pub www_example_com : DomainName
www_example_com = full (www_label ∷ example_label ∷ com_label ∷ [])

-- SRI-NIC.ARPA.
abbrev pub sri_nic_arpa : DomainName
sri_nic_arpa = full ((0x53 ∷ 0x52 ∷ 0x49 ∷ 0x2d ∷ 0x4e ∷ 0x49 ∷ 0x43 ∷ []) ∷ (0x41 ∷ 0x52 ∷ 0x50 ∷ 0x41 ∷ []) ∷ [])

-- the query of RFC 8484, 4.1.1: www.example.com. IN A
abbrev pub www_query : List ℕ
www_query =
    0x00 ∷ 0x00 ∷ 0x01 ∷ 0x00 ∷ 0x00 ∷ 0x01 ∷ 0x00 ∷ 0x00 ∷ 0x00 ∷ 0x00 ∷ 0x00 ∷ 0x00 ∷ 0x03 ∷ 0x77 ∷ 0x77 ∷ 0x77 ∷
    0x07 ∷ 0x65 ∷ 0x78 ∷ 0x61 ∷ 0x6d ∷ 0x70 ∷ 0x6c ∷ 0x65 ∷ 0x03 ∷ 0x63 ∷ 0x6f ∷ 0x6d ∷ 0x00 ∷ 0x00 ∷ 0x01 ∷ 0x00 ∷
    0x01 ∷ []

-- the response of RFC 8484, 4.2.2: www.example.com. 3709 IN AAAA 2001:db8:abcd:12:1:2:3:4
abbrev pub www_response : List ℕ
www_response =
    0x00 ∷ 0x00 ∷ 0x81 ∷ 0x80 ∷ 0x00 ∷ 0x01 ∷ 0x00 ∷ 0x01 ∷ 0x00 ∷ 0x00 ∷ 0x00 ∷ 0x00 ∷ 0x03 ∷ 0x77 ∷ 0x77 ∷ 0x77 ∷
    0x07 ∷ 0x65 ∷ 0x78 ∷ 0x61 ∷ 0x6d ∷ 0x70 ∷ 0x6c ∷ 0x65 ∷ 0x03 ∷ 0x63 ∷ 0x6f ∷ 0x6d ∷ 0x00 ∷ 0x00 ∷ 0x1c ∷ 0x00 ∷
    0x01 ∷ 0xc0 ∷ 0x0c ∷ 0x00 ∷ 0x1c ∷ 0x00 ∷ 0x01 ∷ 0x00 ∷ 0x00 ∷ 0x0e ∷ 0x7d ∷ 0x00 ∷ 0x10 ∷ 0x20 ∷ 0x01 ∷ 0x0d ∷
    0xb8 ∷ 0xab ∷ 0xcd ∷ 0x00 ∷ 0x12 ∷ 0x00 ∷ 0x01 ∷ 0x00 ∷ 0x02 ∷ 0x00 ∷ 0x03 ∷ 0x00 ∷ 0x04 ∷ []

-- the same with RDLENGTH 17
abbrev pub long_response : List ℕ
long_response =
    0x00 ∷ 0x00 ∷ 0x81 ∷ 0x80 ∷ 0x00 ∷ 0x01 ∷ 0x00 ∷ 0x01 ∷ 0x00 ∷ 0x00 ∷ 0x00 ∷ 0x00 ∷ 0x03 ∷ 0x77 ∷ 0x77 ∷ 0x77 ∷
    0x07 ∷ 0x65 ∷ 0x78 ∷ 0x61 ∷ 0x6d ∷ 0x70 ∷ 0x6c ∷ 0x65 ∷ 0x03 ∷ 0x63 ∷ 0x6f ∷ 0x6d ∷ 0x00 ∷ 0x00 ∷ 0x1c ∷ 0x00 ∷
    0x01 ∷ 0xc0 ∷ 0x0c ∷ 0x00 ∷ 0x1c ∷ 0x00 ∷ 0x01 ∷ 0x00 ∷ 0x00 ∷ 0x0e ∷ 0x7d ∷ 0x00 ∷ 0x11 ∷ 0x20 ∷ 0x01 ∷ 0x0d ∷
    0xb8 ∷ 0xab ∷ 0xcd ∷ 0x00 ∷ 0x12 ∷ 0x00 ∷ 0x01 ∷ 0x00 ∷ 0x02 ∷ 0x00 ∷ 0x03 ∷ 0x00 ∷ 0x04 ∷ []

-- the response of RFC 1034, 6.2.1, of ID 1: two addresses of SRI-NIC.ARPA., whose owners are compression pointers
abbrev pub nic_response : List ℕ
nic_response =
    0x00 ∷ 0x01 ∷ 0x84 ∷ 0x00 ∷ 0x00 ∷ 0x01 ∷ 0x00 ∷ 0x02 ∷ 0x00 ∷ 0x00 ∷ 0x00 ∷ 0x00 ∷ 0x07 ∷ 0x53 ∷ 0x52 ∷ 0x49 ∷
    0x2d ∷ 0x4e ∷ 0x49 ∷ 0x43 ∷ 0x04 ∷ 0x41 ∷ 0x52 ∷ 0x50 ∷ 0x41 ∷ 0x00 ∷ 0x00 ∷ 0x01 ∷ 0x00 ∷ 0x01 ∷ 0xc0 ∷ 0x0c ∷
    0x00 ∷ 0x01 ∷ 0x00 ∷ 0x01 ∷ 0x00 ∷ 0x01 ∷ 0x51 ∷ 0x80 ∷ 0x00 ∷ 0x04 ∷ 0x1a ∷ 0x00 ∷ 0x00 ∷ 0x49 ∷ 0xc0 ∷ 0x0c ∷
    0x00 ∷ 0x01 ∷ 0x00 ∷ 0x01 ∷ 0x00 ∷ 0x01 ∷ 0x51 ∷ 0x80 ∷ 0x00 ∷ 0x04 ∷ 0x0a ∷ 0x00 ∷ 0x00 ∷ 0x33 ∷ []

-- ID 0, RD, one question
abbrev pub query_header : Header
query_header = record {
  id = 0;
  response = false;
  opcode = 0;
  authoritative = false;
  truncated = false;
  recursion_desired = true;
  recursion_available = false;
  authentic_data = false;
  checking_disabled = false;
  rcode = 0;
  question_count = 1;
  answer_count = 0;
  authority_count = 0;
  additional_count = 0;
}

-- ID 0, QR, RD and RA, one question and one answer
abbrev pub response_header : Header
response_header = record {
  id = 0;
  response = true;
  opcode = 0;
  authoritative = false;
  truncated = false;
  recursion_desired = true;
  recursion_available = true;
  authentic_data = false;
  checking_disabled = false;
  rcode = 0;
  question_count = 1;
  answer_count = 1;
  authority_count = 0;
  additional_count = 0;
}

-- ID 1, QR and AA, one question and two answers
abbrev pub nic_header : Header
nic_header = record {
  id = 1;
  response = true;
  opcode = 0;
  authoritative = true;
  truncated = false;
  recursion_desired = false;
  recursion_available = false;
  authentic_data = false;
  checking_disabled = false;
  rcode = 0;
  question_count = 1;
  answer_count = 2;
  authority_count = 0;
  additional_count = 0;
}

-- one answer, two authorities and three additional records
abbrev pub counts : Header
counts = record {
  id = 0;
  response = false;
  opcode = 0;
  authoritative = false;
  truncated = false;
  recursion_desired = false;
  recursion_available = false;
  authentic_data = false;
  checking_disabled = false;
  rcode = 0;
  question_count = 0;
  answer_count = 1;
  authority_count = 2;
  additional_count = 3;
}

pub record MessageExamples : Type 0 where
  pub query_header_reads : IsHeader www_query query_header
  pub query_asks : QuestionsFrom www_query 12 1
      (record { offset = 12; name = www_example_com; type = 1; class = 1 } ∷ []) 33
  pub response_header_reads : IsHeader www_response response_header
  pub response_asks : QuestionsFrom www_response 12 1
      (record { offset = 12; name = www_example_com; type = 28; class = 1 } ∷ []) 33
  pub response_records : RecordsFrom www_response 33 1 (record {
    offset = 33;
    owner = www_example_com;
    type = 28;
    class = 1;
    ttl = 3709;
    rdlength = 16;
    rdata = 45;
  } ∷ []) 61
  -- RDLENGTH passes the end of the message
  pub long_record_is_none : NoRecord long_response 33
  pub nic_header_reads : IsHeader nic_response nic_header
  pub nic_records : RecordsFrom nic_response 30 2 (record {
    offset = 30;
    owner = sri_nic_arpa;
    type = 1;
    class = 1;
    ttl = 86400;
    rdlength = 4;
    rdata = 42;
  } ∷ record {
    offset = 46;
    owner = sri_nic_arpa;
    type = 1;
    class = 1;
    ttl = 86400;
    rdlength = 4;
    rdata = 58;
  } ∷ []) 62
  -- of six records, the first, the third and the last
  pub places : IsPlace counts 0 sections.Answer 0 × IsPlace counts 2 sections.Authority 1
      × IsPlace counts 5 sections.Additional 2
  -- a name is in use, an address is deleted; OPT with 255 octets of UDP, and an address without octets
  pub without_data : HasNoData 255 255 0 × HasNoData 1 255 0 × (HasNoData 41 255 0 → ⊥) × (HasNoData 1 1 0 → ⊥)
  -- 1232 octets of UDP, extended RCODE 1, version 0, DO
  pub edns_reads : IsEdns 1232 0x01008000 (record {
    udp_payload_size = 1232;
    extended_rcode = 1;
    version = 0;
    dnssec_ok = true;
    reserved = 0;
  })
