-- The definitions, checked against messages of RFCs.
use Rattle.std.proofs.Common.{◌≡◌, ℕ, ◌↔◌, true, false, IsTrue, List, [], take, drop, refl, arith, inr, ⊎_elim}
use Rattle.dns_fields.specs.{Labels.DomainName, Labels.AreLabels, Labels.FitsName, Names.LabelsStand, Names.LabelsStand.whole, Names.LabelsStand.pointed}
use Rattle.dns_fields.specs.{Fields.Field, declared.Kind.TheVariants.Name}
use Rattle.dns_fields.proofs.Examples.{next, number}
use Rattle.dns_message.specs.Records.{Record, HasFields}
use Rattle.dns_message.specs.Examples.{MessageExamples, www_query, www_response, long_response, nic_response, www_example_com, sri_nic_arpa}
use Rattle.dns_message.proofs.Fields.{long_found}

name : {m : List ℕ} {p q : ℕ} {x : DomainName} → LabelsStand m p x.labels q → FitsName x.labels → x.fully_qualified ≡ true → Field m p Name x q
name stands fits qualified = record { is = record { stands = stands; fits = fits; qualified = qualified } }

www : AreLabels www_example_com.labels
www = ((omega arith, omega arith), ((omega arith, omega arith), ((omega arith, omega arith), tt)))

nic : AreLabels sri_nic_arpa.labels
nic = ((omega arith, omega arith), ((omega arith, omega arith), tt))

-- a bit that is 1 is set, and one that is 0 is not
set : (n : ℕ) → n ≡ 1 → IsTrue true ↔ (n ≡ 1)
set n e = (λ _. e, λ _. refl)

unset : (n : ℕ) → n ≡ 0 → IsTrue false ↔ (n ≡ 1)
unset n e = (λ t. cc t, λ o. absurd (omega arith))

abbrev long_record : Record
long_record = record { offset = 33; owner = www_example_com; type = 28; class = 1; ttl = 3709; rdlength = 17; rdata = 45 }

long_fields : HasFields long_response 33 long_record
long_fields = record {
  starts = refl;
  fields = next 35 (name (pointed [] www_example_com.labels 12 29 (drop 35 long_response) tt refl (omega arith) (omega arith)
      (whole (drop 29 (take 33 long_response)) www refl refl) refl refl) (omega arith) refl)
      (next 37 (number (omega arith) refl (omega arith) refl)
      (next 39 (number (omega arith) refl (omega arith) refl)
      (next 43 (number (omega arith) refl (omega arith) refl)
      (next 45 (number (omega arith) refl (omega arith) refl)
      refl))));
}

pub message_examples : MessageExamples
message_examples = record {
  query_header_reads = record {
    flags = 256;
    numbers = next 2 (number (omega arith) refl (omega arith) refl)
        (next 4 (number (omega arith) refl (omega arith) refl)
        (next 6 (number (omega arith) refl (omega arith) refl)
        (next 8 (number (omega arith) refl (omega arith) refl)
        (next 10 (number (omega arith) refl (omega arith) refl)
        (next 12 (number (omega arith) refl (omega arith) refl)
        refl)))));
    bits = record {
      response = unset _ refl;
      opcode = refl;
      authoritative = unset _ refl;
      truncated = unset _ refl;
      recursion_desired = set _ refl;
      recursion_available = unset _ refl;
      authentic_data = unset _ refl;
      checking_disabled = unset _ refl;
      rcode = refl;
    };
  };
  query_asks = record {
    many = refl;
    follow = next 33 (record {
      starts = refl;
      fields = next 29 (name (whole (drop 29 www_query) www refl refl) (omega arith) refl)
          (next 31 (number (omega arith) refl (omega arith) refl)
          (next 33 (number (omega arith) refl (omega arith) refl)
          refl));
    }) refl;
  };
  response_header_reads = record {
    flags = 33152;
    numbers = next 2 (number (omega arith) refl (omega arith) refl)
        (next 4 (number (omega arith) refl (omega arith) refl)
        (next 6 (number (omega arith) refl (omega arith) refl)
        (next 8 (number (omega arith) refl (omega arith) refl)
        (next 10 (number (omega arith) refl (omega arith) refl)
        (next 12 (number (omega arith) refl (omega arith) refl)
        refl)))));
    bits = record {
      response = set _ refl;
      opcode = refl;
      authoritative = unset _ refl;
      truncated = unset _ refl;
      recursion_desired = set _ refl;
      recursion_available = set _ refl;
      authentic_data = unset _ refl;
      checking_disabled = unset _ refl;
      rcode = refl;
    };
  };
  response_asks = record {
    many = refl;
    follow = next 33 (record {
      starts = refl;
      fields = next 29 (name (whole (drop 29 www_response) www refl refl) (omega arith) refl)
          (next 31 (number (omega arith) refl (omega arith) refl)
          (next 33 (number (omega arith) refl (omega arith) refl)
          refl));
    }) refl;
  };
  response_records = record {
    many = refl;
    follow = next 61 (record {
      fields = record {
        starts = refl;
        fields = next 35 (name (pointed [] www_example_com.labels 12 29 (drop 35 www_response) tt refl (omega arith) (omega arith)
            (whole (drop 29 (take 33 www_response)) www refl refl) refl refl) (omega arith) refl)
            (next 37 (number (omega arith) refl (omega arith) refl)
            (next 39 (number (omega arith) refl (omega arith) refl)
            (next 43 (number (omega arith) refl (omega arith) refl)
            (next 45 (number (omega arith) refl (omega arith) refl)
            refl))));
      };
      ends = refl;
      within = omega arith;
    }) refl;
  };
  long_record_is_none = long_found long_record long_fields (omega arith);
  nic_header_reads = record {
    flags = 33792;
    numbers = next 2 (number (omega arith) refl (omega arith) refl)
        (next 4 (number (omega arith) refl (omega arith) refl)
        (next 6 (number (omega arith) refl (omega arith) refl)
        (next 8 (number (omega arith) refl (omega arith) refl)
        (next 10 (number (omega arith) refl (omega arith) refl)
        (next 12 (number (omega arith) refl (omega arith) refl)
        refl)))));
    bits = record {
      response = set _ refl;
      opcode = refl;
      authoritative = set _ refl;
      truncated = unset _ refl;
      recursion_desired = unset _ refl;
      recursion_available = unset _ refl;
      authentic_data = unset _ refl;
      checking_disabled = unset _ refl;
      rcode = refl;
    };
  };
  nic_records = record {
    many = refl;
    follow = next 46 (record {
      fields = record {
        starts = refl;
        fields = next 32 (name (pointed [] sri_nic_arpa.labels 12 26 (drop 32 nic_response) tt refl (omega arith) (omega arith)
            (whole (drop 26 (take 30 nic_response)) nic refl refl) refl refl) (omega arith) refl)
            (next 34 (number (omega arith) refl (omega arith) refl)
            (next 36 (number (omega arith) refl (omega arith) refl)
            (next 40 (number (omega arith) refl (omega arith) refl)
            (next 42 (number (omega arith) refl (omega arith) refl)
            refl))));
      };
      ends = refl;
      within = omega arith;
    })
        (next 62 (record {
          fields = record {
            starts = refl;
            fields = next 48 (name (pointed [] sri_nic_arpa.labels 12 26 (drop 48 nic_response) tt refl (omega arith) (omega arith)
                (whole (drop 26 (take 46 nic_response)) nic refl refl) refl refl) (omega arith) refl)
                (next 50 (number (omega arith) refl (omega arith) refl)
                (next 52 (number (omega arith) refl (omega arith) refl)
                (next 56 (number (omega arith) refl (omega arith) refl)
                (next 58 (number (omega arith) refl (omega arith) refl)
                refl))));
          };
          ends = refl;
          within = omega arith;
        }) refl);
  };
  places = ((refl, omega arith), (refl, omega arith), (refl, omega arith));
  without_data = (
    record { class = inr refl; empty = refl; other = λ e. omega arith },
    record { class = inr refl; empty = refl; other = λ e. omega arith },
    λ h. h.other refl,
    λ h. ⊎_elim (λ (e : 1 ≡ 254). omega arith) (λ (e : 1 ≡ 255). omega arith) h.class,
  );
  edns_reads = record { size = refl; rcode = refl; version = refl; dnssec_ok = set _ refl; reserved = refl };
}
