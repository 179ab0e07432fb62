-- A value has one list of octets at most.
use Rattle.std.proofs.Common.{◌≡◌, ℕ, List, sym, ◌∙◌, ap, subst, Ok, Result}
use Rattle.std.specs.{Int.bytes_high_first, List.AllZip, List.flat_map, List.Sorted.IsPermutation, Net.Addr.ipv4_octets, Net.Addr.ipv6_octets}
use Rattle.std.proofs.NetLemmas.Theorems.{IsIpv4Text_unique, IsIpv6Text_unique}
use Rattle.base64.specs.declared.decode.DecodeError.{DecodeError}
use Rattle.dns_fields.specs.Tlvs.{string}
use Rattle.dns_rdata_service.specs.{SvcParamKey.key_number, declared.svcb.key.SvcParamKey.SvcParamKey, declared.svcb.key.SvcParamKey.TheVariants.Ipv6Hint}
use Rattle.dns_zone_rows.specs.{ParameterValues.HasOctets, declared.parameters.lists.ListItem.ListItem}
use Rattle.dns_zone_rows.specs.ParameterLists.{items_in, IsItem, IsList, IsListedKey, IsKeyList}
use Rattle.dns_rdata_service.specs.declared.svcb.key.SvcParamKey.TheVariants.{Mandatory, Alpn, NoDefaultAlpn, Port, Ipv4Hint, EchConfigList}
use Rattle.dns_zone_rows.specs.declared.parameters.lists.ListItem.TheVariants.{Protocol, Ipv4, Ipv6}
use Rattle.dns_zone_rows.proofs.{ParameterItems.same_both, KeyNames.key_once, Rises.climbs_rising, Rises.order_once}

item_once : (item : ListItem) (text a b : List ℕ) → IsItem item text a → IsItem item text b → a ≡ b
item_once Protocol text a b h k = let e : h.0 ≡ k.0 = h.1.value ∙ sym k.1.value in h.2 ∙ ap string e ∙ sym k.2
item_once Ipv4 text a b h k = h.2 ∙ ap ipv4_octets (IsIpv4Text_unique text h.0 k.0 h.1 k.1) ∙ sym k.2
item_once Ipv6 text a b h k = h.2 ∙ ap ipv6_octets (IsIpv6Text_unique text h.0 k.0 h.1 k.1) ∙ sym k.2

list_once : (item : ListItem) (text v w : List ℕ) → IsList item text v → IsList item text w → v ≡ w
list_once item text v w a b =
    a.joined ∙ ap (flat_map (λ (x : List ℕ). x)) (same_both (IsItem item) (item_once item) (items_in text) a.parts b.parts a.each b.each) ∙ sym b.joined

listed_once : (item : List ℕ) (n m : ℕ) → IsListedKey item n → IsListedKey item m → n ≡ m
listed_once item n m a b = a.number ∙ ap key_number (key_once a.key b.key item a.named b.named) ∙ sym b.number

-- the items of a list are of one list of keys
pub keys_once : (text : List ℕ) (ns ms : List ℕ) → AllZip IsListedKey (items_in text) ns → AllZip IsListedKey (items_in text) ms → ns ≡ ms
keys_once text ns ms a b = same_both IsListedKey listed_once (items_in text) ns ms a b

key_list_once : (text v w : List ℕ) → IsKeyList text v → IsKeyList text w → v ≡ w
key_list_once text v w a b =
    let same : a.keys ≡ b.keys = keys_once text a.keys b.keys a.each b.each in
    let order : a.order ≡ b.order =
    order_once b.keys a.order b.order (subst (λ (x : List ℕ). IsPermutation x a.order) same a.same) (climbs_rising a.order a.rising)
    b.same (climbs_rising b.order b.rising) in
    a.joined ∙ ap (flat_map (bytes_high_first 2)) order ∙ sym b.joined

pub octets_once : (key : SvcParamKey) (text v w : List ℕ) → HasOctets key text v → HasOctets key text w → v ≡ w
octets_once Mandatory text v w a b = key_list_once text v w a b
octets_once Alpn text v w a b = list_once Protocol text v w a b
octets_once NoDefaultAlpn text v w a b = a.1 ∙ sym b.1
octets_once Port text v w a b = a.value ∙ sym b.value
octets_once Ipv4Hint text v w a b = list_once Ipv4 text v w a b
octets_once EchConfigList text v w a b = let e : ◌≡◌ {A = Result (List ℕ) DecodeError} (Ok v) (Ok w) = sym a.0 ∙ b.0 in cc
octets_once Ipv6Hint text v w a b = list_once Ipv6 text v w a b
octets_once key text v w a b = a.0 ∙ sym b.0
