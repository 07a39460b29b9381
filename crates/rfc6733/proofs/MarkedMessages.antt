-- P1 to P13 (docs/FORMAT.md, 10), in both readings and by both editions, by one computation of the definition.
use mathlib.Core.Path.{◌≡◌, refl}
use mathlib.Core.List.{List, [], ◌∷◌, map}
use Rattle.octets.specs.Octets.{be}
use Rattle.octets.specs.Run.{item, after, tree_in, tree}
use Rattle.rfc3629.specs.Utf8.{char_size, well_formed}
use Rattle.flags.specs.Flags.{bit, join}
use Rattle.rfc6733.specs.Header.{header_of, header_errors, header_refusals}
use Rattle.rfc6733.specs.Avp.{head_size, vendor, data_size, padding, avp_size, payload, pads, avp_refusals, complete}
use Rattle.rfc6733.specs.Value.{fixed, data_as}
use Rattle.record.specs.Value.{text}
use Rattle.record.specs.Parents.{parented}
use Rattle.rfc6733.specs.Dictionary.{Dictionary, family_address, bare_address, rfc, sawp}
use Rattle.rfc6733.specs.CreditControl.{rfc4006, rfc8506}
use Rattle.rfc6733.specs.Records.{avp_kind, value_of, own_errors, record_of, group_value}
use Rattle.rfc6733.specs.Decoder.{allowed, run_records, run_counts, message_body, message_records, message_refusals, message_of, decoded}
use Rattle.rfc6733.specs.Dump.{Dump, dump}
use Rattle.rfc6733.specs.Marked.{Case, marked, shown}

abbrev expected : List Dump
expected = map (λ (c : Case). c.shows) marked

abbrev dictionaries : List Dictionary
dictionaries = sawp ∷ rfc ∷ rfc4006 ∷ rfc8506 ∷ []

pub marked_messages : map (λ (D : Dictionary). map (shown D) marked) dictionaries ≡ map (λ (D : Dictionary). expected) dictionaries
unfolding parented be item after tree_in tree char_size well_formed bit join header_of header_errors header_refusals head_size vendor data_size padding avp_size payload pads avp_refusals complete fixed text data_as family_address bare_address rfc sawp rfc4006 rfc8506 avp_kind value_of own_errors record_of group_value allowed run_records run_counts message_body message_records message_refusals message_of decoded dump
marked_messages = refl
