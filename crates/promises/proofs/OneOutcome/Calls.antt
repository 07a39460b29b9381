-- Calls of the functions that may change what is lent and of those that the demands name, with their parameters by name and in the source's order. Each is the contract of
-- the function as the check reads it from the source (`Post`), at its arguments, its answer, and what it may change as it leaves it.
use Prim.Native.Nat.{ℕ}
use mathlib.Core.Bool.{Bool}
use mathlib.Core.List.{List}
use lib.IntN.{ℤ}
use contract.Lifetimes.{Lfts}
use denote.Ref.{Bor, MutBor}
use Rattle.std.specs.Prelude.{⊤, Result}
use Rattle.promises.proofs.Outcomes.{Compared, Decoded, Filled, FilledAttributes, Found, Shifted, Written}
use Rattle.attribute.specs.declared.Reading.{Reading}
use Rattle.attribute.specs.declared.Dictionary.{Dictionary}
use Rattle.utf8.specs.declared.Utf8Error.{Utf8Error}
use Rattle.utf8.proofs.check.Reads as check
use Rattle.utf8.proofs.is_utf8.Reads as is_utf8
use Rattle.record.specs.Record.{Record}
use Rattle.word.proofs.put_u32.Reads as put_word
use Rattle.word.proofs.put_u64.Reads as put_long
use Rattle.word.proofs.put_u8_u24.Reads as put_byte_and_three
use Rattle.body.proofs.copy.Reads as copy
use Rattle.body.proofs.put_padding.Reads as put_padding
use Rattle.header.specs.declared.Header.{Header}
use Rattle.heads.proofs.put_header.Reads as put_header
use Rattle.heads.proofs.put_head.Reads as put_head
use Rattle.record.proofs.Record.put.Reads as put
use Rattle.record.proofs.Record.put_found.Reads as put_found
use Rattle.record.proofs.Record.put_place_and_parent.Reads as put_place_and_parent
use Rattle.record.proofs.clear.Reads as clear
use Rattle.avps.proofs.parse_avps.Reads as parse_avps
use Rattle.diameter.proofs.parse.Reads as parse
use Rattle.avp_alone.proofs.parse_avp.Reads as parse_avp
use Rattle.diameter.proofs.parse_by.Reads as parse_by
use Rattle.avp_alone.proofs.parse_avp_by.Reads as parse_avp_by
use Rattle.signed.proofs.unix_seconds.Reads as unix_seconds
use Rattle.unit_value.specs.declared.UnitValue.{UnitValue}
use Rattle.unit_value.proofs.compare.Reads as compare
use Rattle.lines.proofs.dump.Reads as dump
use Rattle.reader.proofs.find.Reads as find
use Rattle.writer.specs.declared.Fields.{Fields}
use Rattle.writer.proofs.write.Reads as write
use Rattle.rules.proofs.shifting.shift.Reads as shift
use Rattle.radius_attributes.proofs.parse_attributes.Reads as parse_attributes
use Rattle.radius.specs.declared.Parsed.{Parsed}
use Rattle.radius.proofs.parse.Reads as parse_packet
use Rattle.radius_writer.specs.declared.Fields as packet_fields
use Rattle.radius_writer.proofs.write.Reads as write_packet
use Rattle.tandrekily.proofs.packets.tandrekily_radius.Reads as tandrekily_radius
use Rattle.tandrekily.proofs.packets.tandrekily_radius_write.Reads as tandrekily_radius_write
use Rattle.tandrekily.proofs.tandrekily_message.Reads as tandrekily_message
use Rattle.tandrekily.proofs.tandrekily_header.Reads as tandrekily_header
use Rattle.tandrekily.proofs.tandrekily_avp.Reads as tandrekily_avp
use Rattle.tandrekily.proofs.tandrekily_message_by.Reads as tandrekily_message_by
use Rattle.tandrekily.proofs.tandrekily_avp_by.Reads as tandrekily_avp_by
use Rattle.tandrekily.proofs.tandrekily_compare.Reads as tandrekily_compare
use Rattle.tandrekily.proofs.tandrekily_find.Reads as tandrekily_find
use Rattle.tandrekily.proofs.tandrekily_next.Reads as tandrekily_next
use Rattle.tandrekily.proofs.tandrekily_write.Reads as tandrekily_write
use Rattle.tandrekily.proofs.tandrekily_shift.Reads as tandrekily_shift
use Rattle.tandrekily.proofs.tandrekily_is_utf8.Reads as tandrekily_is_utf8
use Rattle.tandrekily.proofs.tandrekily_utf8.Reads as tandrekily_utf8
use Rattle.tandrekily.proofs.tandrekily_unix_seconds.Reads as tandrekily_unix_seconds

-- a reference to a slice of numbers; `now` is what it holds
abbrev pub Slice : Type 0
Slice = Bor (List ℕ)

-- a reference by which a slice may be changed
abbrev pub MutSlice : Type 0
MutSlice = MutBor (List ℕ)

abbrev pub Check : Lfts 1 → Slice → Result ⊤ Utf8Error → Type 0
Check κs s r = check.Post κs (s, tt) r (s, tt)

abbrev pub IsUtf8 : Lfts 1 → Slice → Bool → Type 0
IsUtf8 κs s r = is_utf8.Post κs (s, tt) r (s, tt)

abbrev pub PutWord : Lfts 1 → MutSlice → ℕ → MutSlice → Type 0
PutWord κs out v out' = put_word.Post κs (out, (v, tt)) tt (out', (v, tt))

abbrev pub PutLong : Lfts 1 → MutSlice → ℕ → MutSlice → Type 0
PutLong κs out v out' = put_long.Post κs (out, (v, tt)) tt (out', (v, tt))

abbrev pub PutByteAndThree : Lfts 1 → MutSlice → ℕ → ℕ → MutSlice → Type 0
PutByteAndThree κs out high low out' = put_byte_and_three.Post κs (out, (high, (low, tt))) tt (out', (high, (low, tt)))

abbrev pub Copy : Lfts 2 → Slice → MutSlice → MutSlice → Type 0
Copy κs src dst dst' = copy.Post κs (src, (dst, tt)) tt (src, (dst', tt))

abbrev pub PutPadding : Lfts 1 → ℕ → MutSlice → MutSlice → Type 0
PutPadding κs pads out out' = put_padding.Post κs (pads, (out, tt)) tt (pads, (out', tt))

abbrev pub PutHeader : Lfts 1 → Header → MutSlice → MutSlice → Type 0
PutHeader κs h out out' = put_header.Post κs (h, (out, tt)) tt (h, (out', tt))

abbrev pub PutHead : Lfts 1 → Record → ℕ → MutSlice → MutSlice → Type 0
PutHead κs r n out out' = put_head.Post κs (r, (n, (out, tt))) tt (r, (n, (out', tt)))

abbrev pub RecordPut : Lfts 1 → Record → MutSlice → Bool → MutSlice → Type 0
RecordPut κs self store r store' = put.Post κs (self, (store, tt)) r (self, (store', tt))

abbrev pub PutFound : Lfts 1 → MutSlice → ℕ → ℕ → ℕ → MutSlice → Type 0
PutFound κs store kind errors value store' =
    put_found.Post κs (store, (kind, (errors, (value, tt)))) tt (store', (kind, (errors, (value, tt))))

abbrev pub PutPlaceAndParent : Lfts 1 → MutSlice → ℕ → ℕ → MutSlice → Type 0
PutPlaceAndParent κs table place parent table' =
    put_place_and_parent.Post κs (table, (place, (parent, tt))) tt (table', (place, (parent, tt)))

abbrev pub Clear : Lfts 1 → MutSlice → MutSlice → Type 0
Clear κs store store' = clear.Post κs (store, tt) tt (store', tt)

abbrev pub ParseAvps : Lfts 3 → Dictionary → ℕ → Slice → ℕ → MutSlice → Filled → MutSlice → Type 0
ParseAvps κs d limit s place store r store' =
    parse_avps.Post κs (d, (limit, (s, (place, (store, tt))))) r (d, (limit, (s, (place, (store', tt)))))

abbrev pub Parse : Lfts 2 → Reading → ℕ → Slice → MutSlice → Decoded → MutSlice → Type 0
Parse κs reading limit input store r store' = parse.Post κs (reading, (limit, (input, (store, tt)))) r (reading, (limit, (input, (store', tt))))

abbrev pub ParseAvp : Lfts 2 → Reading → ℕ → Slice → MutSlice → Filled → MutSlice → Type 0
ParseAvp κs reading limit input store r store' = parse_avp.Post κs (reading, (limit, (input, (store, tt)))) r (reading, (limit, (input, (store', tt))))

abbrev pub ParseBy : Lfts 2 → ℕ → ℕ → Slice → MutSlice → Decoded → MutSlice → Type 0
ParseBy κs edition limit input store r store' =
    parse_by.Post κs (edition, (limit, (input, (store, tt)))) r (edition, (limit, (input, (store', tt))))

abbrev pub ParseAvpBy : Lfts 2 → ℕ → ℕ → Slice → MutSlice → Filled → MutSlice → Type 0
ParseAvpBy κs edition limit input store r store' =
    parse_avp_by.Post κs (edition, (limit, (input, (store, tt)))) r (edition, (limit, (input, (store', tt))))

abbrev pub UnixSeconds : ℕ → ℤ → Type 0
UnixSeconds time r = unix_seconds.Post tt (time, tt) r (time, tt)

abbrev pub Compare : UnitValue → UnitValue → Compared → Type 0
Compare a b r = compare.Post tt (a, (b, tt)) r (a, (b, tt))

abbrev pub Find : Lfts 1 → Slice → ℕ → Found → Type 0
Find κs input code r = find.Post κs (input, (code, tt)) r (input, (code, tt))

abbrev pub Dump : Lfts 2 → Slice → MutSlice → ℕ → MutSlice → Type 0
Dump κs input out r out' = dump.Post κs (input, (out, tt)) r (input, (out', tt))

abbrev pub Write : Lfts 3 → Fields → Slice → Slice → MutSlice → Written → MutSlice → Type 0
Write κs fields table pool out r out' = write.Post κs (fields, (table, (pool, (out, tt)))) r (fields, (table, (pool, (out', tt))))

abbrev pub Shift : Lfts 1 → MutSlice → ℕ → ℕ → Shifted → MutSlice → Type 0
Shift κs table bytes records r table' = shift.Post κs (table, (bytes, (records, tt))) r (table', (bytes, (records, tt)))

abbrev pub TandrekilyMessage : Lfts 3 → Bool → ℕ → Slice → MutSlice → MutSlice → MutSlice → MutSlice → Type 0
TandrekilyMessage κs rfc limit input store result store' result' =
    tandrekily_message.Post κs (rfc, (limit, (input, (store, (result, tt))))) tt (rfc, (limit, (input, (store', (result', tt)))))

abbrev pub TandrekilyHeader : Lfts 2 → Slice → MutSlice → MutSlice → Type 0
TandrekilyHeader κs input result result' = tandrekily_header.Post κs (input, (result, tt)) tt (input, (result', tt))

abbrev pub TandrekilyAvp : Lfts 3 → Bool → ℕ → Slice → MutSlice → MutSlice → MutSlice → MutSlice → Type 0
TandrekilyAvp κs rfc limit input store result store' result' =
    tandrekily_avp.Post κs (rfc, (limit, (input, (store, (result, tt))))) tt (rfc, (limit, (input, (store', (result', tt)))))

abbrev pub TandrekilyMessageBy : Lfts 3 → ℕ → ℕ → Slice → MutSlice → MutSlice → MutSlice → MutSlice → Type 0
TandrekilyMessageBy κs edition limit input store result store' result' =
    tandrekily_message_by.Post κs (edition, (limit, (input, (store, (result, tt))))) tt (edition, (limit, (input, (store', (result', tt)))))

abbrev pub TandrekilyAvpBy : Lfts 3 → ℕ → ℕ → Slice → MutSlice → MutSlice → MutSlice → MutSlice → Type 0
TandrekilyAvpBy κs edition limit input store result store' result' =
    tandrekily_avp_by.Post κs (edition, (limit, (input, (store, (result, tt))))) tt (edition, (limit, (input, (store', (result', tt)))))

abbrev pub TandrekilyCompare : Lfts 1 → ℤ → ℤ → ℤ → ℤ → MutBor ℤ → ℕ → MutBor ℤ → Type 0
TandrekilyCompare κs digits exponent other_digits other_exponent order r order' =
    tandrekily_compare.Post κs (digits, (exponent, (other_digits, (other_exponent, (order, tt))))) r
    (digits, (exponent, (other_digits, (other_exponent, (order', tt)))))

abbrev pub TandrekilyFind : Lfts 2 → Slice → ℕ → MutSlice → MutSlice → Type 0
TandrekilyFind κs input code result result' = tandrekily_find.Post κs (input, (code, (result, tt))) tt (input, (code, (result', tt)))

abbrev pub TandrekilyNext : Lfts 2 → Slice → ℕ → MutSlice → ℕ → MutSlice → Type 0
TandrekilyNext κs message place result r result' =
    tandrekily_next.Post κs (message, (place, (result, tt))) r (message, (place, (result', tt)))

abbrev pub TandrekilyWrite : Lfts 4 → ℕ → ℕ → ℕ → ℕ → ℕ → Slice → Slice → MutSlice → MutSlice → MutSlice → MutSlice → Type 0
TandrekilyWrite κs flags code app_id hop_id end_id table pool out result out' result' =
    tandrekily_write.Post κs (flags, (code, (app_id, (hop_id, (end_id, (table, (pool, (out, (result, tt))))))))) tt
    (flags, (code, (app_id, (hop_id, (end_id, (table, (pool, (out', (result', tt)))))))))

abbrev pub TandrekilyShift : Lfts 2 → MutSlice → ℕ → ℕ → MutSlice → MutSlice → MutSlice → Type 0
TandrekilyShift κs table bytes records result table' result' =
    tandrekily_shift.Post κs (table, (bytes, (records, (result, tt)))) tt (table', (bytes, (records, (result', tt))))

abbrev pub TandrekilyIsUtf8 : Lfts 1 → Slice → Bool → Type 0
TandrekilyIsUtf8 κs text r = tandrekily_is_utf8.Post κs (text, tt) r (text, tt)

abbrev pub TandrekilyUtf8 : Lfts 1 → Slice → ℕ → Type 0
TandrekilyUtf8 κs text r = tandrekily_utf8.Post κs (text, tt) r (text, tt)

abbrev pub TandrekilyUnixSeconds : ℕ → ℤ → Type 0
TandrekilyUnixSeconds time r = tandrekily_unix_seconds.Post tt (time, tt) r (time, tt)

-- ---- RADIUS

abbrev pub ParseAttributes : Lfts 2 → Slice → ℕ → MutSlice → FilledAttributes → MutSlice → Type 0
ParseAttributes κs s place store r store' = parse_attributes.Post κs (s, (place, (store, tt))) r (s, (place, (store', tt)))

abbrev pub ParsePacket : Lfts 2 → Slice → MutSlice → Parsed → MutSlice → Type 0
ParsePacket κs input store r store' = parse_packet.Post κs (input, (store, tt)) r (input, (store', tt))

abbrev pub WritePacket : Lfts 3 → packet_fields.Fields → Slice → Slice → MutSlice → Written → MutSlice → Type 0
WritePacket κs fields table pool out r out' =
    write_packet.Post κs (fields, (table, (pool, (out, tt)))) r (fields, (table, (pool, (out', tt))))

abbrev pub TandrekilyRadius : Lfts 4 → Slice → MutSlice → MutSlice → MutSlice → MutSlice → MutSlice → MutSlice → Type 0
TandrekilyRadius κs input store authenticator result store' authenticator' result' =
    tandrekily_radius.Post κs (input, (store, (authenticator, (result, tt)))) tt (input, (store', (authenticator', (result', tt))))

abbrev pub TandrekilyRadiusWrite : Lfts 5 → ℕ → ℕ → Slice → Slice → Slice → MutSlice → MutSlice → MutSlice → MutSlice → Type 0
TandrekilyRadiusWrite κs code identifier authenticator table pool out result out' result' =
    tandrekily_radius_write.Post κs (code, (identifier, (authenticator, (table, (pool, (out, (result, tt))))))) tt
    (code, (identifier, (authenticator, (table, (pool, (out', (result', tt)))))))
