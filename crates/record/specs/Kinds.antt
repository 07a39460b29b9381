-- Kinds: what the data of a record are (docs/FORMAT.md, 4.1, after RFC 6733, sections 4.2 and 4.3), each by its number.
use Rattle.std.specs.Prelude.{ℕ}

abbrev pub unhandled : ℕ
unhandled = 0

abbrev pub octet_string : ℕ
octet_string = 1

abbrev pub integer32 : ℕ
integer32 = 2

abbrev pub integer64 : ℕ
integer64 = 3

abbrev pub unsigned32 : ℕ
unsigned32 = 4

abbrev pub unsigned64 : ℕ
unsigned64 = 5

abbrev pub float32 : ℕ
float32 = 6

abbrev pub float64 : ℕ
float64 = 7

abbrev pub grouped : ℕ
grouped = 8

abbrev pub enumerated : ℕ
enumerated = 9

abbrev pub utf8_string : ℕ
utf8_string = 10

abbrev pub diameter_identity : ℕ
diameter_identity = 11

abbrev pub diameter_uri : ℕ
diameter_uri = 12

abbrev pub address : ℕ
address = 13

abbrev pub time : ℕ
time = 14
