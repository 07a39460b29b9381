-- The signed numbers behind a record's value: Integer32 and Integer64 (RFC 6733, section 4.2), Enumerated, which section 4.3.1 derives
-- from Integer32, and a Time in Unix seconds.
use Rattle.std.specs.Prelude.{ℕ, ◌-◌, ◌^◌, cond, ltb, ℤ, pos, ◌+ℤ◌, ◌-ℤ◌}

-- a pattern of w bits as a signed number, two's complement
unfoldable pub signed : ℕ → ℕ → ℤ
signed w v = cond (ltb v (2 ^ (w - 1))) (pos v) (pos v -ℤ pos (2 ^ w))

-- A Time holds the seconds of an NTP timestamp and goes on to 2104 as SNTP describes (RFC 6733, section 4.3.1): with its top bit clear it is
-- reckoned from 2036-02-07 06:28:16 UTC, with it set from 1900-01-01 00:00:00 UTC (RFC 4330, section 3). Unix reckons from 1970, 25,567
-- days after 1900. 0 is a time like any other.
unfoldable pub unix_seconds : ℕ → ℤ
unix_seconds v = cond (ltb v (2 ^ 31)) (pos v +ℤ pos 2085978496) (pos v -ℤ pos 2208988800)
