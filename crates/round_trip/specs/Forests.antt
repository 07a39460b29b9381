-- Measures of a forest: how many records, and how many bytes its AVPs take.
use Rattle.std.specs.Prelude.{ℕ, ◌+◌, cond}
use Rattle.record.specs.Forest.{Forest, none, node}
use Rattle.rfc6733.specs.Writer.{is_group, head_of, stated_data}

abbrev pub count : Forest → ℕ
count none = 0
count (node r members rest) = 1 + count members + count rest

-- the first record with its members, alone
abbrev pub first : Forest → Forest
first none = none
first (node r members rest) = node r members none

-- header, data and padding of each AVP: a group's data are its members
abbrev pub size : Forest → ℕ
size none = 0
size (node r members rest) = head_of r + cond (is_group r) (size members) (stated_data r) + r.padding + size rest
