-- The types of attributes: those of RFC 2865, sections 5.1 to 5.43, and of RFC 2866, sections 5.1 to 5.12, with the format that their
-- diagrams draw.
use Rattle.std.specs.Prelude.{ℕ, List, [], ◌∷◌}
use Rattle.record.specs.Kinds.{octet_string, unsigned32, utf8_string, address}
use Rattle.record.specs.Rows.{Row, row, kind_in}

-- in the order of their numbers: text is UTF8String, a string OctetString, an integer Unsigned32. CHAP-Password and Vendor-Specific have
-- formats of their own, and are OctetString. Acct-Session-Id is drawn as text, and called a string
abbrev pub attribute_types : List Row
attribute_types =
    row 1 octet_string  -- User-Name
    ∷ row 2 octet_string  -- User-Password
    ∷ row 3 octet_string  -- CHAP-Password
    ∷ row 4 address  -- NAS-IP-Address
    ∷ row 5 unsigned32  -- NAS-Port
    ∷ row 6 unsigned32  -- Service-Type
    ∷ row 7 unsigned32  -- Framed-Protocol
    ∷ row 8 address  -- Framed-IP-Address
    ∷ row 9 address  -- Framed-IP-Netmask
    ∷ row 10 unsigned32  -- Framed-Routing
    ∷ row 11 utf8_string  -- Filter-Id
    ∷ row 12 unsigned32  -- Framed-MTU
    ∷ row 13 unsigned32  -- Framed-Compression
    ∷ row 14 address  -- Login-IP-Host
    ∷ row 15 unsigned32  -- Login-Service
    ∷ row 16 unsigned32  -- Login-TCP-Port
    ∷ row 18 utf8_string  -- Reply-Message
    ∷ row 19 octet_string  -- Callback-Number
    ∷ row 20 octet_string  -- Callback-Id
    ∷ row 22 utf8_string  -- Framed-Route
    ∷ row 23 unsigned32  -- Framed-IPX-Network
    ∷ row 24 octet_string  -- State
    ∷ row 25 octet_string  -- Class
    ∷ row 26 octet_string  -- Vendor-Specific
    ∷ row 27 unsigned32  -- Session-Timeout
    ∷ row 28 unsigned32  -- Idle-Timeout
    ∷ row 29 unsigned32  -- Termination-Action
    ∷ row 30 octet_string  -- Called-Station-Id
    ∷ row 31 octet_string  -- Calling-Station-Id
    ∷ row 32 octet_string  -- NAS-Identifier
    ∷ row 33 octet_string  -- Proxy-State
    ∷ row 34 octet_string  -- Login-LAT-Service
    ∷ row 35 octet_string  -- Login-LAT-Node
    ∷ row 36 octet_string  -- Login-LAT-Group
    ∷ row 37 unsigned32  -- Framed-AppleTalk-Link
    ∷ row 38 unsigned32  -- Framed-AppleTalk-Network
    ∷ row 39 octet_string  -- Framed-AppleTalk-Zone
    ∷ row 40 unsigned32  -- Acct-Status-Type
    ∷ row 41 unsigned32  -- Acct-Delay-Time
    ∷ row 42 unsigned32  -- Acct-Input-Octets
    ∷ row 43 unsigned32  -- Acct-Output-Octets
    ∷ row 44 utf8_string  -- Acct-Session-Id
    ∷ row 45 unsigned32  -- Acct-Authentic
    ∷ row 46 unsigned32  -- Acct-Session-Time
    ∷ row 47 unsigned32  -- Acct-Input-Packets
    ∷ row 48 unsigned32  -- Acct-Output-Packets
    ∷ row 49 unsigned32  -- Acct-Terminate-Cause
    ∷ row 50 octet_string  -- Acct-Multi-Session-Id
    ∷ row 51 unsigned32  -- Acct-Link-Count
    ∷ row 60 octet_string  -- CHAP-Challenge
    ∷ row 61 unsigned32  -- NAS-Port-Type
    ∷ row 62 unsigned32  -- Port-Limit
    ∷ row 63 octet_string  -- Login-LAT-Port
    ∷ []

-- the kind of a type; one that neither RFC has is Unhandled
unfoldable pub kind_of : ℕ → ℕ
kind_of n = kind_in attribute_types n
