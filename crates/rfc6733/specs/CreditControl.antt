-- The dictionaries of credit-control, two editions of one application: RFC 4006 and RFC 8506. Each has the AVPs of its own table, in
-- section 8, before those of RFC 6733; all else is as in the RFC reading.
use Rattle.std.specs.Prelude.{ℕ, Bool, cond, ◌||◌, List, [], ◌∷◌, ◌++◌, eqb}
use Rattle.record.specs.Kinds.{octet_string, integer32, integer64, unsigned32, unsigned64, grouped, enumerated, utf8_string, address, time}
use Rattle.rfc6733.specs.Dictionary.{Dictionary, base_avps, by_rows, rfc}
use Rattle.record.specs.Rows.{Row, row}

-- RFC 4006, section 8, in the order of its table. IPFilterRule has no kind here: an OctetString, from which RFC 6733, section 4.3.1, derives it
abbrev pub avps4006 : List Row
avps4006 =
    row 411 octet_string  -- CC-Correlation-Id
    ∷ row 412 unsigned64  -- CC-Input-Octets
    ∷ row 413 grouped  -- CC-Money
    ∷ row 414 unsigned64  -- CC-Output-Octets
    ∷ row 415 unsigned32  -- CC-Request-Number
    ∷ row 416 enumerated  -- CC-Request-Type
    ∷ row 417 unsigned64  -- CC-Service-Specific-Units
    ∷ row 418 enumerated  -- CC-Session-Failover
    ∷ row 419 unsigned64  -- CC-Sub-Session-Id
    ∷ row 420 unsigned32  -- CC-Time
    ∷ row 421 unsigned64  -- CC-Total-Octets
    ∷ row 454 enumerated  -- CC-Unit-Type
    ∷ row 422 enumerated  -- Check-Balance-Result
    ∷ row 423 grouped  -- Cost-Information
    ∷ row 424 utf8_string  -- Cost-Unit
    ∷ row 426 enumerated  -- Credit-Control
    ∷ row 427 enumerated  -- Credit-Control-Failure-Handling
    ∷ row 425 unsigned32  -- Currency-Code
    ∷ row 428 enumerated  -- Direct-Debiting-Failure-Handling
    ∷ row 429 integer32  -- Exponent
    ∷ row 449 enumerated  -- Final-Unit-Action
    ∷ row 430 grouped  -- Final-Unit-Indication
    ∷ row 431 grouped  -- Granted-Service-Unit
    ∷ row 453 unsigned32  -- G-S-U-Pool-Identifier
    ∷ row 457 grouped  -- G-S-U-Pool-Reference
    ∷ row 456 grouped  -- Multiple-Services-Credit-Control
    ∷ row 455 enumerated  -- Multiple-Services-Indicator
    ∷ row 432 unsigned32  -- Rating-Group
    ∷ row 433 enumerated  -- Redirect-Address-Type
    ∷ row 434 grouped  -- Redirect-Server
    ∷ row 435 utf8_string  -- Redirect-Server-Address
    ∷ row 436 enumerated  -- Requested-Action
    ∷ row 437 grouped  -- Requested-Service-Unit
    ∷ row 438 octet_string  -- Restriction-Filter-Rule
    ∷ row 461 utf8_string  -- Service-Context-Id
    ∷ row 439 unsigned32  -- Service-Identifier
    ∷ row 440 grouped  -- Service-Parameter-Info
    ∷ row 441 unsigned32  -- Service-Parameter-Type
    ∷ row 442 octet_string  -- Service-Parameter-Value
    ∷ row 443 grouped  -- Subscription-Id
    ∷ row 444 utf8_string  -- Subscription-Id-Data
    ∷ row 450 enumerated  -- Subscription-Id-Type
    ∷ row 452 enumerated  -- Tariff-Change-Usage
    ∷ row 451 time  -- Tariff-Time-Change
    ∷ row 445 grouped  -- Unit-Value
    ∷ row 446 grouped  -- Used-Service-Unit
    ∷ row 458 grouped  -- User-Equipment-Info
    ∷ row 459 enumerated  -- User-Equipment-Info-Type
    ∷ row 460 octet_string  -- User-Equipment-Info-Value
    ∷ row 447 integer64  -- Value-Digits
    ∷ row 448 unsigned32  -- Validity-Time
    ∷ []

-- RFC 8506, section 8, in the order of its table
abbrev pub avps8506 : List Row
avps8506 =
    row 411 octet_string  -- CC-Correlation-Id
    ∷ row 412 unsigned64  -- CC-Input-Octets
    ∷ row 413 grouped  -- CC-Money
    ∷ row 414 unsigned64  -- CC-Output-Octets
    ∷ row 415 unsigned32  -- CC-Request-Number
    ∷ row 416 enumerated  -- CC-Request-Type
    ∷ row 417 unsigned64  -- CC-Service-Specific-Units
    ∷ row 418 enumerated  -- CC-Session-Failover
    ∷ row 419 unsigned64  -- CC-Sub-Session-Id
    ∷ row 420 unsigned32  -- CC-Time
    ∷ row 421 unsigned64  -- CC-Total-Octets
    ∷ row 454 enumerated  -- CC-Unit-Type
    ∷ row 422 enumerated  -- Check-Balance-Result
    ∷ row 423 grouped  -- Cost-Information
    ∷ row 424 utf8_string  -- Cost-Unit
    ∷ row 426 enumerated  -- Credit-Control
    ∷ row 427 enumerated  -- Credit-Control-Failure-Handling
    ∷ row 425 unsigned32  -- Currency-Code
    ∷ row 428 enumerated  -- Direct-Debiting-Failure-Handling
    ∷ row 429 integer32  -- Exponent
    ∷ row 449 enumerated  -- Final-Unit-Action
    ∷ row 430 grouped  -- Final-Unit-Indication
    ∷ row 669 grouped  -- QoS-Final-Unit-Indication
    ∷ row 431 grouped  -- Granted-Service-Unit
    ∷ row 453 unsigned32  -- G-S-U-Pool-Identifier
    ∷ row 457 grouped  -- G-S-U-Pool-Reference
    ∷ row 456 grouped  -- Multiple-Services-Credit-Control
    ∷ row 455 enumerated  -- Multiple-Services-Indicator
    ∷ row 432 unsigned32  -- Rating-Group
    ∷ row 433 enumerated  -- Redirect-Address-Type
    ∷ row 434 grouped  -- Redirect-Server
    ∷ row 435 utf8_string  -- Redirect-Server-Address
    ∷ row 665 grouped  -- Redirect-Server-Extension
    ∷ row 666 address  -- Redirect-Address-IPAddress
    ∷ row 667 utf8_string  -- Redirect-Address-URL
    ∷ row 668 utf8_string  -- Redirect-Address-SIP-URI
    ∷ row 436 enumerated  -- Requested-Action
    ∷ row 437 grouped  -- Requested-Service-Unit
    ∷ row 438 octet_string  -- Restriction-Filter-Rule
    ∷ row 461 utf8_string  -- Service-Context-Id
    ∷ row 439 unsigned32  -- Service-Identifier
    ∷ row 440 grouped  -- Service-Parameter-Info
    ∷ row 441 unsigned32  -- Service-Parameter-Type
    ∷ row 442 octet_string  -- Service-Parameter-Value
    ∷ row 443 grouped  -- Subscription-Id
    ∷ row 444 utf8_string  -- Subscription-Id-Data
    ∷ row 450 enumerated  -- Subscription-Id-Type
    ∷ row 659 grouped  -- Subscription-Id-Extension
    ∷ row 660 utf8_string  -- Subscription-Id-E164
    ∷ row 661 utf8_string  -- Subscription-Id-IMSI
    ∷ row 662 utf8_string  -- Subscription-Id-SIP-URI
    ∷ row 663 utf8_string  -- Subscription-Id-NAI
    ∷ row 664 utf8_string  -- Subscription-Id-Private
    ∷ row 452 enumerated  -- Tariff-Change-Usage
    ∷ row 451 time  -- Tariff-Time-Change
    ∷ row 445 grouped  -- Unit-Value
    ∷ row 446 grouped  -- Used-Service-Unit
    ∷ row 458 grouped  -- User-Equipment-Info
    ∷ row 459 enumerated  -- User-Equipment-Info-Type
    ∷ row 460 octet_string  -- User-Equipment-Info-Value
    ∷ row 653 grouped  -- User-Equipment-Info-Extension
    ∷ row 654 octet_string  -- User-Equipment-Info-IMEISV
    ∷ row 655 octet_string  -- User-Equipment-Info-MAC
    ∷ row 656 octet_string  -- User-Equipment-Info-EUI64
    ∷ row 657 octet_string  -- User-Equipment-Info-ModifiedEUI64
    ∷ row 658 octet_string  -- User-Equipment-Info-IMEI
    ∷ row 447 integer64  -- Value-Digits
    ∷ row 448 unsigned32  -- Validity-Time
    ∷ []

unfoldable pub rfc4006 : Dictionary
rfc4006 = by_rows (avps4006 ++ base_avps)

unfoldable pub rfc8506 : Dictionary
rfc8506 = by_rows (avps8506 ++ base_avps)

-- an edition is known by the number of its RFC
abbrev pub is_edition : ℕ → Bool
is_edition n = eqb n 4006 || eqb n 8506

-- the dictionary of an edition; a number that is none adds nothing to the RFC reading's
unfoldable pub edition_of : ℕ → Dictionary
edition_of n = cond (eqb n 4006) rfc4006 (cond (eqb n 8506) rfc8506 rfc)
