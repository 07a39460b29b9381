-- The names of attributes (RFC 6733, section 4.5, in the order of its table), and the readings as dictionaries.
use Rattle.std.specs.Prelude.{ℕ, cond, List, [], ◌∷◌, eqb}
use Rattle.rfc6733.specs.Dictionary.{Dictionary, sawp, rfc}
use Rattle.record.specs.Rows.{table}
use Rattle.attribute.specs.declared.AttributeCode.{AttributeCode}
use Rattle.attribute.specs.declared.AttributeCode.TheVariants.{Unknown, AcctInterimInterval, AccountingRealtimeRequired}
use Rattle.attribute.specs.declared.AttributeCode.TheVariants.{AcctMultiSessionId, AccountingRecordNumber}
use Rattle.attribute.specs.declared.AttributeCode.TheVariants.{AccountingRecordType, AcctSessionId}
use Rattle.attribute.specs.declared.AttributeCode.TheVariants.{AccountingSubSessionId, AcctApplicationId}
use Rattle.attribute.specs.declared.AttributeCode.TheVariants.{AuthApplicationId, AuthRequestType}
use Rattle.attribute.specs.declared.AttributeCode.TheVariants.{AuthorizationLifetime, AuthGracePeriod, AuthSessionState}
use Rattle.attribute.specs.declared.AttributeCode.TheVariants.{ReAuthRequestType, Class, DestinationHost}
use Rattle.attribute.specs.declared.AttributeCode.TheVariants.{DestinationRealm, DisconnectCause, ErrorMessage}
use Rattle.attribute.specs.declared.AttributeCode.TheVariants.{ErrorReportingHost, EventTimestamp, ExperimentalResult}
use Rattle.attribute.specs.declared.AttributeCode.TheVariants.{ExperimentalResultCode, FailedAVP, FirmwareRevision}
use Rattle.attribute.specs.declared.AttributeCode.TheVariants.{HostIPAddress, InbandSecurityId, MultiRoundTimeOut}
use Rattle.attribute.specs.declared.AttributeCode.TheVariants.{OriginHost, OriginRealm, OriginStateId, ProductName}
use Rattle.attribute.specs.declared.AttributeCode.TheVariants.{ProxyHost, ProxyInfo, ProxyState, RedirectHost}
use Rattle.attribute.specs.declared.AttributeCode.TheVariants.{RedirectHostUsage, RedirectMaxCacheTime, ResultCode}
use Rattle.attribute.specs.declared.AttributeCode.TheVariants.{RouteRecord, SessionId, SessionTimeout, SessionBinding}
use Rattle.attribute.specs.declared.AttributeCode.TheVariants.{SessionServerFailover, SupportedVendorId}
use Rattle.attribute.specs.declared.AttributeCode.TheVariants.{TerminationCause, UserName, VendorId}
use Rattle.attribute.specs.declared.AttributeCode.TheVariants.{VendorSpecificApplicationId}
use Rattle.attribute.specs.declared.Attribute.{Attribute}
use Rattle.attribute.specs.declared.Reading.{Reading}
use Rattle.attribute.specs.declared.Reading.TheVariants.{Sawp, Rfc}

-- the dictionary of a reading
unfoldable pub dictionary : Reading → Dictionary
dictionary Sawp = sawp
dictionary Rfc = rfc

-- the kinds of the codes 0 to 511 in a reading, where no vendor counts
unfoldable pub kind_table : Reading → List ℕ
kind_table r = table (λ c. (dictionary r).kind c 0) 512

-- a row: a code and its name
pub record Name : Type 0 where
  pub number : ℕ
  pub code : AttributeCode

abbrev pub name : ℕ → AttributeCode → Name
name n c = record { number = n; code = c }

-- the name of the first row that has the number; Unknown where none has
abbrev pub name_in : List Name → ℕ → AttributeCode
name_in [] n = Unknown
name_in (x ∷ xs) n = cond (eqb n x.number) x.code (name_in xs n)

-- the 49 names, with the numbers of the Rust
abbrev pub names : List Name
names =
    name 85 AcctInterimInterval
    ∷ name 483 AccountingRealtimeRequired
    ∷ name 50 AcctMultiSessionId
    ∷ name 485 AccountingRecordNumber
    ∷ name 480 AccountingRecordType
    ∷ name 44 AcctSessionId
    ∷ name 287 AccountingSubSessionId
    ∷ name 259 AcctApplicationId
    ∷ name 258 AuthApplicationId
    ∷ name 274 AuthRequestType
    ∷ name 291 AuthorizationLifetime
    ∷ name 276 AuthGracePeriod
    ∷ name 277 AuthSessionState
    ∷ name 285 ReAuthRequestType
    ∷ name 25 Class
    ∷ name 293 DestinationHost
    ∷ name 235 DestinationRealm
    ∷ name 273 DisconnectCause
    ∷ name 281 ErrorMessage
    ∷ name 294 ErrorReportingHost
    ∷ name 55 EventTimestamp
    ∷ name 297 ExperimentalResult
    ∷ name 298 ExperimentalResultCode
    ∷ name 279 FailedAVP
    ∷ name 267 FirmwareRevision
    ∷ name 257 HostIPAddress
    ∷ name 299 InbandSecurityId
    ∷ name 272 MultiRoundTimeOut
    ∷ name 264 OriginHost
    ∷ name 296 OriginRealm
    ∷ name 278 OriginStateId
    ∷ name 269 ProductName
    ∷ name 280 ProxyHost
    ∷ name 284 ProxyInfo
    ∷ name 33 ProxyState
    ∷ name 292 RedirectHost
    ∷ name 261 RedirectHostUsage
    ∷ name 262 RedirectMaxCacheTime
    ∷ name 268 ResultCode
    ∷ name 282 RouteRecord
    ∷ name 263 SessionId
    ∷ name 27 SessionTimeout
    ∷ name 270 SessionBinding
    ∷ name 271 SessionServerFailover
    ∷ name 265 SupportedVendorId
    ∷ name 295 TerminationCause
    ∷ name 1 UserName
    ∷ name 266 VendorId
    ∷ name 260 VendorSpecificApplicationId
    ∷ []

abbrev pub attribute_of : ℕ → Attribute
attribute_of n = record { raw = n; code = name_in names n }

-- Departure S2: in the RFC reading Destination-Realm is 283, and 235 has no name
abbrev pub rfc_names : List Name
rfc_names = name 283 DestinationRealm ∷ name 235 Unknown ∷ names

abbrev pub attribute_in : Reading → ℕ → Attribute
attribute_in Sawp n = attribute_of n
attribute_in Rfc n = record { raw = n; code = name_in rfc_names n }
