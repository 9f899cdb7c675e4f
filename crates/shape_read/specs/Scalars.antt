-- What scalars hope for, and what they make of an offer.
use Rattle.std.specs.Prelude.{ℕ, ℤ, Bool, ◌^◌, ◌-◌, [], Option, Some, None, pos, negsuc, nat_le, if◌then◌else◌, encode_utf8}
use Rattle.std.specs.Str.{chars, is_utf8}
use Rattle.data_core.specs.declared.fault.Fault.TheVariants.{InvalidValue}
use Rattle.data_core.specs.declared.fault.Kind.TheVariants as kind
use Rattle.data_core.specs.Only.{only}
use Rattle.data_core.specs.Ask as ask
use Rattle.data_core.specs.Ask.{Ask}
use Rattle.data_core.specs.Source.{Offer, scalar}
use Rattle.data_core.specs.Source as offer
use Rattle.data_core.specs.Outcome.{Outcome, given, refused, not_taken}
use Rattle.shape.specs.Shape.{ScalarShape, boolean, u8, u16, u32, u64, i8, i16, i32, i64, character, text, bytes, unit, unit_struct, Data, boolean_data, unsigned, signed, character_data, text_data, bytes_data, unit_data}

abbrev pub scalar_asks : ScalarShape → Ask
scalar_asks boolean = ask.boolean
scalar_asks u8 = ask.u8
scalar_asks u16 = ask.u16
scalar_asks u32 = ask.u32
scalar_asks u64 = ask.u64
scalar_asks i8 = ask.i8
scalar_asks i16 = ask.i16
scalar_asks i32 = ask.i32
scalar_asks i64 = ask.i64
scalar_asks character = ask.character
scalar_asks text = ask.string
scalar_asks bytes = ask.byte_buf
scalar_asks unit = ask.unit
scalar_asks (unit_struct name) = ask.unit_struct name

-- the boolean, and nothing else
abbrev pub boolean_of : Offer → Outcome Data
boolean_of (scalar (offer.boolean b)) = given (boolean_data b)
boolean_of o = not_taken o

-- an integer of up to 64 bits, from 0 up to the greatest
abbrev pub unsigned_of : ℕ → Offer → Outcome Data
unsigned_of greatest (scalar (offer.unsigned width n)) = if nat_le n greatest then given (unsigned n) else refused (InvalidValue kind.Unsigned) []
unsigned_of greatest (scalar (offer.signed width (pos n))) = if nat_le n greatest then given (unsigned n) else refused (InvalidValue kind.Signed) []
unsigned_of greatest (scalar (offer.signed width (negsuc n))) = refused (InvalidValue kind.Signed) []
unsigned_of greatest o = not_taken o

-- from - greatest - 1 up to the greatest
abbrev pub within : ℕ → ℤ → Bool
within greatest (pos n) = nat_le n greatest
within greatest (negsuc n) = nat_le n greatest

-- an integer of up to 64 bits in that range
abbrev pub signed_of : ℕ → Offer → Outcome Data
signed_of greatest (scalar (offer.unsigned width n)) = if nat_le n greatest then given (signed (pos n)) else refused (InvalidValue kind.Unsigned) []
signed_of greatest (scalar (offer.signed width z)) = if within greatest z then given (signed z) else refused (InvalidValue kind.Signed) []
signed_of greatest o = not_taken o

-- the character of a text, where it has exactly one
abbrev pub character_from : Option ℕ → Outcome Data
character_from (Some c) = given (character_data c)
character_from None = refused (InvalidValue kind.Str) []

-- a character, or a text of exactly one
abbrev pub character_of : Offer → Outcome Data
character_of (scalar (offer.character c)) = given (character_data c)
character_of (scalar (offer.text t)) = character_from (only (chars t))
character_of o = not_taken o

-- a text, a character as its text, or bytes that are UTF-8
abbrev pub text_of : Offer → Outcome Data
text_of (scalar (offer.text t)) = given (text_data t)
text_of (scalar (offer.character c)) = given (text_data (encode_utf8 c))
text_of (scalar (offer.bytes b)) = if is_utf8 b then given (text_data b) else refused (InvalidValue kind.Bytes) []
text_of o = not_taken o

-- the bytes, and nothing else
abbrev pub bytes_of : Offer → Outcome Data
bytes_of (scalar (offer.bytes b)) = given (bytes_data b)
bytes_of o = not_taken o

-- the unit, and nothing else
abbrev pub unit_of : Offer → Outcome Data
unit_of (scalar offer.unit) = given unit_data
unit_of o = not_taken o

abbrev pub scalar_of : ScalarShape → Offer → Outcome Data
scalar_of boolean o = boolean_of o
scalar_of u8 o = unsigned_of (2 ^ 8 - 1) o
scalar_of u16 o = unsigned_of (2 ^ 16 - 1) o
scalar_of u32 o = unsigned_of (2 ^ 32 - 1) o
scalar_of u64 o = unsigned_of (2 ^ 64 - 1) o
scalar_of i8 o = signed_of (2 ^ 7 - 1) o
scalar_of i16 o = signed_of (2 ^ 15 - 1) o
scalar_of i32 o = signed_of (2 ^ 31 - 1) o
scalar_of i64 o = signed_of (2 ^ 63 - 1) o
scalar_of character o = character_of o
scalar_of text o = text_of o
scalar_of bytes o = bytes_of o
scalar_of unit o = unit_of o
scalar_of (unit_struct name) o = unit_of o
