-- How a reader refuses what it does not take.
use Rattle.std.specs.Prelude.{codes, Option, Some, None}
use Rattle.std.specs.Char.{encode_utf8}
use Rattle.data_core.specs.declared.fault.Fault.{Fault}
use Rattle.data_core.specs.declared.fault.Fault.TheVariants.{InvalidType}
use Rattle.data_core.specs.declared.fault.Kind.{Kind}
use Rattle.data_core.specs.declared.fault.Kind.TheVariants as kind
use Rattle.data_core.specs.Unexpected.{Seen, IsSeenAs}
use Rattle.data_core.specs.Unexpected as sight
use Rattle.data_core.specs.Source.{Scalar, boolean, unsigned, signed, wide_unsigned, wide_signed, character, text, bytes, none, unit, Offer, scalar, some_itself, some, elements, newtype_itself, newtype_struct, entries, variant_itself, variant, refused}

-- what a reader sees of a scalar: of a character, its text
abbrev pub kind_visited : Scalar → Kind
kind_visited (boolean b) = kind.Bool
kind_visited (unsigned width n) = kind.Unsigned
kind_visited (signed width z) = kind.Signed
kind_visited (wide_unsigned n) = kind.Other
kind_visited (wide_signed z) = kind.Other
kind_visited (character c) = kind.Str
kind_visited (text t) = kind.Str
kind_visited (bytes b) = kind.Bytes
kind_visited none = kind.Option
kind_visited unit = kind.Unit

-- what is not taken is a value of another type, and a refusal stays the refusal that it is
abbrev pub fault_of : Offer → Fault
fault_of (scalar s) = InvalidType (kind_visited s)
fault_of some_itself = InvalidType kind.Option
fault_of (some s) = InvalidType kind.Option
fault_of (elements checks ss) = InvalidType kind.Seq
fault_of newtype_itself = InvalidType kind.NewtypeStruct
fault_of (newtype_struct s) = InvalidType kind.NewtypeStruct
fault_of (entries checks es) = InvalidType kind.Map
fault_of (variant_itself payload) = InvalidType kind.Enum
fault_of (variant name payload) = InvalidType kind.Enum
fault_of (refused f) = f

-- what a refusal of a scalar tells of it: of a character, its text
abbrev pub scalar_seen : Scalar → Seen
scalar_seen (boolean b) = sight.boolean b
scalar_seen (unsigned width n) = sight.unsigned n
scalar_seen (signed width z) = sight.signed z
scalar_seen (wide_unsigned n) = sight.other (codes "u128")
scalar_seen (wide_signed z) = sight.other (codes "i128")
scalar_seen (character c) = sight.str (encode_utf8 c)
scalar_seen (text t) = sight.str t
scalar_seen (bytes b) = sight.bytes b
scalar_seen none = sight.option
scalar_seen unit = sight.unit

-- what a refusal tells of an offer that is not taken
abbrev pub IsSeenOf : Option Seen → Offer → Type 0
IsSeenOf saw (scalar s) = IsSeenAs saw (scalar_seen s)
IsSeenOf saw some_itself = IsSeenAs saw sight.option
IsSeenOf saw (some s) = IsSeenAs saw sight.option
IsSeenOf saw (elements checks ss) = IsSeenAs saw sight.seq
IsSeenOf saw newtype_itself = IsSeenAs saw sight.newtype_struct
IsSeenOf saw (newtype_struct s) = IsSeenAs saw sight.newtype_struct
IsSeenOf saw (entries checks es) = IsSeenAs saw sight.map
IsSeenOf saw (variant_itself payload) = IsSeenAs saw sight.enum
IsSeenOf saw (variant name payload) = IsSeenAs saw sight.enum
IsSeenOf saw (refused f) = Unit {0}
