-- What was seen, as plain data with its payload, and its kind, without it.
use Rattle.data_core.specs.declared.fault.Kind.{Kind}
use Rattle.data_core.specs.Unexpected.{Seen, boolean, unsigned, signed, character, str, bytes, unit, option, newtype_struct, seq, map, enum, unit_variant, newtype_variant, tuple_variant, struct_variant, other, kind_of_seen}
use Rattle.value_error.specs.declared.unexpected.Unexpected.{Unexpected}
use Rattle.value_error.specs.declared.unexpected.Unexpected.TheVariants as owned

abbrev pub seen_of : Unexpected → Seen
seen_of (owned.Bool b) = boolean b
seen_of (owned.Unsigned n) = unsigned n
seen_of (owned.Signed z) = signed z
seen_of (owned.Char c) = character c
seen_of (owned.Str s) = str s
seen_of (owned.Bytes b) = bytes b.items
seen_of owned.Unit = unit
seen_of owned.Option = option
seen_of owned.NewtypeStruct = newtype_struct
seen_of owned.Seq = seq
seen_of owned.Map = map
seen_of owned.Enum = enum
seen_of owned.UnitVariant = unit_variant
seen_of owned.NewtypeVariant = newtype_variant
seen_of owned.TupleVariant = tuple_variant
seen_of owned.StructVariant = struct_variant
seen_of (owned.Other s) = other s

-- the kind of what was seen
abbrev pub kind_of : Unexpected → Kind
kind_of u = kind_of_seen (seen_of u)
