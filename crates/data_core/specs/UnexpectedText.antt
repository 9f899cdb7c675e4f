-- How what was seen is shown; of a text that is not ASCII nothing is said.
use Rattle.std.specs.Prelude.{ℕ, List, true, false, Option, Some, ◌++◌, codes}
use Rattle.std.specs.Char.{encode_utf8}
use Rattle.std.specs.Fmt.{decimal, signed_decimal, debug_str, option_append}
use Rattle.data_core.specs.Unexpected.{Seen, boolean, unsigned, signed, character, str, bytes, unit, option, newtype_struct, seq, map, enum, unit_variant, newtype_variant, tuple_variant, struct_variant, other}

abbrev pub seen_text : Seen → Option (List ℕ)
seen_text (boolean true) = Some (codes "boolean `true`")
seen_text (boolean false) = Some (codes "boolean `false`")
seen_text (unsigned n) = Some (codes "integer `" ++ decimal n ++ codes "`")
seen_text (signed z) = Some (codes "integer `" ++ signed_decimal z ++ codes "`")
seen_text (character c) = Some (codes "character `" ++ encode_utf8 c ++ codes "`")
seen_text (str s) = option_append (Some (codes "string ")) (debug_str s)
seen_text (bytes b) = Some (codes "byte array")
seen_text unit = Some (codes "unit value")
seen_text option = Some (codes "Option value")
seen_text newtype_struct = Some (codes "newtype struct")
seen_text seq = Some (codes "sequence")
seen_text map = Some (codes "map")
seen_text enum = Some (codes "enum")
seen_text unit_variant = Some (codes "unit variant")
seen_text newtype_variant = Some (codes "newtype variant")
seen_text tuple_variant = Some (codes "tuple variant")
seen_text struct_variant = Some (codes "struct variant")
seen_text (other s) = Some s
