-- The fault of an error, which want of memory has none of, and the value that it tells of.
use Rattle.std.specs.Prelude.{◌≡◌, Option, Some, None}
use Rattle.data_core.specs.declared.fault.Fault.{Fault}
use Rattle.data_core.specs.declared.fault.Fault.TheVariants as fault
use Rattle.data_core.specs.Unexpected.{Seen, IsSeenAs}
use Rattle.value_error.specs.Unexpected.{kind_of, seen_of}
use Rattle.value_error.specs.declared.error.DeserializerError.{DeserializerError}
use Rattle.value_error.specs.declared.error.DeserializerError.TheVariants as error

abbrev pub fault_of : DeserializerError → Option Fault
fault_of (error.Custom msg) = Some fault.Custom
fault_of (error.InvalidType unexp exp) = Some (fault.InvalidType (kind_of unexp))
fault_of (error.InvalidValue unexp exp) = Some (fault.InvalidValue (kind_of unexp))
fault_of (error.InvalidLength len exp) = Some (fault.InvalidLength len)
fault_of (error.UnknownVariant variant expected) = Some (fault.UnknownVariant variant)
fault_of (error.UnknownField field expected) = Some (fault.UnknownField field)
fault_of (error.MissingField field) = Some (fault.MissingField field)
fault_of (error.DuplicateField field) = Some (fault.DuplicateField field)
fault_of error.Memory = None

-- an error that was made from another has the other's fault, or none for want of memory
abbrev pub SameFault : Option Fault → Option Fault → Type 0
SameFault None f = Unit {0}
SameFault (Some g) f = Some g ≡ f

-- the value that was there, of an error that tells it
abbrev pub saw_of : DeserializerError → Option Seen
saw_of (error.InvalidType unexp exp) = Some (seen_of unexp)
saw_of (error.InvalidValue unexp exp) = Some (seen_of unexp)
saw_of e = None

-- an error that was made from another tells of the other's value, where both tell of one
abbrev pub SameSight : Option Seen → Option Seen → Type 0
SameSight saw None = Unit {0}
SameSight saw (Some s) = IsSeenAs saw s
