-- The fault of an error, and its text. Want of memory is no fault.
use Rattle.std.specs.Prelude.{ℕ, List, Option, Some, None, codes}
use Rattle.data_core.specs.declared.fault.Fault.{Fault}
use Rattle.data_items.specs.declared.error.Error.{Error}
use Rattle.data_items.specs.declared.error.Error.TheVariants as error

abbrev pub fault_of : Error → Option Fault
fault_of (error.Fault cause text) = Some cause
fault_of error.Memory = None

abbrev pub error_text : Error → List ℕ
error_text (error.Fault cause text) = text
error_text error.Memory = codes "out of memory"
