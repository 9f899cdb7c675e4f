-- The error of a tree that is made of one of items at hand: its text alone is kept.
use Rattle.data_items.specs.declared.error.Error.{Error}
use Rattle.data_items.specs.declared.error.Error.TheVariants as items
use Rattle.value_error.specs.declared.error.DeserializerError.{DeserializerError}
use Rattle.value_error.specs.declared.error.DeserializerError.TheVariants as error

abbrev pub of_items : Error → DeserializerError
of_items (items.Fault cause text) = error.Custom text
of_items items.Memory = error.Memory
