-- How an error is shown; of the names that were expected nothing is said.
use Rattle.std.specs.Prelude.{ℕ, List, Option, Some, None, ◌++◌, codes}
use Rattle.std.specs.Fmt.{decimal, option_append}
use Rattle.data_core.specs.UnexpectedText.{seen_text}
use Rattle.value_error.specs.Unexpected.{seen_of}
use Rattle.value_error.specs.declared.error.DeserializerError.{DeserializerError}
use Rattle.value_error.specs.declared.error.DeserializerError.TheVariants as error

abbrev pub shown_text : DeserializerError → Option (List ℕ)
shown_text (error.Custom msg) = Some msg
shown_text (error.InvalidType unexp exp) =
    option_append (Some (codes "Invalid type ")) (option_append (seen_text (seen_of unexp)) (Some (codes ". Expected " ++ exp)))
shown_text (error.InvalidValue unexp exp) =
    option_append (Some (codes "Invalid value ")) (option_append (seen_text (seen_of unexp)) (Some (codes ". Expected " ++ exp)))
shown_text (error.InvalidLength len exp) =
    option_append (Some (codes "Invalid length ")) (option_append (Some (decimal len)) (Some (codes ". Expected " ++ exp)))
shown_text (error.UnknownVariant variant expected) = None
shown_text (error.UnknownField field expected) = None
shown_text (error.MissingField field) = Some (codes "Missing field " ++ field)
shown_text (error.DuplicateField field) = Some (codes "Duplicate field " ++ field)
shown_text error.Memory = Some (codes "out of memory")
