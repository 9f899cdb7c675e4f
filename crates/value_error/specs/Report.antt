-- An error as plain data, with its texts.
use Rattle.std.specs.Prelude.{ℕ, ◌≡◌, List}
use Rattle.data_core.specs.Unexpected.{Seen}
use Rattle.value_error.specs.Unexpected.{seen_of}
use Rattle.value_error.specs.declared.error.DeserializerError.{DeserializerError}
use Rattle.value_error.specs.declared.error.DeserializerError.TheVariants as error

pub data Report : Type 0 where
  custom : List ℕ → Report
  invalid_type : Seen → List ℕ → Report
  invalid_value : Seen → List ℕ → Report
  invalid_length : ℕ → List ℕ → Report
  unknown_variant : List ℕ → List (List ℕ) → Report
  unknown_field : List ℕ → List (List ℕ) → Report
  missing_field : List ℕ → Report
  duplicate_field : List ℕ → Report

-- an error was made with this report, or for want of memory
abbrev pub Reports : DeserializerError → Report → Type 0
Reports (error.Custom msg) r = custom msg ≡ r
Reports (error.InvalidType unexp exp) r = invalid_type (seen_of unexp) exp ≡ r
Reports (error.InvalidValue unexp exp) r = invalid_value (seen_of unexp) exp ≡ r
Reports (error.InvalidLength len exp) r = invalid_length len exp ≡ r
Reports (error.UnknownVariant variant expected) r = unknown_variant variant expected ≡ r
Reports (error.UnknownField field expected) r = unknown_field field expected ≡ r
Reports (error.MissingField field) r = missing_field field ≡ r
Reports (error.DuplicateField field) r = duplicate_field field ≡ r
Reports error.Memory r = Unit {0}
