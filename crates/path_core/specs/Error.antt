-- An error without how it is kept.
use Rattle.std.specs.Prelude.{List}
use Rattle.data_core.specs.declared.path.Segment.{Segment}
use Rattle.path_core.specs.declared.error.Error.{Error}

-- where it came
abbrev pub path_of : {E : Type 0} → Error E → List Segment
path_of error = error.path

-- the error that came there
abbrev pub original_of : {E : Type 0} → Error E → E
original_of error = error.original
