-- A line that is ready to be written, and the status that comes with it.
use Rattle.std.specs.Prelude.{ℕ, List, string_bytes}
use Rattle.document.specs.Document.{Document}
use Rattle.capture.specs.Run.{outcome_of, line_of}
use Rattle.capture.specs.Status.{status_of}
use Rattle.capture.specs.declared.status.Status.{Status}
use Rattle.capture.specs.declared.response.Response as code

abbrev pub response_view : code.Response → Status × List ℕ
response_view r = (r.status, string_bytes r.line)

-- the status and the line of a document
abbrev pub response_of : Document → Status × List ℕ
response_of d = (status_of (outcome_of d), line_of d)
