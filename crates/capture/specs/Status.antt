-- How a command ended: the number of each status, and which of them say what.
use Rattle.std.specs.Prelude.{ℕ}
use Rattle.data_core.specs.Outcome.{Outcome, given, refused}
use Rattle.shape.specs.Shape.{Data}
use Rattle.capture.specs.declared.status.Status.{Status}
use Rattle.capture.specs.declared.status.Status.TheVariants.{Accepted, Refused, Usage, BadDocument, ReadFault, WriteFault, Memory, TooLong}

abbrev pub code_of : Status → ℕ
code_of Accepted = 0
code_of Refused = 1
code_of Usage = 2
code_of BadDocument = 3
code_of ReadFault = 4
code_of WriteFault = 5
code_of Memory = 6
code_of TooLong = 7

-- the status of an answer
abbrev pub status_of : Outcome Data → Status
status_of (given d) = Accepted
status_of (refused f path) = Refused

-- a fact for the statuses that come with a whole line
abbrev pub OnAnswer : Status → Type 0 → Type 0
OnAnswer Accepted P = P
OnAnswer Refused P = P
OnAnswer status P = Unit {0}

-- a fact for the statuses that come once the stream was read to its end
abbrev pub OnWholeStream : Status → Type 0 → Type 0
OnWholeStream Accepted P = P
OnWholeStream Refused P = P
OnWholeStream BadDocument P = P
OnWholeStream WriteFault P = P
OnWholeStream status P = Unit {0}

-- a fact for the statuses that come with nothing written
abbrev pub OnSilence : Status → Type 0 → Type 0
OnSilence Accepted P = Unit {0}
OnSilence Refused P = Unit {0}
OnSilence WriteFault P = Unit {0}
OnSilence status P = P
