-- A source in memory: its bytes and its calls.
use Rattle.byte_streams.specs.declared.source.SteadySource.{SteadySource}
use Rattle.byte_streams.specs.declared.source.MemorySource.{MemorySource}
use Rattle.byte_streams.specs.declared.calls.Calls.{Calls}
use Rattle.byte_streams.specs.declared.course.Course.{Course}

abbrev pub steady_of : MemorySource → SteadySource
steady_of m = m.steady

abbrev pub calls_of : MemorySource → Calls
calls_of m = m.calls

abbrev pub course_of : MemorySource → Course
course_of m = m.course
