-- The lines of a tick's trace, one after the other, and the room that they may take.
use Rattle.std.specs.Prelude.{List, [], ◌++◌, ℕ, zero, suc, ◌*◌, take}
use Rattle.lictor_core.specs.declared.fuse.FuseRt.{FuseRt}
use Rattle.lictor_core.specs.declared.verdict.SafetyVerdict.{SafetyVerdict}
use Rattle.text.specs.Line.{line_room}
use Rattle.trace_text.specs.Trace.{trace_count, trace_text}

-- the first k lines of the trace, none of which is cut: the longest, twelve floats, has 216 bytes
unfoldable pub trace_up_to : ℕ → SafetyVerdict → FuseRt → List ℕ
trace_up_to zero v rt = []
trace_up_to (suc k) v rt = trace_up_to k v rt ++ take line_room (trace_text k v rt)

-- the bytes that its lines can have at most
abbrev pub trace_room : ℕ
trace_room = trace_count * line_room
