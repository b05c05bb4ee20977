-- All parts of a handle between two calls. By the law `handle_holds` a reader that takes over these parts of another is
-- the other; so it has no further part, in which a record of past lines could grow.
use Rattle.std.specs.Prelude.{◌≤◌, ◌+◌, length}
use Rattle.crx_filter.specs.Holdings.{checking_engine_with, compacting_engine_with, expanding_engine_with}
use Rattle.rnxcmp_c.specs.Waiting.{waiting}
use Rattle.rnxcmp_c.specs.declared.engines.AnyEngine.{AnyEngine}
use Rattle.rnxcmp_c.specs.declared.engines.AnyEngine.TheVariants.{Compacting, Expanding, Checking}
use Rattle.rnxcmp_c.specs.declared.handle_state.HandleState.{HandleState}
use Rattle.rnxcmp_c.specs.declared.limits.TheConstants.{LINE_ROOM, WAITING_LIMIT}
use Rattle.rnxcmp_c.specs.declared.pending.Pending.{Pending}
use Rattle.rnxcmp_c.specs.declared.piece.Piece.{Piece}
use Rattle.rnxcmp_c.specs.declared.reader.Reader.{Reader}

-- the bytes kept of a line, with the parts of another
abbrev pub piece_with : Piece → Piece → Piece
piece_with one other = record one { bytes = other.bytes; within = other.within; room = other.room }

-- a text, with the parts of another
abbrev pub pending_with : Pending → Pending → Pending
pending_with one other = record one {
  bytes = other.bytes;
  passed = other.passed;
  failures = other.failures;
  flushes = other.flushes;
  flushed = other.flushed;
  half = other.half;
  bounded = other.bounded;
}

-- the state except the engine, with the parts of another
abbrev pub held_with : HandleState → HandleState → HandleState
held_with one other = record one {
  tail = piece_with one.tail other.tail;
  copy = other.copy;
  number = other.number;
  warned = other.warned;
  limit = other.limit;
  left = other.left;
  output = pending_with one.output other.output;
  messages = pending_with one.messages other.messages;
}

-- an engine, with the parts of another of its kind
abbrev pub engine_with : AnyEngine → AnyEngine → AnyEngine
engine_with (Compacting one) (Compacting other) = Compacting (compacting_engine_with one other)
engine_with (Expanding one) (Expanding other) = Expanding (expanding_engine_with one other)
engine_with (Checking one) (Checking other) = Checking (checking_engine_with one other)
engine_with one other = other

-- a reader, with the parts of another
abbrev pub reader_with : Reader → Reader → Reader
reader_with one other = record one {
  engine = engine_with one.engine other.engine;
  held = held_with one.held other.held;
  fed = other.fed;
  outcome = other.outcome;
}

-- the bounds of the state except the engine: of the last line at most LINE_ROOM bytes, and of each text the waiting
-- bytes and at most as many that were taken
pub record IsBounded (held : HandleState) : Type 0 where
  pub line : length held.tail.bytes.items ≤ LINE_ROOM
  pub output_waits : length (waiting held.output) ≤ WAITING_LIMIT
  pub output : length held.output.bytes.items ≤ WAITING_LIMIT + WAITING_LIMIT
  pub messages_wait : length (waiting held.messages) ≤ WAITING_LIMIT
  pub messages : length held.messages.bytes.items ≤ WAITING_LIMIT + WAITING_LIMIT
