-- Everything that a reader of lines holds between two lines of an input. By the law `line_reader_holds` a
-- reader with these parts of another one is equal to it, so no record of the past lines can grow in it.
use Rattle.crx_lines.specs.declared.line.LineReader.{LineReader}
use Rattle.crx_lines.specs.declared.window.Window.{Window}

-- a buffer, with the parts of another
abbrev pub window_with : Window → Window → Window
window_with one other = record one {
  bytes = other.bytes;
  start = other.start;
  end = other.end;
  ordered = other.ordered;
  padded = other.padded;
  memory = other.memory;
}

-- a reader of lines, with the parts of another
abbrev pub line_reader_with : LineReader → LineReader → LineReader
line_reader_with one other = record one {
  window = other.window;
  passed = other.passed;
  number = other.number;
  phase = other.phase;
  counted = other.counted;
  limit = other.limit;
}
