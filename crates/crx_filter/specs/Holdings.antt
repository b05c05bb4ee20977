-- All that engines and their parts hold between two lines of an input. By the laws `readers_hold` and `engines_hold`,
-- a value that takes over these parts from another equals the other; so no further part exists in which a record of
-- past lines could grow.
use Rattle.crx_base.specs.declared.options.Options.TheInside.{Inside as OptionsInside}
use Rattle.crx_compact.specs.Holdings.{rows_with}
use Rattle.crx_filter.specs.declared.rinex_reader.RinexReader.{RinexReader}
use Rattle.crx_filter.specs.declared.compaction.Compaction.TheInside.{Inside as CompactionInside}
use Rattle.crx_filter.specs.declared.compact_reader.CompactReader.{CompactReader}
use Rattle.crx_filter.specs.CompactionParts.{CompactionState}
use Rattle.crx_filter.specs.declared.engine.LineEngine.TheInside.{Inside as EngineInside}
use Rattle.crx_filter.specs.declared.expansion.Expansion.TheInside.{Inside as ExpansionInside}
use Rattle.crx_filter.specs.ExpansionParts.{ExpansionState}
use Rattle.crx_filter.specs.declared.lender.Lender.TheInside.{Inside as LenderInside}
use Rattle.crx_filter.specs.DirectionParts.{EngineParts}
use Rattle.crx_filter.specs.declared.checking.Checking.TheInside.{Inside as CheckingInside}
use Rattle.crx_filter.specs.declared.checking.Noted.{Noted}
use Rattle.crx_filter.specs.CheckingParts.{CheckingState}

-- options with the parts of another
abbrev pub options_with : OptionsInside → OptionsInside → OptionsInside
options_with one other = record one {
  every = other.every;
  skip = other.skip;
  date = other.date;
  date_len = other.date_len;
}

-- a reader of RINEX with the parts of another
abbrev pub rinex_reader_with : RinexReader → RinexReader → RinexReader
rinex_reader_with one other = record one {
  stage = other.stage;
  types = other.types;
  head = other.head;
  count = other.count;
  row = other.row;
  rows = rows_with one.rows other.rows;
  consistent = other.consistent;
  few = other.few;
}

-- a compaction with the parts of another, as contracts see it and as its code stores it
abbrev pub compaction_with : CompactionState → CompactionState → CompactionState
compaction_with one other = record one {
  index = other.index;
  reader = rinex_reader_with one.reader other.reader;
  encoder = other.encoder;
}

abbrev pub compaction_inside_with : CompactionInside → CompactionInside → CompactionInside
compaction_inside_with one other = record one {
  index = other.index;
  reader = rinex_reader_with one.reader other.reader;
  encoder = other.encoder;
}

-- a reader of compact text with the parts of another
abbrev pub compact_reader_with : CompactReader → CompactReader → CompactReader
compact_reader_with one other = record one {
  stage = other.stage;
  types = other.types;
  columns = other.columns;
  consistent = other.consistent;
}

-- an expansion with the parts of another, as contracts see it and as its code stores it
abbrev pub expansion_with : ExpansionState → ExpansionState → ExpansionState
expansion_with one other = record one {
  reader = compact_reader_with one.reader other.reader;
  lines = other.lines;
}

abbrev pub expansion_inside_with : ExpansionInside → ExpansionInside → ExpansionInside
expansion_inside_with one other = record one {
  reader = compact_reader_with one.reader other.reader;
  lines = other.lines;
}

-- an engine with the parts of another, as its code stores it
abbrev pub engine_inside_with : {D : Type 0} → (D → D → D) → EngineInside D → EngineInside D → EngineInside D
engine_inside_with direction_with one other = record one {
  options = other.options;
  number = other.number;
  direction = direction_with one.direction other.direction;
  answer = other.answer;
}

-- an engine of compaction or of expansion with the parts of another
abbrev pub compacting_engine_with : EngineParts CompactionState → EngineParts CompactionState
    → EngineParts CompactionState
compacting_engine_with one other = record one {
  options = other.options;
  number = other.number;
  direction = compaction_with one.direction other.direction;
  answer = other.answer;
}

abbrev pub expanding_engine_with : EngineParts ExpansionState → EngineParts ExpansionState
    → EngineParts ExpansionState
expanding_engine_with one other = record one {
  options = other.options;
  number = other.number;
  direction = expansion_with one.direction other.direction;
  answer = other.answer;
}

-- the notes of a check with the parts of another
abbrev pub noted_with : Noted → Noted → Noted
noted_with one other = record one {
  names = other.names;
  observed = other.observed;
  totals = other.totals;
  not_standard = other.not_standard;
  text = other.text;
}

-- a check with the parts of another, as contracts see it and as its code stores it
abbrev pub checking_with : CheckingState → CheckingState → CheckingState
checking_with one other = record one {
  reader = rinex_reader_with one.reader other.reader;
  noted = noted_with one.noted other.noted;
  handed_out = other.handed_out;
}

abbrev pub checking_inside_with : CheckingInside → CheckingInside → CheckingInside
checking_inside_with one other = record one {
  reader = rinex_reader_with one.reader other.reader;
  noted = noted_with one.noted other.noted;
  handed_out = other.handed_out;
}

-- an engine of a check with the parts of another
abbrev pub checking_engine_with : EngineParts CheckingState → EngineParts CheckingState → EngineParts CheckingState
checking_engine_with one other = record one {
  options = other.options;
  number = other.number;
  direction = checking_with one.direction other.direction;
  answer = other.answer;
}

-- a lender with the parts of another, as its code stores it
abbrev pub lender_inside_with : {D : Type 0} → (EngineParts D → EngineParts D → EngineParts D) → LenderInside D → LenderInside D
    → LenderInside D
lender_inside_with engine_with one other = record one {
  engine = engine_with one.engine other.engine;
  copied = other.copied;
  is_pending = other.is_pending;
}
