-- The steps of a reader of compact text.
use Rattle.std.specs.Prelude.{⊤, ℕ, Bool, true, List, [], ◌∷◌, Option, Result, Ok}
use Rattle.crx_base.specs.declared.fault.Fault.{Fault}
use Rattle.crx_compact.specs.OpenEpochs.{OpenRawEpoch, tail_held}
use Rattle.crx_compact.specs.Tails.{Tail}
use Rattle.crx_filter.specs.CompactStages.{open_in}
use Rattle.crx_filter.specs.DirectionParts.{DirectionParts, Reads}
use Rattle.crx_filter.specs.ExpansionByLine.{expansion}
use Rattle.crx_filter.specs.declared.compact_reader.CompactReader.{CompactReader}

-- between two lines the parts of a reader are the parts of an expansion
abbrev pub compact_reader_parts : CompactReader → DirectionParts OpenRawEpoch (Option Tail)
compact_reader_parts r = record {
  stage = r.stage;
  begun = open_in r.columns.value;
  types = r.types;
  kept = tail_held r.columns.value;
}

-- its result for a line, with any options, after which these lines are ready
abbrev pub ReadsCompactLine :
    CompactReader → List ℕ → Result Bool Fault → List (List ℕ) → CompactReader → Type 0
ReadsCompactLine before line result ready after = Reads expansion (λ choices. ⊤)
    (compact_reader_parts before) line result ready (compact_reader_parts after)

-- the line itself, if it is copied
abbrev pub line_copied : List ℕ → Result Bool Fault → List (List ℕ)
line_copied line (Ok true) = line ∷ []
line_copied line result = []
