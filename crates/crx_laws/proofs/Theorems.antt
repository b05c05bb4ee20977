-- The theorems behind the laws: src/lib.rt names the list, and the prover finds the theorem of each law.
use Rattle.crx_compact.proofs.anywriter.{Epochs.any-epoch, OnlyEpochs.only-epoch, OnlyRows.only-row}
use Rattle.crx_compact.proofs.anywriter.{OurReading.{reads-back, steps-read_back}, Rows.any-row}
use Rattle.crx_compact.proofs.arcs.{Bounds.within-is, Inversion.inverts, Stepping.values-by_tail}
use Rattle.crx_compact.proofs.reading.{LineByLine.{steps-agree, wanted-where_open}, RawTailing.raw-by_tail}
use Rattle.crx_compact.proofs.reading.SteadyEpochs.{steady-epoch_against}
use Rattle.crx_compact.proofs.wayback.Overlays.{overlaid-in_turn, patched-difference}
use Rattle.crx_filter.proofs.anywriter.AnyText.{any-text, first-units}
use Rattle.crx_filter.proofs.anywriter.RestoredFiles.{canonical, comes-back, normal-comes_back}
use Rattle.crx_filter.proofs.anywriter.RestoredFiles.{standard-comes_back}
use Rattle.crx_filter.proofs.following.CheckLawful.{check-lawful}
use Rattle.crx_filter.proofs.output.Readiness.{compaction-ready, expansion-ready}
use Rattle.crx_filter.proofs.reading.{Restarts.on-types, Prefixes.{compacted-first, expanded-first}}
use Rattle.crx_filter.proofs.reading.{Forward.rinex-forward, ForwardCompact.compact-forward}
use Rattle.crx_filter.proofs.reading.{Resuming.resumed}
use Rattle.crx_filter.proofs.reading.InPlace.{items-in_place}
use Rattle.crx_filter.proofs.reading.AcceptedUnits.{items-read, compact-items-read}
use Rattle.crx_filter.proofs.standard.{CheckEnded.check-ended, CheckStandard.named-where_not}
use Rattle.crx_filter.proofs.standard.Lossless.{what-passes}
use Rattle.crx_filter.proofs.wayback.{Canonical.as-normal, ExpandedStandard.expanded-standard}
use Rattle.crx_filter.proofs.wayback.NormalForm.{read-as_normal, normal-for_good}
use Rattle.crx_header.proofs.Counts.{systems_few}
use Rattle.crx_laws.proofs.{ExpandedReadyToHandOut.expanded-ready_to_hand_out, HoursMakeADay.make-a_day}
use Rattle.crx_laws.proofs.Weights.{within-size}
use Rattle.crx_laws.proofs.{blockwise.LinesAfterText.stand-alone, output.ReadyToHandOut.compact-ready_to_hand_out}
use Rattle.crx_laws.proofs.soundness.BoundedReading.{read-bounded}
use Rattle.crx_lines.proofs.ProgressLemmas.{ended_lines-come_first, lines-last, lines-first}
use Rattle.crx_lines.proofs.ProgressLemmas.{HasRead-ended, HasRead-start, HasRead-stopped, stopped-cases}
use Rattle.crx_rinex.proofs.{ReadingBack.{row-back, head-back}, SteadyPlaces.{steady-first_line, steady-then}}

pub ruleset of_lines = (ended_lines-come_first, lines-last, lines-first, steady-first_line, steady-then)

pub ruleset of_rinex = (row-back, head-back, systems_few, rinex-forward, resumed, items-read, items-in_place)

pub ruleset of_progress = (HasRead-ended, HasRead-start, HasRead-stopped, stopped-cases)

pub ruleset of_arcs = (within-is, inverts, values-by_tail, overlaid-in_turn, patched-difference)

pub ruleset of_steps =
    (read-bounded, raw-by_tail, steady-epoch_against, steps-agree, steps-read_back, wanted-where_open)

pub ruleset of_any_writer = (any-epoch, any-row, any-text, first-units, only-epoch, only-row)

pub ruleset of_compact_text = (reads-back, compact-forward, compact-items-read, on-types, stand-alone)

pub ruleset of_bounds = (compact-ready_to_hand_out, expanded-ready_to_hand_out, within-size)

pub ruleset of_directions = (compacted-first, expanded-first, compaction-ready, expansion-ready, check-lawful)

pub ruleset of_check = (check-ended, named-where_not, what-passes, read-as_normal, normal-for_good)

pub ruleset of_way_back = (standard-comes_back, normal-comes_back, comes-back, expanded-standard)

pub ruleset of_again = (normal-comes_back, as-normal)

pub ruleset of_more = (canonical, as-normal, make-a_day)

pub ruleset of_reading = (of_lines, of_progress, of_rinex, of_steps, of_compact_text, of_bounds)

pub ruleset of_runs = (of_check, of_directions)

pub ruleset laws = (of_way_back, of_more, of_any_writer, of_arcs, of_reading, of_runs)
