use Rattle.crx_compact.proofs.Vocabulary.{◌≡◌, List, ℕ}
use Rattle.crx_compact.proofs.Vocabulary.{map, ap, arith, length, ◌≤◌}
use Rattle.crx_compact.proofs.Vocabulary.{◌∙◌, rules, err_from_is_err_and}
use Rattle.crx_compact.proofs.Vocabulary.{patched, past_of_tail}
use Rattle.crx_compact.proofs.Vocabulary.{satellites_of_line, satellites_of_text}
use Rattle.crx_compact.proofs.Vocabulary.{OpenHistory, PlacedRows, padded_among, tail_of_history}
use Rattle.crx_compact.proofs.{Vocabulary.{RowTail, and_parts, satellite_of}, GoodResults.{by_ok}}
use Rattle.crx_compact.proofs.{RepeatedNames.named-kept, AnnouncedRows.announced-rows, EpochLines.text-few}
use Rattle.crx_compact.proofs.history.History.read_epoch_line.Goals.{After-bytes-text}
use Rattle.crx_compact.proofs.history.History.read_epoch_line.Goals as goal
use Rattle.std.proofs.lemmas.Grind.{common_steps}

-- the text that the line makes
text : (c : After-bytes-text) → c.bytes-text.result.now ≡ patched c.args.self.now.text c.args.line.now
text c = grind (arith, common_steps, by_ok)

-- the line and its text have the same satellites, or the same fault
same : (c : After-bytes-text)
    → satellites_of_line c.args.types.now (past_of_tail (tail_of_history c.args.self.now)) c.args.line.now
    ≡ satellites_of_text c.args.types.now c.bytes-text.result.now
same c = grind (arith, common_steps)

-- the text is at most as long as an epoch text
pub put_first-requires : goal.put_first-requires
put_first-requires c =
    let at = (goal.at.put_first-requires c).After-bytes-text in
    let read = c.in_ok-read_satellites.ensures.ok in
    let few = text-few c.args.types.now (tail_of_history c.args.self.now) c.args.line.now read.satellites
    (same at ∙ read.read) in
    let short : length c.bytes-text.result.now ≤ 3038 =
    omega (arith, few, ap (λ (t : List ℕ). length t) (text at)) in
    search (rules, short)

-- the rows of the previous epoch are expected
awaited : (c : After-bytes-text) → c.begin_epoch.new.self.rest ≡ c.args.self.now.satellites.rows
awaited c = ap (λ (p : PlacedRows). p.rest) c.begin_epoch.ensures.begun
    ∙ ap (λ (h : OpenHistory). h.satellites.rows) c.self.view_is

-- if no mark is in the columns of their identifiers, the text names the expected satellites
pub read_satellites-requires-clause-named : goal.read_satellites-requires-clause-named
read_satellites-requires-clause-named c both =
    let at = (goal.at.read_satellites-requires-clause-named c).After-bytes-text in
    rw (text at, awaited at) (search (rules, named-kept, map, satellite_of, and_parts, c.requires.named))

pub returns-in_err-read_satellites : goal.returns-in_err-read_satellites
returns-in_err-read_satellites c =
    let p = err_from_is_err_and c.from_residual.result c.from_residual.ensures.1 in
    let at = (goal.at.returns-in_err-read_satellites c).After-bytes-text in
    rw (p.1, p.2) (search (rules, same at))

pub returns : goal.returns
returns c =
    let at = (goal.at.returns c).After-bytes-text in
    let found = c.in_ok-read_satellites.ensures.ok in
    let put = c.put_first.ensures in
    let rows = found.rows
    ∙ ap (λ (rest : List RowTail). map (padded_among rest) found.satellites)
    (awaited at) in
    record {
      ok = record {
        satellites = found.satellites;
        read = same at ∙ found.read;
        rows = rows;
        text = put ∙ text at;
        clock = ap (λ (h : OpenHistory). h.clock) c.self.view_is;
        announced = announced-rows c.args.types.now (tail_of_history c.args.self.now) c.args.line.now
            found.satellites _ (same at ∙ found.read) (put ∙ text at) rows found.awaited;
      };
      err = search rules;
    }
