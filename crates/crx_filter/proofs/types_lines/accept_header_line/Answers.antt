use Rattle.crx_filter.proofs.TypesLines.{if-none, refused-first}
use Rattle.crx_filter.proofs.types_lines.accept_header_line.Goals.{then-is_first+in_ok-header_first}
use Rattle.crx_filter.proofs.types_lines.accept_header_line.Goals.{else-is_first}
use Rattle.std.proofs.lemmas.Result.{err_from_is_err_and}
use Rattle.{crx_header.specs.meaning.Header.first_header_fault, std.proofs.Common.{◌≡◌, None, if◌then◌else◌}}
use Rattle.crx_filter.proofs.types_lines.accept_header_line.Goals as goal

pub returns-in_err-accept_line-clause-refused : goal.returns-in_err-accept_line-clause-refused
returns-in_err-accept_line-clause-refused c =
    let line = c.args.line.now in
    let good : (if c.args.is_first then first_header_fault line else None) ≡ None =
    elim c.if-is_first.branch [
      | then-is_first+in_ok-header_first w ↦
          if-none c.args.is_first (first_header_fault line) w.in_ok-header_first.ensures.fault
      | else-is_first w ↦ search w.if-is_first
    ] in
    let p = err_from_is_err_and c.from_residual-in_err-accept_line.result
    c.from_residual-in_err-accept_line.ensures.1 in
    rw (p.1, p.2) (refused-first c.args.types.now _ line _ good c.in_err-accept_line.ensures.bad)
