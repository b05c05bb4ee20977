-- The promises of runs follow from the definition of runs, by the laws.
use Rattle.crx_filter.proofs.Vocabulary.{common_steps, arith, ℕ, ◌≡◌, List, Option, None, sym, subst, ◌∙◌}
use Rattle.crx_filter.proofs.Vocabulary.{lines_of, At, Choices, compacted, expanded, FilterResult, findings_of}
use Rattle.crx_filter.proofs.Vocabulary.{checked_by, checked, Device, IsResult}
use Rattle.crx_filter.proofs.standard.CheckStandard.{named-where_not, standard-exactly_where_same}
use Rattle.crx_filter.proofs.anywriter.RestoredFiles.{normal-comes_back, standard-comes_back, comes-back}
use Rattle.crx_filter.specs.meaning.Promises.{Keeps, BringsBackWhatWasCompacted, JudgesStandard}
use Rattle.crx_filter.specs.meaning.Standard.{Findings, report_status}
use Rattle.{crx_runs.specs.meaning.{Filters.Filter, Runs.Runs, Spans.Input}, std.specs.Prelude.◌↔◌}

-- a run keeps a promise that the result of each whole input keeps
pub kept : {result_of : List ℕ → FilterResult} {filter : Filter} {promise : List ℕ → Type 0} {input : Input}
    {writer messages : Device} {status : ℕ} {fault : Option At}
    → Runs result_of filter input writer messages status fault
    → ((text : List ℕ) → IsResult (result_of text) writer messages status fault → promise text)
    → Keeps promise input writer messages fault
kept h1 h2 = grind (arith)

-- ---- the way back

pub brings-back : (expanding : Choices) (writer messages : Device) (status : ℕ) (fault : Option At)
    (text : List ℕ) → IsResult (expanded text expanding) writer messages status fault
    → BringsBackWhatWasCompacted writer messages status fault text
brings-back expanding writer messages status fault text ran file compacting dated same =
    grind (arith, common_steps, expanded, compacted, standard-comes_back, normal-comes_back, comes-back)

-- ---- standard files

both-ways : {P Q R : Type 0} → P ↔ Q → Q ↔ R → P ↔ R
both-ways first second = (λ p. second.0 (first.0 p), λ r. first.1 (second.1 r))

same-number : (a b : ℕ) → a ≡ b → (a ≡ 0) ↔ (b ≡ 0)
same-number a b e = (λ zero. sym e ∙ zero, λ zero. e ∙ zero)

none-where_0 : (named : Option ℕ) → (report_status named ≡ 0) ↔ (named ≡ None)
none-where_0 v1 = grind (arith)

pub judges-standard : (writer messages : Device) (status : ℕ) (fault : Option At) (file : List ℕ)
    → IsResult (checked file) writer messages status fault → JudgesStandard writer status file
judges-standard writer messages status fault file ran good =
    let found : Findings = findings_of (lines_of file) in
    let here : IsResult (checked_by None found) writer messages status fault =
    subst (λ o. IsResult (checked_by o found) writer messages status fault) good ran in
    let yes = both-ways (same-number status (report_status found.not_standard) here.status_is)
    (none-where_0 found.not_standard) in
    search (both-ways, named-where_not, same-number, standard-exactly_where_same)
