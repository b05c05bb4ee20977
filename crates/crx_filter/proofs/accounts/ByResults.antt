-- The promises of compactions, expansions and checks follow from the definitions of their results, by the laws.
use Rattle.crx_filter.proofs.Vocabulary
use Vocabulary.{common_steps, arith, ℕ, ◌≡◌, List, ap, sym, ◌∙◌, subst, append-nil, Choices, compacted, expanded}
use Vocabulary.{checked, FilterResult}
use Rattle.crx_filter.proofs.accounts.{OwnedLines.{file-told, text-told}, LinesLeftOut.leaves-out}
use Rattle.crx_filter.proofs.accounts.ShortBlocks.{short-blocks}
use Rattle.crx_filter.proofs.anywriter.{RunsOfAnyText.reads-any, AcceptedTexts.only-text}
use Rattle.crx_filter.proofs.wayback.{Canonical.same-compaction, ExpandedStandard.expanded-standard}
use Rattle.crx_filter.proofs.{anywriter.RestoredFiles.texts-of_units, standard.CheckStandard.named-where_not}
use Rattle.crx_filter.{proofs.standard.Lossless.what-passes, specs.meaning.Accounts.AccountsForFile}
use Rattle.crx_filter.specs.meaning.{Accounts.AccountsForText, ByResults.{CompactionKeeps, ExpansionKeeps}}
use Rattle.crx_filter.specs.meaning.ByResults.{CheckKeeps, GivesBackWhatPasses}
use Rattle.crx_runs.specs.meaning.Messages.{error_text}

-- ---- nothing is lost in silence

pub accounts-for_file : (choices : Choices) (file : List ℕ)
    → AccountsForFile choices file (compacted file choices)
accounts-for_file choices file good = grind (arith, common_steps, file-told, append-nil, error_text)

pub accounts-for_text : (choices : Choices) (text : List ℕ)
    → AccountsForText choices.skip text (expanded text choices)
accounts-for_text choices text good = grind (arith, common_steps, text-told, append-nil, error_text)

-- ---- by the facts of a result

pub compaction-keeps : (holds : FilterResult → Type 0) (choices : Choices) (file : List ℕ)
    → holds (compacted file choices) → CompactionKeeps holds choices file
compaction-keeps holds choices file ran = record {
  units = λ units h same. subst holds (ap (λ t. compacted t choices) same
      ∙ (texts-of_units units choices choices h).compaction) ran;
  canonical = λ other h k same. subst holds (same-compaction file other choices h k (sym same)) ran;
  accounted = (compacted file choices, ran, accounts-for_file choices file);
  left_out = (compacted file choices, ran, leaves-out choices file);
  blocks = (compacted file choices, ran, short-blocks choices file);
}

pub gives-back : (holds : FilterResult → Type 0) (choices : Choices) (text : List ℕ)
    → holds (expanded text choices) → GivesBackWhatPasses holds text
gives-back holds choices text ran file compacting dated passed same = subst holds
    (ap (λ t. expanded t choices) same ∙ what-passes file passed compacting choices dated) ran

pub expansion-keeps : (holds : FilterResult → Type 0) (choices : Choices) (text : List ℕ)
    → holds (expanded text choices) → ExpansionKeeps holds choices.skip text
expansion-keeps holds choices text ran = record {
  units = grind (arith, common_steps, texts-of_units);
  any_writer = reads-any holds choices text ran;
  no_other = (expanded text choices, ran, only-text text choices);
  standard = (expanded text choices, ran, λ good plain. (expanded-standard text choices good).standard plain);
  accounted = (expanded text choices, ran, accounts-for_text choices text);
}

pub check-keeps : (status : ℕ) (file : List ℕ) → status ≡ (checked file).status → CheckKeeps status file
check-keeps status file is = grind (arith, common_steps, what-passes, named-where_not)
