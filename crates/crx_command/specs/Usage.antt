-- In addition to meaning/ErrorLines: how a fault of the arguments shows itself.
use Rattle.std.specs.Prelude.{ℕ, List, [], codes}
use Rattle.crx_command.specs.declared.job.UsageFault.{UsageFault}
use Rattle.crx_command.specs.declared.job.UsageFault.TheVariants as usage_fault

-- the words of the fault, and the text or the name after them. If the parser refuses the arguments, or memory
-- ran out, the program shows another line
abbrev pub words_of_usage : UsageFault → List ℕ
words_of_usage (usage_fault.Parse text) = []
words_of_usage usage_fault.DashTwice = codes "- given twice"
words_of_usage usage_fault.TwoFiles = codes "more than one file name"
words_of_usage usage_fault.BadDate = codes "bad date"
words_of_usage (usage_fault.NoName name) = codes "no output name for "
words_of_usage usage_fault.Memory = codes "out of memory"

abbrev pub subject_of_usage : UsageFault → List ℕ
subject_of_usage (usage_fault.Parse text) = text
subject_of_usage usage_fault.DashTwice = []
subject_of_usage usage_fault.TwoFiles = []
subject_of_usage usage_fault.BadDate = []
subject_of_usage (usage_fault.NoName name) = name
subject_of_usage usage_fault.Memory = []
