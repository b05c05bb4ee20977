-- A file that passes a check is restored.
use Rattle.crx_filter.proofs.Vocabulary
use Vocabulary.{ℕ, List, Option, sym, ◌∙◌, At, arith, common_steps, checked, IsResult, Device}
use Rattle.crx_filter.proofs.standard.CheckStandard.{named-where_not, none-where_0}
use Rattle.crx_filter.proofs.anywriter.RestoredFiles.{standard-comes_back}
use Rattle.crx_filter.specs.meaning.Lossless.{WhatPassesComesBack, SaysThatItComesBack}

pub what-passes : WhatPassesComesBack
what-passes file e compacting expanding dated =
    grind (arith, common_steps, standard-comes_back, none-where_0, named-where_not)

-- ---- in runs

pub says-so : (writer messages : Device) (status : ℕ) (fault : Option At) (file : List ℕ)
    → IsResult (checked file) writer messages status fault → SaysThatItComesBack status file
says-so writer messages status fault file ran zero_status = what-passes file (sym ran.status_is ∙ zero_status)
