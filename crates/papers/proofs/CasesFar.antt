-- The rows, by computing them all at once.
use mathlib.Core.Path.{refl}
use Rattle.meaning.specs.Claim.{rounds, changes_tail, one_kind}
use Rattle.meaning.proofs.CasesRows.{after_all}
use Rattle.papers.specs.CasesFar.{bounded, most_of, right, table, FarCases}

pub far_cases : FarCases
unfolding after_all rounds changes_tail one_kind bounded most_of right table
far_cases = record { rows_right = refl }
