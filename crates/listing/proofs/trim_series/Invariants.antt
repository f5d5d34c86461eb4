use Rattle.listing.proofs.Series.{SeriesTurn}
use Rattle.listing.proofs.trim_series.Given as goal

abbrev pub invariant-loop-j : goal.invariant-loop-j
invariant-loop-j l = SeriesTurn l.initial.work l.text.count l.text.lines l.number l.text.job.setting l.text.job.mark l.initial.counts l.work l.counts l.j l.p
