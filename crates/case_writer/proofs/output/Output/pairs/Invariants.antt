-- `case_writer::output::Output::pairs` meets its contract: after i turns the first i pairs are written.
use Rattle.case_writer.proofs.Pairs.{Pairing}
use Rattle.case_writer.proofs.output.Output.pairs.Given as goal

abbrev pub invariant-loop-size : goal.invariant-loop-size
invariant-loop-size l = Pairing l.sizes l.initial.self l.self l.size-index l.offset
