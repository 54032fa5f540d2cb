-- `tables::modal::modality` meets its contract: each turn doubles the filled part of the table, upwards for some step and downwards for all.
use Rattle.case_plan.specs.Plans.{decoded}
use Rattle.tables.proofs.Modalities.{Doubling}
use Rattle.tables.proofs.modal.modality.Given as goal

abbrev pub invariant-loop-s : goal.invariant-loop-s
invariant-loop-s l = Doubling (decoded l.plan) l.some l.group l.initial.work l.work l.c l.d l.h l.s
