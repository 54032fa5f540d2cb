-- `tables::modal::sources_by` meets its contract, action by action.
use Prim.Native.Nat.{◌+◌, ◌*◌}
use mathlib.Core.Bool.{cond}
use mathlib.Core.Path.{◌≡◌, sym, ap, ap₂, ◌∙◌}
use native.Mathlib.Omega.{arith}
use lib.Bits.{bit_or, or_zero_r}
use Rattle.flc.specs.Formula.{actions}
use Rattle.case_plan.specs.Plans.{decoded}
use Rattle.tables.proofs.Gathering.{sources_below, below_none, below_more, below_all}
use Rattle.tables.proofs.modal.sources_by.Goals as goal
use Rattle.tables.proofs.modal.sources_by.Goals.{then-has, else-has}

pub loop-a-init : goal.loop-a-init
loop-a-init c = below_none (decoded c.args.plan.now) c.args.group c.args.t

pub loop-a-preserved : goal.loop-a-preserved
loop-a-preserved c =
    let z = c.requires.0 in
    let more = below_more z c.args.group c.args.t (omega (arith, z.few)) c.loop-a.a (omega arith) in
    let y = (decoded c.args.plan.now).sources (8 * c.args.t + c.loop-a.a) in
    elim c.if-has.branch [
      | then-has w ↦
          let q = ap (λ b. cond b y 0) (sym c.has.ensures ∙ w.if-has.true) in
          w.states-is ∙ ap₂ bit_or c.loop-a.invariant (w.source-states.ensures ∙ sym q) ∙ sym more
      | else-has w ↦
          let q = ap (λ b. cond b y 0) (sym c.has.ensures ∙ w.if-has.false) in
          w.states-is ∙ sym (or_zero_r c.loop-a.states) ∙ ap₂ bit_or c.loop-a.invariant (sym q) ∙ sym more
    ]

pub returns : goal.returns
returns c =
    let p = decoded c.args.plan.now in
    let all : c.loop-a.a ≡ actions = omega arith in
    c.loop-a.invariant ∙ ap (sources_below p c.args.group c.args.t) all ∙ below_all p c.args.group c.args.t
