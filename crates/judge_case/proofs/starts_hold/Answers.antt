-- `judge_case::starts_hold` meets its contract: each start state is looked up.
use Prim.Native.Nat.{ℕ}
use mathlib.Core.Bool.{Bool}
use mathlib.Core.Path.{ap, ◌∙◌}
use Rattle.std.proofs.Common.{rules}
use Rattle.flc.proofs.Chains.{all_below}
use Rattle.flc.specs.Sets.{for_all, has}
use Rattle.case_model.specs.Bytes.{byte_at}
use Rattle.case_model.specs.Case.{read}
use Rattle.case_model.specs.Run.{every_start}
use Rattle.judge_case.proofs.starts_hold.Goals as goal

pub returns : goal.returns
unfolding every_start
returns c =
    let p : ℕ → Bool = λ i. has c.args.set (byte_at (read c.args.file.now).starts i) in
    all_below _ _ p c.all.ensures.ran (λ x b q k. search rules) ∙ ap (λ n. for_all n p) c.start_count-count.ensures.is
