-- `merged_steps::rows::count` meets its contract: there are as many steps as bits in the rows.
use Rattle.std.proofs.Common.{rules, tests}
use mathlib.Core.Path.{◌∙◌}
use native.Mathlib.Omega.{arith}
use lib.Count.{ones}
use Rattle.std.proofs.lemmas.Iterator.{YieldsList-from_slice, YieldsList-from_map}
use Rattle.std.proofs.lemmas.Iterator.Consumers.{sum_by_from_yields_List, fits_by_from_yields_list}
use Rattle.merged_steps.proofs.Counting.{steps_counted}
use Rattle.merged_steps.proofs.Relations.{order_few}
use Rattle.merged_steps.proofs.rows.count.Goals as goal

pub sum-requires-clause-fits : goal.sum-requires-clause-fits
sum-requires-clause-fits c =
    fits_by_from_yields_list ones c.args.rows.now _ _
    (YieldsList-from_map _ ones (YieldsList-from_slice c.args.rows.now cc) c.map.ensures.closure (λ x r q k. search (rules, tests)))
    (omega (arith, steps_counted c.args.rows.now c.fits-rows c.told-rows, order_few))

pub returns : goal.returns
returns c =
    sum_by_from_yields_List ones c.args.rows.now c.map.result _ c.sum.ensures.ran
    (YieldsList-from_map _ ones (YieldsList-from_slice c.args.rows.now cc) c.map.ensures.closure (λ x r q k. search (rules, tests)))
    ∙ steps_counted c.args.rows.now c.fits-rows c.told-rows
