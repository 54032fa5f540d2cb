-- `case_reader::reach::spread` ends: each call goes to the node below.
use Rattle.case_reader.proofs.reach.+spread.Given as goal

abbrev pub decreases-spread : goal.decreases-spread
decreases-spread l = l.k
