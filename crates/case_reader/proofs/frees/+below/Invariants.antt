-- `case_reader::frees::below` ends: each call goes to the node below.
use Rattle.case_reader.proofs.frees.+below.Given as goal

abbrev pub decreases-below : goal.decreases-below
decreases-below l = l.j
