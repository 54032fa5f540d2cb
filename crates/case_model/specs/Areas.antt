-- What a lent area, or an array, holds after a run of bytes or words was stored in it. The contracts of the code behind the entries cite it.
use Rattle.std.specs.Prelude.{ℕ, ◌+◌, ◌≤◌, ◌<◌, List, ◌≡◌, length, get_or}
use Rattle.std.proofs.lemmas.List.Edits.{sets}
use Rattle.flc.specs.Functions.{Fun}

-- v is w with the run l from `base` on, which ends at `end`
pub record Laid (w v : List ℕ) (base end : ℕ) (l : List ℕ) : Type 0 where
  pub is : v ≡ sets w base l
  pub ends : end ≡ base + length l
  pub long : length v ≡ length w

-- the words of w from `base` on
abbrev pub from : List ℕ → ℕ → Fun
from w base x = get_or w (base + x) 0

-- v is w with `count` words from `base` on filled by f
pub record Filled (w v : List ℕ) (base count : ℕ) (f : Fun) : Type 0 where
  pub long : length v ≡ length w
  pub inside : (x : ℕ) → x < count → from v base x ≡ f x
  pub under : (p : ℕ) → p < base → get_or v p 0 ≡ get_or w p 0
  pub over : (p : ℕ) → base + count ≤ p → get_or v p 0 ≡ get_or w p 0
