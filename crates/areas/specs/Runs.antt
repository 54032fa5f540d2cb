-- Two runs of entries of an area, compared; and one that became the other.
use Rattle.std.specs.Prelude.{ℕ, ◌<◌, Bool, true, false, List, ◌≡◌, get_or}
use Rattle.case_model.specs.Areas.{Filled, from}

-- the first i entries are equal, as `equal` compares them
abbrev pub Same : {T : Type 0} → (T → T → Bool) → List T → List T → ℕ → Type 0
Same {T} equal v w i = (k : ℕ) (d : T) → k < i → equal (get_or v k d) (get_or w k d) ≡ true

-- v is w with the run at b also at c, and nothing has changed just if it was there already
pub record Advanced (w v : List ℕ) (b c count : ℕ) (changed : Bool) : Type 0 where
  pub filled : Filled w v c count (from w b)
  pub stood : changed ≡ false → (x : ℕ) → x < count → from w b x ≡ from w c x
  pub stands : ((x : ℕ) → x < count → from w b x ≡ from w c x) → changed ≡ false
