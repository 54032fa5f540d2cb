-- `areas::advance` meets its contract: one entry more was equal just if the test at it finds no change.
use Prim.Native.Nat.{ℕ, ◌+◌, ◌<◌}
use mathlib.Core.Bool.{Bool, true, false, not, ◌||◌}
use mathlib.Core.List.{List, [], ◌∷◌, ◌++◌}
use mathlib.Core.Path.{◌≡◌, refl, sym, ap, ap₂, ◌∙◌}
use native.Mathlib.Nat.{le_refl}
use native.Mathlib.Omega.{arith}
use borrow.Author.Count.{below_more}
use lib.ListN.{length, get_or}
use lib.Seq.{get_or-set_other}
use Rattle.std.proofs.Common.{rules, ◌↔◌}
use Rattle.std.proofs.lemmas.Bool.{not-false}
use Rattle.std.proofs.lemmas.List.{take_more, take_more_set, get_or_default}
use Rattle.areas.specs.Runs.{Same}
use Rattle.areas.proofs.advance.Goals as goal

neither : (a b : Bool) → (a || b) ≡ false → (a ≡ false) × (b ≡ false)
neither false b e = (refl, e)
neither true b e = absurd (let z : true ≡ false = e in cc)

same_more : {T : Type 0} (eq : T → T → Bool) (v w : List T) (i : ℕ) (x y : T) → i < length v → i < length w → x ≡ get_or v i x → y ≡ get_or w i y
    → (told now : Bool) → now ≡ not (eq x y) → ((told ≡ false) ↔ Same eq v w i) → ((told || now) ≡ false) ↔ Same eq v w (i + 1)
same_more {T} eq v w i x y l k e q told now n (to, from) = (
  (λ z j d h. let (a, b) = neither told now z in below_more (λ j. eq (get_or v j d) (get_or w j d) ≡ true) i (λ j h. to a j d h)
      (ap₂ eq (get_or_default v i d x l ∙ sym e) (get_or_default w i d y k ∙ sym q) ∙ not-false _ (sym n ∙ b)) j h),
  (λ s.
      let f = from (λ j d h. s j d (omega arith)) in
      let r : eq x y ≡ true = ap₂ eq e (q ∙ get_or_default w i y x k) ∙ s i x (omega arith) in
      ap₂ (λ a b. a || b) f (n ∙ ap not r)),
)

pub loop-i-preserved : goal.loop-i-preserved
loop-i-preserved g c =
    let (a, b, n, same) = c.loop-i.invariant in
    let y = c.index-source-i.is in
    let x = c.index-target-i.is in
    let i = c.loop-i.i in
    let t = c.loop-i-test.true in
    let room : i < length c.loop-i.target = omega arith in
    let there : i < length c.args.source.now = omega arith in (
      take_more_set c.loop-i.target i c.index-source-i.result room ∙ ap₂ (λ l y. l ++ y ∷ []) a y ∙ sym (take_more c.args.source.now i c.index-source-i.result there),
      (λ k d h. get_or-set_other c.loop-i.target i k _ d (λ z. omega arith) ∙ b k d (omega arith)),
      search rules,
      same_more g.T.PartialEq.eq c.args.target.now c.args.source.now i c.index-target-i.result c.index-source-i.result (omega arith) there
          (x ∙ b i _ (le_refl i)) y _ _ (c.ne-changed.ensures ∙ ap (λ x. not (g.T.PartialEq.eq x c.index-source-i.result)) (sym x)) same,
    )
