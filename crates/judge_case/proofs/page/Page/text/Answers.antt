-- `judge_case::page::Page::text` meets its contract: the part of the page behind its own text is a copy of the other.
use mathlib.Core.Path.{◌≡◌, refl, ap, ◌∙◌}
use Prim.Native.Nat.{◌+◌, ◌-◌}
use native.Mathlib.Omega.{arith}
use borrow.Rule.Slice.PartMut.{put_mid}
use lib.ListN.{length}
use lib.Seq.{sets, sets-eq, length-sets}
use Rattle.std.proofs.Common.{append_assoc}
use Rattle.std.proofs.lemmas.List.{drop-drop}
use Rattle.judge_case.proofs.page.Page.text.Goals as goal

pub returns : goal.returns
returns c =
    let a = c.args in
    let base = a.self.length in
    let what = a.what.now in
    let count = base + length what - base in
    let k : base + count ≡ base + length what = omega arith in
    let is : put_mid base count a.self.bytes c.copy_from_slice.new.self ≡ sets a.self.bytes base what =
    rw (c.copy_from_slice.ensures.after, drop-drop, k, sets-eq what a.self.bytes base (omega (arith, c.requires)), append_assoc) in
    record { is = is; ends = refl; long = ap length is ∙ length-sets a.self.bytes base what }
