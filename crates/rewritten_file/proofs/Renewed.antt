-- The case that a right plan makes: it is valid, its nodes are triples of bytes, and they are the old ones renamed, with those put in between.
-- By the laws of rewriting; the nodes by their places in the list; bytes because a valid case is written in bytes, and reading gives it back.
use Prim.Native.Nat.{ℕ, suc, ◌+◌, ◌-◌, ◌*◌, ◌/◌, ◌≤◌, ◌<◌}
use mathlib.Core.List.{List}
use mathlib.Core.Path.{◌≡◌, refl, sym, ap, ◌∙◌, subst}
use native.Mathlib.Omega.{arith}
use lib.ListN.{length}
use Rattle.case_model.specs.Limits.{standard}
use Rattle.case_model.specs.Bytes.{byte_at, size, section}
use Rattle.case_model.specs.Case.{Case, triple_at, read, write, at}
use Rattle.case_model.specs.Kinds.{Triple}
use Rattle.case_model.specs.Rewriting.{swap, renamed, rewrite}
use Rattle.case_model.specs.Valid.{Valid}
use Rattle.case_model.proofs.Lists.{length-list_of, get_or-list_of}
use Rattle.case_model.proofs.SectionBytes.{section_small}
use Rattle.case_model.proofs.Valid.{accepted_valid}
use Rattle.case_model.proofs.Codec.{read-write}
use Rattle.case_model.proofs.Written.{write_bytes}
use Rattle.case_model.proofs.Swapped.{Fit, length_new, new_low, new_mid, new_high}
use Rattle.case_model.proofs.NineLaws.{Brings, the_fit, brings}
use Rattle.case_model.proofs.Rewritten.{rewritten_valid}
use Rattle.case_reader.specs.Read.{triple}
use Rattle.case_reader.specs.declared.parts.Triple as code
use Rattle.law_shapes.specs.Shapes.{placed, added, named}
use Rattle.rewritten_file.specs.Plans.{ByteTriple, renewed, Planned}
use Rattle.law_shapes.specs.declared.shapes.Shape.{Shape}
use Rattle.law_shapes.specs.declared.shapes.Shape.TheVariants as shape
use Rattle.rewritten_file.specs.declared.plan.Plan.{Plan}

-- ---- the nodes put in
placed-length : (s : Shape) → length (placed s) ≡ suc (added s)
placed-length (shape.Redirect n to) = refl
placed-length (shape.One x) = refl
placed-length (shape.Two x y) = refl
placed-length (shape.Three x y z) = refl

pub placed_nodes : (c : Case) (j : ℕ) (s : Shape) → (g : ℕ → ℕ) → j < length c.nodes
    → length (rewrite c j (swap (placed s) g)).nodes ≡ length c.nodes + added s
placed_nodes c j s g w = omega (arith, placed-length s, length_new c j (placed s) g w)

-- ---- what is read from bytes
node_small : (f : List ℕ) → ((i : ℕ) → byte_at f i < 256) → (i : ℕ) → i < length (read f).nodes
    → (t : code.Triple) → triple t ≡ at (read f).nodes i → ByteTriple t
node_small f h i l t e =
    let g : ℕ → Triple = λ i. triple_at (section f 2) (3 * i) in
    let q : triple t ≡ g i = e ∙ get_or-list_of (size f 2 / 3) g (0, 0, 0) i (omega (arith, length-list_of (size f 2 / 3) g)) in
    record {
      first = omega (arith, ap (λ (t : Triple). t.0) q, section_small f h 2 (3 * i));
      second = omega (arith, ap (λ (t : Triple). t.1) q, section_small f h 2 (3 * i + 1));
      third = omega (arith, ap (λ (t : Triple). t.2) q, section_small f h 2 (3 * i + 2));
    }

-- ---- a right plan
module _ {f : List ℕ} {p : Plan} (h : Planned f p) where
  old : Valid standard (read f)
  old = accepted_valid standard f h.accepted

  fit : Fit (read f) p.j (placed p.shape) (named p.j p.shape)
  fit = the_fit (subst (Brings (read f) p.j) h.is (brings old.rule p.j h.law))

  pub valid : Valid standard (renewed f p)
  valid = rewritten_valid old h.law p.j h.is (omega (arith, h.nodes, h.few))

  bytes : (i : ℕ) → byte_at (write (renewed f p)) i < 256
  bytes = write_bytes (renewed f p) valid (unfold rewrite in section_small f h.bytes 0)

  pub new_small : (i : ℕ) → i < p.nodes → (t : code.Triple) → triple t ≡ at (renewed f p).nodes i → ByteTriple t
  new_small i l =
      subst (λ (c : Case). (t : code.Triple) → triple t ≡ at c.nodes i → ByteTriple t) (read-write (renewed f p))
      (node_small (write (renewed f p)) bytes i (subst (λ (c : Case). i < length c.nodes) (sym (read-write (renewed f p))) (omega (arith, h.nodes))))

  pub root_small : (renewed f p).root < 256
  root_small = omega (arith, valid.rule.root, valid.rule.most)

  pub new_root : (x : ℕ) → x ≡ (read f).root → named p.j p.shape x ≡ (renewed f p).root
  unfolding rewrite
  new_root x e = ap (named p.j p.shape) e

  -- node i, by where it stands
  pub node_low : (i : ℕ) → i < p.j → at (renewed f p).nodes i ≡ renamed (named p.j p.shape) (at (read f).nodes i)
  node_low = new_low (read f) p.j (placed p.shape) (named p.j p.shape) fit.within

  pub node_placed : (i : ℕ) → p.j ≤ i → i ≤ p.j + added p.shape → at (renewed f p).nodes i ≡ at (placed p.shape) (i - p.j)
  node_placed i l k =
      ap (at (renewed f p).nodes) (omega arith)
      ∙ new_mid (read f) p.j (placed p.shape) (named p.j p.shape) fit.within (i - p.j) (omega (arith, placed-length p.shape))

  pub node_high : (i : ℕ) → p.j + added p.shape < i
      → at (renewed f p).nodes i ≡ renamed (named p.j p.shape) (at (read f).nodes (i - added p.shape))
  node_high i k =
      let n = placed-length p.shape in
      ap (at (renewed f p).nodes) (omega arith)
      ∙ new_high (read f) p.j (placed p.shape) (named p.j p.shape) fit.within (i - added p.shape) (omega arith)
