-- The rounds of `iterate` on the byte area: what stands where they begin, the loop's invariant, one round, and the two ends. The laws on blocks
-- of sets are those of regular_model.
use Prim.Native.Nat.{ℕ, suc, ◌+◌, ◌*◌, ◌^◌, ◌≤◌, ◌<◌}
use mathlib.Core.Bool.{Bool, true, false, cond}
use mathlib.Core.List.{List}
use mathlib.Core.Path.{◌≡◌, refl, sym, ap, ap₂, ◌∙◌, subst}
use native.Mathlib.Omega.{arith}
use lib.Bits.{bit_or, or_lt}
use lib.Dec.{eqb}
use lib.ListN.{length}
use lib.Pow.{pow-lt}
use Rattle.std.specs.Prelude.{Option, Some, None}
use Rattle.flc.specs.Nodes.{bind}
use Rattle.case_model.specs.Limits.{variables}
use Rattle.case_model.specs.Kinds.{Triple}
use Rattle.case_model.specs.Case.{read, table}
use Rattle.case_model.proofs.Nodes.{fits_bind}
use Rattle.case_plan.specs.Moves.{direction, goes_on}
use Rattle.case_plan.specs.declared.moves.Direction.{Direction}
use Rattle.case_plan.specs.declared.moves.Direction.TheVariants.{Up, Down}
use Rattle.case_plan.specs.Plans.{Plan, nodes_of}
use Rattle.case_plan.proofs.Scopes.{node_fits}
use Rattle.regular_model.specs.Values.{begin}
use Rattle.regular_model.specs.Blocks.{Ready, Placed, Turning}
use Rattle.regular_model.specs.HeldSets.{held_at, blocks, Stored}
use Rattle.regular_model.proofs.Iterates.{begin_small}
use Rattle.regular_model.proofs.Framed.{Framed}
use Rattle.regular_model.proofs.Loop as loops
use Rattle.regular_model.proofs.SetBytes.{held_lt, stored_placed}
use Rattle.regular_sets.specs.Views.{frame, Advanced}
use Rattle.regular_sets.proofs.Made.{stored_as}
use Rattle.regular_engine.specs.Computing.{moved, begins, Refreshable, RefreshedBy, Computable, ComputedBy, Iterable}
use Rattle.regular_engine.proofs.Stepping.{framed, Stated, few_sets, block_room}

-- the number of a binder's direction
abbrev pub way : Bool → ℕ
way least = moved (Some (direction least))

-- a binder goes on if the numbers are the same
goes_by : (least : Bool) (grown : Option Direction) → goes_on (direction least) grown ≡ eqb (way least) (moved grown)
goes_by true None = refl
goes_by true (Some Up) = refl
goes_by true (Some Down) = refl
goes_by false None = refl
goes_by false (Some Up) = refl
goes_by false (Some Down) = refl

-- where the rounds of binder j begin: x is its node, m the set of its variable; its set is begun, from the area w to u
pub record Begun (f : List ℕ) (p : Plan) (w u : List ℕ) (j act : ℕ) (grown : Option Direction) (least : Bool) (x : Triple) (m : ℕ) : Type 0 where
  pub stated : Stated f p
  pub iterable : Iterable f p w j act least
  pub node : x ≡ p.nodes j
  pub mask : m ≡ 2 ^ x.1
  pub stored : Stored w u (64 * j) (begins least grown p.states (held_at w (64 * j)))

-- the invariant of the rounds: from the area u they have come to v
pub record TurningBy (f : List ℕ) (p : Plan) (u v : List ℕ) (j act : ℕ) (least : Bool) (r : ℕ) (since : Option Direction) : Type 0 where
  pub long : length v ≡ length u
  pub is : Turning (frame (read f) p) (blocks u) (blocks v) j act least (p.nodes j).1 (p.nodes j).2 r (moved since)

module _ {f : List ℕ} {p : Plan} where
  -- the variable's number is one of the variables, and the body is a lower node
  pub operands_low : {w : List ℕ} {j act : ℕ} {least : Bool} {x : Triple} → Iterable f p w j act least → x ≡ p.nodes j
      → (x.1 < variables) × (x.2 < j)
  operands_low {j = j} I e = subst (λ (x : Triple). (x.1 < variables) × (x.2 < j)) (sym e)
      (fits_bind (nodes_of p j) (node_fits I.computable.area.rule j I.computable.area.ready.below) I.binds)

  module _ {w u : List ℕ} {j act : ℕ} {grown : Option Direction} {least : Bool} {x : Triple} {m : ℕ}
      (S : Begun f p w u j act grown least x m) where
    C : Computable f p w j act
    C = S.iterable.computable

    W : Framed (frame (read f) p)
    W = framed f C.area.rule

    abbrev v : ℕ
    v = (p.nodes j).1

    abbrev b : ℕ
    b = (p.nodes j).2

    binds : nodes_of p j ≡ bind least v b
    binds = S.iterable.binds

    abbrev old : ℕ
    old = held_at w (64 * j)

    -- what its set begins with
    abbrev begun : ℕ
    begun = cond (eqb (way least) (moved grown)) old (begin least (length (read f).labels))

    begun_small : begun < 2 ^ 256
    begun_small = go (eqb (way least) (moved grown))
      where
        go : (t : Bool) → cond t old (begin least (length (read f).labels)) < 2 ^ 256
        go true = held_lt w (64 * j)
        go false = few_sets S.stated _ (begin_small least (length (read f).labels))

    placed : Placed (blocks w) (blocks u) j begun
    placed = stored_placed j _ begun_small (stored_as S.stored
        (ap₂ (λ n t. cond t old (begin least n)) S.stated.states (goes_by least grown)))

    wide : m ≡ 2 ^ v
    wide = S.mask ∙ ap (λ (t : Triple). 2 ^ t.1) S.node

    some : 0 < way least
    some = elim least as (λ d. 0 < way d) [ true ↦ omega arith | false ↦ omega arith ]

    flag : eqb (way least) 1 ≡ least
    flag = elim least as (λ d. eqb (way d) 1 ≡ d) [ true ↦ refl | false ↦ refl ]

    restart : Ready (frame (read f) p) (blocks u) (suc j) act
    unfolding table
    restart = loops.restart W C.area.ready C.within least v b binds (way least) (moved grown) some flag placed

    pub turning_start : TurningBy f p u u j act least 0 None
    turning_start = record { long = refl; is = loops.turning_start W restart C.within least v b binds }

    -- after some rounds
    module _ {y : List ℕ} {r : ℕ} {since : Option Direction} (T : TurningBy f p u y j act least r since) where
      pub round_refreshable : Refreshable f p y j act (bit_or act m)
      round_refreshable = subst (λ m. Refreshable f p y j act (bit_or act m)) (sym wide) (record {
        area = record {
          rule = C.area.rule;
          room = omega (arith, T.long, S.stored.long, C.area.room);
          mask = or_lt 18 act (2 ^ v) C.area.mask (pow-lt {i = v} {j = 18} (omega (arith, (operands_low S.iterable refl).0)));
          ready = loops.wide_ready W restart C.within least v b binds T.is.kept;
        };
        small = C.area.mask;
      })

      pub iterated_late : p.states ≤ r → ComputedBy f p w y j act grown
      unfolding table
      iterated_late h = record {
        long = T.long ∙ S.stored.long;
        is = loops.computed_late W C.area.ready C.within least v b binds (way least) (moved grown) some flag placed T.is
            (omega (arith, S.stated.states));
      }

      -- one more: the nodes below are computed, from y to z
      module _ {z : List ℕ} (R : RefreshedBy f p y z j act (bit_or act m) since) where
        lower : RefreshedBy f p y z j act (bit_or act (2 ^ v)) since
        lower = subst (λ m. RefreshedBy f p y z j act (bit_or act m) since) wide R

        pub binder_room : 64 * j + 32 ≤ length z
        binder_room = omega (arith, block_room C.area, R.long, T.long, S.stored.long)

        -- then the binder's set is the body's, in the area a
        module _ {a : List ℕ} {changed : Bool} (A : Advanced z a (64 * x.2) (64 * j) changed) where
          body : Advanced z a (64 * b) (64 * j) changed
          body = subst (λ (t : Triple). Advanced z a (64 * t.2) (64 * j) changed) S.node A

          moved_to : Placed (blocks z) (blocks a) j (blocks z b)
          moved_to = stored_placed j _ (held_lt z (64 * b)) body.stored

          turned_long : length a ≡ length u
          turned_long = A.stored.long ∙ R.long ∙ T.long

          pub turning_next : TurningBy f p u a j act least (r + 1) (Some (direction least))
          turning_next =
              let e : suc r ≡ r + 1 = omega arith in
              record {
                long = turned_long;
                is = subst (λ r. Turning (frame (read f) p) (blocks u) (blocks a) j act least v b r (way least)) e
                    (loops.turning_again W restart C.within least v b binds T.is lower.is moved_to (way least) flag);
              }

          pub iterated_early : changed ≡ false → ComputedBy f p w a j act grown
          unfolding table
          iterated_early q = record {
            long = turned_long ∙ S.stored.long;
            is = loops.computed_early W C.area.ready C.within least v b binds (way least) (moved grown) some flag placed
                T.is lower.is moved_to (body.stood q);
          }
