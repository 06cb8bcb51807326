-- The turn of a node, by its cases. Assumes nothing.
use mathlib.Core.Path.{◌≡◌, refl, sym, ap, ap₂, subst, ◌∙◌}
use mathlib.Core.Logic.{inr}
use mathlib.Core.Bool.{Bool, true, false, cond, ◌&&◌, not}
use mathlib.Core.List.{List}
use Prim.Native.Nat.{ℕ, ◌+◌, ◌*◌, ◌≤◌, ◌<◌}
use native.Mathlib.Omega.{arith}
use borrow.Author.Tests.{eqb-true, eqb-false, eq-eqb, ne_eqb}
use lib.Dec.{eqb}
use lib.IntN.{ℤ}
use lib.ListN.{length, get_or, set, length-set}
use lib.Seq.{get_or-set_same, get_or-set_other}
use Rattle.model.specs.Machine.{Node}
use Rattle.model.specs.Run.{Setting, Run, stand_of, node_of}
use Rattle.model.proofs.Basics.Bools.{clash}
use Rattle.registers.specs.Words.{part_in, place_in}
use Rattle.std.specs.Prelude.{Option}
use Rattle.std.specs.Option.{is_some}
use Rattle.machine.specs.Running.{setting_in, view_in, Standing, Running}
use Rattle.machine.specs.Chosen.{op_of, Inside, Chosen}
use Rattle.machine.proofs.Frames.{stands_wider}
use Rattle.machine.proofs.Hearing.{node_at}
use Rattle.generator.specs.Xorshift.{next_of}
use Rattle.simulation.specs.Simulated.{Span, work_ticks, waits, is_sleep, is_listen, Trying, until_of, draws_at, went, Stuck}
use Rattle.simulator.specs.Tries.{Holds, Somewhere, Attempted, waits_by, StillAt}
use Rattle.simulator.proofs.Waiting.{waits_at, sleep_at, listen_at}
use Rattle.simulator.proofs.Still.{still_stuck}

module _ (program rows : List ℕ) (n H count tick c lo hi state : ℕ) (l : List ℕ) (v : List ℤ) (until : List ℕ) (there : c < count) where
  -- what the run goes by, and the times of work
  abbrev g : Setting
  g = setting_in program H rows n l count

  abbrev w : Span
  w = record { lo = lo; hi = hi }

  module _ {y : Trying} (h : Holds program rows n count tick c state l v until y) where
    here : node_of y.state c ≡ view_in program l v c
    here = node_at program l v count y.state h.running.nodes c there

    waits_now : waits y.state.tick (until_of y c) (stand_of (node_of y.state c)) ≡ waits_by (op_of program l v c) tick (get_or until c 0)
    waits_now =
        ap (λ (r : Node). waits y.state.tick (until_of y c) (stand_of r)) here
        ∙ (waits_at (part_in program l c) (place_in l c) y.state.tick (until_of y c)
        ∙ ap₂ (waits_by (op_of program l v c)) h.at (h.works c there))

    -- a draw is due
    draws_is : {l' : List ℕ} {v' : List ℤ} {u : Run} → Running program rows n l' v' count u → draws_at g w y u ≡ eqb (op_of program l v c) 0 && not (eqb (op_of program l' v' c) 5)
    draws_is {l'} {v'} {u} r =
        ap (λ (i : ℕ). is_sleep (stand_of (node_of y.state i)) && not (is_listen (stand_of (node_of u i)))) h.turn
        ∙ ap₂ (λ (a b : Bool). a && not b) (ap (λ (x : Node). is_sleep (stand_of x)) here ∙ sleep_at (part_in program l c) (place_in l c))
        (ap (λ (x : Node). is_listen (stand_of x)) (node_at program l' v' count u r.nodes c there) ∙ listen_at (part_in program l' c) (place_in l' c))

  -- it did not move
  not_moved : ((y : Trying) → Holds program rows n count tick c state l v until y → Stuck g w y c) → Attempted program rows n H count tick c lo hi state l v until false state l v until
  not_moved f = record { keeps = λ e. (refl, refl, refl, refl); stuck = λ e. f; free = λ e. clash e; goes = λ e. clash e; same = refl }

  -- it is still
  pub still : StillAt program l until c tick → Attempted program rows n H count tick c lo hi state l v until false state l v until
  still e = not_moved (λ y h. still_stuck program rows n H count tick c lo hi state l v until h c there e)

  module _ {out : List ℕ} {m : Option ℕ} {l' : List ℕ} {v' : List ℤ} {out' : List ℕ} (C : Chosen program rows n H count tick c l v out 0 m l' v' out') where
    -- it may not finish its statement
    pub refused : is_some m ≡ false → Attempted program rows n H count tick c lo hi state l v until false state l' v' until
    refused e =
        let k = C.keeps e in
        subst (λ (x : List ℕ). Attempted program rows n H count tick c lo hi state l v until false state x v' until) (sym k.0)
        (subst (λ (x : List ℤ). Attempted program rows n H count tick c lo hi state l v until false state l x until) (sym k.1)
        (not_moved (λ y h. inr (C.refuses e y.state h.running h.at))))

    -- it finishes it, and a number is drawn or not
    finished : (draws : Bool) → (eqb (op_of program l v c) 0 && not (eqb (op_of program l' v' c) 5)) ≡ draws → waits_by (op_of program l v c) tick (get_or until c 0) ≡ false → is_some m ≡ true → c < length until
        → setting_in program H rows n l' count ≡ setting_in program H rows n l count
        → Attempted program rows n H count tick c lo hi state l v until true (cond draws (next_of state) state) l' v' (cond draws (set until c (tick + work_ticks w (next_of state))) until)
    finished draws d free may long same =
        record {
          keeps = λ e. clash (sym e);
          stuck = λ e. clash (sym e);
          free = λ e y h. ap (λ (t : ℕ). waits t (until_of y c) (stand_of (node_of y.state c))) (sym h.at) ∙ (waits_now h ∙ free);
          goes = λ e y h. (let A = C.allows may y.state h.running h.at in (A.next, A.goes, A.used, held y h A.next A.running A.tick draws (draws_is h A.running ∙ d)));
          same = same;
        }
      where
        held : (y : Trying) → Holds program rows n count tick c state l v until y → (u : Run) → Running program rows n l' v' count u → u.tick ≡ y.state.tick
            → (x : Bool) → draws_at g w y u ≡ x
            → Holds program rows n count tick c (cond x (next_of state) state) l' v' (cond x (set until c (tick + work_ticks w (next_of state))) until) (went g w y u)
        held y h u r t false q =
            record {
              running = r;
              at = t ∙ h.at;
              turn = h.turn;
              draw = ap (λ (x : Bool). cond x (next_of y.draw) y.draw) q ∙ h.draw;
              full = ap (λ (x : Bool). length (cond x (set y.until y.turn (u.tick + work_ticks w (next_of y.draw))) y.until)) q ∙ h.full;
              works = λ i k. ap (λ (x : Bool). get_or (cond x (set y.until y.turn (u.tick + work_ticks w (next_of y.draw))) y.until) i 0) q ∙ h.works i k;
            }
        held y h u r t true q =
            record {
              running = r;
              at = t ∙ h.at;
              turn = h.turn;
              draw = ap (λ (x : Bool). cond x (next_of y.draw) y.draw) q ∙ ap next_of h.draw;
              full =
                  ap (λ (x : Bool). length (cond x (set y.until y.turn (u.tick + work_ticks w (next_of y.draw))) y.until)) q
                  ∙ (length-set y.until y.turn (u.tick + work_ticks w (next_of y.draw)) ∙ h.full);
              works = λ i k. ap (λ (x : Bool). get_or (cond x (set y.until y.turn (u.tick + work_ticks w (next_of y.draw))) y.until) i 0) q ∙ at i k (eqb i c) refl;
            }
          where
            value : u.tick + work_ticks w (next_of y.draw) ≡ tick + work_ticks w (next_of state)
            value = ap₂ (λ (a b : ℕ). a + work_ticks w (next_of b)) (t ∙ h.at) h.draw

            at : (i : ℕ) → i < count → (b : Bool) → eqb i c ≡ b
                → get_or (set y.until y.turn (u.tick + work_ticks w (next_of y.draw))) i 0 ≡ get_or (set until c (tick + work_ticks w (next_of state))) i 0
            at i k b z =
                ap₂ (λ (j x : ℕ). get_or (set y.until j x) i 0) h.turn value ∙ go b z
              where
                go : (b : Bool) → eqb i c ≡ b → get_or (set y.until c (tick + work_ticks w (next_of state))) i 0 ≡ get_or (set until c (tick + work_ticks w (next_of state))) i 0
                go true z =
                    let e = eqb-true i c z in
                    subst (λ (j : ℕ). get_or (set y.until c (tick + work_ticks w (next_of state))) j 0 ≡ get_or (set until c (tick + work_ticks w (next_of state))) j 0) (sym e)
                    (get_or-set_same y.until c (tick + work_ticks w (next_of state)) 0 (omega (arith, h.full)) ∙ sym (get_or-set_same until c (tick + work_ticks w (next_of state)) 0 long))
                go false z =
                    let e = eqb-false i c z in
                    get_or-set_other y.until c i (tick + work_ticks w (next_of state)) 0 e ∙ (h.works i k ∙ sym (get_or-set_other until c i (tick + work_ticks w (next_of state)) 0 e))

-- ## As the function has it

-- the slices stand
pub standing : {program rows : List ℕ} {n count tick : ℕ} {l : List ℕ} {v : List ℤ} → Somewhere program rows n count tick l v → Standing program rows n l v count
standing S =
    record {
      most = S.running.most;
      listed = S.running.listed;
      eight = S.running.eight;
      each = λ i h. stands_wider (S.state.used * 131070) 3000000000000000000 (omega (arith, S.used)) (S.running.each i h);
    }

-- the part of node c lies in the program
pub part_inside : {program rows : List ℕ} {n count : ℕ} {l : List ℕ} {v : List ℤ} {s : Run} → Running program rows n l v count s → (c : ℕ) → c < count → Inside program l c
part_inside r c h = record { inside = (r.each c h).inside; short = (r.each c h).short }

module _ (program rows : List ℕ) (n H count tick c lo hi state : ℕ) (l : List ℕ) (v : List ℤ) (until : List ℕ) (there : c < count) {out : List ℕ} {m : Option ℕ} {l' : List ℕ} {v' : List ℤ} {out' : List ℕ}
    (C : Chosen program rows n H count tick c l v out 0 m l' v' out') (S : Somewhere program rows n count tick l v) (may : is_some m ≡ true)
    {op : ℕ} (is : op ≡ op_of program l v c) (free : waits_by op tick (get_or until c 0) ≡ false) (room : 8 ≤ length until) where
  -- it finishes its statement
  goes : (draws : Bool) → (eqb (op_of program l v c) 0 && not (eqb (op_of program l' v' c) 5)) ≡ draws
      → Attempted program rows n H count tick c lo hi state l v until true (cond draws (next_of state) state) l' v' (cond draws (set until c (tick + work_ticks (record { lo = lo; hi = hi }) (next_of state))) until)
  goes draws d =
      finished program rows n H count tick c lo hi state l v until there C draws d (ap (λ (k : ℕ). waits_by k tick (get_or until c 0)) (sym is) ∙ free) may
      (omega (arith, S.running.most, there, room)) (C.allows may S.state S.running S.at).same

  -- no sleep
  pub no_sleep : (op ≡ 0 → ⊥) → Attempted program rows n H count tick c lo hi state l v until true state l' v' until
  no_sleep z = goes false (ap (λ (b : Bool). b && not (eqb (op_of program l' v' c) 5)) (ne_eqb (op_of program l v c) 0 (λ q. z (is ∙ q))))

  module _ (z : op ≡ 0) {op' : ℕ} (is' : op' ≡ op_of program l' v' c) where
    sleep : eqb (op_of program l v c) 0 ≡ true
    sleep = eq-eqb (op_of program l v c) 0 (sym is ∙ z)

    -- a sleep before a listen
    pub then_listens : op' ≡ 5 → Attempted program rows n H count tick c lo hi state l v until true state l' v' until
    then_listens k = goes false (ap₂ (λ (a b : Bool). a && not b) sleep (eq-eqb (op_of program l' v' c) 5 (sym is' ∙ k)))

    -- a sleep before a send or an internal edge
    pub then_draws : (op' ≡ 5 → ⊥) → {r : ℕ} {until' : List ℕ} → r ≡ next_of state → until' ≡ set until c (tick + work_ticks (record { lo = lo; hi = hi }) (next_of state))
        → Attempted program rows n H count tick c lo hi state l v until true r l' v' until'
    then_draws k {r} {until'} e f =
        subst (λ (x : ℕ). Attempted program rows n H count tick c lo hi state l v until true x l' v' until') (sym e)
        (subst (λ (x : List ℕ). Attempted program rows n H count tick c lo hi state l v until true (next_of state) l' v' x) (sym f)
        (goes true (ap₂ (λ (a b : Bool). a && not b) sleep (ne_eqb (op_of program l' v' c) 5 (λ q. k (is' ∙ q))))))
