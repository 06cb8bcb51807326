-- The start of a run is where the schedule starts. Assumes nothing.
use mathlib.Core.Path.{◌≡◌, refl, sym, ap, subst, ◌∙◌}
use mathlib.Core.List.{List, [], ◌∷◌, map}
use Prim.Native.Nat.{ℕ, zero, suc, ◌+◌, ◌-◌, ◌<◌}
use native.Mathlib.Omega.{arith}
use lib.ListN.{length, get_or}
use Rattle.model.specs.Lists.{empty}
use Rattle.model.specs.Table.{Component, Read, no_component, size, component_of}
use Rattle.model.specs.Window.{Entry}
use Rattle.model.specs.Schedule.{Passage, own, start_entry}
use Rattle.model.specs.Program.{program_bytes}
use Rattle.model.specs.Machine.{start_node, part_bytes}
use Rattle.model.specs.Run.{Counts, setting_at, no_node, node_of, start_nodes, start_run}
use Rattle.model.proofs.Program.Decode.{initial_code}
use Rattle.model.proofs.Node.Phase.{Heading}
use Rattle.model.proofs.Node.Passage.{starts}
use Rattle.model.proofs.Network.Links.{schedule_linked}
use Rattle.model.proofs.Network.Ahead.{along_start}
use Rattle.model.proofs.Network.Order.{stop}
use Rattle.model.proofs.Run.Tied.{Given, coming, clock_at, Tied, coded, component-in}

-- a component's counts
abbrev counts_of : Component → Counts
counts_of C = record { clocks = C.clocks; variables = C.variables }

-- as many nodes as components
start_length : (program : List ℕ) (k : ℕ) (Cs : List Component) → length (start_nodes program k (map counts_of Cs)) ≡ length Cs
unfolding start_nodes
start_length program k [] = refl
start_length program k (C ∷ Cs) = ap suc (start_length program (suc k) Cs)

-- node c at its program's start
start-at : (program : List ℕ) (k : ℕ) (Cs : List Component) (c : ℕ) → c < length Cs
    → get_or (start_nodes program k (map counts_of Cs)) c no_node ≡ start_node (part_bytes program (k + c)) (get_or Cs c no_component).clocks (get_or Cs c no_component).variables
unfolding start_nodes
start-at program k [] c h = absurd (omega arith)
start-at program k (C ∷ Cs) zero h = let e : k ≡ k + 0 = omega arith in ap (λ (i : ℕ). start_node (part_bytes program i) C.clocks C.variables) e
start-at program k (C ∷ Cs) (suc c) h =
    let e : suc k + c ≡ k + suc c = omega arith in
    start-at program (suc k) Cs c (omega arith)
    ∙ ap (λ (i : ℕ). start_node (part_bytes program i) (get_or Cs c no_component).clocks (get_or Cs c no_component).variables) e

module _ {t : Read} {H : ℕ} {S : List Passage} {offs : List ℕ} (G : Given t H S offs) where
  -- node c of the run's start
  pub start-node : (c : ℕ) → c < size t.table
      → node_of (start_run (setting_at t H S offs)) c ≡ start_node (part_bytes (program_bytes t) c) (component_of t.table c).clocks (component_of t.table c).variables
  start-node c h =
      let e : 0 + c ≡ c = omega arith in
      start-at (program_bytes t) 0 t.table.components c h
      ∙ ap (λ (i : ℕ). start_node (part_bytes (program_bytes t) i) (component_of t.table c).clocks (component_of t.table c).variables) e

  -- the start is tied
  pub tied_start : Tied G (start_run (setting_at t H S offs))
  tied_start =
      record {
        ahead = λ c. own c S;
        along = along_start G.spread G.most t.table H S G.sched G.checks (clock_at G 0) (λ c h. omega arith);
        came = stop (λ d h. refl);
        logged = record { sorted = tt; each = empty };
        silent = λ c h l. refl;
        full = start_length (program_bytes t) 0 t.table.components;
        ties = λ c h.
            let k = schedule_linked G.most t.table H S G.sched c h in
            let g = starts (coded G c h) (component-in G c h) (initial_code t G.limits c h).2 in
            record {
              fin = [];
              more = [];
              count = 0;
              counts = refl;
              whole = refl;
              held =
                  coming k.head k.tail k.is refl (omega arith)
                  (subst (λ (at : Entry). Heading (component_of t.table c) 0 at (node_of (start_run (setting_at t H S offs)) c)) (sym k.starts)
                  (subst (Heading (component_of t.table c) 0 (start_entry (component_of t.table c))) (sym (start-node c h)) g));
              shown = refl;
            };
      }
