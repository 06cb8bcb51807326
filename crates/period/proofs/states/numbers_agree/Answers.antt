-- `period::states::numbers_agree` meets its contract. Assumes nothing.
use mathlib.Core.Path.{◌≡◌, sym, subst, subst₂, ◌∙◌}
use Prim.Native.Nat.{ℕ, ◌<◌}
use native.Mathlib.Omega.{arith}
use borrow.Author.Tests.{not-true, not-false}
use Rattle.model.specs.Table.{size}
use Rattle.model.specs.Places.{start_of, ComponentAt, read_of, component_in}
use Rattle.model.proofs.Basics.Bools.{clash}
use Rattle.schedule.proofs.Tables.{few_components, start_read, stands_at, limits_of}
use Rattle.period.specs.Walking.{entry_at, SameNumbers}
use Rattle.period.proofs.Joining.{no_state, one_more}
use Rattle.period.proofs.states.numbers_agree.Goals as goal

pub loop-c-init : goal.loop-c-init
loop-c-init c =
    let e = c in
    (omega arith, omega (arith, e.requires.2, few_components e.args.table.now c.type_inv.table e.requires.0), λ d h. absurd (omega arith))

pub offset_bounds-starts-c : goal.offset_bounds-starts-c
offset_bounds-starts-c c = omega (arith, c.loop-c.invariant.1, c.loop-c-test.true)

pub bounds-starts-c : goal.bounds-starts-c
bounds-starts-c c = omega (arith, c.loop-c.invariant.1, c.loop-c-test.true)

pub overflow_add-clocks : goal.overflow_add-clocks
overflow_add-clocks c = omega (arith, c.word_place-start.ensures)

pub bounds-table-start : goal.bounds-table-start
bounds-table-start c =
    let there : c.loop-c.c < size (read_of c.args.table.now).table =
    (omega (arith, c.loop-c-test.true, c.requires.2)) in
    let start_is : c.word_place-start.result ≡ start_of c.args.table.now c.loop-c.c =
    (let e = c in
    start_read e.args.table.now c.type_inv.table e.requires.0 e.args.starts c.loop-c.c c.word_place-start.result e.requires.1 there c.word_place-start.ensures.0) in
    let stands : ComponentAt c.args.table.now c.word_place-start.result (component_in c.args.table.now c.loop-c.c) =
    (let e = c in
    rw start_is (stands_at e.args.table.now c.type_inv.table e.requires.0 c.loop-c.c there)) in
    omega (arith, stands.fits)

pub overflow_add-variables : goal.overflow_add-variables
overflow_add-variables c = omega (arith, c.word_place-start.ensures)

pub bounds-table-start-in-loop-c : goal.bounds-table-start-in-loop-c
bounds-table-start-in-loop-c c =
    let there : c.loop-c.c < size (read_of c.args.table.now).table =
    (omega (arith, c.loop-c-test.true, c.requires.2)) in
    let start_is : c.word_place-start.result ≡ start_of c.args.table.now c.loop-c.c =
    (let e = c in
    start_read e.args.table.now c.type_inv.table e.requires.0 e.args.starts c.loop-c.c c.word_place-start.result e.requires.1 there c.word_place-start.ensures.0) in
    let stands : ComponentAt c.args.table.now c.word_place-start.result (component_in c.args.table.now c.loop-c.c) =
    (let e = c in
    rw start_is (stands_at e.args.table.now c.type_inv.table e.requires.0 c.loop-c.c there)) in
    omega (arith, stands.fits)

pub offset_bounds-here-c : goal.offset_bounds-here-c
offset_bounds-here-c c = omega (arith, c.loop-c.invariant.1, c.loop-c-test.true)

pub bounds-here-c : goal.bounds-here-c
bounds-here-c c = omega (arith, c.loop-c.invariant.1, c.loop-c-test.true)

pub offset_bounds-there-c : goal.offset_bounds-there-c
offset_bounds-there-c c = omega (arith, c.loop-c.invariant.1, c.loop-c-test.true)

pub bounds-there-c : goal.bounds-there-c
bounds-there-c c = omega (arith, c.loop-c.invariant.1, c.loop-c-test.true)

pub same_numbers-requires : goal.same_numbers-requires
same_numbers-requires c =
    let there : c.loop-c.c < size (read_of c.args.table.now).table =
    (omega (arith, c.loop-c-test.true, c.requires.2)) in
    let start_is : c.word_place-start.result ≡ start_of c.args.table.now c.loop-c.c =
    (let e = c in
    start_read e.args.table.now c.type_inv.table e.requires.0 e.args.starts c.loop-c.c c.word_place-start.result e.requires.1 there c.word_place-start.ensures.0) in
    let stands : ComponentAt c.args.table.now c.word_place-start.result (component_in c.args.table.now c.loop-c.c) =
    (let e = c in
    rw start_is (stands_at e.args.table.now c.type_inv.table e.requires.0 c.loop-c.c there)) in
    let w = c in
    let e = w in
    let s = stands in
    let i = limits_of e.args.table.now w.type_inv.table e.requires.0 w.loop-c.c there in
    (omega (arith, s.clocks, i.most_clocks), omega (arith, s.variables, i.variables))

pub returns-then-not-same_numbers : goal.returns-then-not-same_numbers
returns-then-not-same_numbers c =
    let there : c.loop-c.c < size (read_of c.args.table.now).table =
    (omega (arith, c.loop-c-test.true, c.requires.2)) in
    let start_is : c.word_place-start.result ≡ start_of c.args.table.now c.loop-c.c =
    (let e = c in
    start_read e.args.table.now c.type_inv.table e.requires.0 e.args.starts c.loop-c.c c.word_place-start.result e.requires.1 there c.word_place-start.ensures.0) in
    let stands : ComponentAt c.args.table.now c.word_place-start.result (component_in c.args.table.now c.loop-c.c) =
    (let e = c in
    rw start_is (stands_at e.args.table.now c.type_inv.table e.requires.0 c.loop-c.c there)) in
    let w = c in
    let e = w in
    let l = w.loop-c in
    let s = stands in
    no_state (λ q. clash (sym (not-true c.same_numbers.result c.if-not-same_numbers.true-raw) ∙ c.same_numbers.ensures.1 (subst₂ (λ (m n : ℕ). SameNumbers m n (entry_at e.args.first l.c) (entry_at e.args.second l.c)) (sym s.clocks) (sym s.variables) (q l.c w.loop-c-test.true))))

pub loop-c-preserved : goal.loop-c-preserved
loop-c-preserved c =
    let there : c.loop-c.c < size (read_of c.args.table.now).table =
    (omega (arith, c.loop-c-test.true, c.requires.2)) in
    let start_is : c.word_place-start.result ≡ start_of c.args.table.now c.loop-c.c =
    (let e = c in
    start_read e.args.table.now c.type_inv.table e.requires.0 e.args.starts c.loop-c.c c.word_place-start.result e.requires.1 there c.word_place-start.ensures.0) in
    let stands : ComponentAt c.args.table.now c.word_place-start.result (component_in c.args.table.now c.loop-c.c) =
    (let e = c in
    rw start_is (stands_at e.args.table.now c.type_inv.table e.requires.0 c.loop-c.c there)) in
    let w = c in
    let e = w in
    let l = w.loop-c in
    let s = stands in
    let bs = e.args.table.now in (
      omega (arith, w.loop-c-test.true),
      l.invariant.1,
      one_more (λ (d : ℕ). SameNumbers (component_in bs d).clocks (component_in bs d).variables (entry_at e.args.first d) (entry_at e.args.second d)) l.c l.invariant.2
          (subst₂ (λ (m n : ℕ). SameNumbers m n (entry_at e.args.first l.c) (entry_at e.args.second l.c)) s.clocks s.variables (c.same_numbers.ensures.0 (not-false c.same_numbers.result c.if-not-same_numbers.false-raw))),
    )

pub returns : goal.returns
returns c =
    let l = c.loop-c in
    (λ e d h. l.invariant.2 d (omega (arith, c.loop-c-test.false)), λ q. mathlib.Core.Path.refl)
