-- `edge_choice::choose_read` meets its contract. Assumes nothing.
use mathlib.Core.Path.{◌≡◌, ap, ◌∙◌}
use Prim.Native.Nat.{◌<◌}
use native.Mathlib.Omega.{arith}
use lib.ListN.{get_or}
use Rattle.model.specs.Table.{size}
use Rattle.model.specs.Places.{start_of, ComponentAt, read_of, component_in}
use Rattle.window.specs.Views.{entry_of}
use Rattle.schedule.proofs.Tables.{counted, few_components, header, start_read, stands_at}
use Rattle.edge_choice.proofs.Chosen.{call_absent, call_nowhere}
use Rattle.edge_choice.proofs.choose_read.Goals as goal

pub bounds-table-3 : goal.bounds-table-3
bounds-table-3 c = let s = c in omega (arith, header s.args.table.now c.type_inv.table s.requires.0)

pub returns-then-table-c : goal.returns-then-table-c
returns-then-table-c c =
    let s = c in
    let bs = s.args.table.now in
    c.none_taken.ensures ∙ call_absent bs s.args.c (entry_of s.args.at) s.requires.0 (omega (arith, c.if-table-c.true, counted bs c.type_inv.table s.requires.0))

pub bounds-starts-from : goal.bounds-starts-from
bounds-starts-from c =
    let there : c.args.c < size (read_of c.args.table.now).table =
    (let s = c in omega (arith, c.if-table-c.false, counted s.args.table.now c.type_inv.table s.requires.0)) in
    let s = c in omega (arith, c.from.ensures, there, few_components s.args.table.now c.type_inv.table s.requires.0)

pub overflow_add-start : goal.overflow_add-start
overflow_add-start c =
    let there : c.args.c < size (read_of c.args.table.now).table =
    (let s = c in omega (arith, c.if-table-c.false, counted s.args.table.now c.type_inv.table s.requires.0)) in
    let start_is : c.from-start.result ≡ start_of c.args.table.now c.args.c =
    (let s = c in
    start_read s.args.table.now c.type_inv.table s.requires.0 s.args.starts s.args.c _ s.requires.1 there (c.from-start.ensures ∙ ap (λ j. get_or s.args.starts j 0) c.from.ensures)) in
    let stands : ComponentAt c.args.table.now c.from-start.result (component_in c.args.table.now c.args.c) =
    (let s = c in rw start_is (stands_at s.args.table.now c.type_inv.table s.requires.0 s.args.c there)) in
    omega (arith, stands.fits)

pub bounds-table-start : goal.bounds-table-start
bounds-table-start c =
    let there : c.args.c < size (read_of c.args.table.now).table =
    (let s = c in omega (arith, c.if-table-c.false, counted s.args.table.now c.type_inv.table s.requires.0)) in
    let start_is : c.from-start.result ≡ start_of c.args.table.now c.args.c =
    (let s = c in
    start_read s.args.table.now c.type_inv.table s.requires.0 s.args.starts s.args.c _ s.requires.1 there (c.from-start.ensures ∙ ap (λ j. get_or s.args.starts j 0) c.from.ensures)) in
    let stands : ComponentAt c.args.table.now c.from-start.result (component_in c.args.table.now c.args.c) =
    (let s = c in rw start_is (stands_at s.args.table.now c.type_inv.table s.requires.0 s.args.c there)) in
    omega (arith, stands.fits)

pub overflow_add-start-then-table-start : goal.overflow_add-start-then-table-start
overflow_add-start-then-table-start c =
    let there : c.args.c < size (read_of c.args.table.now).table =
    (let s = c in omega (arith, c.if-table-c.false, counted s.args.table.now c.type_inv.table s.requires.0)) in
    let start_is : c.from-start.result ≡ start_of c.args.table.now c.args.c =
    (let s = c in
    start_read s.args.table.now c.type_inv.table s.requires.0 s.args.starts s.args.c _ s.requires.1 there (c.from-start.ensures ∙ ap (λ j. get_or s.args.starts j 0) c.from.ensures)) in
    let stands : ComponentAt c.args.table.now c.from-start.result (component_in c.args.table.now c.args.c) =
    (let s = c in rw start_is (stands_at s.args.table.now c.type_inv.table s.requires.0 s.args.c there)) in
    omega (arith, stands.fits)

pub bounds-table-start-then-table-start : goal.bounds-table-start-then-table-start
bounds-table-start-then-table-start c =
    let there : c.args.c < size (read_of c.args.table.now).table =
    (let s = c in omega (arith, c.if-table-c.false, counted s.args.table.now c.type_inv.table s.requires.0)) in
    let start_is : c.from-start.result ≡ start_of c.args.table.now c.args.c =
    (let s = c in
    start_read s.args.table.now c.type_inv.table s.requires.0 s.args.starts s.args.c _ s.requires.1 there (c.from-start.ensures ∙ ap (λ j. get_or s.args.starts j 0) c.from.ensures)) in
    let stands : ComponentAt c.args.table.now c.from-start.result (component_in c.args.table.now c.args.c) =
    (let s = c in rw start_is (stands_at s.args.table.now c.type_inv.table s.requires.0 s.args.c there)) in
    omega (arith, stands.fits)

pub returns-then-table-start : goal.returns-then-table-start
returns-then-table-start c =
    let there : c.args.c < size (read_of c.args.table.now).table =
    (let s = c in omega (arith, c.if-table-c.false, counted s.args.table.now c.type_inv.table s.requires.0)) in
    let start_is : c.from-start.result ≡ start_of c.args.table.now c.args.c =
    (let s = c in
    start_read s.args.table.now c.type_inv.table s.requires.0 s.args.starts s.args.c _ s.requires.1 there (c.from-start.ensures ∙ ap (λ j. get_or s.args.starts j 0) c.from.ensures)) in
    let stands : ComponentAt c.args.table.now c.from-start.result (component_in c.args.table.now c.args.c) =
    (let s = c in rw start_is (stands_at s.args.table.now c.type_inv.table s.requires.0 s.args.c there)) in
    let s = c in
    let w = c in
    c.none_taken-then-table-start.ensures
    ∙ call_nowhere s.args.table.now s.args.c (entry_of s.args.at) s.requires.0 c.type_inv.table there
    (omega (arith, stands.locations, c.if-table-start.true)) (c.from-then-table-start.ensures ∙ stands.arcs)

pub choose_there-requires : goal.choose_there-requires
choose_there-requires c =
    let there : c.args.c < size (read_of c.args.table.now).table =
    (let s = c in omega (arith, c.if-table-c.false, counted s.args.table.now c.type_inv.table s.requires.0)) in
    let start_is : c.from-start.result ≡ start_of c.args.table.now c.args.c =
    (let s = c in
    start_read s.args.table.now c.type_inv.table s.requires.0 s.args.starts s.args.c _ s.requires.1 there (c.from-start.ensures ∙ ap (λ j. get_or s.args.starts j 0) c.from.ensures)) in
    let stands : ComponentAt c.args.table.now c.from-start.result (component_in c.args.table.now c.args.c) =
    (let s = c in rw start_is (stands_at s.args.table.now c.type_inv.table s.requires.0 s.args.c there)) in
    let s = c in
    let w = c in
    (s.requires.0, there, start_is, omega (arith, stands.locations, c.if-table-start.false))
